-- A list of variables that grew twice, where the second time may fail, grew by both.
use Rattle.std.proofs.Common.{◌≡◌, ◌++◌, List, Vec, Global, Result, Ok, Err, IfOk, append_assoc, ap, ◌∙◌}

pub more : {T E : Type 0} (r : Result (Vec T Global) E) (base one two all first : List T) → first ≡ base ++ one
    → IfOk r (λ v. v.items ≡ first ++ two) → one ++ two ≡ all → IfOk r (λ v. v.items ≡ base ++ all)
more (Ok v) base one two all first e h same =
    h ∙ ap (λ xs. xs ++ two) e ∙ append_assoc base one two ∙ ap (λ xs. base ++ xs) same
more (Err _) base one two all first e h same = h
