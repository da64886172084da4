-- What an event makes of the queues of what is due of tests.
use Rattle.std.proofs.Common.{◌≡◌, ◌∙◌, List, [], ◌∷◌, ◌++◌, length, drop, Option, Some, None, option_map, is_some}
use Rattle.std.proofs.Common.{option_copied, option_to_list, Bor, refl, sym, ap, true≢false}
use Rattle.std.proofs.Common.{arith}
use Rattle.std.proofs.lemmas.Option.{same_Some}
use Rattle.run_audit_machines.specs.Accounts.{IsFrontOf}

-- what a queue gives in front
pub first_of : {Y : Type 0} (r : Option Y) (before after : List Y) → before ≡ option_to_list r ++ after
    → after ≡ drop 1 before → IsFrontOf r before after
first_of None [] after is rest = (refl, sym is)
first_of None (y ∷ before) after is rest =
    let long = ap length is in
    let short = ap length rest in
    absurd (omega (arith, long, short))
first_of (Some y) before after is rest = is

-- what is told, by the test that it is told of
pub none_told : {I X : Type 0} (r : Option (Bor I)) (o : Option (I × X))
    → option_copied r ≡ option_map (λ t. t.0) o → r ≡ None → o ≡ None
none_told r None is none = refl
none_told r (Some t) is none = absurd (true≢false (ap is_some (sym is ∙ ap option_copied none)))

pub one_told : {I X : Type 0} (r : Option (Bor I)) (o : Option (I × X)) (b : Bor I)
    → option_copied r ≡ option_map (λ t. t.0) o → r ≡ Some b → (t : I × X) × (o ≡ Some t) × (t.0 ≡ b.now)
one_told r None b is some = absurd (true≢false (ap is_some (sym (ap option_copied some) ∙ is)))
one_told r (Some t) b is some = (t, refl, same_Some t.0 b.now (sym is ∙ ap option_copied some))
