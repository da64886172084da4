-- The steps of the grammar, at places of a text.
use Rattle.std.proofs.Common.{ℕ, zero, suc, ◌≡◌, ◌<◌, ◌+◌, ◌-◌, sym, ◌∙◌, refl, ap, subst, Bool, true, false}
use Rattle.std.proofs.Common.{List, [], ◌++◌, append_assoc, Some, None, Result, Ok, Err, length}
use Rattle.std.proofs.Common.{drop, arith, length-drop}
use Rattle.std.proofs.lemmas.List.{append-nil, drop-drop, drop_all}
use Rattle.run_filter.specs.declared.fault.FilterFault.{FilterFault}
use Rattle.run_filter.specs.declared.fault.FilterFault.TheVariants as faults
use Rattle.run_filter.specs.declared.fault.FilterError.{FilterError}
use Rattle.run_filter.specs.declared.fault.FilterError.TheVariants as errors
use Rattle.run_filter.specs.declared.filter.Filter.{Filter}
use Rattle.run_filter.specs.declared.signs.Sign.{Sign}
use Rattle.run_filter.specs.declared.bits.Bit.{Bit}
use Rattle.run_filter.specs.Tree.{Tree, negation, either}
use Rattle.run_filter.specs.Signs.{skip, or_sign, and_sign, not_sign}
use Rattle.run_filter.specs.Grammar.{Left, Wrong, TreeRead, TextRead, and_then, opens}
use Rattle.run_filter.specs.Grammar.{closed, bit_of, bit_bytes, unended_fault, with_front, text_of}
use Rattle.run_filter.specs.Grammar.{joined, and_chain, term, or_chain, filter, after_not, operand}
use Rattle.run_filter.specs.Grammar.{predicate}
use Rattle.run_filter.specs.Reads.{left_at, ReadsTree, StepsAlong}

-- ---- answers

-- a fault that a part of a reading answers is that of the whole, if so it is by the definition
pub fails_along : (e : FilterError) (text : List ℕ) (r s : TreeRead) → ReadsTree (Err e) text r
    → ((w : Wrong) → r ≡ Err w → s ≡ Err w) → ReadsTree (Err e) text s
fails_along (errors.Wrong place fault) text r s h f = (f (fault, drop place text) h.0, h.1)
fails_along errors.OutOfMemory text r s h f = tt

-- an answer for a reading is one for each equal reading
pub same_read : (a : Result (Filter × ℕ) FilterError) (text : List ℕ) (r s : TreeRead) → s ≡ r
    → ReadsTree a text r → ReadsTree a text s
same_read a text r s e h = subst (λ (x : TreeRead). ReadsTree a text x) (sym e) h

-- ---- texts

pub with_front-twice : (a b : List ℕ) (r : TextRead) → with_front a (with_front b r) ≡ with_front (a ++ b) r
with_front-twice a b (Ok r) = ap (λ (x : List ℕ). Ok (x, r.1)) (sym (append_assoc a b r.0))
with_front-twice a b (Err e) = refl

pub text_of-wrong : (n : ℕ) (sign : Sign) (t : List ℕ) (f : FilterFault) → 0 < n → bit_of sign t ≡ Err f
    → text_of n sign t ≡ Err (f, t)
unfolding text_of
text_of-wrong zero sign t f l h = absurd (omega arith)
text_of-wrong (suc n) sign t f l h = rw h refl

pub text_of-end : (n : ℕ) (sign : Sign) (t : List ℕ) → 0 < n → bit_of sign t ≡ Ok None → text_of n sign t ≡ Ok ([], t)
unfolding text_of
text_of-end zero sign t l h = absurd (omega arith)
text_of-end (suc n) sign t l h = rw h refl

pub text_of-bit : (n : ℕ) (sign : Sign) (t : List ℕ) (bit : Bit) → 0 < n → bit_of sign t ≡ Ok (Some bit)
    → text_of n sign t ≡ with_front (bit_bytes bit) (text_of (n - 1) sign (drop bit.taken t))
unfolding text_of
text_of-bit zero sign t bit l h = absurd (omega arith)
text_of-bit (suc n) sign t bit l h =
    let e : suc n - 1 ≡ n = omega arith in
    rw h (rw e refl)

pub text_of-none : (n : ℕ) (sign : Sign) (t : List ℕ) → n ≡ 0 → text_of n sign t ≡ Err (unended_fault sign, t)
unfolding text_of
text_of-none n sign t h = rw h refl

-- ---- the operands of `and`

pub and_chain-none : (p : Left → TreeRead) (n : ℕ) (t : Tree) (l : Left) → n ≡ 0 → and_chain p n t l ≡ Ok (t, l)
unfolding and_chain
and_chain-none p n t l h = rw h refl

pub and_chain-wrong : (p : Left → TreeRead) (t : Tree) (text : List ℕ) (next : ℕ) (at : ℕ) (f : FilterFault)
    → drop at text ≡ skip (drop next text) → and_sign (drop at text) ≡ Err f
    → (n : ℕ) → and_chain p (suc n) t (left_at text next) ≡ Err (f, drop at text)
unfolding and_chain
and_chain-wrong p t text next at f e h n = rw (← e) (rw h refl)

pub and_chain-end : (p : Left → TreeRead) (t : Tree) (text : List ℕ) (next : ℕ) (at : ℕ)
    → drop at text ≡ skip (drop next text) → and_sign (drop at text) ≡ Ok None
    → (n : ℕ) → and_chain p (suc n) t (left_at text next) ≡ Ok (t, left_at text at)
unfolding and_chain
and_chain-end p t text next at e h n = rw (← e) (rw h refl)

pub and_chain-more : (p : Left → TreeRead) (t : Tree) (text : List ℕ) (next : ℕ) (at : ℕ) (k : ℕ) (m : Bool)
    (place : ℕ) (u v : Tree) (r : Left)
    → drop at text ≡ skip (drop next text) → and_sign (drop at text) ≡ Ok (Some (k, m))
    → drop place text ≡ drop k (drop at text) → p (left_at text place) ≡ Ok (u, r) → v ≡ joined m t u
    → (n : ℕ) → and_chain p (suc n) t (left_at text next) ≡ and_chain p n v r
unfolding and_chain
and_chain-more p t text next at k m place u v r e h g q d n = rw (← e) (rw h (rw (← g) (rw q (rw d refl))))

pub and_chain-fails : (p : Left → TreeRead) (t : Tree) (text : List ℕ) (next : ℕ) (at : ℕ) (k : ℕ) (m : Bool)
    (place : ℕ) (w : Wrong)
    → drop at text ≡ skip (drop next text) → and_sign (drop at text) ≡ Ok (Some (k, m))
    → drop place text ≡ drop k (drop at text) → p (left_at text place) ≡ Err w
    → (n : ℕ) → and_chain p (suc n) t (left_at text next) ≡ Err w
unfolding and_chain
and_chain-fails p t text next at k m place w e h g q n = rw (← e) (rw h (rw (← g) (rw q refl)))

pub term-starts : (p : Left → TreeRead) (l : Left) (t : Tree) (text : List ℕ) (end : ℕ) → p l ≡ Ok
    (t, left_at text end)
    → term p l ≡ and_chain p (length text - end) t (left_at text end)
unfolding term
term-starts p l t text end h = rw h (rw length-drop refl)

pub term-fails : (p : Left → TreeRead) (l : Left) (w : Wrong) → p l ≡ Err w → term p l ≡ Err w
unfolding term
term-fails p l w h = rw h refl

-- ---- the loops over the signs of a chain

-- a fault that an operand answers is that of the step
pub step_fails : (e : FilterError) (text : List ℕ) (r : TreeRead) (chain : ℕ → Tree → Left → TreeRead) (t : Tree)
    (l : Left)
    → ReadsTree (Err e) text r → ((w : Wrong) → r ≡ Err w → (n : ℕ) → chain (suc n) t l ≡ Err w)
    → StepsAlong (Err e) text chain t l
step_fails (errors.Wrong place fault) text r chain t l h f = (f (fault, drop place text) h.0, h.1)
step_fails errors.OutOfMemory text r chain t l h f = tt

pub chain_goes_on : (chain : ℕ → Tree → Left → TreeRead) (whole : TreeRead) (fuel : ℕ) (t u : Tree) (l m : Left)
    → 0 < fuel
    → whole ≡ chain fuel t l → ((n : ℕ) → chain (suc n) t l ≡ chain n u m) → whole ≡ chain (fuel - 1) u m
chain_goes_on chain whole zero t u l m k w h = absurd (omega arith)
chain_goes_on chain whole (suc n) t u l m k w h =
    let s : suc n - 1 ≡ n = omega arith in
    rw s (w ∙ h n)

pub chain_ends : (chain : ℕ → Tree → Left → TreeRead) (whole : TreeRead) (fuel : ℕ) (t : Tree) (l : Left)
    (r : TreeRead) → 0 < fuel
    → whole ≡ chain fuel t l → ((n : ℕ) → chain (suc n) t l ≡ r) → whole ≡ r
chain_ends chain whole zero t l r k w h = absurd (omega arith)
chain_ends chain whole (suc n) t l r k w h = w ∙ h n

pub chain_fails : (e : FilterError) (text : List ℕ) (chain : ℕ → Tree → Left → TreeRead) (whole : TreeRead) (fuel : ℕ)
    (t : Tree) (l : Left)
    → 0 < fuel → whole ≡ chain fuel t l → StepsAlong (Err e) text chain t l → ReadsTree (Err e) text whole
chain_fails (errors.Wrong place fault) text chain whole fuel t l k w h =
    (chain_ends chain whole fuel t l (Err (fault, drop place text)) k w h.0, h.1)
chain_fails errors.OutOfMemory text chain whole fuel t l k w h = tt

-- ---- the operands of `or`

pub or_chain-none : (p : Left → TreeRead) (n : ℕ) (t : Tree) (l : Left) → n ≡ 0 → or_chain p n t l ≡ Ok (t, l)
unfolding or_chain
or_chain-none p n t l h = rw h refl

pub or_chain-wrong : (p : Left → TreeRead) (t : Tree) (text : List ℕ) (next : ℕ) (at : ℕ) (f : FilterFault)
    → drop at text ≡ skip (drop next text) → or_sign (drop at text) ≡ Err f
    → (n : ℕ) → or_chain p (suc n) t (left_at text next) ≡ Err (f, drop at text)
unfolding or_chain
or_chain-wrong p t text next at f e h n = rw (← e) (rw h refl)

pub or_chain-end : (p : Left → TreeRead) (t : Tree) (text : List ℕ) (next : ℕ) (at : ℕ)
    → drop at text ≡ skip (drop next text) → or_sign (drop at text) ≡ Ok None
    → (n : ℕ) → or_chain p (suc n) t (left_at text next) ≡ Ok (t, left_at text at)
unfolding or_chain
or_chain-end p t text next at e h n = rw (← e) (rw h refl)

pub or_chain-more : (p : Left → TreeRead) (t : Tree) (text : List ℕ) (next : ℕ) (at : ℕ) (k : ℕ) (place : ℕ)
    (u v : Tree) (r : Left)
    → drop at text ≡ skip (drop next text) → or_sign (drop at text) ≡ Ok (Some k)
    → drop place text ≡ drop k (drop at text) → term p (left_at text place) ≡ Ok (u, r) → v ≡ either t u
    → (n : ℕ) → or_chain p (suc n) t (left_at text next) ≡ or_chain p n v r
unfolding or_chain
or_chain-more p t text next at k place u v r e h g q d n = rw (← e) (rw h (rw (← g) (rw q (rw d refl))))

pub or_chain-fails : (p : Left → TreeRead) (t : Tree) (text : List ℕ) (next : ℕ) (at : ℕ) (k : ℕ) (place : ℕ)
    (w : Wrong)
    → drop at text ≡ skip (drop next text) → or_sign (drop at text) ≡ Ok (Some k)
    → drop place text ≡ drop k (drop at text) → term p (left_at text place) ≡ Err w
    → (n : ℕ) → or_chain p (suc n) t (left_at text next) ≡ Err w
unfolding or_chain
or_chain-fails p t text next at k place w e h g q n = rw (← e) (rw h (rw (← g) (rw q refl)))

pub filter-starts : (p : Left → TreeRead) (l : Left) (t : Tree) (text : List ℕ) (end : ℕ) → term p l ≡ Ok
    (t, left_at text end)
    → filter p l ≡ or_chain p (length text - end) t (left_at text end)
unfolding filter
filter-starts p l t text end h = rw h (rw length-drop refl)

pub filter-fails : (p : Left → TreeRead) (l : Left) (w : Wrong) → term p l ≡ Err w → filter p l ≡ Err w
unfolding filter
filter-fails p l w h = rw h refl

-- ---- operands

pub operand-none : (n : ℕ) (l : Left) → n ≡ 0 → operand n l ≡ Err (faults.TooDeep, l.bytes)
unfolding operand
operand-none n l h = rw h refl

pub operand-wrong : (n : ℕ) (text : List ℕ) (next : ℕ) (at : ℕ) (f : FilterFault) → 0 < n
    → drop at text ≡ skip (drop next text) → not_sign (drop at text) ≡ Err f
    → operand n (left_at text next) ≡ Err (f, drop at text)
unfolding operand
operand-wrong zero text next at f l e h = absurd (omega arith)
operand-wrong (suc n) text next at f l e h = rw (← e) (rw h refl)

pub operand-not : (n : ℕ) (text : List ℕ) (next : ℕ) (at k place : ℕ) (r : TreeRead) → 0 < n
    → drop at text ≡ skip (drop next text) → not_sign (drop at text) ≡ Ok (Some k)
    → drop place text ≡ drop k (drop at text) → operand (n - 1) (left_at text place) ≡ r
    → operand n (left_at text next) ≡ and_then r (λ t m. Ok (negation t, m))
unfolding operand
operand-not zero text next at k place r l e h g q = absurd (omega arith)
operand-not (suc n) text next at k place r l e h g q =
    let s : suc n - 1 ≡ n = omega arith in
    let q' = rw s at q in
    rw (← e) (rw h (rw (← g) (rw q' refl)))

pub operand-negated : (n : ℕ) (text : List ℕ) (next : ℕ) (at k place : ℕ) (u v : Tree) (m : Left) → 0 < n
    → drop at text ≡ skip (drop next text) → not_sign (drop at text) ≡ Ok (Some k)
    → drop place text ≡ drop k (drop at text) → operand (n - 1) (left_at text place) ≡ Ok (u, m) → v
    ≡ negation u
    → operand n (left_at text next) ≡ Ok (v, m)
operand-negated n text next at k place u v m l e h g q d =
    operand-not n text next at k place (Ok (u, m)) l e h g q ∙ ap (λ (x : Tree). let r : TreeRead = Ok (x, m) in r)
    (sym d)

pub operand-unsigned : (n : ℕ) (text : List ℕ) (next : ℕ) (at : ℕ) → 0 < n
    → drop at text ≡ skip (drop next text) → not_sign (drop at text) ≡ Ok None
    → operand n (left_at text next) ≡ after_not (operand (n - 1)) (left_at text at) (Ok None)
unfolding operand
operand-unsigned zero text next at l e h = absurd (omega arith)
operand-unsigned (suc n) text next at l e h =
    let s : suc n - 1 ≡ n = omega arith in
    rw s (rw (← e) (rw h refl))

pub unsigned-opens : (p : Left → TreeRead) (text : List ℕ) (next : ℕ) (place : ℕ) (r : TreeRead)
    → opens (drop next text) ≡ true → drop place text ≡ drop 1 (drop next text)
    → filter p (left_at text place) ≡ r → after_not p (left_at text next) (Ok None) ≡ and_then r closed
unsigned-opens p text next place r o g q = rw o (rw (← g) (rw q refl))

pub unsigned-predicate : (p : Left → TreeRead) (text : List ℕ) (next : ℕ) → opens (drop next text) ≡ false
    → after_not p (left_at text next) (Ok None) ≡ predicate (left_at text next)
unsigned-predicate p text next o = rw o refl

-- ---- the loop over the bits of a text

pub with_front-nil : (r : TextRead) → r ≡ with_front [] r
with_front-nil (Ok r) = refl
with_front-nil (Err e) = refl

pub text_begins : (front : List ℕ) (r : TextRead) → front ≡ [] → r ≡ with_front front r
text_begins front r h = rw h (with_front-nil r)

pub text_wrong : (front : List ℕ) (n : ℕ) (sign : Sign) (t : List ℕ) (whole : TextRead) (f : FilterFault) → 0 < n
    → bit_of sign t ≡ Err f → whole ≡ with_front front (text_of n sign t) → whole ≡ Err (f, t)
text_wrong front n sign t whole f l h w = let e = text_of-wrong n sign t f l h in w ∙ rw e refl

pub text_ends : (front : List ℕ) (n : ℕ) (sign : Sign) (t : List ℕ) (whole : TextRead) → 0 < n
    → bit_of sign t ≡ Ok None → whole ≡ with_front front (text_of n sign t) → whole ≡ Ok (front, t)
text_ends front n sign t whole l h w =
    let e = text_of-end n sign t l h in
    w ∙ rw e (ap (λ (x : List ℕ). let r : TextRead = Ok (x, t) in r) (append-nil front))

pub text_goes_on : (front later : List ℕ) (n : ℕ) (sign : Sign) (t u : List ℕ) (bit : Bit) (whole : TextRead) → 0 < n
    → bit_of sign t ≡ Ok (Some bit) → later ≡ front ++ bit_bytes bit → u ≡ drop bit.taken t
    → whole ≡ with_front front (text_of n sign t) → whole ≡ with_front later (text_of (n - 1) sign u)
text_goes_on front later n sign t u bit whole l h f d w =
    let e = text_of-bit n sign t bit l h in
    w ∙ rw e (with_front-twice front (bit_bytes bit) (text_of (n - 1) sign (drop bit.taken t)) ∙ rw (f, d) refl)

pub text_runs_out : (front : List ℕ) (n : ℕ) (sign : Sign) (t : List ℕ) (whole : TextRead) → n ≡ 0
    → whole ≡ with_front front (text_of n sign t) → whole ≡ Err (unended_fault sign, t)
text_runs_out front n sign t whole h w = let e = text_of-none n sign t h in w ∙ rw e refl

-- ---- places past others

pub past_within : (text : List ℕ) (at count : ℕ) → drop (at + count) text ≡ drop count (drop at text)
past_within text at count = sym (drop-drop count at text)

pub past_end : (text : List ℕ) (at count : ℕ) → length text - at < count → drop (length text) text ≡ drop count
    (drop at text)
past_end text at count h =
    drop_all (length text) text (omega arith) ∙ sym (drop_all count (drop at text) (rw length-drop (omega arith)))

pub ruleset places = (past_within, past_end)
