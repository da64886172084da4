-- Where a part stands in a text.
use Rattle.std.proofs.Common.{ℕ, ◌≡◌, sym, refl, subst, ap, Bool, true, List, [], ◌∷◌, ◌++◌}
use Rattle.std.proofs.Common.{◌↔◌, nat_eq, eq-eqb, arith}
use Rattle.std.proofs.lemmas.Bool.Decides.{nat_tests}
use Rattle.std.specs.List.{starts_with}
use Rattle.std.specs.Str.Iter.{HasSubslice}
use Rattle.run_filter.specs.Holds.{stands_in}
use Rattle.run_filter.proofs.GlobLemmas.{bool_same, and_right, and_left, or_right, or_left, or_cases}

same_eq : (p : ℕ) → nat_eq p p ≡ true
same_eq p = eq-eqb p p refl

starts_with-append : (part bs : List ℕ) → starts_with nat_eq (part ++ bs) part ≡ true
starts_with-append [] bs = refl
starts_with-append (p ∷ ps) bs = rw same_eq (starts_with-append ps bs)

stands_here : (part text : List ℕ) → starts_with nat_eq text part ≡ true → stands_in part text ≡ true
stands_here part [] h = h
stands_here part (b ∷ bs) h = or_left (starts_with nat_eq (b ∷ bs) part) (stands_in part bs) h

stands_in-from : (part a b : List ℕ) → stands_in part (a ++ (part ++ b)) ≡ true
stands_in-from part [] b = stands_here part (part ++ b) (starts_with-append part b)
stands_in-from part (x ∷ a) b =
    or_right (starts_with nat_eq (x ∷ (a ++ (part ++ b))) part) (stands_in part (a ++ (part ++ b)))
    (stands_in-from part a b)

starts_with-splits : (part bs : List ℕ) → starts_with nat_eq bs part ≡ true → (b : List ℕ) × (bs ≡ part ++ b)
starts_with-splits [] bs h = (bs, refl)
starts_with-splits (p ∷ ps) [] h = cc
starts_with-splits (p ∷ ps) (b ∷ bs) h =
    let k : nat_eq p b ≡ true = and_left (nat_eq p b) (starts_with nat_eq bs ps) h in
    let e : p ≡ b = grind (arith, nat_tests) in
    let w = starts_with-splits ps bs (and_right (nat_eq p b) (starts_with nat_eq bs ps) h) in
    (w.0, cc (e, w.1))

HasSubslice-from : (part text : List ℕ) → stands_in part text ≡ true → HasSubslice text part
HasSubslice-from part [] h = let w = starts_with-splits part [] h in ([], w.0, w.1)
HasSubslice-from part (b ∷ bs) h =
    or_cases (starts_with nat_eq (b ∷ bs) part) (stands_in part bs) (HasSubslice (b ∷ bs) part) h
    (λ k. let w = starts_with-splits part (b ∷ bs) k in ([], w.0, w.1))
    (λ k. let w = HasSubslice-from part bs k in (b ∷ w.0, w.1, ap (λ (x : List ℕ). b ∷ x) w.2))

stands_in-part : (part text : List ℕ) → HasSubslice text part → stands_in part text ≡ true
stands_in-part part text w =
    subst (λ (x : List ℕ). stands_in part x ≡ true) (sym w.2) (stands_in-from part w.0 w.1)

pub stands_in-same : (part text : List ℕ) (r : Bool) → ((r ≡ true) ↔ HasSubslice text part) → r ≡ stands_in part text
stands_in-same part text r h =
    bool_same r (stands_in part text) (λ k. stands_in-part part text (h.0 k)) (λ k. h.1 (HasSubslice-from part text k))
