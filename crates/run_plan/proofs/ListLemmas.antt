-- Items that are read one by one.
use Rattle.std.proofs.Common.{◌≡◌, ◌∙◌, List, [], ◌∷◌, ◌++◌, Option, Some, None, option_map, refl, ap, subst}
use Rattle.std.specs.Option.{option_and_then}

assoc : {A : Type 0} (xs : List A) (x : A) (ys : List A) → (xs ++ x ∷ []) ++ ys ≡ xs ++ x ∷ ys
assoc [] x ys = refl
assoc (z ∷ xs) x ys = ap (λ more. z ∷ more) (assoc xs x ys)

-- what was read before an item, and after it
abbrev pub Before : {A : Type 0} → List A → Option A → Option (List A) → Option (List A) → Type 0
Before xs said rest whole =
    option_map (λ more. xs ++ more) (option_and_then (λ y. option_and_then (λ ys. Some (y ∷ ys)) rest) said) ≡ whole

one_more : {A : Type 0} (xs : List A) (x : A) (rest whole : Option (List A)) → Before xs (Some x) rest whole
    → option_map (λ more. (xs ++ x ∷ []) ++ more) rest ≡ whole
one_more xs x None whole h = h
one_more xs x (Some ys) whole h = ap Some (assoc xs x ys) ∙ h

pub kept : {A : Type 0} (xs : List A) (x : A) (said : Option A) (rest whole : Option (List A)) → said ≡ Some x
    → Before xs said rest whole → option_map (λ more. (xs ++ x ∷ []) ++ more) rest ≡ whole
kept xs x said rest whole e h = one_more xs x rest whole (subst (λ o. Before xs o rest whole) e h)
