-- What stands at a place of lists that are made of others.
use Rattle.std.proofs.Common.{◌≡◌, ◌∙◌, ℕ, zero, suc, ◌++◌, List, [], ◌∷◌, length, map, take}
use Rattle.std.proofs.Common.{Option, Some, option_map, slice_get, refl, sym, ap, subst, arith, append_assoc}
use Rattle.std.proofs.Common.{append-nil}
use Rattle.std.specs.List.{AllZip, zip}
use Rattle.run_filter.specs.Partition.{is_in, parted}
use Rattle.run_filter.specs.declared.partition.Candidate.{Candidate}
use Rattle.run_filter.specs.declared.partition.PartitionKind.{PartitionKind}

pub get_map : {A B : Type 0} (f : A → B) (xs : List A) (i : ℕ) (x : A) → slice_get xs i ≡ Some x
    → slice_get (map f xs) i ≡ Some (f x)
get_map f [] i x is = cc
get_map f (y ∷ ys) zero x is = ap (option_map f) is
get_map f (y ∷ ys) (suc i) x is = get_map f ys i x is

pub map_twice : {A B C : Type 0} (f : A → B) (g : B → C) (xs : List A) → map g (map f xs) ≡ map (λ x. g (f x)) xs
map_twice f g [] = refl
map_twice f g (x ∷ xs) = ap (λ more. g (f x) ∷ more) (map_twice f g xs)

abbrev some_pair : {A B : Type 0} → A → B → Option (A × B)
some_pair x y = Some (x, y)

pub get_zip : {A B : Type 0} (xs : List A) (ys : List B) (i : ℕ) (x : A) (y : B) → slice_get xs i ≡ Some x
    → slice_get ys i ≡ Some y → slice_get (zip xs ys) i ≡ Some (x, y)
get_zip [] ys i x y is_x is_y = cc
get_zip (a ∷ rest) [] i x y is_x is_y = cc
get_zip (a ∷ rest) (b ∷ bs) zero x y is_x is_y =
    let first : a ≡ x = cc in
    let second : b ≡ y = cc in
    ap (λ v. some_pair v b) first ∙ ap (λ w. some_pair x w) second
get_zip (a ∷ rest) (b ∷ bs) (suc i) x y is_x is_y = get_zip rest bs i x y is_x is_y

-- whether the test at a place stands in a part
pub parted_at : (kind : PartitionKind) (part parts : ℕ) (before cs : List Candidate) (i : ℕ) (c : Candidate)
    → slice_get cs i ≡ Some c
    → slice_get (parted kind part parts before cs) i ≡ Some (is_in kind part parts (before ++ take i cs) c)
parted_at kind part parts before [] i c is = cc
parted_at kind part parts before (d ∷ ds) zero c is =
    let same : d ≡ c = cc in
    let none : before ≡ before ++ [] = sym (append-nil before) in
    subst (λ (e : Candidate). Some (is_in kind part parts before e) ≡ Some (is_in kind part parts (before ++ []) c))
    (sym same) (ap (λ (l : List Candidate). Some (is_in kind part parts l c)) none)
parted_at kind part parts before (d ∷ ds) (suc i) c is =
    let more : (before ++ d ∷ []) ++ take i ds ≡ before ++ d ∷ take i ds = append_assoc before _ _ in
    parted_at kind part parts (before ++ d ∷ []) ds i c is
    ∙ ap (λ (l : List Candidate). Some (is_in kind part parts l c)) more

pub parted_length : (kind : PartitionKind) (part parts : ℕ) (before cs : List Candidate)
    → length (parted kind part parts before cs) ≡ length cs
parted_length kind part parts before [] = refl
parted_length kind part parts before (c ∷ cs) = ap suc (parted_length kind part parts (before ++ c ∷ []) cs)

-- what is seen of the first of two lists, of which the second is as long
pub first_of_zip : {A B C : Type 0} (f : A → C) (xs : List A) (ys : List B) → length xs ≡ length ys
    → map (λ p. f p.0) (zip xs ys) ≡ map f xs
first_of_zip f [] ys same = refl
first_of_zip f (x ∷ xs) [] same = absurd (omega (arith, same))
first_of_zip f (x ∷ xs) (y ∷ ys) same = ap (λ more. f x ∷ more) (first_of_zip f xs ys (omega (arith, same)))

pub zip_long : {A B : Type 0} (Q : A → B → Type 0) (xs : List A) (ys : List B) → AllZip Q xs ys
    → length xs ≡ length ys
zip_long Q [] [] h = refl
zip_long Q [] (y ∷ ys) h = absurd h
zip_long Q (x ∷ xs) [] h = absurd h
zip_long Q (x ∷ xs) (y ∷ ys) h = ap suc (zip_long Q xs ys h.1)
