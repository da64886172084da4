-- What is kept of lists that are kept of others.
use Rattle.std.proofs.Common.{◌≡◌, ◌+◌, ◌||◌, List, [], ◌∷◌, ◌++◌, map, Bool, false, Option, Some, None}
use Rattle.std.proofs.Common.{option_and_then, filter_map, count_by, cond, refl, ap, sym, ◌∙◌, arith}
use Rattle.std.specs.Prelude.{IfSome}
use Rattle.std.specs.List.{All, cons_option, list_any}
use Rattle.std.proofs.lemmas.List.Elements.{All-nil, All-cons, All-head, All-tail}
use Rattle.std.proofs.lemmas.List.Sums.{sum_by-cons}

-- a test of what may be there
abbrev pub any_in : {X : Type 0} → (X → Bool) → Option X → Bool
any_in test None = false
any_in test (Some x) = test x

-- what is kept of what is kept
pub kept_twice : {X Y Z : Type 0} (f : X → Option Y) (g : Y → Option Z) (xs : List X)
    → filter_map g (filter_map f xs) ≡ filter_map (λ x. option_and_then g (f x)) xs
kept_twice f g [] = refl
kept_twice f g (x ∷ xs) = by_kept (f x) (kept_twice f g xs)
  where
    by_kept : (o : Option _) → filter_map g (filter_map f xs) ≡ filter_map (λ x. option_and_then g (f x)) xs
        → filter_map g (cons_option o (filter_map f xs))
        ≡ cons_option (option_and_then g o) (filter_map (λ x. option_and_then g (f x)) xs)
    by_kept None rest = rest
    by_kept (Some y) rest = ap (cons_option (g y)) rest

-- what is kept of what is seen
pub kept_seen : {X Y Z : Type 0} (f : Y → Option Z) (g : X → Y) (xs : List X)
    → filter_map f (map g xs) ≡ filter_map (λ x. f (g x)) xs
kept_seen f g [] = refl
kept_seen f g (x ∷ xs) = ap (cons_option (f (g x))) (kept_seen f g xs)

-- what is kept where the ways to keep agree
pub kept_same : {X Y : Type 0} (f g : X → Option Y) (xs : List X) → All (λ x. f x ≡ g x) xs
    → filter_map f xs ≡ filter_map g xs
kept_same f g [] all = refl
kept_same f g (x ∷ xs) all =
    ap (λ o. cons_option o (filter_map f xs)) (All-head (λ x. f x ≡ g x) x xs all)
    ∙ ap (cons_option (g x)) (kept_same f g xs (All-tail (λ x. f x ≡ g x) x xs all))

-- what holds of all that is kept
pub kept_all : {X Y : Type 0} (f : X → Option Y) (Holds : Y → Type 0) (xs : List X) → All (λ x. IfSome (f x) Holds) xs
    → All Holds (filter_map f xs)
kept_all f Holds [] all = All-nil Holds
kept_all f Holds (x ∷ xs) all =
    by_kept (f x) (All-head (λ x. IfSome (f x) Holds) x xs all)
    (kept_all f Holds xs (All-tail (λ x. IfSome (f x) Holds) x xs all))
  where
    by_kept : (o : Option _) → IfSome o Holds → All Holds (filter_map f xs)
        → All Holds (cons_option o (filter_map f xs))
    by_kept None here rest = rest
    by_kept (Some y) here rest = All-cons Holds y (filter_map f xs) here rest

-- whether any passes that is kept, and how many
pub kept_any : {X Y : Type 0} (test : X → Bool) (kept : Y → Bool) (f : X → Option Y) (xs : List X)
    → All (λ x. test x ≡ any_in kept (f x)) xs → list_any test xs ≡ list_any kept (filter_map f xs)
kept_any test kept f [] all = refl
kept_any test kept f (x ∷ xs) all =
    ap (λ b. b || list_any test xs) (All-head (λ x. test x ≡ any_in kept (f x)) x xs all)
    ∙ ap (λ b. any_in kept (f x) || b)
    (kept_any test kept f xs (All-tail (λ x. test x ≡ any_in kept (f x)) x xs all))
    ∙ by_kept (f x)
  where
    by_kept : (o : Option _)
        → (any_in kept o || list_any kept (filter_map f xs)) ≡ list_any kept (cons_option o (filter_map f xs))
    by_kept None = refl
    by_kept (Some y) = refl

pub kept_count : {X Y : Type 0} (test : X → Bool) (kept : Y → Bool) (f : X → Option Y)
    → ((x : X) → test x ≡ any_in kept (f x)) → (xs : List X) → count_by test xs ≡ count_by kept (filter_map f xs)
kept_count test kept f same [] = refl
kept_count test kept f same (x ∷ xs) =
    sum_by-cons (λ x. cond (test x) 1 0) x xs
    ∙ ap (λ n. cond (test x) 1 0 + n) (kept_count test kept f same xs)
    ∙ ap (λ b. cond b 1 0 + count_by kept (filter_map f xs)) (same x) ∙ by_kept (f x)
  where
    by_kept : (o : Option _) → cond (any_in kept o) 1 0 + count_by kept (filter_map f xs)
        ≡ count_by kept (cons_option o (filter_map f xs))
    by_kept None = omega arith
    by_kept (Some y) = sym (sum_by-cons (λ y. cond (kept y) 1 0) y (filter_map f xs))

-- an element of what is seen comes from one
pub record SeenAt {X Y : Type 0} (g : X → Y) (xs : List X) (seen : List Y) (y : Y) : Type 0 where
  pub before : List X
  pub element : X
  pub after : List X
  pub is : xs ≡ before ++ element ∷ after
  pub earlier : map g before ≡ seen
  pub here : g element ≡ y

pub split_seen : {X Y : Type 0} (g : X → Y) (xs : List X) (before : List Y) (y : Y) (after : List Y)
    → map g xs ≡ before ++ y ∷ after → SeenAt g xs before y
split_seen g [] [] y after is = cc
split_seen g [] (b ∷ before) y after is = cc
split_seen g (x ∷ xs) [] y after is =
    let one : g x ≡ y = cc in
    record { before = []; element = x; after = xs; is = refl; earlier = refl; here = one }
split_seen g (x ∷ xs) (b ∷ before) y after is = with_head (split_seen g xs before y after (cc)) (cc)
  where
    with_head : SeenAt g xs before y → g x ≡ b → SeenAt g (x ∷ xs) (b ∷ before) y
    with_head rest one = record {
      before = x ∷ rest.before;
      element = rest.element;
      after = rest.after;
      is = ap (λ xs. x ∷ xs) rest.is;
      earlier = ap (λ ys. g x ∷ ys) rest.earlier ∙ ap (λ b. b ∷ before) one;
      here = rest.here;
    }
