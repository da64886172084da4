-- Lists that are cut in two, and what is kept of them.
use Rattle.std.proofs.Common.{◌≡◌, ◌⊎◌, inl, inr, List, [], ◌∷◌, ◌++◌, Bool, true, false, ◌||◌, Option, Some, None}
use Rattle.std.proofs.Common.{filter_map, map, option_map, refl, ap, sym, ◌∙◌}
use Rattle.std.specs.List.{All, cons_option}
use Rattle.std.proofs.lemmas.List.Elements.{All-nil, All-cons, All-head, All-tail}

-- an element of a list with one more at its end is that one, or one of the list
pub split_last : {X : Type 0} (xs before after : List X) (x y : X) → xs ++ x ∷ [] ≡ before ++ y ∷ after
    → ((before ≡ xs) × (y ≡ x)) ⊎ ((rest : List X) × (xs ≡ before ++ y ∷ rest))
split_last [] [] after x y is = inl (refl, cc)
split_last (z ∷ xs) [] after x y is = inr (xs, cc)
split_last [] (b ∷ before) after x y is = absurd (nothing before y after cc)
  where
    nothing : {X : Type 0} (before : List X) (y : X) (after : List X) → [] ≡ before ++ y ∷ after → ⊥
    nothing [] y after is = cc
    nothing (b ∷ before) y after is = cc
split_last (z ∷ xs) (b ∷ before) after x y is = by_rest (split_last xs before after x y cc)
  where
    same : z ≡ b
    same = cc

    by_rest : ((before ≡ xs) × (y ≡ x)) ⊎ ((rest : List _) × (xs ≡ before ++ y ∷ rest))
        → ((b ∷ before ≡ z ∷ xs) × (y ≡ x)) ⊎ ((rest : List _) × (z ∷ xs ≡ (b ∷ before) ++ y ∷ rest))
    by_rest (inl both) = inl (cc, both.1)
    by_rest (inr found) = let more = found.1 in inr (found.0, cc)

-- of two, neither, where one of them
pub second_none : (a b : Bool) → (a || b) ≡ false → b ≡ false
second_none false b is = is
second_none true b is = cc

-- what holds of each element holds of those in the middle
pub within_edges : {X : Type 0} (P : X → Type 0) (before part after : List X) → All P (before ++ (part ++ after))
    → All P part
within_edges P [] part after all = first part all
  where
    first : (part : List _) → All P (part ++ after) → All P part
    first [] all = All-nil P
    first (x ∷ part) all =
        All-cons P x part (All-head P x (part ++ after) all) (first part (All-tail P x (part ++ after) all))
within_edges P (b ∷ before) part after all =
    within_edges P before part after (All-tail P b (before ++ (part ++ after)) all)

-- what is kept of what is seen is what is seen of what is kept
pub filter-seen : {X Y Z W : Type 0} (f : Y → Option Z) (g : X → Y) (h : W → Z) (n : X → Option W) (xs : List X)
    → All (λ x. f (g x) ≡ option_map h (n x)) xs → filter_map f (map g xs) ≡ map h (filter_map n xs)
filter-seen f g h n [] all = refl
filter-seen {X} f g h n (x ∷ xs) all =
    ap (λ o. cons_option o (filter_map f (map g xs))) (All-head Same x xs all)
    ∙ ap (cons_option (option_map h (n x))) (filter-seen f g h n xs (All-tail Same x xs all))
    ∙ by_kept (n x)
  where
    Same : X → Type 0
    Same x = f (g x) ≡ option_map h (n x)

    by_kept : (o : Option _) → cons_option (option_map h o) (map h (filter_map n xs))
        ≡ map h (cons_option o (filter_map n xs))
    by_kept None = refl
    by_kept (Some w) = refl

-- what is kept at a place comes from an element, and what is kept before it from those before that one
pub record SplitsAt {X Y : Type 0} (f : X → Option Y) (xs : List X) (first : List Y) (y : Y) : Type 0 where
  pub before : List X
  pub element : X
  pub after : List X
  pub is : xs ≡ before ++ element ∷ after
  pub earlier : filter_map f before ≡ first
  pub kept : f element ≡ Some y

pub split_kept : {X Y : Type 0} (f : X → Option Y) (xs : List X) (before : List Y) (y : Y) (after : List Y)
    → filter_map f xs ≡ before ++ y ∷ after → SplitsAt f xs before y
split_kept f [] [] y after is = cc
split_kept f [] (b ∷ before) y after is = cc
split_kept {X} {Y} f (x ∷ xs) before y after is =
    by_kept (λ earlier found. split_kept f xs earlier y after found) (f x) refl before is
  where
    with_head : (before earlier : List Y) → SplitsAt f xs earlier y
        → ((ys : List X) → filter_map f ys ≡ earlier → filter_map f (x ∷ ys) ≡ before) → SplitsAt f (x ∷ xs) before y
    with_head before earlier rest more =
        record {
          before = x ∷ rest.before;
          element = rest.element;
          after = rest.after;
          is = ap (λ xs. x ∷ xs) rest.is;
          earlier = more rest.before rest.earlier;
          kept = rest.kept;
        }

    by_kept : ((earlier : List Y) → filter_map f xs ≡ earlier ++ y ∷ after → SplitsAt f xs earlier y) → (o : Option Y)
        → f x ≡ o → (before : List Y) → cons_option (f x) (filter_map f xs) ≡ before ++ y ∷ after
        → SplitsAt f (x ∷ xs) before y
    by_kept later None none before is =
        with_head before before (later before (sym (ap (λ o. cons_option o (filter_map f xs)) none) ∙ is))
        (λ ys found. ap (λ o. cons_option o (filter_map f ys)) none ∙ found)
    by_kept later (Some z) some [] is =
        let same : z ∷ filter_map f xs ≡ y ∷ after = sym (ap (λ o. cons_option o (filter_map f xs)) some) ∙ is in
        let one : z ≡ y = cc in
        record { before = []; element = x; after = xs; is = refl; earlier = refl; kept = some ∙ ap Some one }
    by_kept later (Some z) some (b ∷ before) is =
        let same : z ∷ filter_map f xs ≡ b ∷ before ++ y ∷ after =
        sym (ap (λ o. cons_option o (filter_map f xs)) some) ∙ is in
        let one : z ≡ b = cc in
        let rest : filter_map f xs ≡ before ++ y ∷ after = cc in
        with_head (b ∷ before) before (later before rest)
        (λ ys found. ap (λ o. cons_option o (filter_map f ys)) some ∙ ap (λ zs. z ∷ zs) found
        ∙ ap (λ b. b ∷ before) one)
