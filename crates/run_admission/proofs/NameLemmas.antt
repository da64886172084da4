-- The place of the first group of each name, as one more group is read.
use Rattle.std.proofs.Common.{◌≡◌, ℕ, ◌+◌, ◌<◌, ◌≤◌, ◌==◌, ◌≢◌, List, [], ◌∷◌, ◌++◌, length, get_or, Bool, true, false}
use Rattle.std.proofs.Common.{cond, Option, Some}
use Rattle.std.proofs.Common.{None, is_some, nat_eq, nat_lt, position, take, refl, ap, sym, subst, ◌∙◌, arith}
use Rattle.std.specs.BTreeMap.{BTreeMap, get, is_at}
use Rattle.std.specs.Map.{lookup}
use Rattle.std.specs.Ordering.{nat_cmp}
use Rattle.std.specs.Cmp.Lexicographic.{slice_cmp, same_text, texts_ties}
use Rattle.std.specs.List.{position_or_len}
use lib.Pointwise.{pointwise}
use Rattle.std.proofs.lemmas.List.{length-append, get_or_append_left, get_or_at, take_more, length-take-le}
use Rattle.std.proofs.lemmas.List.Quantifiers.{position-Some}
use Rattle.std.proofs.lemmas.List.Sums.{fails_before_first}
use Rattle.std.proofs.lemmas.Option.{same_Some}
use Rattle.run_events.specs.declared.plan.Group.{Group}
use Rattle.run_admission.specs.InUse.{group_of}
use Rattle.run_admission.specs.Names.{HasPlaces}
use Rattle.run_admission.proofs.ListLemmas.{found_at, found_none}

-- none before the first passes
none_before : {X : Type 0} (p : X → Bool) (xs : List X) (d : X) (k : ℕ) → position p xs ≡ Some k → (j : ℕ) → j < k
    → p (get_or xs j d) ≡ false
none_before p xs d k e j h = by_end (nat_lt (position_or_len p xs) (length xs)) refl
  where
    by_end : (b : Bool) → nat_lt (position_or_len p xs) (length xs) ≡ b → p (get_or xs j d) ≡ false
    by_end true f =
        let is : position_or_len p xs ≡ k =
        same_Some _ k (sym (ap (λ b. cond b (Some (position_or_len p xs)) None) f) ∙ e) in
        fails_before_first p xs j d (omega arith)
    by_end false f =
        let bad : None ≡ Some k = sym (ap (λ b. cond b (Some (position_or_len p xs)) None) f) ∙ e in cc

-- where none is found, none passes
none_passes : {X : Type 0} (p : X → Bool) (xs : List X) (d : X) → position p xs ≡ None → (j : ℕ) → j < length xs
    → p (get_or xs j d) ≡ false
none_passes p xs d e j h = by_end (nat_lt (position_or_len p xs) (length xs)) refl
  where
    by_end : (b : Bool) → nat_lt (position_or_len p xs) (length xs) ≡ b → p (get_or xs j d) ≡ false
    by_end true f =
        let bad : Some (position_or_len p xs) ≡ None =
        sym (ap (λ b. cond b (Some (position_or_len p xs)) None) f) ∙ e in
        cc
    by_end false f =
        let past : length xs ≤ position_or_len p xs = grind (arith, f) in fails_before_first p xs j d (omega arith)

-- one that is found stays so
push_found : {X : Type 0} (p : X → Bool) (xs : List X) (y : X) (k : ℕ) → position p xs ≡ Some k
    → position p (xs ++ y ∷ []) ≡ Some k
push_found p xs y k e =
    let at = position-Some p xs k y e in
    found_at p (xs ++ y ∷ []) k y (omega (arith, at.0, length-append xs (y ∷ [])))
    (λ j h. ap p (get_or_append_left xs (y ∷ []) y j (omega (arith, h, at.0))) ∙ none_before p xs y k e j h)
    (ap p (get_or_append_left xs (y ∷ []) y k at.0) ∙ at.1)

-- else the new one is found, where it passes
push_new : {X : Type 0} (p : X → Bool) (xs : List X) (y : X) → position p xs ≡ None → p y ≡ true
    → position p (xs ++ y ∷ []) ≡ Some (length xs)
push_new p xs y e here =
    found_at p (xs ++ y ∷ []) (length xs) y (omega (arith, length-append xs (y ∷ [])))
    (λ j h. ap p (get_or_append_left xs (y ∷ []) y j h) ∙ none_passes p xs y e j h)
    (ap p (get_or_at xs y [] y (length xs) refl) ∙ here)

-- and none, where it doesn't
push_none : {X : Type 0} (p : X → Bool) (xs : List X) (y : X) → position p xs ≡ None → p y ≡ false
    → position p (xs ++ y ∷ []) ≡ None
push_none p xs y e fails =
    found_none p (xs ++ y ∷ []) y (λ j h. by_place j
    (omega (arith, h, length-append xs (y ∷ []))) (j == length xs) refl)
  where
    by_place : (j : ℕ) → j < length xs + 1 → (b : Bool) → (j == length xs) ≡ b
        → p (get_or (xs ++ y ∷ []) j y) ≡ false
    by_place j h true f =
        let is : j ≡ length xs = grind arith in ap p (get_or_at xs y [] y j (sym is)) ∙ fails
    by_place j h false f =
        let apart : j ≢ length xs = grind arith in
        let low : j < length xs = omega (arith, apart) in
        ap p (get_or_append_left xs (y ∷ []) y j low) ∙ none_passes p xs y e j low

-- one that doesn't pass changes nothing
push_kept : {X : Type 0} (p : X → Bool) (xs : List X) (y : X) (o : Option ℕ) → position p xs ≡ o → p y ≡ false
    → position p (xs ++ y ∷ []) ≡ o
push_kept p xs y None e fails = push_none p xs y e fails
push_kept p xs y (Some k) e fails = push_found p xs y k e

pub no_value : (o : Option ℕ) → is_some o ≡ false → o ≡ None
no_value None e = refl
no_value (Some k) e = cc

pub a_value : (o : Option ℕ) → is_some o ≡ true → (k : ℕ) × (o ≡ Some k)
a_value None e = cc
a_value (Some k) e = (k, refl)

-- a group whose name is there already
pub places_same : (done : List Group) (g : Group) (m : BTreeMap (List ℕ) ℕ) → HasPlaces done m
    → is_some (get (slice_cmp nat_cmp) m g.name) ≡ true → HasPlaces (done ++ g ∷ []) m
places_same done g m h some = record { each = λ name. by_name name (pointwise nat_eq g.name name) refl }
  where
    by_name : (name : List ℕ) → (b : Bool) → pointwise nat_eq g.name name ≡ b
        → get (slice_cmp nat_cmp) m name ≡ group_of (done ++ g ∷ []) name
    by_name name true e =
        let same : g.name ≡ name = same_text g.name name (sym e) in
        let found = a_value _ (ap (λ n. is_some (get (slice_cmp nat_cmp) m n)) (sym same) ∙ some) in
        found.1 ∙ sym (push_found (λ g. pointwise nat_eq g.name name) done g found.0 (sym (h.each name) ∙ found.1))
    by_name name false e =
        h.each name ∙ sym (push_kept (λ g. pointwise nat_eq g.name name) done g _ refl e)

-- a group whose name is new
pub places_more : (done : List Group) (g : Group) (k : ℕ) (m n : BTreeMap (List ℕ) ℕ) → HasPlaces done m
    → k ≡ length done → is_some (get (slice_cmp nat_cmp) m g.name) ≡ false
    → ((name : List ℕ) → get (slice_cmp nat_cmp) n name
    ≡ cond (is_at (slice_cmp nat_cmp g.name) name) (Some k) (get (slice_cmp nat_cmp) m name))
    → HasPlaces (done ++ g ∷ []) n
places_more done g k m n h many none put = record { each = λ name. by_name name (pointwise nat_eq g.name name) refl }
  where
    at : (name : List ℕ) (b : Bool) → pointwise nat_eq g.name name ≡ b → get (slice_cmp nat_cmp) n name
        ≡ cond b (Some k) (get (slice_cmp nat_cmp) m name)
    at name b e =
        put name
        ∙ ap (λ b. cond b (Some k) (get (slice_cmp nat_cmp) m name)) (sym (texts_ties g.name name) ∙ e)

    by_name : (name : List ℕ) → (b : Bool) → pointwise nat_eq g.name name ≡ b
        → get (slice_cmp nat_cmp) n name ≡ group_of (done ++ g ∷ []) name
    by_name name true e =
        let same : g.name ≡ name = same_text g.name name (sym e) in
        let free : position (λ g. pointwise nat_eq g.name name) done ≡ None =
        sym (h.each name) ∙ no_value _ (ap (λ n. is_some (get (slice_cmp nat_cmp) m n)) (sym same) ∙ none) in
        at name true e ∙ ap (λ k. Some k) many ∙ sym (push_new (λ g. pointwise nat_eq g.name name) done g free e)
    by_name name false e =
        at name false e ∙ h.each name ∙ sym (push_kept (λ g. pointwise nat_eq g.name name) done g _ refl e)

-- at first there is no name
pub places_none : (m : BTreeMap (List ℕ) ℕ) → m.entries ≡ [] → HasPlaces [] m
places_none m none = record { each = λ name. ap (lookup (is_at (slice_cmp nat_cmp name))) none }

-- one more group is read
pub more_same : (groups : List Group) (k : ℕ) (g : Group) (m : BTreeMap (List ℕ) ℕ) → HasPlaces (take k groups) m
    → k < length groups → g ≡ get_or groups k g → is_some (get (slice_cmp nat_cmp) m g.name) ≡ true
    → HasPlaces (take (k + 1) groups) m
more_same groups k g m h inside read some =
    subst (λ l. HasPlaces l m) (sym (take_more groups k g inside ∙ ap (λ g. take k groups ++ g ∷ []) (sym read)))
    (places_same (take k groups) g m h some)

pub more_new : (groups : List Group) (k : ℕ) (g : Group) (m n : BTreeMap (List ℕ) ℕ) (name : List ℕ)
    → HasPlaces (take k groups) m → k < length groups → g ≡ get_or groups k g → name ≡ g.name
    → is_some (get (slice_cmp nat_cmp) m g.name) ≡ false
    → ((q : List ℕ) → get (slice_cmp nat_cmp) n q
    ≡ cond (is_at (slice_cmp nat_cmp name) q) (Some k) (get (slice_cmp nat_cmp) m q))
    → HasPlaces (take (k + 1) groups) n
more_new groups k g m n name h inside read same none put =
    subst (λ l. HasPlaces l n) (sym (take_more groups k g inside ∙ ap (λ g. take k groups ++ g ∷ []) (sym read)))
    (places_more (take k groups) g k m n h (sym (length-take-le k groups (omega arith))) none
    (λ q. put q ∙ ap (λ x. cond (is_at (slice_cmp nat_cmp x) q) (Some k) (get (slice_cmp nat_cmp) m q)) same))
