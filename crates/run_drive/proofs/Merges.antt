-- Two lists that are put together.
use Rattle.std.proofs.Common.{◌≡◌, List, [], ◌∷◌, ◌++◌, inl, inr, refl, ap, sym, subst, ◌∙◌, map}
use Rattle.std.proofs.lemmas.List.{map-append}
use Rattle.std.specs.List.{filter}
use Rattle.std.proofs.lemmas.List.Elements.{filter-append}
use Rattle.run_events.specs.declared.turn.Turn.{Turn}
use Rattle.run_shared.specs.declared.shared.Receipt.{Receipt}
use Rattle.run_shared.specs.declared.offered.Refusal.{Refusal}
use Rattle.run_drive.specs.Driven.{IsMerge, child_turns, refused_turns, is_child_turn}

-- one list after another
pub merge_append : {X : Type 0} → (xs ys zs us vs ws : List X) → IsMerge xs ys zs → IsMerge us vs ws
    → IsMerge (xs ++ us) (ys ++ vs) (zs ++ ws)
merge_append xs ys [] us vs ws h k =
    rw (h.0, h.1) k
merge_append xs ys (z ∷ zs) us vs ws h k =
    elim h [
      | inl p ↦ inl (p.0 ++ us, ap (λ ts. ts ++ us) p.1, merge_append p.0 ys zs us vs ws p.2 k)
      | inr q ↦ inr (q.0 ++ vs, ap (λ ts. ts ++ vs) q.1, merge_append xs q.0 zs us vs ws q.2 k)
    ]

-- one item, of the first list or of the second
pub merge_first : {X : Type 0} → (x : X) → IsMerge (x ∷ []) [] (x ∷ [])
merge_first x = inl ([], refl, (refl, refl))

pub merge_second : {X : Type 0} → (y : X) → IsMerge [] (y ∷ []) (y ∷ [])
merge_second y = inr ([], refl, (refl, refl))

-- the turns of lists of receipts, and of refusals, one after the other
pub child_turns-append : (rs ss : List Receipt) → child_turns (rs ++ ss) ≡ child_turns rs ++ child_turns ss
child_turns-append rs ss =
    ap (filter is_child_turn) (map-append (λ (r : Receipt). r.turn) rs ss)
    ∙ filter-append is_child_turn (map (λ (r : Receipt). r.turn) rs) (map (λ (r : Receipt). r.turn) ss)

pub refused_turns-append : (xs ys : List Refusal) → refused_turns (xs ++ ys) ≡ refused_turns xs ++ refused_turns ys
refused_turns-append xs ys = map-append (λ (x : Refusal). x.turn) xs ys

-- what was taken and refused twice
pub merge_twice : (rs ss : List Receipt) (xs ys : List Refusal) (ts us : List Turn)
    → IsMerge (child_turns rs) (refused_turns xs) ts → IsMerge (child_turns ss) (refused_turns ys) us
    → IsMerge (child_turns (rs ++ ss)) (refused_turns (xs ++ ys)) (ts ++ us)
merge_twice rs ss xs ys ts us h k =
    rw (child_turns-append rs ss, refused_turns-append xs ys)
    (merge_append (child_turns rs) (refused_turns xs) ts (child_turns ss) (refused_turns ys) us h k)
