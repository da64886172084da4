-- The last of what is read off the attempts of a test.
use Rattle.std.proofs.Common.{◌≡◌, ◌-◌, ◌∙◌, refl, sym, ap, length, List, [], ◌∷◌, map, Some, slice_get}
use Rattle.run_events.specs.Stats.{last_or}
use Rattle.run_events.proofs.StatsLemmas.{last_or_read}

last_or_map : {X Y : Type 0} (f : X → Y) (x : X) (ys : List X) → last_or (f x) (map f ys) ≡ f (last_or x ys)
last_or_map f x [] = refl
last_or_map f x (y ∷ ys) = last_or_map f y ys

-- what is read off the last of a list is the last of what is read off it
pub last_or_mapped : {X Y : Type 0} (f : X → Y) (other : Y) (xs : List X) (y : X)
    → slice_get xs (length xs - 1) ≡ Some y → f y ≡ last_or other (map f xs)
last_or_mapped f other [] y read = cc
last_or_mapped f other (x ∷ xs) y read =
    ap f (last_or_read x (x ∷ xs) y read) ∙ sym (last_or_map f x xs)
