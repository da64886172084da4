-- The keys of a profile that say nothing of a plan.
use Rattle.std.specs.Prelude.{ℕ, ◌+◌, List, [], ◌∷◌, ◌++◌, codes, Option, Some, None, option_and_then, option_map}
use Rattle.std.specs.Prelude.{unwrap_or}
use Rattle.toml.specs.Data.{Data, Items, no_items, item, as_array, get}
use Rattle.run_profile.specs.Levels.{profile_in, profile_path}
use Rattle.run_profile.specs.Fields.{those}
use Rattle.run_profile.specs.Refusals.{dotted, item_path}

-- what only shows, reports or keeps results, or is of benchmarks: in a profile, and in an override
abbrev pub profile_noted : List (List ℕ)
profile_noted =
    codes "archive" ∷ codes "bench" ∷ codes "failure-output" ∷ codes "final-status-level" ∷ codes "junit"
    ∷ codes "status-level" ∷ codes "success-output" ∷ []

abbrev pub override_noted : List (List ℕ)
override_noted = codes "bench" ∷ codes "failure-output" ∷ codes "junit" ∷ codes "success-output" ∷ []

-- the paths of those of these names that a table has
abbrev pub noted : List (List ℕ) → List ℕ → Data → List (List ℕ)
noted [] path d = []
noted (name ∷ names) path d = those (option_map (λ _. dotted path name) (get name d)) ++ noted names path d

unfoldable pub in_profile : List ℕ → Data → List (List ℕ)
in_profile path d = noted profile_noted path d

unfoldable pub in_override : List ℕ → Data → List (List ℕ)
in_override path d = noted override_noted path d

abbrev pub override_notes : List ℕ → ℕ → Items → List (List ℕ)
override_notes path number no_items = []
override_notes path number (item d ds) =
    in_override (item_path path number) d ++ override_notes path (number + 1) ds

abbrev pub items_in : Option Data → Items
items_in list = unwrap_or (option_and_then as_array list) no_items

-- of a profile's table, and of each of its overrides
abbrev pub table_notes : List ℕ → Option Data → List (List ℕ)
table_notes path None = []
table_notes path (Some d) =
    in_profile path d
    ++ override_notes (dotted path (codes "overrides")) 0 (items_in (get (codes "overrides") d))

abbrev pub profile_notes : Option Data → List ℕ → List (List ℕ)
profile_notes profiles name = table_notes (profile_path name) (profile_in profiles name)

-- of profiles, in their order
abbrev pub notes_from : Option Data → List (List ℕ) → List (List ℕ)
notes_from profiles [] = []
notes_from profiles (name ∷ names) = profile_notes profiles name ++ notes_from profiles names
