-- The line of what shards come to, and its status.
use Rattle.std.specs.Prelude.{ℕ, ◌==◌, List, [], ◌∷◌, Option, Some, codes, if◌then◌else◌}
use Rattle.serde_json.specs.Data.{Data, string}
use Rattle.run_output.specs.Fields.{count, object_of, object_text}
use Rattle.run_output.specs.Texts.{test_data}
use Rattle.run_rerun.specs.declared.answers.ShardsVerdict.{ShardsVerdict}
use Rattle.run_rerun.specs.declared.answers.ShardsVerdict.TheVariants.{Whole, Cut, Other, Twice, Missing}

-- the fields of the line
abbrev pub shards_fields : ShardsVerdict → List (List ℕ × Option Data)
shards_fields (Whole tests passed) =
    (codes "passed", Some (count passed)) ∷ (codes "shards", Some (string (codes "whole")))
    ∷ (codes "tests", Some (count tests)) ∷ []
shards_fields (Cut place) =
    (codes "shard", Some (count place)) ∷ (codes "shards", Some (string (codes "cut"))) ∷ []
shards_fields (Other place) =
    (codes "shard", Some (count place)) ∷ (codes "shards", Some (string (codes "other"))) ∷ []
shards_fields (Twice id) = (codes "shards", Some (string (codes "twice"))) ∷ (codes "test", Some (test_data id)) ∷ []
shards_fields (Missing id) =
    (codes "shards", Some (string (codes "missing"))) ∷ (codes "test", Some (test_data id)) ∷ []

-- its value, and its text
abbrev pub shards_value : ShardsVerdict → Data
shards_value verdict = object_of (shards_fields verdict)

abbrev pub shards_text : ShardsVerdict → List ℕ
shards_text verdict = object_text (shards_fields verdict)

-- the exit status: of the whole 0 if all its tests passed, 100 if not, and 4 if it has none; else 1
abbrev pub shards_status : ShardsVerdict → ℕ
shards_status (Whole tests passed) = if tests == 0 then 4 else if passed == tests then 0 else 100
shards_status (Cut place) = 1
shards_status (Other place) = 1
shards_status (Twice id) = 1
shards_status (Missing id) = 1
