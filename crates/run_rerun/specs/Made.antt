-- The plan of a rerun.
use Rattle.std.specs.Prelude.{ℕ, ◌&&◌, List, map, Bool, false, not, if◌then◌else◌, Option, Some, None, unwrap_or, codes}
use Rattle.serde_json.specs.Data.{Data, null, boolean, number, string, array, object, Items, no_items, item, put}
use Rattle.serde_json.specs.Find.{get}
use Rattle.run_events.specs.declared.plan.Plan.{Plan}
use Rattle.run_events.specs.declared.plan.PlanTest.{PlanTest}
use Rattle.run_events.specs.declared.plan.TestInstanceId.{TestInstanceId}
use Rattle.run_input.specs.PlanTest.{id_of}
use Rattle.run_input.specs.declared.plan_line.RunnerKeys.{RunnerKeys}
use Rattle.run_model.specs.Admission.{is_matched}
use Rattle.run_output.specs.Fields.{array_of}
use Rattle.run_output.specs.Texts.{test_data}
use Rattle.run_rerun.specs.Outstanding.{has_id}

-- a value with another one at a key, if it is an object
abbrev pub with_member : List ℕ → Data → Data → Data
with_member key value null = null
with_member key value (boolean b) = boolean b
with_member key value (number n) = number n
with_member key value (string s) = string s
with_member key value (array ds) = array ds
with_member key value (object members) = object (put key value members)

-- whether a test with this id and this skip is to be skipped: it matches, and isn't one of these
abbrev pub is_to_skip : List TestInstanceId → Option TestInstanceId → Option Data → Bool
is_to_skip ids (Some id) None = not (has_id ids id)
is_to_skip ids (Some id) (Some skip) = false
is_to_skip ids None skip = false

-- a test of the plan line of a rerun that expects these
abbrev pub made_test : List TestInstanceId → Data → Data
made_test ids d =
    if is_to_skip ids (id_of d) (get (codes "skip") d) then with_member (codes "skip") (string (codes "rerun")) d
    else d

abbrev pub made_items : List TestInstanceId → Items → Items
made_items ids no_items = no_items
made_items ids (item d ds) = item (made_test ids d) (made_items ids ds)

abbrev pub made_tests : List TestInstanceId → Data → Data
made_tests ids null = null
made_tests ids (boolean b) = boolean b
made_tests ids (number n) = number n
made_tests ids (string s) = string s
made_tests ids (array ds) = array (made_items ids ds)
made_tests ids (object members) = object members

-- the value of the plan line of a rerun that expects these, by that of the plan line that it is made of
abbrev pub made : List TestInstanceId → Data → Data
made ids d =
    with_member (codes "expected") (array_of test_data ids)
    (with_member (codes "tests") (made_tests ids (unwrap_or (get (codes "tests") d) null)) d)

-- the same of what the line says: a test that matches and isn't one of these is skipped, and these are expected
abbrev pub skipped_unless : List TestInstanceId → PlanTest → PlanTest
skipped_unless ids test =
    if is_matched test && not (has_id ids test.id) then record test { skip = Some (codes "rerun") } else test

abbrev pub made_plan : List TestInstanceId → Plan → Plan
made_plan ids plan = record plan { tests = map (skipped_unless ids) plan.tests }

abbrev pub made_keys : List TestInstanceId → RunnerKeys → RunnerKeys
made_keys ids keys = record keys { expected = Some ids }
