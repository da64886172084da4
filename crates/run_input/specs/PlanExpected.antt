-- What a plan line says of the tests that a rerun expects.
use Rattle.std.specs.Prelude.{List, [], ◌∷◌, Option, Some, None, option_and_then}
use Rattle.serde_json.specs.Data.{Data, Items, no_items, item}
use Rattle.serde_json.specs.Find.{as_str, as_array}
use Rattle.run_events.specs.declared.plan.TestInstanceId.{TestInstanceId}
use Rattle.run_input.specs.Fields.{◌>>=◌}

-- a test, by a binary and a name
abbrev pub instance_with : Data → Data → Option TestInstanceId
instance_with first second = do
  binary ← as_str first
  name ← as_str second
  Some (record { binary = binary; name = name })

-- a test, by two items
abbrev pub instance_from : Items → Option TestInstanceId
instance_from (item binary (item name no_items)) = instance_with binary name
instance_from items = None

abbrev pub instance_of : Data → Option TestInstanceId
instance_of d = option_and_then instance_from (as_array d)

-- the tests of items, each of which is one
abbrev pub instances_from : Items → Option (List TestInstanceId)
instances_from no_items = Some []
instances_from (item d ds) = do
  id ← instance_of d
  ids ← instances_from ds
  Some (id ∷ ids)

-- a list of tests
abbrev pub expected_of : Data → Option (List TestInstanceId)
expected_of d = option_and_then instances_from (as_array d)
