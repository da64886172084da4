use Rattle.std.proofs.Common.{◌≡◌, map, take}
use Rattle.serde_json.specs.View.{view}
use Rattle.run_wave_line.specs.WaveLine.{test_object}
use Rattle.run_wave_line.proofs.values.tests_value.Given as goal

abbrev pub invariant-loop-test : goal.invariant-loop-test
invariant-loop-test l = map view l.values.items ≡ map test_object (take l.test-index l.tests)
