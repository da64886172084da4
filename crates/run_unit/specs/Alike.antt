-- What the children of a run have alike.
use Rattle.run_events.specs.declared.settings.Settings.{Settings}
use Rattle.run_model.specs.Admission.{surroundings_of, script_surroundings}
use Rattle.run_unit.specs.declared.alike.Alike.{Alike}

-- what the children of all tests have alike, and those of all scripts
abbrev pub alike_of : Settings → Alike
alike_of p = record { tests = surroundings_of p; scripts = script_surroundings p }
