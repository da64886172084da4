-- What a plan line says of its setup scripts.
use Rattle.std.specs.Prelude.{ℕ, List, [], ◌∷◌, Bool, true, Option, Some, option_and_then, codes}
use Rattle.serde_json.specs.Data.{Data, Items, no_items, item}
use Rattle.serde_json.specs.Find.{get, as_str, as_array}
use Rattle.run_events.specs.declared.plan.LeakTimeout.{LeakTimeout}
use Rattle.run_events.specs.declared.plan.PlanScript.{PlanScript}
use Rattle.run_events.specs.declared.plan.SlowTimeout.{SlowTimeout}
use Rattle.run_events.specs.Usual.{usual_slow, usual_leak}
use Rattle.run_input.specs.Fields.{◌>>=◌, when, is_object_of, or_usual, truth_of, texts_of}
use Rattle.run_input.specs.PlanTest.{slow_of, leak_of}

-- a script is slow after 946,080,000 s, and all else is as for a test
abbrev pub usual_script_slow : SlowTimeout
usual_script_slow = record usual_slow { period = 946080000000000000 }

-- the time-outs of a script
abbrev pub script_times_of : Data → Option (SlowTimeout × LeakTimeout)
script_times_of d = do
  slow ← or_usual usual_script_slow (slow_of usual_script_slow) (get (codes "slow") d)
  leak ← or_usual usual_leak leak_of (get (codes "leak") d)
  Some (slow, leak)

-- whether its streams are captured, as both are where nothing is said
abbrev pub script_captures_of : Data → Option (Bool × Bool)
script_captures_of d = do
  stdout ← or_usual true truth_of (get (codes "capture_stdout") d)
  stderr ← or_usual true truth_of (get (codes "capture_stderr") d)
  Some (stdout, stderr)

-- the name of a script, its command, and where it writes its variables: at the empty path where nothing is said
abbrev pub script_words_of : Data → Option (List ℕ × List (List ℕ) × List ℕ)
script_words_of d = do
  id ← option_and_then as_str (get (codes "id") d)
  command ← option_and_then texts_of (get (codes "command") d)
  env_path ← or_usual [] as_str (get (codes "env_path") d)
  Some (id, command, env_path)

-- a setup script
unfoldable pub script_of : Data → Option PlanScript
script_of d = do
  _ ← when (is_object_of (codes "capture_stderr" ∷ codes "capture_stdout" ∷ codes "command" ∷ codes "env_path"
      ∷ codes "id" ∷ codes "leak" ∷ codes "slow" ∷ []) d)
  times ← script_times_of d
  captures ← script_captures_of d
  words ← script_words_of d
  Some (record {
    id = words.0;
    command = words.1;
    env_path = words.2;
    slow = times.0;
    leak = times.1;
    capture_stdout = captures.0;
    capture_stderr = captures.1;
  })

-- the scripts of items, each of which is one
abbrev pub scripts_from : Items → Option (List PlanScript)
scripts_from no_items = Some []
scripts_from (item d ds) = do
  script ← script_of d
  scripts ← scripts_from ds
  Some (script ∷ scripts)

-- a list of scripts
abbrev pub scripts_listed : Data → Option (List PlanScript)
scripts_listed d = option_and_then scripts_from (as_array d)
