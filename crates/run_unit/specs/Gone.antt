-- A unit that is over and of which nothing is kept.
use Rattle.std.specs.Prelude.{[], None, Bool, false, not, ◌&&◌}
use Rattle.run_events.specs.Usual.{usual_slow, usual_leak, no_retries}
use Rattle.run_events.specs.declared.result.FlakyResult.TheVariants as flaky
use Rattle.run_events.specs.declared.retry_policy.RunMode.TheVariants as modes
use Rattle.run_model.specs.declared.phase.Phase.TheVariants.{Over}
use Rattle.run_model.specs.declared.unit_view.AttemptTerms.{AttemptTerms}
use Rattle.run_model.specs.declared.unit_view.CapturedStreams.TheVariants.{Apart}
use Rattle.run_model.specs.declared.unit_view.Surroundings.{Surroundings}
use Rattle.run_model.specs.declared.unit_view.UnitRole.{UnitRole}
use Rattle.run_model.specs.declared.unit_view.UnitRole.TheVariants as roles
use Rattle.run_model.specs.declared.unit_view.UnitView.{UnitView}
use Rattle.run_model.specs.Admission.{begun_view, global_slot, is_last}
use Rattle.run_model.specs.Requests.{has_request}

-- a test of no name
abbrev pub no_role : UnitRole
no_role = roles.Test (record {
  test = record { unit = 0; id = record { binary = []; name = [] }; stress_index = None };
  slot = global_slot 0;
  flaky = flaky.Pass;
  handed = [];
})

-- a run of no name, under no interceptor
abbrev pub no_surroundings : Surroundings
no_surroundings = record {
  run = record { run_id = []; mode = modes.Test; threads = 0; workspace_root = []; versions = [] };
  wrapper = [];
  group = false;
  stdin = false;
}

-- the terms of a usual test, of which no stream is captured
abbrev pub usual_terms : AttemptTerms
usual_terms = record {
  streams = Apart false false;
  slow = usual_slow;
  leak = usual_leak;
  disables_timeouts = false;
  skips_leak_detection = false;
  reads_env = false;
  retries = no_retries;
  stops = false;
}

-- a test that is over, and all else of which was forgotten
abbrev pub gone : UnitView
gone = record (begun_view no_role [] no_surroundings usual_terms) { phase = Over }

-- whether a unit is over and no request waits for it, so that it can be forgotten
abbrev pub is_spent : UnitView → Bool
is_spent u = is_last u.phase && not (has_request u.line)
