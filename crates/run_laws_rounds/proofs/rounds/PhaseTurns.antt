-- Which turns a unit takes in which phase.
use Rattle.std.proofs.Common.{◌≡◌, ℕ, ◌&&◌, ◌||◌, List, Bool, true, false}
use Rattle.std.proofs.Common.{refl}
use Rattle.run_capture.specs.declared.test_output.Stream.{Stream}
use Rattle.run_commands.specs.declared.script_helpers.EnvInput.{EnvInput}
use Rattle.run_events.specs.declared.result.ChildExit.{ChildExit}
use Rattle.run_model.specs.declared.phase.Phase.{Phase}
use Rattle.run_model.specs.declared.phase.Phase.TheVariants.{StartSent, Starting, Running, Grace, KillWait, Leak}
use Rattle.run_model.specs.declared.phase.Phase.TheVariants.{EnvWait, Deciding, Delay, RetrySent, Over}
use Rattle.run_model.specs.declared.unit_turn.UnitTurn.TheVariants.{Started, StartFailed, Exit, WaitFailed, Piece}
use Rattle.run_model.specs.declared.unit_turn.UnitTurn.TheVariants.{StreamEnd, ReadError, Env, Take, Decide}
use Rattle.run_model.specs.declared.unit_view.UnitView.{UnitView}
use Rattle.run_model.specs.Unit.{takes_at, hears}
use Rattle.run_capture.specs.Captured.{takes as takes_stream}
use Rattle.run_model.specs.Requests.{has_request}

-- in which phases which turns are taken
abbrev pub is_starting : Phase → Bool
is_starting Starting = true
is_starting ph = false

abbrev pub is_waiting : Phase → Bool
is_waiting Running = true
is_waiting Grace = true
is_waiting KillWait = true
is_waiting ph = false

abbrev pub is_hearing : Phase → Bool
is_hearing Running = true
is_hearing Grace = true
is_hearing Leak = true
is_hearing ph = false

abbrev pub is_reading : Phase → Bool
is_reading EnvWait = true
is_reading ph = false

abbrev pub is_deciding : Phase → Bool
is_deciding Deciding = true
is_deciding ph = false

abbrev pub is_delaying : Phase → Bool
is_delaying Delay = true
is_delaying ph = false

pub record TakesIn (now : ℕ) (ph : Phase) (u : UnitView) : Type 0 where
  pub started : (pid : ℕ) → takes_at now ph u (Started pid) ≡ is_starting ph
  pub failed : (error : List ℕ) → takes_at now ph u (StartFailed error) ≡ is_starting ph
  pub exit : (exit : ChildExit) → takes_at now ph u (Exit exit) ≡ is_waiting ph
  pub wait : (error : List ℕ) → takes_at now ph u (WaitFailed error) ≡ is_waiting ph
  pub piece : (stream : Stream) (bytes : List ℕ)
      → takes_at now ph u (Piece stream bytes) ≡ (is_hearing ph && hears u.capture (Piece stream bytes))
  pub end : (stream : Stream) → takes_at now ph u (StreamEnd stream) ≡ (is_hearing ph && takes_stream u.capture stream)
  pub error : (stream : Stream) (error : List ℕ)
      → takes_at now ph u (ReadError stream error) ≡ (is_hearing ph && takes_stream u.capture stream)
  pub env : (input : EnvInput) → takes_at now ph u (Env input) ≡ is_reading ph
  pub decide : (word : ℕ) → takes_at now ph u (Decide word) ≡ is_deciding ph
  pub take : takes_at now ph u Take ≡ ((is_hearing ph || is_delaying ph) && has_request u.line)

pub takes_in : (now : ℕ) (ph : Phase) (u : UnitView) → TakesIn now ph u
takes_in now StartSent u = record {
  started = λ pid. refl;
  failed = λ error. refl;
  exit = λ exit. refl;
  wait = λ error. refl;
  piece = λ stream bytes. refl;
  end = λ stream. refl;
  error = λ stream error. refl;
  env = λ input. refl;
  decide = λ word. refl;
  take = refl;
}
takes_in now Starting u = record {
  started = λ pid. refl;
  failed = λ error. refl;
  exit = λ exit. refl;
  wait = λ error. refl;
  piece = λ stream bytes. refl;
  end = λ stream. refl;
  error = λ stream error. refl;
  env = λ input. refl;
  decide = λ word. refl;
  take = refl;
}
takes_in now Running u = record {
  started = λ pid. refl;
  failed = λ error. refl;
  exit = λ exit. refl;
  wait = λ error. refl;
  piece = λ stream bytes. refl;
  end = λ stream. refl;
  error = λ stream error. refl;
  env = λ input. refl;
  decide = λ word. refl;
  take = refl;
}
takes_in now Grace u = record {
  started = λ pid. refl;
  failed = λ error. refl;
  exit = λ exit. refl;
  wait = λ error. refl;
  piece = λ stream bytes. refl;
  end = λ stream. refl;
  error = λ stream error. refl;
  env = λ input. refl;
  decide = λ word. refl;
  take = refl;
}
takes_in now KillWait u = record {
  started = λ pid. refl;
  failed = λ error. refl;
  exit = λ exit. refl;
  wait = λ error. refl;
  piece = λ stream bytes. refl;
  end = λ stream. refl;
  error = λ stream error. refl;
  env = λ input. refl;
  decide = λ word. refl;
  take = refl;
}
takes_in now Leak u = record {
  started = λ pid. refl;
  failed = λ error. refl;
  exit = λ exit. refl;
  wait = λ error. refl;
  piece = λ stream bytes. refl;
  end = λ stream. refl;
  error = λ stream error. refl;
  env = λ input. refl;
  decide = λ word. refl;
  take = refl;
}
takes_in now EnvWait u = record {
  started = λ pid. refl;
  failed = λ error. refl;
  exit = λ exit. refl;
  wait = λ error. refl;
  piece = λ stream bytes. refl;
  end = λ stream. refl;
  error = λ stream error. refl;
  env = λ input. refl;
  decide = λ word. refl;
  take = refl;
}
takes_in now Deciding u = record {
  started = λ pid. refl;
  failed = λ error. refl;
  exit = λ exit. refl;
  wait = λ error. refl;
  piece = λ stream bytes. refl;
  end = λ stream. refl;
  error = λ stream error. refl;
  env = λ input. refl;
  decide = λ word. refl;
  take = refl;
}
takes_in now Delay u = record {
  started = λ pid. refl;
  failed = λ error. refl;
  exit = λ exit. refl;
  wait = λ error. refl;
  piece = λ stream bytes. refl;
  end = λ stream. refl;
  error = λ stream error. refl;
  env = λ input. refl;
  decide = λ word. refl;
  take = refl;
}
takes_in now RetrySent u = record {
  started = λ pid. refl;
  failed = λ error. refl;
  exit = λ exit. refl;
  wait = λ error. refl;
  piece = λ stream bytes. refl;
  end = λ stream. refl;
  error = λ stream error. refl;
  env = λ input. refl;
  decide = λ word. refl;
  take = refl;
}
takes_in now Over u = record {
  started = λ pid. refl;
  failed = λ error. refl;
  exit = λ exit. refl;
  wait = λ error. refl;
  piece = λ stream bytes. refl;
  end = λ stream. refl;
  error = λ stream error. refl;
  env = λ input. refl;
  decide = λ word. refl;
  take = refl;
}
