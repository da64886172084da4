-- How many turns a unit of a generated run may still take, and what holds of it.
use Rattle.std.proofs.Common.{◌≡◌, ℕ, ◌+◌, ◌-◌, ◌*◌, ◌<◌, ◌≤◌, List, [], ◌∷◌, length, Bool, true, false, Option}
use Rattle.std.proofs.Common.{Some, None, option_to_list}
use Rattle.std.specs.Prelude.{⊤}
use Rattle.run_capture.specs.Captured.{Captured, begun, with_end}
use Rattle.run_capture.specs.declared.test_output.ChildOutput.TheVariants as outputs
use Rattle.run_capture.specs.declared.test_output.Stream.TheVariants as streams
use Rattle.run_clock.specs.Sleep.{Sleep, fires_now}
use Rattle.run_events.specs.Usual.{usual_slow}
use Rattle.run_events.specs.declared.request.Request.{Request}
use Rattle.run_events.specs.declared.request.Request.TheVariants.{OtherCancel}
use Rattle.run_events.specs.declared.retry_policy.RetryPolicy.TheVariants.{Fixed}
use Rattle.run_model.specs.Backoff.{retry_count}
use Rattle.run_model.specs.Row.{Row}
use Rattle.run_model.specs.declared.phase.Phase.{Phase}
use Rattle.run_model.specs.declared.phase.Phase.TheVariants.{StartSent, Starting, Running, Grace, KillWait, Leak}
use Rattle.run_model.specs.declared.phase.Phase.TheVariants.{EnvWait, Deciding, Delay, RetrySent}
use Rattle.run_model.specs.declared.unit_view.AttemptTerms.{AttemptTerms}
use Rattle.run_model.specs.declared.unit_view.CapturedStreams.TheVariants as captured
use Rattle.run_model.specs.declared.unit_view.UnitView.{UnitView}

-- the terms of a test of a generated plan
pub record IsPlain (terms : AttemptTerms) : Type 0 where
  pub retries : ℕ
  pub is_fixed : terms.retries ≡ Fixed retries 0 false
  pub once : retries ≤ 1
  pub streams : terms.streams ≡ captured.Combined
  pub slow : terms.slow ≡ usual_slow
  pub reads_env : terms.reads_env ≡ false

-- what was captured of its child, before and after its stream has ended
abbrev pub caught : Bool → Captured
caught false = begun (outputs.Combined [])
caught true = with_end (begun (outputs.Combined [])) streams.Combined

-- its slow timer isn't due within a minute from the beginning of the run
abbrev pub IsFarOff : Option Sleep → Type 0
IsFarOff timer = (now : ℕ) → now < 60000000000 → fires_now now timer ≡ false

-- how a unit stands in its phase, where its child's stream has ended or not
abbrev pub StandsIn : ℕ → Bool → Phase → UnitView → Type 0
StandsIn now ended Starting u = u.capture ≡ caught false
StandsIn now ended Running u = (u.capture ≡ caught ended) × IsFarOff u.timers.slow
StandsIn now ended Delay u = fires_now now u.timers.wait ≡ true
StandsIn now ended Grace u = ⊥
StandsIn now ended KillWait u = ⊥
StandsIn now ended Leak u = ⊥
StandsIn now ended EnvWait u = ⊥
StandsIn now ended _ u = ⊤

-- a line of requests that cancel a run, and ask nothing of a child
abbrev pub AreCancels : List Request → Type 0
AreCancels [] = ⊤
AreCancels (request ∷ line) = (request ≡ OtherCancel) × AreCancels line

-- a unit stands as a generated run leaves it
pub record IsEasy (now : ℕ) (ended : Bool) (u : UnitView) : Type 0 where
  pub stands : StandsIn now ended u.phase u
  pub line : AreCancels u.line

-- how many turns may come of a unit in a phase, in this attempt with so many retries, messages among them; the clock's
-- counts as twenty
abbrev pub weight_at : Phase → ℕ → ℕ → ℕ
weight_at StartSent retries attempt = 25 + 27 * (retries + 1 - attempt)
weight_at Starting retries attempt = 25 + 27 * (retries + 1 - attempt)
weight_at Running retries attempt = 24 + 27 * (retries + 1 - attempt)
weight_at Deciding retries attempt = 2 + 27 * (retries + 1 - attempt)
weight_at Delay retries attempt = 27 + 27 * (retries - attempt)
weight_at RetrySent retries attempt = 25 + 27 * (retries - attempt)
weight_at _ retries attempt = 0

-- with the requests in its line
abbrev pub weight_in : Phase → UnitView → ℕ
weight_in ph u = weight_at ph (retry_count u.terms.retries) u.attempt + length u.line

-- of a unit that was not admitted: all attempts, its admission and its first message
abbrev pub weight : Option UnitView → ℕ
weight None = 54
weight (Some u) = weight_in u.phase u

-- a row lessens the weight of its unit by this number and one for each message
pub record Lessens (now : ℕ) (ended : Bool) (ph : Phase) (u : UnitView) (by : ℕ) (row : Row) : Type 0 where
  pub less : weight (Some row.next) + length (option_to_list row.sent) + by ≤ weight_in ph u
  pub easy : IsEasy now ended row.next
