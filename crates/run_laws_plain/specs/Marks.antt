-- Pauses of a unit's timers, as plain data.
use Rattle.std.specs.Prelude.{ℕ, ◌-◌, ◌^◌, min, List, Bool, Option}
use Rattle.run_clock.specs.Counted.{Act as Defined, pause, resume}
use Rattle.run_events.specs.declared.plan.SlowTimeout.{SlowTimeout}
use Rattle.run_events.specs.declared.result.ExecuteStatus.{ExecuteStatus}
use Rattle.run_model.specs.Story.{OwnTurn}
use Rattle.run_model.specs.Timing.{begins_grace, ends_wait, sets_slow}
use Rattle.run_laws_plain.specs.declared.pauses.Act.{Act}
use Rattle.run_laws_plain.specs.declared.pauses.Act.TheVariants.{Pause, Resume}
use Rattle.run_laws_plain.specs.declared.timing.Sets.{Sets}
use Rattle.run_laws_plain.specs.declared.timing.Sets.TheVariants.{Slow, Grace, Leak}

-- what is done to a timer
abbrev pub act_as : Act → Defined
act_as Pause = pause
act_as Resume = resume

-- which turns set a timer: until it is slow; until its time to end by itself is over; until its streams are waited for
-- no more
abbrev pub sets_by : Sets → SlowTimeout → OwnTurn → List OwnTurn → Bool
sets_by Slow slow = sets_slow slow
sets_by Grace slow = begins_grace slow
sets_by Leak slow = λ t before. ends_wait t.turn

-- a time as a u64, which is at most its greatest
abbrev pub at_most : ℕ → ℕ
at_most time = min time (2 ^ 64 - 1)

abbrev pub with_time : ExecuteStatus → ExecuteStatus
with_time s = record s { time = at_most s.time }
