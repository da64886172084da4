-- Why a run takes no turn.
use Rattle.std.specs.Prelude.{◌≡◌, ◌<◌, length, Bool, true, false, ⊤}
use Rattle.run_events.specs.declared.turn.Turn.{Turn}
use Rattle.run_events.specs.declared.settings.Settings.{Settings}
use Rattle.run_model.specs.Board.{Board}
use Rattle.run_model.specs.Turns.{enabled, enabled_on, is_third_signal}
use Rattle.run_laws.specs.Course.{is_third_after}
use Rattle.run_engine.specs.World.{World, history_of}
use Rattle.run_engine.specs.declared.errors.StepError.{StepError}
use Rattle.run_engine.specs.declared.errors.StepError.TheVariants.{NotEnabled, ThirdSignal, Full, OutOfMemory}

-- a turn isn't enabled in a run, and is a third signal or not
abbrev pub IsNotTaken : World → Turn → Bool → Type 0
IsNotTaken w turn third = (enabled w.settings (history_of w) turn ≡ false)
    × (is_third_after w.settings (history_of w) turn ≡ third)

-- a turn is refused because the journal is full, or has room and the turn isn't enabled after it; want of memory has no
-- cause here
abbrev pub IsRefused : World → Turn → StepError → Type 0
IsRefused w turn NotEnabled = (length w.journal < 4294967295) × IsNotTaken w turn false
IsRefused w turn ThirdSignal = (length w.journal < 4294967295) × IsNotTaken w turn true
IsRefused w turn Full = length w.journal ≡ 4294967295
IsRefused w turn OutOfMemory = ⊤

-- the same on a run's board, whose journal has room: memory is wanting only in a run that isn't over
abbrev pub IsNotNamed : Settings → Board → Turn → StepError → Type 0
IsNotNamed p b turn NotEnabled = (enabled_on p b turn ≡ false) × (is_third_signal b turn ≡ false)
IsNotNamed p b turn ThirdSignal = (enabled_on p b turn ≡ false) × (is_third_signal b turn ≡ true)
IsNotNamed p b turn Full = ⊥
IsNotNamed p b turn OutOfMemory = b.dispatcher.over ≡ false

-- a fact that holds unless memory was wanting
abbrev pub IfNotMemory : StepError → Type 0 → Type 0
IfNotMemory NotEnabled fact = fact
IfNotMemory ThirdSignal fact = fact
IfNotMemory Full fact = fact
IfNotMemory OutOfMemory fact = ⊤
