-- Whose children have a group of processes of their own.
use Rattle.std.specs.Prelude.{ℕ, ◌≡◌, ◌||◌, List, Bool, true, false, Option, Some, None, IfSome}
use Rattle.std.specs.List.{All}
use Rattle.run_commands.specs.declared.interceptor.Interceptor.{Interceptor}
use Rattle.run_commands.specs.declared.interceptor.Interceptor.TheVariants as under
use Rattle.run_events.specs.declared.ask.Ask.{Ask}
use Rattle.run_events.specs.declared.ask.Ask.TheVariants.{Start, Signal, StopSelf}
use Rattle.run_events.specs.declared.settings.Settings.{Settings}
use Rattle.run_model.specs.declared.entry.Entry.{Entry}
use Rattle.run_model.specs.Admission.{is_script}
use Rattle.run_model.specs.Journal.{IsLegal, past_of}
use Rattle.run_model.specs.Words.{asked, sub_run}

-- the child of a test has a group of its own, but not under a debugger
abbrev pub test_group : Interceptor → Bool
test_group under.None = true
test_group (under.Debugger words) = false
test_group (under.Tracer words) = true

-- the child of a script always has one
abbrev pub group_by : Settings → ℕ → Bool
group_by p k = is_script p k || test_group p.interceptor

-- whose child an ask is for, and whether it says that this has a group of its own
abbrev pub group_asked : Ask → Option (ℕ × Bool)
group_asked (Start ask) = Some (ask.unit, ask.group)
group_asked (Signal ask) = Some (ask.unit, ask.group)
group_asked StopSelf = None

-- a start makes it with its group, and a signal goes to all of that
abbrev pub IsOfItsGroup : Settings → Ask → Type 0
IsOfItsGroup p ask = IfSome (group_asked ask) (λ asked. asked.1 ≡ group_by p asked.0)

-- that holds of each ask in the newest sub-run after every legal journal
abbrev pub SignalsGoToGroups : Type 0
SignalsGoToGroups = (p : Settings) (journal : List Entry) → IsLegal p journal
    → All (λ asked. IsOfItsGroup p asked.1) (asked (sub_run (past_of p journal)))
