-- A terminal's own progress.
use Rattle.std.specs.Prelude.{ℕ, ◌||◌, if◌then◌else◌, List, [], ◌∷◌, ◌++◌, is_some, codes, decimal}
use Rattle.run_events.specs.declared.stats.RunStats.{RunStats}
use Rattle.run_events.specs.declared.events.TestEventKind.{TestEventKind}
use Rattle.run_events.specs.declared.events.TestEventKind.TheVariants as kinds
use Rattle.run_events.specs.Outcome.{has_failures}
use Rattle.run_progress.specs.declared.terminal.TermProgress.{TermProgress}
use Rattle.run_progress.specs.declared.terminal.TermProgress.TheVariants as term
use Rattle.run_progress.specs.Percent.{percent_of}

-- between the escape character with `]9;4;` and the escape character with a backslash
abbrev pub escaped : List ℕ → List ℕ
escaped text = 27 ∷ (codes "]9;4;" ++ (text ++ (27 ∷ 92 ∷ [])))

-- as it prints
abbrev pub term_text : TermProgress → List ℕ
term_text (term.Running percent) = escaped (codes "1;" ++ decimal percent)
term_text (term.Errored percent) = escaped (codes "2;" ++ decimal percent)
term_text term.Remove = escaped (codes "0;")
term_text term.None = []

-- how much of the run is done
abbrev pub done_percent : RunStats → ℕ
done_percent stats = percent_of stats.finished_count stats.initial_run_count

-- errored where there are failures or a reason to cancel, else running
abbrev pub by_stats : RunStats → TermProgress
by_stats stats = if has_failures stats || is_some stats.cancel_reason
    then term.Errored (done_percent stats) else term.Running (done_percent stats)

-- what each event makes of it
abbrev pub term_progress : TestEventKind → TermProgress
term_progress (kinds.TestStarted e) = by_stats e.stats
term_progress (kinds.TestFinished e) = by_stats e.stats
term_progress (kinds.RunBeginCancel e) = term.Errored (done_percent e.stats)
term_progress (kinds.RunBeginKill e) = term.Errored (done_percent e.stats)
term_progress (kinds.RunPaused e) = term.Remove
term_progress (kinds.RunContinued e) = term.Remove
term_progress (kinds.RunFinished e) = term.Remove
term_progress _ = term.None
