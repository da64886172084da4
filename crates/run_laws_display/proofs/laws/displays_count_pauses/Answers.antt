use Rattle.std.proofs.Common.{◌∙◌, reverse}
use Rattle.run_model.specs.Journal.{past_of}
use Rattle.run_model.specs.Words.{told}
use Rattle.run_laws_display.specs.Displays.{events_heard}
use Rattle.run_laws_display.proofs.HiddenLemmas.{pause_is}
use Rattle.run_laws_display.proofs.OffsetLemmas.{offset_is, paused-seen}
use Rattle.run_laws_display.proofs.laws.displays_count_pauses.Goals as goal

pub returns-clause-counts : goal.returns-clause-counts
returns-clause-counts c = λ p journal max legal goes.
    paused-seen max (events_heard (told (past_of p journal))) ∙ offset_is p (reverse journal) legal goes

pub returns-clause-hides : goal.returns-clause-hides
returns-clause-hides c = λ p journal legal. pause_is p (reverse journal) legal
