use Rattle.std.proofs.Common.{◌≡◌, sym, ap, ◌∙◌, subst}
use Rattle.run_cli.specs.Live.{AnswersLive, is_unbegun}
use Rattle.run_cli.proofs.LiveCauses.{answers_live}
use Rattle.run_cli.proofs.top.lived.Goals as goal

pub returns-clause-says : goal.returns-clause-says
returns-clause-says g c = λ words word.
    let end = c.live_to_end-ending in
    subst (AnswersLive g.H.Worker.Spawner.has_said _ end.result.live) (sym c.status.ensures)
    (answers_live g.H.Worker.Spawner.has_said _ end.result.live end.result.ending (end.ensures.says words word)
    end.ensures.counted)

pub returns-clause-unused : goal.returns-clause-unused
returns-clause-unused g c = λ unbegun.
    c.live_to_end-ending.ensures.unused (ap is_unbegun (sym c.status.ensures) ∙ unbegun)
