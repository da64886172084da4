use Rattle.run_keep.proofs.RoundLemmas.{ticks_all}
use Rattle.run_keep.proofs.threads.tick_rounds.Goals as goal

pub returns-clause-ticks : goal.returns-clause-ticks
returns-clause-ticks g c =
    ticks_all g.T.Ticker.has_told c.args.ticker.now c.step_all.new.ticker c.args.first _ c.in-Ok.ensures.steps
