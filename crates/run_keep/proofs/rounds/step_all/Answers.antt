use Rattle.std.proofs.Common.{◌≡◌, ◌∙◌, arith, None, Some}
use Rattle.run_keep.proofs.RoundLemmas.{steps_more}
use Rattle.run_keep.proofs.rounds.step_all.Goals as goal

pub loop-preserved : goal.loop-preserved
loop-preserved g c =
    let e = c.in-Ok-None.ensures in record {
      steps = steps_more g.K.Ticker.has_told c.args.ticker.now c.loop.ticker c.step_on.new.ticker None
          c.args.receipts.now c.loop.receipts c.step_on.new.receipts c.loop.invariant.steps
          (rw c.in-Ok-None.field-0-is at e.steps);
      counted = omega (arith, c.loop.invariant.counted, e.counted);
      parts = e.parts ∙ c.loop.invariant.parts;
    }

pub returns-in-Ok-Some-clause-steps : goal.returns-in-Ok-Some-clause-steps
returns-in-Ok-Some-clause-steps g c =
    steps_more g.K.Ticker.has_told c.args.ticker.now c.loop.ticker c.step_on.new.ticker (Some c.in-Ok-Some.refusal)
    c.args.receipts.now c.loop.receipts c.step_on.new.receipts c.loop.invariant.steps
    (rw c.in-Ok-Some.field-0-is at c.in-Ok-Some.ensures.steps)
