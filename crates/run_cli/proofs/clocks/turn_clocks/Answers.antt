use Rattle.std.proofs.Common.{◌∙◌}
use Rattle.run_cli.proofs.ClockLemmas.{one_more_turn, by_tick, by_move, by_other}
use Rattle.run_cli.proofs.clocks.turn_clocks.Goals as goal
use Rattle.run_cli.proofs.clocks.turn_clocks.Goals.{in-Tick+in_ok-push-in-Tick, in-Clock, in_default}

pub loop-turn-preserved : goal.loop-turn-preserved
loop-turn-preserved c =
    let turn = c.turn-item.result in
    let clocks = c.loop-turn.clocks in
    let now = c.loop-turn.now in
    one_more_turn c.args.turns.now c.loop-turn.turn-index turn clocks c.match-turn.clocks now c.match-turn.now
    c.loop-turn-test.true c.turn-item.is c.loop-turn.invariant (λ below.
    elim c.match-turn.branch [
      | in-Tick+in_ok-push-in-Tick w ↦ let step = by_tick turn clocks now w.in-Tick.is below in
          (w.clocks-is ∙ w.in_ok-push-in-Tick.ensures.ok ∙ step.0, w.now-is ∙ step.1)
      | in-Clock w ↦ let step = by_move turn clocks now w.in-Clock.ns w.in-Clock.is in
          (w.clocks-is ∙ step.0, w.now-is ∙ w.saturating_add-now.ensures ∙ step.1)
      | in_default w ↦ let step = by_other turn clocks now below w.in_default.not-Tick w.in_default.not-Clock in
          (w.clocks-is ∙ step.0, w.now-is ∙ step.1)
    ])
