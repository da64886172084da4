use Rattle.run_model.specs.Turns.{ends_at}
use Rattle.run_state.proofs.RoundLemmas.{asks_kept, end_opens, end_own, holders_kept}
use Rattle.run_state.proofs.run_turns.end.Goals as goal

pub invariant_of-state-2 : goal.invariant_of-state-2
invariant_of-state-2 c =
    let d = c.state.inside.dispatcher in
    let now = c.state.inside.clock in
    let own = end_own now d d.head.stress in (
      c.state.invariant.0,
      holders_kept now d c.end.new.self (ends_at now d) c.state.inside.units c.state.inside.holders c.state.invariant.1
          c.in_ok-effects.ensures.does.after
          (asks_kept now d (ends_at now d) (end_opens now d d.head.stress) own.closes own.begins),
      c.state.invariant.2,
    )
