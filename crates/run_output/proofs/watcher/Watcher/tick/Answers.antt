use Rattle.run_output.proofs.ShownLemmas.{tick_passed}
use Rattle.run_output.proofs.watcher.Watcher.tick.Goals as goal

pub returns-clause-ok : goal.returns-clause-ok
returns-clause-ok c = λ w is.
    let text = c.in_ok-line.ensures.ok w is in
    (text.0, tick_passed c.text.new.self w c.next_tick-self.result text.1 c.next_tick-self.ensures)
