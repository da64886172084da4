use Rattle.std.proofs.Common.{sym, subst}
use Rattle.run_laws.specs.Ready.{IsTimelyBoard}
use Rattle.run_state.specs.Held.{Held}
use Rattle.run_state.proofs.enabled.takes.Goals as goal

pub takes-takes-requires : goal.takes-takes-requires
takes-takes-requires c =
    let timely = subst (λ (h : Held). IsTimelyBoard h.board) (sym c.state.view_is) c.requires.timely in
    record { later = λ u is. timely.units c.args.unit u is }
