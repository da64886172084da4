use Rattle.std.proofs.Common.{sym, subst}
use Rattle.std.specs.Prelude.{IfSome}
use Rattle.run_cli.specs.Call.{writing_of, then_writing}
use Rattle.run_cli.specs.Live.{IsRunEnd}
use Rattle.run_cli.specs.Lived.{HasWrittenRefused, EndsAtReceipt}
use Rattle.run_output.specs.Asks.{ask_lines}
use Rattle.run_cli.proofs.GivenUpLemmas.{refused_ends}
use Rattle.run_cli.proofs.live.end_refused.Goals as goal

pub returns : goal.returns
returns g c = λ p w n on from unclosed x.
    let end = c.refusal_after in
    let v = writing_of g.K.Sink c.args.sink end.result.1 in
    let error = c.in-Some.error in
    let refused = subst (λ e. IfSome e (λ e. HasWrittenRefused p w n c.args.live.journal c.args.asks e.kind))
    c.in-Some.is x in
    let ends = subst (λ asks. EndsAtReceipt v (ask_lines asks) error.kind end.result.0) c.asks.ensures
    (subst (λ kind. EndsAtReceipt v (ask_lines c.asks.result.now) kind end.result.0) c.kind.ensures end.ensures) in
    subst (λ kept. IsRunEnd g.W.Spawner.has_said p (then_writing w v) kept end.result.0)
    (sym c.kept_unless_short.ensures)
    (refused_ends g.W.Spawner.has_said p w v n c.args.live c.args.asks error end.result.0 on from unclosed c.in-Some.is
    refused ends)
