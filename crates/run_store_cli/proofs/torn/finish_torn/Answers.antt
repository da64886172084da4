use Rattle.std.proofs.Common.{sym, ◌∙◌}
use Rattle.run_cli.specs.Call.{writing_of}
use Rattle.run_store_cli.proofs.TornLemmas.{torn_after, stopped_after}
use Rattle.run_store_cli.proofs.torn.finish_torn.Goals as goal

pub returns-in-None : goal.returns-in-None
returns-in-None g c = λ p turns w on from is x.
    let end = c.end_at_store in
    let v = writing_of g.K.Sink c.args.sink end.result.sink in
    torn_after p turns w v c.args.asks.now c.args.answer c.args.turns end.result.status
    (sym c.stop_of.ensures ∙ c.in-None.is) on from is x end.ensures

pub returns-in-Some : goal.returns-in-Some
returns-in-Some g c = λ p turns w on from is x.
    let end = c.end_at_fault-ending in
    let v = writing_of g.K.Sink c.args.sink end.result.sink in
    stopped_after p turns w v c.args.asks.now c.args.answer c.in-Some.fault end.result.ending c.status_of_ending.result
    (sym c.stop_of.ensures ∙ c.in-Some.is) on from x end.ensures c.status_of_ending.ensures
