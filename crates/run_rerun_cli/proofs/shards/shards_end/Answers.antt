use Rattle.std.proofs.Common.{◌<◌, ◌∙◌, List, length, map, string_bytes, IfOk, IsSome, arith, subst, sym}
use Rattle.std.specs.List.{All}
use Rattle.std.proofs.lemmas.List.{length-map}
use Rattle.run_input.specs.Input.{plan_line_of}
use Rattle.run_rerun.specs.declared.answers.StoredRun.{StoredRun}
use Rattle.run_rerun_cli.specs.ShardEnds.{SaysEnd}
use Rattle.run_rerun_cli.specs.Shelves.{doing_of, shelf_of}
use Rattle.run_rerun_cli.proofs.ChainLemmas.{as_many, lines_say}
use Rattle.run_rerun_cli.proofs.ShardEndLemmas.{ends_so}
use Rattle.run_rerun_cli.proofs.shards.shards_end.Goals as goal

pub end_of-requires-clause-some : goal.end_of-requires-clause-some
end_of-requires-clause-some g c =
    let names = map (λ w. string_bytes w) c.args.names.now in
    let s = shelf_of g.T.Stores c.args.stores.now c.read_chain.new.stores in
    subst (λ (runs : List StoredRun). 0 < length runs) (sym c.as_slice.ensures)
    (omega (
      arith,
      as_many s.bytes names c.in-Ok.runs c.in-Ok.ensures.says.0,
      length-map c.args.names.now (λ w. string_bytes w),
    ))

pub end_of-requires-clause-lines : goal.end_of-requires-clause-lines
end_of-requires-clause-lines g c =
    let names = map (λ w. string_bytes w) c.args.names.now in
    let s = shelf_of g.T.Stores c.args.stores.now c.read_chain.new.stores in
    subst (All (λ (run : StoredRun). IsSome (plan_line_of run.line))) (sym c.as_slice.ensures)
    (lines_say s.bytes names c.in-Ok.runs c.in-Ok.ensures.says.0)

pub returns-in-Ok-clause-says : goal.returns-in-Ok-clause-says
returns-in-Ok-clause-says g c =
    let now = c.args.stores.now in
    let end = c.read_chain.new.stores in
    let names = map (λ w. string_bytes w) c.args.names.now in
    ends_so names (shelf_of g.T.Stores now end) (doing_of g.T.Stores now end) c.in-Ok.runs c.end_of.result
    c.in-Ok.ensures.says (subst (λ runs. IfOk c.end_of.result (SaysEnd runs)) c.as_slice.ensures c.end_of.ensures)
