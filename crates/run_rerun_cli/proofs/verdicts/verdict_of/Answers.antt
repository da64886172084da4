use Rattle.std.proofs.Common.{map, string_bytes, IfOk, IsSome, arith, subst, sym}
use Rattle.std.proofs.lemmas.List.{length-map}
use Rattle.run_input.specs.Input.{plan_line_of}
use Rattle.run_rerun_cli.specs.Chains.{newest_line}
use Rattle.run_rerun_cli.specs.Comes.{LeavesTo}
use Rattle.run_rerun_cli.specs.Shelves.{doing_of, shelf_of}
use Rattle.run_rerun_cli.proofs.VerdictLemmas.{chain_says, comes_to}
use Rattle.run_rerun_cli.proofs.verdicts.verdict_of.Goals as goal

pub verdict_in-requires : goal.verdict_in-requires
verdict_in-requires g c =
    let now = c.args.stores.now in
    let end = c.read_chain.new.stores in
    let names = map (λ w. string_bytes w) c.args.names.now in
    subst (λ runs. IsSome (plan_line_of (newest_line runs))) (sym c.as_slice.ensures)
    (chain_says names (shelf_of g.T.Stores now end) (doing_of g.T.Stores now end) c.in-Ok.runs c.in-Ok.ensures.says
    (omega (arith, length-map c.args.names.now (λ w. string_bytes w))))

pub returns-in-Ok-clause-says : goal.returns-in-Ok-clause-says
returns-in-Ok-clause-says g c =
    let now = c.args.stores.now in
    let end = c.read_chain.new.stores in
    let names = map (λ w. string_bytes w) c.args.names.now in
    comes_to names (shelf_of g.T.Stores now end) (doing_of g.T.Stores now end) c.in-Ok.runs c.verdict_in.result
    c.in-Ok.ensures.says (subst (λ runs. IfOk c.verdict_in.result (LeavesTo runs)) c.as_slice.ensures
    c.verdict_in.ensures)
