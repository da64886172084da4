use Rattle.std.proofs.Common.{◌≡◌, ◌∙◌, List, map, string_bytes, Err, sym, subst}
use Rattle.run_rerun_cli.specs.declared.chain.ChainError.{ChainError}
use Rattle.run_rerun_cli.specs.Reads.{ReadsChain}
use Rattle.run_rerun_cli.specs.Shelves.{doing_of, shelf_of}
use Rattle.run_rerun_cli.proofs.ChainLemmas.{item_at, reads_fault, reads_next}
use Rattle.run_rerun_cli.proofs.chain.read_chain.Goals as goal

pub loop-store-preserved : goal.loop-store-preserved
loop-store-preserved g c =
    let l = c.loop-store in
    let a = c.in-Ok.ensures in
    let names = map (λ w. string_bytes w) c.args.names.now in
    let name = c.as_str.result.now in
    record {
      read = reads_next g.T.Stores c.args.stores.now l.stores c.take_store.new.stores names l.store name l.runs
          c.take_store.new.runs l.invariant.read (l.invariant.same name)
          (item_at (λ w. string_bytes w) c.args.names.now l.store c.index-names-store.result name
          c.loop-store-test.true c.index-names-store.is c.as_str.ensures.value) a.says a.fault a.did;
      same = λ n. a.same n ∙ l.invariant.same n;
    }

pub returns-in-Err-clause-says : goal.returns-in-Err-clause-says
returns-in-Err-clause-says g c =
    let l = c.loop-store in
    let a = c.in-Err.ensures in
    let t = g.T.Stores in
    let now = c.args.stores.now in
    let end = c.take_store.new.stores in
    let names = map (λ w. string_bytes w) c.args.names.now in
    let name = c.as_str.result.now in
    subst (λ (e : ChainError). ReadsChain names (shelf_of t now end) (doing_of t now end) (Err e))
    (sym c.error_at.ensures)
    (reads_fault t now l.stores end names l.store name l.runs c.in-Err.error l.invariant.read (l.invariant.same name)
    (item_at (λ w. string_bytes w) c.args.names.now l.store c.index-names-store.result name c.loop-store-test.true
    c.index-names-store.is c.as_str.ensures.value) a.says a.fault a.did)
