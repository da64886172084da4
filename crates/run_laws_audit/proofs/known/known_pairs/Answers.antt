use Rattle.std.proofs.Common.{IsUtf8, arith}
use Rattle.run_laws_audit.proofs.PlainLemmas.{all_gone, one_more}
use Rattle.run_laws_audit.proofs.known.known_pairs.Goals as goal

pub loop-pair-preserved : goal.loop-pair-preserved
loop-pair-preserved c =
    one_more (λ two. IsUtf8 two.0 × IsUtf8 two.1) c.args.pairs.now c.loop-pair.pair-index c.pair-item.result
    c.loop-pair-test.true c.pair-item.is c.loop-pair.invariant
    (c.known_text.ensures, c.known_text-in-loop-pair.ensures)

pub returns : goal.returns
returns c = all_gone (λ two. IsUtf8 two.0 × IsUtf8 two.1) c.args.pairs.now c.loop-pair.pair-index (omega arith)
    c.loop-pair.invariant
