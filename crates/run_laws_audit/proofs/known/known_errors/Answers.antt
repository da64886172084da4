use Rattle.std.proofs.Common.{IsUtf8, arith}
use Rattle.run_output.specs.Errors.{error_text}
use Rattle.run_laws_audit.proofs.PlainLemmas.{all_gone, one_more}
use Rattle.run_laws_audit.proofs.known.known_errors.Goals as goal

pub loop-error-preserved : goal.loop-error-preserved
loop-error-preserved c =
    one_more (λ error. IsUtf8 (error_text error)) c.args.errors.now c.loop-error.error-index c.error-item.result
    c.loop-error-test.true c.error-item.is c.loop-error.invariant
    c.known_error.ensures

pub returns : goal.returns
returns c = all_gone (λ error. IsUtf8 (error_text error)) c.args.errors.now c.loop-error.error-index (omega arith)
    c.loop-error.invariant
