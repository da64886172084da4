use Rattle.std.proofs.Common.{◌++◌, take, arith, length-append, length-take}
use Rattle.std.proofs.lemmas.Result.{err_from_is_err_and}
use Rattle.run_capture.proofs.BytesLemmas.{gives_both}
use Rattle.run_capture.proofs.reading.read_to_end.Goals as goal

pub returns-in_err-extend_from_slice-clause-refused :
    goal.returns-in_err-extend_from_slice-clause-refused
returns-in_err-extend_from_slice-clause-refused g c =
    let out = c.from_residual-in_err-extend_from_slice in
    let p = err_from_is_err_and out.result out.ensures.1 in
    rw (p.1, p.2) (
      c.chunks.bytes ++ take c.in_ok-count.count c.read.new.buf,
      gives_both _ _ _ _ _ c.chunks.invariant.given c.in_ok-count.ensures.given,
      omega (
        arith,
        length-append c.chunks.bytes (take c.in_ok-count.count c.read.new.buf),
        length-take c.in_ok-count.count c.read.new.buf,
        c.len.ensures,
        c.chunks-test.true,
        c.in_ok-count.ensures.within,
        c.read.auto.buf,
      ),
    )
