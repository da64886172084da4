use Rattle.std.proofs.Common.{rules, ◌≡◌, ◌++◌, ◌-◌, slice_range, subst}
use Rattle.hex.specs.Hex.{encode_lower}
use Rattle.run_capture.specs.Bytes.{Takes}
use Rattle.run_output.proofs.WrittenLemmas.{at_err, TookPart, front_text, fronts_more, fronts_part, long_here}
use Rattle.run_output.proofs.line.write_fronts.Goals as goal

pub returns-in_err-write_front-clause-err : goal.returns-in_err-write_front-clause-err
returns-in_err-write_front-clause-err g c =
    let l = c.loop-text in
    let front = c.loop-text-item.result in
    let same : slice_range c.deref.result.now l.start (c.len.result - 1) ++ encode_lower c.as_slice.result.now
    ≡ front_text l.start front = search rules in
    at_err _ c.from_residual.ensures.0 (fronts_part _ _ _ c.args.fronts.now l.start l.text-index front
    (search rules) c.loop-text-item.is l.invariant.taken
    (subst (TookPart (g.K.Sink.taken l.sink) (g.K.Sink.taken c.write_front.new.sink)) same
    c.in_err-write_front.ensures.err))

pub loop-text-preserved : goal.loop-text-preserved
loop-text-preserved g c =
    let l = c.loop-text in
    let front = c.loop-text-item.result in
    let same : slice_range c.deref.result.now l.start (c.len.result - 1) ++ encode_lower c.as_slice.result.now
    ≡ front_text l.start front = search rules in
    record {
      long = (long_here c.args.fronts.now l.start l.text-index front (search rules) c.loop-text-item.is
          l.invariant.long).1;
      taken = fronts_more _ _ _ c.args.fronts.now l.start l.text-index front
          (search rules) c.loop-text-item.is l.invariant.taken
          (subst (Takes (g.K.Sink.taken l.sink) (g.K.Sink.taken c.write_front.new.sink)) same
          c.in_ok-write_front.ensures.ok);
      faults = search rules;
    }
