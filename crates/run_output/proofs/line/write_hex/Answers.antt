use Rattle.std.proofs.Common.{rules, ◌+◌, refl, arith, subst, sym}
use Rattle.run_capture.specs.Bytes.{Takes}
use Rattle.run_output.proofs.WrittenLemmas.{takes_none, at_err, encode-nil, hex_more, hex_part}
use Rattle.run_output.proofs.line.write_hex.Goals as goal

pub loop-at-init : goal.loop-at-init
loop-at-init g c =
    let sink = g.K.Sink.taken c.args.sink.now in
    record { within = omega arith; taken = subst (Takes sink sink) (sym encode-nil) (takes_none sink); faults = refl }

pub returns-in_err-write_few-clause-err : goal.returns-in_err-write_few-clause-err
returns-in_err-write_few-clause-err g c = at_err _ c.from_residual.ensures.0
    (hex_part _ _ _ _ c.loop-at.at (c.loop-at.at + c.min.result) (omega arith) c.loop-at.invariant.taken
    c.in_err-write_few.ensures.err)

pub loop-at-preserved : goal.loop-at-preserved
loop-at-preserved g c = record {
  within = omega arith;
  taken = hex_more _ _ _ _ c.loop-at.at (c.loop-at.at + c.min.result) (omega arith) c.loop-at.invariant.taken
      c.in_ok-write_few.ensures.ok;
  faults = search rules;
}
