use Rattle.std.proofs.Common.{◌≡◌, ◌∙◌, ◌+◌, ◌-◌, ◌++◌, arith, drop, take}
use Rattle.run_report.specs.Indent.{indented_after, last_byte, output_end}
use Rattle.run_report.proofs.IndentLemmas.{next_last, next_part, rest_part, whole_part}
use Rattle.run_report.proofs.TookLemmas.{took_both, took_front, took_longer, took_text}
use Rattle.run_report.proofs.indent.write_output.Goals as goal

pub returns-in-Err-clause-took : goal.returns-in-Err-clause-took
returns-in-Err-clause-took g c =
    let out = c.args.output.now in
    let at = c.loop-at.at in
    let n = c.min.result in
    let last = c.loop-at.last in
    let size : at + n - at ≡ n = omega arith in
    took_longer (g.K.Sink.taken c.args.sink.now) (g.K.Sink.taken c.write_some.new.sink)
    (indented_after 10 (take (at + n) out))
    (indented_after (last_byte 10 (take (at + n) out)) (drop (at + n) out) ++ output_end (last_byte 10 out)) _
    (rest_part out (at + n))
    (took_front (g.K.Sink.taken c.args.sink.now) (g.K.Sink.taken c.loop-at.sink)
    (g.K.Sink.taken c.write_some.new.sink) (indented_after 10 (take at out))
    (indented_after last (take (at + n - at) (drop at out))) _
    (next_part out at n (at + n - at) last size c.loop-at.invariant.last)
    c.loop-at.invariant.taken c.in-Err.ensures.took)

pub loop-at-preserved : goal.loop-at-preserved
loop-at-preserved g c =
    let out = c.args.output.now in
    let at = c.loop-at.at in
    let n = c.min.result in
    let last = c.loop-at.last in
    let size : at + n - at ≡ n = omega arith in
    record {
      within = grind arith;
      taken = took_text (g.K.Sink.taken c.args.sink.now) (g.K.Sink.taken c.loop-at.sink)
          (g.K.Sink.taken c.write_some.new.sink) (indented_after 10 (take at out))
          (indented_after last (take (at + n - at) (drop at out))) _
          (next_part out at n (at + n - at) last size c.loop-at.invariant.last)
          c.loop-at.invariant.taken c.in-Ok.ensures.took;
      faults = c.in-Ok.ensures.fault ∙ c.loop-at.invariant.faults;
      last = c.in-Ok.ensures.last ∙ next_last out at n (at + n - at) last size c.loop-at.invariant.last;
    }

pub returns-clause-took : goal.returns-clause-took
returns-clause-took g c =
    took_both (g.K.Sink.taken c.args.sink.now) (g.K.Sink.taken c.loop-at.sink)
    (g.K.Sink.taken c.write_bytes.new.sink) (indented_after 10 (take c.loop-at.at c.args.output.now))
    (output_end c.loop-at.last) _ c.write_bytes.result
    (whole_part c.args.output.now c.loop-at.at c.loop-at.last c.loop-at.invariant.within c.loop-at-test.false
    c.loop-at.invariant.last)
    c.loop-at.invariant.taken (rw c.output_end.ensures at c.write_bytes.ensures.took)
