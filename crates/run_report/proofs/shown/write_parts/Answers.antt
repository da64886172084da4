use Rattle.std.proofs.Common.{◌+◌, drop, refl, take}
use Rattle.run_report.specs.Shown.{part_shown, parts_shown}
use Rattle.run_report.proofs.ShownLemmas.{parts_at}
use Rattle.run_report.proofs.TookLemmas.{took_front, took_longer}
use Rattle.run_report.proofs.shown.write_parts.Goals as goal

pub returns-in-Err-clause-took : goal.returns-in-Err-clause-took
returns-in-Err-clause-took g c =
    let parts = c.args.parts.now in
    let i = c.loop-part.part-index in
    let part = c.part-item.result in
    took_longer (g.K.Sink.taken c.args.sink.now) (g.K.Sink.taken c.write_part.new.sink) _
    (parts_shown (drop (i + 1) parts)) _ (parts_at parts i part c.loop-part-test.true c.part-item.is)
    (took_front (g.K.Sink.taken c.args.sink.now) (g.K.Sink.taken c.loop-part.sink)
    (g.K.Sink.taken c.write_part.new.sink) (parts_shown (take i parts)) (part_shown part) _
    refl c.loop-part.invariant.taken c.in-Err.ensures.took)
