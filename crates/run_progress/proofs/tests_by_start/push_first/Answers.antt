use Rattle.std.proofs.Common.{◌<◌, string_bytes, arith}
use Rattle.std.proofs.lemmas.Grind.{common_steps}
use Rattle.run_progress.specs.Lines.{test_line}
use Rattle.run_progress.proofs.LineLemmas.{lines_more, text_more}
use Rattle.run_progress.proofs.tests_by_start.push_first.Goals as goal

pub loop-running-preserved : goal.loop-running-preserved
loop-running-preserved c =
    let l = c.loop-running in
    let running = c.in-Some.running.now in
    let less : l.shown < c.args.most = grind (arith, common_steps, l.invariant.within, c.if-shown-most.false) in
    record {
      text = text_more l.running-iterator c.next.new.self running c.args.most l.shown c.in-Some.ensures.steps less
          (test_line c.args.now c.args.width) (string_bytes l.out) (string_bytes c.push_line.new.out) _
          l.invariant.text c.in_ok-push_line.ensures;
      lines = lines_more l.running-iterator c.next.new.self running c.args.most l.shown c.in-Some.ensures.steps less _
          l.invariant.lines;
      within = omega (arith, less);
    }
