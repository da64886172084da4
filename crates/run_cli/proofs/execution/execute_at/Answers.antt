use Rattle.std.proofs.Common.{◌≡◌, [], ◌++◌, refl, ap, sym, ◌∙◌}
use Rattle.run_engine.proofs.CourseLemmas.{unless_weaker}
use Rattle.run_model.specs.Journal.{past_of}
use Rattle.run_model.specs.Words.{asked}
use Rattle.run_cli.specs.Call.{writing_of}
use Rattle.run_cli.proofs.RunOutLemmas.{reaches}
use Rattle.run_cli.proofs.ToldLines.{executed_whole, first_whole}
use Rattle.run_cli.proofs.execution.execute_at.Goals as goal

pub returns : goal.returns
returns g c =
    let w = writing_of g.K.Sink c.args.sink c.into_sink.result in
    let refusals = c.try_execute-answer.new.report.lines.refusals in (
      unless_weaker c.try_execute-answer.result _ _
          (λ x.
          let told = x.call.takes.told [] c.new-reporter.ensures.told in
          let asks = asked (past_of c.args.runner x.call.journal) in (
            asks,
            x.call.takes.asked [] c.new-asks.ensures,
            executed_whole c.args.runner c.args.turns.now w refusals asks c.try_execute-answer.result
                x.call.journal x.call.refusal told.0 x.call.takes.runnable x.call.says x.call.takes.marked refl
                (rw c.requires.taken at (rw c.requires.faults at (c.into_sink.ensures.told told.0 told.1)))
                told.2 told.3,
          ))
          c.try_execute-answer.ensures.executes,
      λ wanting.
          let out = c.try_execute-answer.ensures.memory wanting in
          let x = out.1 in
          let told = x.told [] c.new-reporter.ensures.told in
          let far = reaches c.args.runner c.args.turns.now out.0 x.taken x.extra x.sent x.runnable.legal x.takes
          x.part in (
            asked (past_of c.args.runner out.0) ++ x.sent,
            x.adds [] c.new-asks.ensures,
            record {
              journal = far.journal;
              legal = far.legal;
              taken = far.taken;
              takes = far.takes;
              later = far.later;
              asked = sym far.asked_are;
              one = far.one;
              took = first_whole c.args.runner far.journal w refusals told.0 far.left far.legal
                  (ap (λ es. es ++ far.left) told.2 ∙ far.answers_are) far.few
                  (rw c.requires.taken at (rw c.requires.faults at (c.into_sink.ensures.told told.0 told.1)));
            },
          ),
    )
