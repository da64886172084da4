use Rattle.std.proofs.Common.{[], ◌++◌, refl, ap, sym, ◌∙◌, drop, arith}
use Rattle.std.proofs.lemmas.List.{take-append-drop}
use Rattle.run_cli.specs.Call.{writing_of}
use Rattle.run_cli.proofs.RunOutLemmas.{reaches}
use Rattle.run_cli.proofs.TickLemmas.{unless_with}
use Rattle.run_cli.proofs.ToldLines.{executed_shown, first_shown}
use Rattle.run_cli.proofs.execution.show_at.Goals as goal

pub returns : goal.returns
returns g c =
    let w = writing_of g.K.Sink c.args.sink c.into_sink.result in
    let refusals = c.try_execute-answer.new.report.progress.refusals in (
      unless_with c.try_execute-answer.result _ _
          (λ some x.
          let told = x.call.takes.told [] c.new-reporter.ensures.told in (
            [],
            c.new.ensures,
            executed_shown c.args.runner c.args.width c.args.turns.now w refusals c.try_execute-answer.result
                x.call.journal x.call.refusal told.0 some x.call.takes.runnable x.call.says x.call.takes.marked
                (rw c.requires.taken at (rw c.requires.faults at (rw c.requires.clocks at (rw c.requires.display at
                (c.into_sink.ensures.told told.0 told.1))))) told.2 told.3,
          ))
          c.try_execute-answer.ensures.executes,
      λ wanting.
          let out = c.try_execute-answer.ensures.memory wanting in
          let x = out.1 in
          let told = x.told [] c.new-reporter.ensures.told in
          let far = reaches c.args.runner c.args.turns.now out.0 x.taken x.extra x.sent x.runnable.legal x.takes
          x.part in (
            [],
            c.new.ensures,
            record {
              journal = far.journal;
              legal = far.legal;
              taken = far.taken;
              takes = far.takes;
              later = [];
              asked = refl;
              one = omega arith;
              took = first_shown c.args.runner c.args.width c.args.turns.now (drop far.taken c.args.turns.now)
                  far.journal w refusals told.0 far.left far.legal
                  (sym (take-append-drop far.taken c.args.turns.now)
                  ∙ ap (λ ts. ts ++ drop far.taken c.args.turns.now) (sym far.takes))
                  (ap (λ es. es ++ far.left) told.2 ∙ far.answers_are) far.few
                  (rw c.requires.taken at (rw c.requires.faults at (rw c.requires.clocks at (rw c.requires.display at
                  (c.into_sink.ensures.told told.0 told.1)))));
            },
          ),
    )
