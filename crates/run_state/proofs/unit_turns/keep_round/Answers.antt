use Rattle.std.proofs.Common.{◌++◌, option_to_list, Some, ap, ◌∙◌}
use Rattle.run_events.specs.declared.request.Request.TheVariants.{GetInfo}
use Rattle.run_model.specs.Rounds.{answer_of}
use Rattle.run_state.proofs.AnswerLemmas.{kept_more}
use Rattle.run_state.proofs.unit_turns.keep_round.Goals as goal

pub loop-query-preserved : goal.loop-query-preserved
loop-query-preserved c =
    let f = answer_of (Some (GetInfo c.args.round)) in
    c.in_ok-keep_answer.ensures
    ∙ ap (λ items. items ++ option_to_list (f (c.in-Some.query, c.in-Some.answer))) c.loop-query.invariant
    ∙ kept_more f c.args.answers.now.items c.loop-query.yielded (c.in-Some.query, c.in-Some.answer)
