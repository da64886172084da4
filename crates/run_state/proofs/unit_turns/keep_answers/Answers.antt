use Rattle.std.proofs.Common.{◌≡◌, ◌++◌, OnOk, filter_map, append-nil, ap, sym, subst, ◌∙◌}
use Rattle.run_model.specs.Rounds.{answer_of}
use Rattle.run_state.proofs.AnswerLemmas.{asks_query, none_answers}
use Rattle.run_state.proofs.unit_turns.keep_answers.Goals as goal

pub returns-in-None : goal.returns-in-None
returns-in-None c =
    let items = c.args.answers.now.items in
    sym (ap (λ more. items ++ more) (none_answers c.args.asks c.args.info (sym c.query_round.ensures ∙ c.in-None.is))
    ∙ append-nil items)

pub returns-in-Some : goal.returns-in-Some
returns-in-Some c =
    subst (λ asks. OnOk c.keep_round.result
    (c.keep_round.new.answers.items ≡ c.args.answers.now.items ++ filter_map (answer_of asks) c.args.info))
    (sym (asks_query c.args.asks c.in-Some.round (sym c.query_round.ensures ∙ c.in-Some.is))) c.keep_round.ensures
