use Rattle.std.proofs.Common.{◌≡◌, ◌++◌, filter_map, Some}
use Rattle.run_events.specs.declared.request.Request.TheVariants.{GetInfo}
use Rattle.run_model.specs.Rounds.{answer_of}
use Rattle.run_state.proofs.unit_turns.keep_round.Given as goal

abbrev pub invariant-loop-query : goal.invariant-loop-query
invariant-loop-query l =
    l.answers.items ≡ l.initial.answers.items ++ filter_map (answer_of (Some (GetInfo l.round))) l.yielded
