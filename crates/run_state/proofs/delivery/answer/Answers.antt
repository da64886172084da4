use Rattle.std.proofs.Common.{ap, ap₂, sym, ◌∙◌}
use Rattle.run_model.specs.Board.{moved}
use Rattle.run_model.specs.Turns.{answer_to}
use Rattle.run_state.proofs.DeedLemmas.{nothing_moved}
use Rattle.run_state.proofs.delivery.answer.Goals as goal
use Rattle.run_state.proofs.delivery.answer.Goals.{in_default-via-in-Some+in_default, in_default-via-in_default}

pub returns-in_default-clause-after : goal.returns-in_default-clause-after
returns-in_default-clause-after c =
    let b = c.args.state.now.board in
    elim c.in_default.branch [
      | in_default-via-in-Some+in_default w ↦
          nothing_moved b ∙ sym (ap₂ (λ unit go. moved b (answer_to b unit go)) w.in_default.is-0 w.in_default.is-1)
      | in_default-via-in_default w ↦
          nothing_moved b ∙ sym (ap (λ unit. moved b (answer_to b unit c.args.go)) w.in_default.is-0)
    ]
