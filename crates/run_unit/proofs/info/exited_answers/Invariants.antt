use Rattle.std.proofs.Common.{◌≡◌, take}
use Rattle.run_model.specs.Info.{rounds_in, answers_to, exited_answer}
use Rattle.run_unit.proofs.info.exited_answers.Given as goal

-- the answers to the queries that were passed
abbrev pub invariant-loop-request : goal.invariant-loop-request
invariant-loop-request l = l.info ≡ answers_to (rounds_in (take l.request-index l.view.line)) (exited_answer l.view)
