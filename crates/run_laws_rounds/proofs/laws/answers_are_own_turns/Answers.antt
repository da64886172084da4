use Rattle.run_laws_rounds.proofs.rounds.AnswerLaws.{answers_so}
use Rattle.run_laws_rounds.proofs.laws.answers_are_own_turns.Goals as goal

pub returns : goal.returns
returns c = answers_so
