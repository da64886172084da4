use Rattle.std.proofs.Common.{reverse}
use Rattle.run_laws_cancel.proofs.ScriptLemmas.{admitted_in_turn, one_by_one}
use Rattle.run_laws_cancel.proofs.laws.scripts_come_one_by_one.Goals as goal

pub returns : goal.returns
returns c = record {
  told = λ p journal legal. one_by_one p (reverse journal) legal;
  admitted = λ p journal legal. admitted_in_turn p (reverse journal) legal;
}
