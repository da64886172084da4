use Rattle.std.proofs.Common.{reverse}
use Rattle.run_laws_calls.proofs.ScriptLemmas.{no_script_fails}
use Rattle.run_laws_calls.proofs.SuccessLemmas.{each_uncancelled, uncancelled}
use Rattle.run_laws_calls.proofs.laws.an_uncancelled_run_ends_as_told.Goals as goal

pub returns : goal.returns
returns c = record {
  scripts = λ p journal legal. no_script_fails p (reverse journal) legal;
  each = λ p journal legal. each_uncancelled p (reverse journal) legal;
  one = λ p journal single legal over calm. uncancelled p (reverse journal) single legal over calm;
}
