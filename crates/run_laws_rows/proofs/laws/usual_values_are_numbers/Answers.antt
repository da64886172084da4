use Rattle.run_laws_rows.proofs.NumberLemmas.{slow_times, usual_numbers}
use Rattle.run_laws_rows.proofs.laws.usual_values_are_numbers.Goals as goal

pub returns : goal.returns
returns c = record { tests = usual_numbers; slow = slow_times }
