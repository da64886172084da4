use Rattle.run_junit.proofs.FaultLemmas.{faults_are_counted}
use Rattle.run_junit.proofs.laws.faults_are_counted.Goals as goal

pub returns : goal.returns
returns c = faults_are_counted
