use Rattle.run_junit.proofs.HeardLemmas.{remembers_first}
use Rattle.run_junit.proofs.report.JUnitReport.new.Goals as goal

pub returns-clause-heard : goal.returns-clause-heard
returns-clause-heard c = remembers_first c.args.started c.nothing.result c.nothing.ensures
