use Rattle.run_junit.proofs.LawLemmas.{counts_are_those_below}
use Rattle.run_junit.proofs.laws.counts_are_those_below.Goals as goal

pub returns : goal.returns
returns c = counts_are_those_below
