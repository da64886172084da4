use Rattle.run_laws_events.proofs.BeginLemmas.{run_starts}
use Rattle.run_laws_events.proofs.counted.run_starts_with_its_plan.Goals as goal

pub returns : goal.returns
returns c = run_starts
