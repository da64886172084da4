use Rattle.run_laws_events.proofs.CountLemmas.{counts_told}
use Rattle.run_laws_events.proofs.counted.events_say_their_counts.Goals as goal

pub returns : goal.returns
returns c = counts_told
