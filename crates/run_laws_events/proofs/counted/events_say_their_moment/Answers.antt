use Rattle.run_laws_events.proofs.CountLemmas.{moments}
use Rattle.run_laws_events.proofs.counted.events_say_their_moment.Goals as goal

pub returns : goal.returns
returns c = moments
