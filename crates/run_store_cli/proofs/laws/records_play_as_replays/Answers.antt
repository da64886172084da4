use Rattle.run_store_cli.proofs.RecordedLemmas.{records_play}
use Rattle.run_store_cli.proofs.TornLemmas.{stopped_after}
use Rattle.run_store_cli.proofs.RecordCauses.{record_gets}
use Rattle.run_store_cli.proofs.PlayedCauses.{play_gets}
use Rattle.run_store_cli.proofs.laws.records_play_as_replays.Goals as goal

pub returns : goal.returns
returns c = records_play
