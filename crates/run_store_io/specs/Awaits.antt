-- Which record is awaited.
use Rattle.run_store.specs.Records.{Awaited}
use Rattle.run_store.specs.Stores.{at_first, after_turns}
use Rattle.run_store_io.specs.declared.awaiting.Awaiting.{Awaiting}
use Rattle.run_store_io.specs.declared.awaiting.Awaiting.TheVariants.{First, After}

-- the records that may stand there
abbrev pub awaited : Awaiting → Awaited
awaited First = at_first
awaited (After turns) = after_turns turns
