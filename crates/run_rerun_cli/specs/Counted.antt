-- What counts of failed calls are kept beside sources and stores.
use Rattle.std.specs.Prelude.{ℕ, List, Option}
use Rattle.run_rerun_cli.specs.declared.counted_source.CountedSource.{CountedSource}

-- the bytes that a source has left, where the one within it tells them, and how often it has failed
abbrev pub counted_left : {S : Type 0} → (S → Option (List ℕ)) → CountedSource S → Option (List ℕ)
counted_left left source = left source.inner

abbrev pub counted_faults : {S : Type 0} → CountedSource S → ℕ
counted_faults source = source.faults
