-- Stores in files.
use Rattle.std.specs.Prelude.{ℕ}
use Rattle.run_rerun_cli.specs.declared.file_stores.FileStores.{FileStores}

-- how often files have failed
abbrev pub file_faults : {R F D : Type 0} → FileStores R F D → ℕ
file_faults stores = stores.faults
