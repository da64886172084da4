-- What a keeper offers.
use Rattle.std.specs.Prelude.{Option, if◌then◌else◌}
use Rattle.run_drive.specs.declared.spawner.Said.{Said}
use Rattle.run_keep_host.specs.declared.words.Words.{Words}

-- the word that is offered: the one of the end, or the one of what was written
abbrev pub offered : Words → Option Said
offered w = if w.offers_end then w.end else w.written
