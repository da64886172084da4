-- What a source and a sink in memory hold, and what one call on them does.
use Rattle.std.specs.Prelude.{ℕ, ◌+◌, ◌-◌, ◌^◌, ◌<◌, ◌≡◌, ◌⊎◌, ◌++◌, take, min, List, length, drop, Result, Ok, Err}
use Rattle.std.specs.Prelude.{Contains}
use Rattle.run_capture.specs.declared.source.Failed.{Failed}

-- the bytes left, the most that one read moves, the reads that fail, the reads made and failed so far
pub record MemoryRead : Type 0 where
  pub left : List ℕ
  pub most : ℕ
  pub fail : List ℕ
  pub reads : ℕ
  pub faults : ℕ

-- the bytes taken, the room left, the most that one write moves, the writes that fail, the writes made and
-- failed so far
pub record MemoryWritten : Type 0 where
  pub taken : List ℕ
  pub room : ℕ
  pub most : ℕ
  pub fail : List ℕ
  pub writes : ℕ
  pub faults : ℕ

-- the next of a count that stays at the greatest u64
abbrev pub counted : ℕ → ℕ
counted n = min (n + 1) (2 ^ 64 - 1)

-- a read at this source: one whose number is listed fails, any other moves as many bytes as it can
abbrev pub ReadsAs : MemoryRead → ℕ → Result ℕ Failed → MemoryRead → Type 0
ReadsAs old room (Ok n) new =
    ((¬ Contains old.fail (counted old.reads))
    × (n ≡ min (min (length old.left) room) old.most))
    × (new ≡ record old { left = drop n old.left; reads = counted old.reads })
ReadsAs old room (Err e) new =
    Contains old.fail (counted old.reads)
    × (new ≡ record old { reads = counted old.reads; faults = counted old.faults })

-- a write at this sink: one whose number is listed fails, and so does one of a piece that isn't empty where
-- no room is left; any other moves as many bytes as it can
abbrev pub WritesAs : MemoryWritten → List ℕ → Result ℕ Failed → MemoryWritten → Type 0
WritesAs old piece (Ok n) new =
    ((¬ Contains old.fail (counted old.writes))
    × (n ≡ min (min (length piece) old.room) old.most))
    × (new ≡ record old { taken = old.taken ++ take n piece; room = old.room - n; writes = counted old.writes })
WritesAs old piece (Err e) new =
    (Contains old.fail (counted old.writes) ⊎ ((old.room ≡ 0) × (0 < length piece)))
    × (new ≡ record old { writes = counted old.writes; faults = counted old.faults })
