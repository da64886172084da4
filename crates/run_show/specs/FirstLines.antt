-- The lines of a source, from its front on.
use Rattle.std.specs.Prelude.{ℕ, ◌≡◌, ◌≢◌, ◌<◌, ⊤, List, [], ◌∷◌, ◌++◌, length, Option, Some, None, option_map}
use Rattle.std.specs.Prelude.{Bool, true, false}
use Rattle.std.specs.declared.vec.Vec.{Vec}
use Rattle.std.specs.declared.alloc.Global.{Global}
use Rattle.run_capture.specs.Bytes.{AtEnd, Gives}
use Rattle.run_capture.specs.declared.reading.ReadError.{ReadError}
use Rattle.run_capture.specs.declared.reading.ReadError.TheVariants.{Failed, TooLong, OutOfMemory}
use Rattle.run_input.specs.Lines.{lines_of}
use Rattle.run_show.specs.declared.source_lines.Part.{Part}
use Rattle.run_show.specs.declared.source_lines.Part.TheVariants.{Ended, Last, Open}

-- what was left in a source begins with these lines, each whole, and what is left behind them has the others
abbrev pub FirstLines : Option (List ℕ) → Option (List ℕ) → List (List ℕ) → Type 0
FirstLines before after lines = option_map lines_of before ≡ option_map (λ rest. lines ++ lines_of rest) after

-- no byte of these ends a line
abbrev pub IsFeedless : List ℕ → Type 0
IsFeedless [] = ⊤
IsFeedless (byte ∷ bytes) = (byte ≢ 10) × IsFeedless bytes

-- what is still to come of a source, where bytes of it stand ready
abbrev pub ahead : Option (List ℕ) → List ℕ → Option (List ℕ)
ahead left ready = option_map (λ rest. ready ++ rest) left

-- a part of what stands ready is of its first line: up to the line's end, or all
abbrev pub TakesLinePart : Bool → List ℕ → List ℕ → List ℕ → Type 0
TakesLinePart true part ready behind = ready ≡ part ++ 10 ∷ behind
TakesLinePart false part ready behind = (ready ≡ part) × (behind ≡ [])

-- these bytes were given of a line whose end wasn't
pub record IsPartRead (before after : Option (List ℕ)) (line : List ℕ) : Type 0 where
  pub gives : Gives before after line
  pub feedless : IsFeedless line

-- more was read of a line: it has its end; the source has no more; or it is longer now
abbrev pub ReadsOn : Part → Option (List ℕ) → Option (List ℕ) → List ℕ → List ℕ → Type 0
ReadsOn Ended before after line now =
    (start : Option (List ℕ)) → IsPartRead start before line → FirstLines start after (now ∷ [])
ReadsOn Last before after line now =
    AtEnd after × ((start : Option (List ℕ)) → IsPartRead start before line → IsPartRead start after now)
ReadsOn Open before after line now =
    (length line < length now) × ((start : Option (List ℕ)) → IsPartRead start before line → IsPartRead start after now)

-- more is still to be read of it
abbrev pub IsUnended : Part → Type 0
IsUnended Ended = ⊥
IsUnended Last = ⊥
IsUnended Open = ⊤

-- the line that was read, if there is one
abbrev pub line_list : Option (Vec ℕ Global) → List (List ℕ)
line_list None = []
line_list (Some line) = line.items ∷ []

-- bytes are a last line, unless there are none
abbrev pub IsLast : List ℕ → List (List ℕ) → Type 0
IsLast [] lines = lines ≡ []
IsLast (byte ∷ bytes) lines = lines ≡ (byte ∷ bytes) ∷ []

-- why no line was read: the part of it that the source gave is longer than the limit
abbrev pub IsUnreadLine : ℕ → Option (List ℕ) → ReadError → Type 0
IsUnreadLine limit before Failed = ⊤
IsUnreadLine limit before TooLong =
    (part : List ℕ) × (after : Option (List ℕ)) × IsPartRead before after part × (limit < length part)
IsUnreadLine limit before OutOfMemory = ⊤
