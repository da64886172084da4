-- What a spawner in memory answers and says.
use Rattle.std.specs.Prelude.{ℕ, ◌≡◌, ◌<◌, List, [], ◌∷◌, length, min, codes, slice_index_or, Option, Some, None}
use Rattle.run_drive.specs.declared.spawner.Begun.{Begun}
use Rattle.run_drive.specs.declared.spawner.Begun.TheVariants.{Refused}
use Rattle.run_drive.specs.declared.spawner.Said.{Said}
use Rattle.run_drive.specs.declared.spawner.Said.TheVariants.{WaitFailed}
use Rattle.run_drive.specs.declared.memory_spawner.MemorySpawner.{MemorySpawner}
use Rattle.run_drive.specs.declared.memory_host.MemoryTicker.{MemoryTicker}
use Rattle.run_drive.specs.declared.spawner.Heard.{Heard}
use Rattle.run_drive.specs.declared.spawner.Heard.TheVariants.{Asked, Spoke}

-- the text of a spawner that has nothing left
abbrev pub silent_text : List ℕ
silent_text = codes "end"

-- how the starts of a list were answered, and what was said in it
abbrev pub answers_in : List Heard → List Begun
answers_in [] = []
answers_in (Asked start begun ∷ rest) = begun ∷ answers_in rest
answers_in (Spoke said ∷ rest) = answers_in rest

abbrev pub words_in : List Heard → List Said
words_in [] = []
words_in (Asked start begun ∷ rest) = words_in rest
words_in (Spoke said ∷ rest) = said ∷ words_in rest

-- these items were given out: those of a list from the front, then the last one again and again; the list is at this
-- place
pub record WereGiven {X : Type 0} (items : List X) (last : X) (at : ℕ) (given : List X) : Type 0 where
  pub each : (k : ℕ) → k < length given → slice_index_or given k last ≡ slice_index_or items k last
  pub place : at ≡ min (length given) (length items)

-- a spawner that answers and says these lists, at these places, was asked and has said this
pub record IsFed (begun : List Begun) (begun_at : ℕ) (said : List Said) (said_at : ℕ)
    (heard : List Heard) : Type 0 where
  pub answers : WereGiven begun (Refused silent_text) begun_at (answers_in heard)
  pub words : WereGiven said (WaitFailed silent_text) said_at (words_in heard)

-- of these spawners one is handed out, and those are left: the lists of the first, or empty ones where none is left
abbrev pub HandsOut : List MemorySpawner → MemorySpawner → List MemorySpawner → Type 0
HandsOut [] out rest = (out.begun.items ≡ []) × (out.said.items ≡ []) × (rest ≡ [])
HandsOut (first ∷ later) out rest =
    (out.begun.items ≡ first.begun.items) × (out.said.items ≡ first.said.items) × (rest ≡ later)

-- the steps of this ticker are handed out, or none where none is left
abbrev pub HandsTicker : Option MemoryTicker → MemoryTicker → Type 0
HandsTicker (Some ticker) out = out.steps ≡ ticker.steps
HandsTicker None out = out.steps ≡ []
