-- What the program was given and what it left: its words, and its source and its sink before and after.
use Rattle.std.specs.Prelude.{ℕ, ◌≡◌, ◌⊎◌, ◌≤◌, ◌<◌, ◌++◌, List, length, Option}
use Rattle.run_capture.specs.declared.sink.Sink.{Ghosts as OfSink}
use Rattle.run_capture.specs.declared.source.Source.{Ghosts as OfSource}
use Rattle.run_capture.specs.Bytes.{Gives, Takes}
use Rattle.run_capture.specs.Faults.{Rose}

-- a source before and after: the bytes left, where they are told, and how often it has failed
pub record Reading : Type 0 where
  pub left : Option (List ℕ)
  pub left_after : Option (List ℕ)
  pub faults : ℕ
  pub faults_after : ℕ

-- a sink before and after: the bytes taken, where they are told, and how often it has failed
pub record Writing : Type 0 where
  pub taken : Option (List ℕ)
  pub taken_after : Option (List ℕ)
  pub faults : ℕ
  pub faults_after : ℕ

pub record Call : Type 0 where
  pub words : List (List ℕ)
  pub source : Reading
  pub sink : Writing

abbrev pub reading_of : {S : Type 0} → OfSource S → S → S → Reading
reading_of s old new =
    record { left = s.left old; left_after = s.left new; faults = s.faults old; faults_after = s.faults new }

abbrev pub writing_of : {K : Type 0} → OfSink K → K → K → Writing
writing_of k old new =
    record { taken = k.taken old; taken_after = k.taken new; faults = k.faults old; faults_after = k.faults new }

abbrev pub call_of : List (List ℕ) → Reading → Writing → Call
call_of words source sink = record { words = words; source = source; sink = sink }

-- one write, and then another
abbrev pub then_writing : Writing → Writing → Writing
then_writing a b = record {
  taken = a.taken;
  taken_after = b.taken_after;
  faults =
      a.faults;
  faults_after = b.faults_after;
}

-- the source gave these bytes; the sink took these bytes
abbrev pub HasGiven : Reading → List ℕ → Type 0
HasGiven r bytes = Gives r.left r.left_after bytes

abbrev pub HasTaken : Writing → List ℕ → Type 0
HasTaken w bytes = Takes w.taken w.taken_after bytes

-- the source, or the sink, failed in between
abbrev pub HasReadFault : Reading → Type 0
HasReadFault r = Rose r.faults r.faults_after

abbrev pub HasWriteFault : Writing → Type 0
HasWriteFault w = Rose w.faults w.faults_after

-- a front part of these bytes was taken last, and not all
abbrev pub TakesFront : Option (List ℕ) → Option (List ℕ) → List ℕ → Type 0
TakesFront before after bytes =
    (front : List ℕ) × (left : List ℕ) × (0 < length left) × (bytes ≡ front ++ left) × Takes before after front

abbrev pub HasTakenFront : Writing → List ℕ → Type 0
HasTakenFront w bytes = TakesFront w.taken w.taken_after bytes

-- these bytes went out, and nothing else: whole, where the sink's count of faults stayed; or a front part, and not all,
-- where it rose
abbrev pub Writes : Writing → List ℕ → Type 0
Writes w text =
    ((w.faults_after ≡ w.faults) × HasTaken w text)
    ⊎ ((w.faults ≤ w.faults_after) × HasWriteFault w × HasTakenFront w text)
