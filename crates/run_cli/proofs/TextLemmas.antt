-- What a sink took, whole or in part.
use Rattle.std.proofs.Common.{ℕ, ◌≡◌, ◌<◌, ◌≤◌, inl, inr, List, [], ◌∷◌, ◌++◌, length, take, drop, Option, Some, None}
use Rattle.std.proofs.Common.{refl, ap, sym, ◌∙◌, append_assoc, length-append, arith}
use Rattle.std.proofs.Common.{Result, Ok, Err, OnErr, OnOk}
use Rattle.std.proofs.lemmas.List.{append-nil, take-append-drop, length-drop}
use Rattle.run_output.specs.Fields.{line_bytes}
use Rattle.run_capture.specs.Bytes.{Takes}
use Rattle.run_capture.proofs.BytesLemmas.{takes_both}
use Rattle.run_capture.specs.Faults.{Rose}
use Rattle.run_cli.specs.Call.{TakesFront, Writing, HasTaken, HasTakenFront, Writes}
use Rattle.run_engine.proofs.PartLemmas.{on_err}

-- a line has its line feed at least
pub line_some : (text : List ℕ) → 0 < length (line_bytes text)
line_some text = omega (arith, length-append text (10 ∷ []))

-- a sink that took nothing took a front part
pub front_none : (taken : Option (List ℕ)) (bytes : List ℕ) → 0 < length bytes → TakesFront taken taken bytes
front_none None bytes some = ([], bytes, some, refl, refl)
front_none (Some taken) bytes some = ([], bytes, some, refl, ap Some (sym (append-nil taken)))

-- and one that took the first of these bytes
pub front_take : (before after : Option (List ℕ)) (n : ℕ) (bytes : List ℕ) → n < length bytes
    → Takes before after (take n bytes) → TakesFront before after bytes
front_take before after n bytes below h =
    (take n bytes, drop n bytes, omega (arith, length-drop n bytes), sym (take-append-drop n bytes), h)

-- a front part of some bytes is one of more bytes
pub front_of_first : (before after : Option (List ℕ)) (first later : List ℕ) → TakesFront before after first
    → TakesFront before after (first ++ later)
front_of_first before after first later (front, left, some, is, h) = (
  front,
  left ++ later,
  omega (arith, length-append left later),
  ap (λ bytes. bytes ++ later) is ∙ append_assoc front left later,
  h,
)

-- some bytes, and then a front part of others
pub front_after : (before between after : Option (List ℕ)) (first later : List ℕ) → Takes before between first
    → TakesFront between after later → TakesFront before after (first ++ later)
front_after before between after first later one (front, left, some, is, h) = (
  first ++ front,
  left,
  some,
  ap (λ bytes. first ++ bytes) is ∙ sym (append_assoc first front left),
  takes_both before between after first front one h,
)

-- and what follows from what holds after an error
pub on_err_then : {T E : Type 0} (r : Result T E) (P Q : Type 0) → (P → Q) → OnErr r P → OnErr r Q
on_err_then (Ok x) P Q f h = tt
on_err_then (Err e) P Q f h = f h

-- bytes that a write took, whole or in front, by whether it failed
pub writes_either : {T E : Type 0} (r : Result T E) (w : Writing) (text : List ℕ) → OnOk r (HasTaken w text)
    → OnErr r (HasTakenFront w text) → OnOk r (w.faults_after ≡ w.faults)
    → OnErr r ((w.faults ≤ w.faults_after) × Rose w.faults w.faults_after) → Writes w text
writes_either (Ok x) w text ok front stays rose = inl (stays, ok)
writes_either (Err e) w text ok front stays rose = inr (rose.0, rose.1, front)
