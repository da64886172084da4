-- What a sink took of a text that goes out in parts.
use Rattle.std.proofs.Common.{◌≡◌, ℕ, ◌+◌, ◌≤◌, List, ◌++◌, length, take, Option, Result, Ok, Err}
use Rattle.std.proofs.Common.{arith, subst, length-append}
use Rattle.std.proofs.Math.Seq.{take-append-add}
use Rattle.std.proofs.lemmas.List.{take-append-le}
use Rattle.run_capture.proofs.BytesLemmas.{takes_both}
use Rattle.run_capture.specs.Bytes.{Takes}
use Rattle.run_report.specs.Took.{TookFront, TookPart}

-- a text that was taken, and another after it
pub took_text : (before between now : Option (List ℕ)) (xs ys all : List ℕ)
    → xs ++ ys ≡ all → Takes before between xs → Takes between now ys → Takes before now all
took_text before between now xs ys all same first second =
    subst (λ (text : List ℕ). Takes before now text) same (takes_both before between now xs ys first second)

-- a text that was taken, and a front part of the text after it
pub took_front : (before between now : Option (List ℕ)) (xs ys all : List ℕ)
    → xs ++ ys ≡ all → Takes before between xs → TookFront between now ys → TookFront before now all
took_front before between now xs ys all same first second =
    let bound : length xs + second.0 ≤ length (xs ++ ys) = omega (arith, length-append xs ys, second.1) in (
      length xs + second.0,
      subst (λ (text : List ℕ). length xs + second.0 ≤ length text) same bound,
      subst (λ (text : List ℕ). Takes before now (take (length xs + second.0) text)) same
          (rw (take-append-add xs ys second.0)
          (takes_both before between now xs (take second.0 ys) first second.2)),
    )

-- a front part of a text is one of a longer text
pub took_longer : (before now : Option (List ℕ)) (xs ys all : List ℕ)
    → xs ++ ys ≡ all → TookFront before now xs → TookFront before now all
took_longer before now xs ys all same part =
    let bound : part.0 ≤ length (xs ++ ys) = omega (arith, length-append xs ys, part.1) in (
      part.0,
      subst (λ (text : List ℕ). part.0 ≤ length text) same bound,
      subst (λ (text : List ℕ). Takes before now (take part.0 text)) same
          (rw (take-append-le part.0 xs ys part.1) part.2),
    )

-- a text that was taken, and a part of the text after it
pub took_both : {T E : Type 0} (before between now : Option (List ℕ)) (xs ys all : List ℕ) (r : Result T E)
    → xs ++ ys ≡ all → Takes before between xs → TookPart between now ys r → TookPart before now all r
took_both before between now xs ys all (Ok _) same first second =
    took_text before between now xs ys all same first second
took_both before between now xs ys all (Err _) same first second =
    took_front before between now xs ys all same first second
