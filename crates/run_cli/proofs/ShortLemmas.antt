-- What went out where memory was wanting.
use Rattle.std.proofs.Common.{◌≡◌, ℕ, ◌<◌, ◌≤◌, inl, inr, List, [], ◌++◌, length, take, Option, Result, Ok, Err}
use Rattle.std.proofs.Common.{OnErr, OnOk}
use Rattle.std.proofs.Common.{refl, ap, sym, subst, ◌∙◌, arith}
use Rattle.std.proofs.Common.{◌∷◌, codes, decimal, length-append, le_refl}
use Rattle.std.proofs.lemmas.Fmt.{decimal_digit, decimal_step}
use Rattle.std.proofs.lemmas.List.{append-nil, take_all}
use Rattle.run_capture.specs.Bytes.{Takes}
use Rattle.run_capture.proofs.BytesLemmas.{takes_both}
use Rattle.run_output.specs.declared.fault.Fault.TheVariants.{Memory}
use Rattle.json.specs.Print.{escape_byte, print_from}
use Rattle.run_output.specs.Faults.{fault_fields, fault_text, fault_word}
use Rattle.run_output.specs.Fields.{line_bytes}
use Rattle.run_cli.specs.Call.{Writing, HasTaken, TakesFront, Writes}
use Rattle.run_cli.specs.Text.{fault_only}
use Rattle.run_cli.specs.Short.{IsShort}
use Rattle.run_cli.proofs.TextLemmas.{line_some}

-- as many items as a list has are all of it
pub take-whole : {X : Type 0} (xs : List X) → take (length xs) xs ≡ xs
take-whole xs = take_all (length xs) xs (le_refl (length xs))

-- all of some bytes are a front part of them
all_taken : (before after : Option (List ℕ)) (bytes : List ℕ) → Takes before after bytes
    → Takes before after (take (length bytes) bytes)
all_taken before after bytes h = subst (Takes before after) (sym (take-whole bytes)) h

-- a write of all of them takes a front part, whether it fails or not
pub takes_some : {T E : Type 0} (r : Result T E) (before after : Option (List ℕ)) (bytes line : List ℕ) → bytes ≡ line
    → OnOk r (Takes before after bytes)
    → OnErr r ((n : ℕ) × (n < length bytes) × Takes before after (take n bytes))
    → (n : ℕ) × Takes before after (take n line)
takes_some (Ok x) before after bytes line is ok err =
    (length bytes, subst (λ b. Takes before after (take (length bytes) b)) is (all_taken before after bytes ok))
takes_some (Err e) before after bytes line is ok err =
    (err.0, subst (λ b. Takes before after (take err.0 b)) is err.2)

-- nothing of the bytes went out, and a front part of the line that memory was wanting
pub short_none : (text : List ℕ) (w : Writing) (n : ℕ) → 0 < length text → HasTaken w (take n (fault_only Memory))
    → IsShort text w
short_none text w n some h =
    record { front = []; left = text; some = some; parts = refl; said = n; took = h }

-- asks and a line are more than no bytes
pub lines_some : (asks text : List ℕ) → 0 < length (asks ++ line_bytes text)
lines_some asks text = omega (arith, length-append asks (line_bytes text), line_some text)

-- a front part of them did
pub short_front : (text : List ℕ) (w : Writing) (between : Option (List ℕ)) (n : ℕ)
    → TakesFront w.taken between text → Takes between w.taken_after (take n (fault_only Memory)) → IsShort text w
short_front text w between n front h = record {
  front = front.0;
  left = front.1;
  some = front.2;
  parts = front.3;
  said = n;
  took = takes_both w.taken between w.taken_after front.0 (take n (fault_only Memory)) front.4 h;
}

-- what was written is some bytes and the line that memory was wanting
pub short_written : (asks : List ℕ) (w : Writing) → Writes w (asks ++ fault_only Memory)
    → IsShort (asks ++ fault_only Memory) w
short_written asks w (inl whole) = record {
  front = asks;
  left = fault_only Memory;
  some = line_some (fault_text Memory);
  parts = refl;
  said = length (fault_only Memory);
  took = subst (λ line. HasTaken w (asks ++ line)) (sym (take-whole (fault_only Memory))) whole.1;
}
short_written asks w (inr part) =
    let front = part.2 in record {
      front = front.0;
      left = front.1;
      some = front.2;
      parts = front.3;
      said = 0;
      took = subst (HasTaken w) (sym (append-nil front.0)) front.4;
    }

-- its status in decimal
eleven : decimal 11 ≡ 49 ∷ 49 ∷ []
eleven = decimal_step 11 (omega arith) (omega arith)
    ∙ ap (λ (digits : List ℕ). digits ++ 49 ∷ []) (decimal_digit 1 (omega arith))

-- the line that memory was wanting
pub memory_line : codes "{\"fault\":\"memory\",\"status\":11}\n" ≡ fault_only Memory
unfolding fault_fields fault_word print_from escape_byte
memory_line =
    ap (λ (number : List ℕ). codes "{\"fault\":\"memory\",\"status\":" ++ ((number ++ 125 ∷ []) ++ 10 ∷ []))
    (sym eleven)
