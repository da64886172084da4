-- Texts that go to a sink by way of a buffer.
use Rattle.std.proofs.Common.{◌≡◌, ℕ, ◌+◌, ◌<◌, ◌==◌, Bool, true, false, if◌then◌else◌, List, [], ◌∷◌, ◌++◌, length}
use Rattle.std.proofs.Common.{take, drop, get_or, Option, Some, None, refl, sym, ap, ◌∙◌, subst, arith}
use Rattle.std.proofs.Common.{Result, Ok, Err, IfOk, OnOk}
use Rattle.std.proofs.Common.{append_assoc, append-nil}
use Rattle.std.proofs.Math.Utf8.{encode}
use Rattle.std.proofs.lemmas.Bool.Decides.{nat_tests}
use Rattle.std.proofs.lemmas.List.{take_more}
use Rattle.std.proofs.lemmas.List.Concat.{flat_map-append}
use Rattle.std.proofs.lemmas.Str.{IsUtf8-append, chars-append, chars-nil, utf8_lossy_chunk, utf8_lossy_empty}
use Rattle.std.proofs.lemmas.Str.{utf8_lossy_last_chunk}
use Rattle.std.specs.List.{flat_map}
use Rattle.std.specs.Str.{IsUtf8, chars}
use Rattle.std.specs.Str.Lossy.{replacement_bytes, utf8_invalid_len, utf8_lossy, utf8_valid_len}
use Rattle.run_capture.proofs.BytesLemmas.{takes_both}
use Rattle.run_capture.specs.Bytes.{Takes}
use Rattle.run_junit.specs.declared.escape.Place.TheVariants.{Body}
use Rattle.run_junit.specs.declared.escape.Sequence.{Sequence}
use Rattle.run_junit.specs.Escape.{after_all, char_shown, shown_chars}
use Rattle.run_junit.specs.Put.{Puts, chunk_text}
use Rattle.run_junit.proofs.EscapeLemmas.{after-append, shown-append, shown_more}

takes_nil : (now : Option (List ℕ)) → Takes now now []
takes_nil None = refl
takes_nil (Some taken) = ap Some (sym (append-nil taken))

-- a text behind the buffer's
pub puts_pushed : (now : Option (List ℕ)) (buffer after text : List ℕ) → after ≡ buffer ++ text
    → Puts now now buffer after text
puts_pushed now buffer after text same = record { bytes = []; taken = takes_nil now; same = same }

-- nothing
pub puts_none : (now : Option (List ℕ)) (buffer : List ℕ) → Puts now now buffer buffer []
puts_none now buffer = puts_pushed now buffer buffer [] (sym (append-nil buffer))

-- the buffer's text goes to the sink
pub puts_flushed : (before now : Option (List ℕ)) (buffer after : List ℕ) → Takes before now buffer → after ≡ []
    → Puts before now buffer after []
puts_flushed before now buffer after taken empty =
    record { bytes = buffer; taken = taken; same = ap (λ bytes. buffer ++ bytes) empty }

-- a text, and another behind it
pub puts_two : (first next last : Option (List ℕ)) (x y z text more : List ℕ)
    → Puts first next x y text → Puts next last y z more → Puts first last x z (text ++ more)
puts_two first next last x y z text more p q = record {
  bytes = p.bytes ++ q.bytes;
  taken = takes_both first next last p.bytes q.bytes p.taken q.taken;
  same = append_assoc p.bytes q.bytes z
      ∙ ap (λ bytes. p.bytes ++ bytes) q.same
      ∙ sym (append_assoc p.bytes y more)
      ∙ ap (λ bytes. bytes ++ more) p.same
      ∙ append_assoc x text more;
}

-- the same text, said otherwise
pub puts_same : (first last : Option (List ℕ)) (x z text other : List ℕ) → text ≡ other
    → Puts first last x z text → Puts first last x z other
puts_same first last x z text other same p = subst (λ (t : List ℕ). Puts first last x z t) same p

-- a text, and nothing behind it
pub puts_drained : (first next last : Option (List ℕ)) (x y z text : List ℕ)
    → Puts first next x y text → Puts next last y z [] → Puts first last x z text
puts_drained first next last x y z text p q =
    puts_same first last x z (text ++ []) text (append-nil text) (puts_two first next last x y z text [] p q)

-- a text by way of a buffer that was empty, and is so again
pub puts_whole : (first last : Option (List ℕ)) (x z text : List ℕ) → x ≡ [] → z ≡ [] → Puts first last x z text
    → Takes first last text
puts_whole first last x z text begun empty p =
    let all : p.bytes ≡ text = sym (append-nil p.bytes) ∙ ap (λ bytes. p.bytes ++ bytes) (sym empty) ∙ p.same
    ∙ ap (λ bytes. bytes ++ text) begun in
    subst (λ (t : List ℕ). Takes first last t) all p.taken

-- texts of items, and that of one more
flat_more : {X : Type 0} (f : X → List ℕ) (xs : List X) (i : ℕ) (x : X) → i < length xs → x ≡ get_or xs i x
    → flat_map f (take i xs) ++ f x ≡ flat_map f (take (i + 1) xs)
flat_more f xs i x below same =
    let next : take (i + 1) xs ≡ take i xs ++ x ∷ [] =
    take_more xs i x below ∙ ap (λ y. take i xs ++ y ∷ []) (sym same) in
    ap (λ bytes. flat_map f (take i xs) ++ bytes) (sym (append-nil (f x)))
    ∙ sym (flat_map-append f (take i xs) (x ∷ []))
    ∙ ap (flat_map f) (sym next)

pub puts_item : {X : Type 0} (f : X → List ℕ) (xs : List X) (i : ℕ) (item : X) (first next last : Option (List ℕ))
    (x y z : List ℕ) → i < length xs → item ≡ get_or xs i item → Puts first next x y (flat_map f (take i xs))
    → Puts next last y z (f item) → Puts first last x z (flat_map f (take (i + 1) xs))
puts_item f xs i item first next last x y z below same p q =
    puts_same first last x z (flat_map f (take i xs) ++ f item) (flat_map f (take (i + 1) xs))
    (flat_more f xs i item below same)
    (puts_two first next last x y z (flat_map f (take i xs)) (f item) p q)

-- characters of an output, and one more
pub puts_char : (at now : Sequence) (cs : List ℕ) (c : ℕ) (first next last : Option (List ℕ)) (x y z : List ℕ)
    → now ≡ after_all at cs → Puts first next x y (shown_chars Body at cs)
    → Puts next last y z (char_shown Body now c) → Puts first last x z (shown_chars Body at (cs ++ c ∷ []))
puts_char at now cs c first next last x y z same p q =
    puts_same first last x z (shown_chars Body at cs ++ char_shown Body now c) (shown_chars Body at (cs ++ c ∷ []))
    (shown_more Body at cs c now [] (shown_chars Body at cs) (shown_chars Body at cs ++ char_shown Body now c) refl same
    refl)
    (puts_two first next last x y z (shown_chars Body at cs) (char_shown Body now c) p q)

-- a text of an output, and another
shown_both : (at now : Sequence) (xs ys : List ℕ) → IsUtf8 xs → now ≡ after_all at (chars xs)
    → shown_chars Body at (chars xs) ++ shown_chars Body now (chars ys) ≡ shown_chars Body at (chars (xs ++ ys))
shown_both at now xs ys text same =
    ap (λ (s : Sequence). shown_chars Body at (chars xs) ++ shown_chars Body s (chars ys)) same
    ∙ sym (shown-append Body at (chars xs) (chars ys))
    ∙ ap (shown_chars Body at) (sym (chars-append xs ys text))

pub puts_texts : (at now : Sequence) (xs ys : List ℕ) (first next last : Option (List ℕ)) (x y z : List ℕ) → IsUtf8 xs
    → now ≡ after_all at (chars xs) → Puts first next x y (shown_chars Body at (chars xs))
    → Puts next last y z (shown_chars Body now (chars ys))
    → Puts first last x z (shown_chars Body at (chars (xs ++ ys)))
puts_texts at now xs ys first next last x y z text same p q =
    puts_same first last x z _ _ (shown_both at now xs ys text same)
    (puts_two first next last x y z (shown_chars Body at (chars xs)) (shown_chars Body now (chars ys)) p q)

pub after_texts : (at now next : Sequence) (xs ys : List ℕ) → IsUtf8 xs → now ≡ after_all at (chars xs)
    → next ≡ after_all now (chars ys) → next ≡ after_all at (chars (xs ++ ys))
after_texts at now next xs ys text same more =
    more ∙ ap (λ (s : Sequence). after_all s (chars ys)) same
    ∙ sym (after-append at (chars xs) (chars ys))
    ∙ ap (after_all at) (sym (chars-append xs ys text))

replacement_text : IsUtf8 replacement_bytes
unfolding encode
replacement_text = (0xFFFD ∷ [], (refl, refl))

chunk_is_text : (b : Bool) (valid : List ℕ) → IsUtf8 valid → IsUtf8 (valid ++ (if b then [] else replacement_bytes))
chunk_is_text true valid text = subst (λ (bytes : List ℕ). IsUtf8 bytes) (sym (append-nil valid)) text
chunk_is_text false valid text = IsUtf8-append valid replacement_bytes text replacement_text

chunk_lossy : (b : Bool) (bytes valid invalid rest : List ℕ) → (length invalid == 0) ≡ b
    → bytes ≡ valid ++ (invalid ++ rest) → length valid ≡ utf8_valid_len bytes
    → length invalid ≡ utf8_invalid_len (drop (utf8_valid_len bytes) bytes) → (length invalid ≡ 0 → length rest ≡ 0)
    → utf8_lossy bytes ≡ (valid ++ (if b then [] else replacement_bytes)) ++ utf8_lossy rest
chunk_lossy true bytes valid invalid rest is parts front back last =
    let none : length invalid ≡ 0 = grind (arith, nat_tests) in
    utf8_lossy_last_chunk bytes valid invalid rest parts front none (last none)
    ∙ ap (λ text. text ++ utf8_lossy rest) (sym (append-nil valid))
chunk_lossy false bytes valid invalid rest is parts front back last =
    let some : 0 < length invalid = grind (arith, nat_tests) in
    utf8_lossy_chunk bytes valid invalid rest parts front back some
    ∙ sym (append_assoc valid replacement_bytes (utf8_lossy rest))

-- a chunk of an output, before the rest of it
pub chunk_shown : (at now : Sequence) (bytes valid invalid rest : List ℕ) → IsUtf8 valid
    → bytes ≡ valid ++ (invalid ++ rest) → length valid ≡ utf8_valid_len bytes
    → length invalid ≡ utf8_invalid_len (drop (utf8_valid_len bytes) bytes) → (length invalid ≡ 0 → length rest ≡ 0)
    → now ≡ after_all at (chars (chunk_text valid invalid))
    → shown_chars Body at (chars (utf8_lossy bytes))
    ≡ shown_chars Body at (chars (chunk_text valid invalid)) ++ shown_chars Body now (chars (utf8_lossy rest))
chunk_shown at now bytes valid invalid rest text parts front back last same =
    ap (λ bs. shown_chars Body at (chars bs))
    (chunk_lossy (length invalid == 0) bytes valid invalid rest refl parts front back last)
    ∙ sym (shown_both at now (chunk_text valid invalid) (utf8_lossy rest)
    (chunk_is_text (length invalid == 0) valid text) same)

-- the same text of a call that may have failed
pub puts_made : {T E : Type 0} (first last : Option (List ℕ)) (x z text other : List ℕ) (r : Result T E) → text ≡ other
    → OnOk r (Puts first last x z text) → OnOk r (Puts first last x z other)
puts_made first last x z text other (Ok _) same p = puts_same first last x z text other same p
puts_made first last x z text other (Err _) same p = p

-- three texts, of which the last may have failed
pub puts_three : {T E : Type 0} (a b c d : Option (List ℕ)) (w x y z s t u : List ℕ) (r : Result T E) → Puts a b w x s
    → Puts b c x y t → OnOk r (Puts c d y z u) → OnOk r (Puts a d w z (s ++ (t ++ u)))
puts_three a b c d w x y z s t u (Ok _) p q o =
    puts_two a b d w x z s (t ++ u) p (puts_two b c d x y z t u q o)
puts_three a b c d w x y z s t u (Err _) p q o = o

-- a text of an output, and U+FFFD behind it
pub puts_chunk : {T E : Type 0} (b : Bool) (at now : Sequence) (valid : List ℕ) (first next last : Option (List ℕ))
    (x y z : List ℕ) (r : Result T E) → b ≡ false → IsUtf8 valid → now ≡ after_all at (chars valid)
    → Puts first next x y (shown_chars Body at (chars valid))
    → OnOk r (Puts next last y z (shown_chars Body now (chars replacement_bytes)))
    → OnOk r (Puts first last x z (shown_chars Body at (chars (valid ++ (if b then [] else replacement_bytes)))))
puts_chunk true at now valid first next last x y z r is text same p q = cc
puts_chunk false at now valid first next last x y z (Ok _) is text same p q =
    puts_texts at now valid replacement_bytes first next last x y z text same p q
puts_chunk false at now valid first next last x y z (Err _) is text same p q = q

pub after_chunk : {E : Type 0} (b : Bool) (at now : Sequence) (valid : List ℕ) (r : Result Sequence E) → b ≡ false
    → IsUtf8 valid → now ≡ after_all at (chars valid)
    → IfOk r (λ next. next ≡ after_all now (chars replacement_bytes))
    → IfOk r (λ next. next ≡ after_all at (chars (valid ++ (if b then [] else replacement_bytes))))
after_chunk true at now valid r is text same q = cc
after_chunk false at now valid (Ok next) is text same q = after_texts at now next valid replacement_bytes text same q
after_chunk false at now valid (Err _) is text same q = q

-- what is left of an output, one chunk further on
pub chunk_step : (at now : Sequence) (bytes v w i j rest text out : List ℕ) → IsUtf8 v → v ≡ w → i ≡ j
    → bytes ≡ w ++ (j ++ rest) → length w ≡ utf8_valid_len bytes
    → length j ≡ utf8_invalid_len (drop (utf8_valid_len bytes) bytes) → (length j ≡ 0 → length rest ≡ 0)
    → now ≡ after_all at (chars (chunk_text v i)) → text ++ shown_chars Body at (chars (utf8_lossy bytes)) ≡ out
    → (text ++ shown_chars Body at (chars (chunk_text v i))) ++ shown_chars Body now (chars (utf8_lossy rest)) ≡ out
chunk_step at now bytes v w i j rest text out is p q parts front back last same so_far =
    let parts_too : bytes ≡ v ++ (i ++ rest) = cc in
    let front_too : length v ≡ utf8_valid_len bytes = cc in
    let back_too : length i ≡ utf8_invalid_len (drop (utf8_valid_len bytes) bytes) = cc in
    append_assoc text (shown_chars Body at (chars (chunk_text v i))) (shown_chars Body now (chars (utf8_lossy rest)))
    ∙ ap (λ bs. text ++ bs) (sym (chunk_shown at now bytes v i rest is parts_too front_too back_too
    (λ none. last (sym (ap length q) ∙ none)) same))
    ∙ so_far

-- nothing is left of an output
pub chunks_end : (at : Sequence) (rest text out : List ℕ) → length rest ≡ 0
    → text ++ shown_chars Body at (chars (utf8_lossy rest)) ≡ out → text ≡ out
chunks_end at rest text out none all =
    sym (append-nil text)
    ∙ ap (λ bs. text ++ shown_chars Body at bs) (sym chars-nil)
    ∙ ap (λ bs. text ++ shown_chars Body at (chars bs)) (sym (utf8_lossy_empty rest none))
    ∙ all
