-- What a sink took of a line that is written piece by piece.
use Rattle.std.proofs.Common.{◌≡◌, refl, ap, sym, subst, arith, ◌∙◌, ℕ, ◌+◌, ◌-◌, ◌<◌, ◌≤◌, List, [], ◌∷◌, ◌++◌, length}
use Rattle.std.proofs.Common.{take, drop, get_or, append_assoc, length-append, slice_range, slice_index, ◌/◌, ◌%◌}
use Rattle.std.proofs.Common.{Option, Some, None, option_map, Result, Ok, Err}
use Rattle.std.specs.Result.{IsErr, OnErr}
use Rattle.std.proofs.Math.Seq.{take-append-add, take-add}
use Rattle.std.proofs.lemmas.List.{append-nil, take-append-le, take-append-drop, drop_more, drop_all}
use Rattle.run_capture.specs.Bytes.{Takes}
use Rattle.run_capture.proofs.BytesLemmas.{takes_both, take-drop_all}
use Rattle.hex.specs.Hex.{encode_with, encode_lower}
use Rattle.run_output.specs.Fronts.{Front, fronts_text, line_text, AreLong}

-- a front part of a text was taken, and not all
abbrev pub TookPart : Option (List ℕ) → Option (List ℕ) → List ℕ → Type 0
TookPart before after text = (n : ℕ) × (n < length text) × Takes before after (take n text)

-- a part of the text is one of a longer text
pub part_longer : (before after : Option (List ℕ)) (text more all : List ℕ) → all ≡ text ++ more
    → TookPart before after text → TookPart before after all
part_longer before after text more all e part = (
  part.0,
  omega (arith, part.1, ap length e, length-append text more),
  part.2 ∙ ap (λ bytes. option_map (λ t. t ++ bytes) before)
      (sym (ap (take part.0) e ∙ take-append-le part.0 text more (omega (arith, part.1)))),
)

-- a text was taken, and then a part of what comes after it
pub part_later : (before between after : Option (List ℕ)) (text more all : List ℕ) → all ≡ text ++ more
    → Takes before between text → TookPart between after more → TookPart before after all
part_later before between after text more all e whole part = (
  length text + part.0,
  omega (arith, part.1, ap length e, length-append text more),
  takes_both before between after text (take part.0 more) whole part.2
      ∙ ap (λ bytes. option_map (λ t. t ++ bytes) before)
      (sym (ap (take (length text + part.0)) e ∙ take-append-add text more part.0)),
)

-- nothing was taken
pub takes_none : (before : Option (List ℕ)) → Takes before before []
takes_none None = refl
takes_none (Some taken) = ap Some (sym (append-nil taken))

-- what holds, holds at an error
pub at_err : {T E P : Type 0} (r : Result T E) → IsErr r → P → OnErr r P
at_err (Ok x) is p = tt
at_err (Err e) is p = p

-- ---- hex

-- the hex of no bytes, and of bytes and more
pub encode-nil : encode_lower [] ≡ []
unfolding encode_with
encode-nil = refl

pub encode-append : (digits xs ys : List ℕ)
    → encode_with digits (xs ++ ys) ≡ encode_with digits xs ++ encode_with digits ys
unfolding encode_with
encode-append digits [] ys = refl
encode-append digits (x ∷ xs) ys =
    ap (λ l. slice_index digits (x / 16) ∷ slice_index digits (x % 16) ∷ l) (encode-append digits xs ys)

-- the bytes up to a later place
pub take-to : (bytes : List ℕ) (at end : ℕ) → at ≤ end → take end bytes ≡ take at bytes ++ slice_range bytes at end
take-to bytes at end below =
    ap (λ n. take n bytes) (omega arith) ∙ take-add at (end - at) bytes

-- the hex of bytes was taken, and then that of some more
pub hex_more : (before between after : Option (List ℕ)) (bytes : List ℕ) (at end : ℕ) → at ≤ end
    → Takes before between (encode_lower (take at bytes))
    → Takes between after (encode_lower (slice_range bytes at end))
    → Takes before after (encode_lower (take end bytes))
hex_more before between after bytes at end below whole more =
    takes_both before between after (encode_lower (take at bytes)) (encode_lower (slice_range bytes at end)) whole more
    ∙ ap (λ text. option_map (λ t. t ++ text) before)
    (sym (ap encode_lower (take-to bytes at end below) ∙ encode-append _ (take at bytes) (slice_range bytes at end)))

-- and then a part of that of some more
pub hex_part : (before between after : Option (List ℕ)) (bytes : List ℕ) (at end : ℕ) → at ≤ end
    → Takes before between (encode_lower (take at bytes))
    → TookPart between after (encode_lower (slice_range bytes at end))
    → TookPart before after (encode_lower bytes)
hex_part before between after bytes at end below whole part =
    let few = slice_range bytes at end in
    part_longer before after (encode_lower (take end bytes)) (encode_lower (drop end bytes)) (encode_lower bytes)
    (ap encode_lower (sym (take-append-drop end bytes)) ∙ encode-append _ (take end bytes) (drop end bytes))
    (part_later before between after (encode_lower (take at bytes)) (encode_lower few) (encode_lower (take end bytes))
    (ap encode_lower (take-to bytes at end below) ∙ encode-append _ (take at bytes) few) whole part)

-- ---- texts, each with an output after it

-- the texts before a place were taken, of which those from there on count from a start
abbrev pub TookFronts : Option (List ℕ) → Option (List ℕ) → List Front → ℕ → ℕ → Type 0
TookFronts before after fronts start i =
    (text : List ℕ) × Takes before after text × (fronts_text 0 fronts ≡ text ++ fronts_text start (drop i fronts))

-- the bytes of a text that counts from a place on, and of the output after it
abbrev pub front_text : ℕ → Front → List ℕ
front_text start front = slice_range front.0.items start (length front.0.items - 1) ++ encode_lower front.1

fronts_here : (fronts : List Front) (start i : ℕ) (front : Front) → i < length fronts → front ≡ get_or fronts i front
    → fronts_text start (drop i fronts) ≡ front_text start front ++ fronts_text 1 (drop (i + 1) fronts)
fronts_here fronts start i front below is =
    ap (fronts_text start) (drop_more fronts i front below)
    ∙ ap (λ f. fronts_text start (f ∷ drop (i + 1) fronts)) (sym is)
    ∙ sym (append_assoc (slice_range front.0.items start (length front.0.items - 1)) (encode_lower front.1) _)

-- one more of them was taken
pub fronts_more : (before between after : Option (List ℕ)) (fronts : List Front) (start i : ℕ) (front : Front)
    → i < length fronts → front ≡ get_or fronts i front → TookFronts before between fronts start i
    → Takes between after (front_text start front) → TookFronts before after fronts 1 (i + 1)
fronts_more before between after fronts start i front below is told more =
    let own = front_text start front in
    let rest = fronts_text 1 (drop (i + 1) fronts) in (
      told.0 ++ own,
      takes_both before between after told.0 own told.1 more,
      told.2 ∙ ap (λ l. told.0 ++ l) (fronts_here fronts start i front below is) ∙ sym (append_assoc told.0 own rest),
    )

-- and of one more a part
pub fronts_part : (before between after : Option (List ℕ)) (fronts : List Front) (start i : ℕ) (front : Front)
    → i < length fronts → front ≡ get_or fronts i front → TookFronts before between fronts start i
    → TookPart between after (front_text start front) → TookPart before after (fronts_text 0 fronts)
fronts_part before between after fronts start i front below is told part =
    let own = front_text start front in
    let rest = fronts_text 1 (drop (i + 1) fronts) in
    part_later before between after told.0 (own ++ rest) (fronts_text 0 fronts)
    (told.2 ∙ ap (λ l. told.0 ++ l) (fronts_here fronts start i front below is)) told.1
    (part_longer between after own rest (own ++ rest) refl part)

-- all of them were taken
pub fronts_all : (before after : Option (List ℕ)) (fronts : List Front) (start i : ℕ) → length fronts ≤ i
    → TookFronts before after fronts start i → Takes before after (fronts_text 0 fronts)
fronts_all before after fronts start i past told =
    told.1 ∙ ap (λ text. option_map (λ t. t ++ text) before)
    (sym (told.2 ∙ ap (λ l. told.0 ++ fronts_text start l) (drop_all i fronts past) ∙ append-nil told.0))

-- the next text has the quotes that do not count
pub long_here : (fronts : List Front) (start i : ℕ) (front : Front) → i < length fronts → front ≡ get_or fronts i front
    → AreLong start (drop i fronts) → (start + 1 ≤ length front.0.items) × AreLong 1 (drop (i + 1) fronts)
long_here fronts start i front below is h =
    subst (λ f. (start + 1 ≤ length f.0.items) × AreLong 1 (drop (i + 1) fronts)) (sym is)
    (subst (AreLong start) (drop_more fronts i front below) h)

-- the bytes of a line with an output, of which the last text is written as a range to its end
pub line_after : (fronts : List Front) (last : List ℕ) → 0 < length fronts
    → line_text fronts last ≡ fronts_text 0 fronts ++ take (length last - 1) (drop 1 last)
line_after [] last some = absurd (omega arith)
line_after (front ∷ fronts) last some = ap (λ l. fronts_text 0 (front ∷ fronts) ++ l) (sym (take-drop_all 1 last))
