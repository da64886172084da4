-- The tokens and the bytes of a line whose long outputs are kept as bytes.
use Rattle.std.proofs.Common.{◌≡◌, refl, ap, sym, subst, arith, ◌∙◌, ℕ, zero, suc, ◌-◌, ◌/◌, ◌%◌, ◌<◌, ◌≤◌}
use Rattle.std.proofs.Common.{List, [], ◌∷◌, ◌++◌, length, take, drop, append_assoc, fold, Bool, true, false, ◌&&◌}
use Rattle.std.proofs.Common.{inl, inr, nat_lt, not, ◌==◌, ltb-true, slice_index, slice_range, IsUtf8, length-append}
use Rattle.std.proofs.lemmas.Bool.{and_parts, cases_eq}
use Rattle.std.proofs.lemmas.List.{drop-append-le, take_at, length_push}
use Rattle.std.proofs.lemmas.Str.{IsUtf8-append, IsUtf8-take, IsUtf8-drop, IsUtf8-from_ascii}
use Rattle.std.proofs.lemmas.Str.{IsCharBoundary-at_seam, IsCharBoundary-after_ascii}
use Rattle.std.proofs.lemmas.Str.Ascii.{IsAscii-from_reads}
use Rattle.hex.proofs.HexLemmas.{IsAscii-encode_with}
use Rattle.json.proofs.Printed.Utf8.{IsUtf8-are_ascii}
use Rattle.hex.specs.Hex.{encode_with, encode_lower, lower_digits, IsBytes}
use Rattle.json.specs.Lex.{tokens}
use Rattle.json.specs.Print.{print, print_from, separator, ends, escape, escape_byte}
use Rattle.json.specs.Token.{Token, string}
use Rattle.json.proofs.Printed.Strings.{escape_byte_plain}
use Rattle.json.proofs.Printed.Tokens.{print_from-append, print_from_push}
use Rattle.run_output.specs.Fields.{line_bytes}
use Rattle.run_output.specs.Fronts.{Front, without_last, without_first, joined, BeginsEmpty, IsFront, Follow, AreCut}
use Rattle.run_output.specs.Fronts.{fronts_text, last_start, line_text, AreLong, IsLong}

-- ---- tokens

-- all but the last
pub without_last-push : {X : Type 0} (xs : List X) (x : X) → take (length (xs ++ x ∷ []) - 1) (xs ++ x ∷ []) ≡ xs
without_last-push xs x = take_at xs (x ∷ []) (length (xs ++ x ∷ []) - 1) (omega (arith, length_push xs x))

-- the tokens of a text before an output
front_tokens : (front : Front) (before : List Token) → IsFront front before
    → without_last (tokens front.0.items) ≡ before
front_tokens front before h = ap without_last h.read ∙ without_last-push before (string [])

-- the texts after an output begin with an empty string
joined_begins : (fronts : List Front) (last : List Token) → Follow fronts last → BeginsEmpty (joined fronts last)
joined_begins [] last h = h
joined_begins (front ∷ fronts) last h =
    let after = string (encode_lower front.1) ∷ without_first (joined fronts last) in
    (h.2.0 ++ after, ap (λ ts. ts ++ after) (front_tokens front h.0 h.1 ∙ h.2.1))

-- such tokens are not none
begins_long : (ts : List Token) → BeginsEmpty ts → 1 ≤ length ts
begins_long ts h = omega (arith, ap length h.1)

-- one more text in front
joined_step : (front : Front) (fronts others : List Front) (last end more : List Token)
    → BeginsEmpty (joined fronts last) → joined others end ≡ joined fronts last ++ more
    → joined (front ∷ others) end ≡ joined (front ∷ fronts) last ++ more
joined_step front fronts others last end more begun same =
    let before = without_last (tokens front.0.items) in
    let output = string (encode_lower front.1) in
    ap (λ ts. before ++ (output ∷ without_first ts)) same
    ∙ ap (λ ts. before ++ (output ∷ ts)) (drop-append-le 1 (joined fronts last) more (begins_long _ begun))
    ∙ sym (append_assoc before (output ∷ without_first (joined fronts last)) more)

-- more tokens at the end of what stands after an output
follow_more : (fronts : List Front) (last more : List Token) → Follow fronts last
    → (joined fronts (last ++ more) ≡ joined fronts last ++ more) × Follow fronts (last ++ more)
follow_more [] last more h = (refl, (h.0 ++ more, ap (λ ts. ts ++ more) h.1))
follow_more (front ∷ fronts) last more h =
    let rest = follow_more fronts last more h.3 in (
      joined_step front fronts fronts last (last ++ more) more (joined_begins fronts last h.3) rest.0,
      (h.0, h.1, h.2, rest.1),
    )

-- more tokens at the end
pub joined_more : (fronts : List Front) (last more : List Token) → AreCut fronts last
    → joined fronts (last ++ more) ≡ joined fronts last ++ more
joined_more [] last more h = refl
joined_more (front ∷ fronts) last more h =
    joined_step front fronts fronts last (last ++ more) more (joined_begins fronts last h.2)
    (follow_more fronts last more h.2).0

-- with more tokens at the end the texts are those of a line
pub cut_more : (fronts : List Front) (last more : List Token) → AreCut fronts last → AreCut fronts (last ++ more)
cut_more [] last more h = tt
cut_more (front ∷ fronts) last more h = (h.0, h.1, (follow_more fronts last more h.2).1)

-- the last text and an output after it
end_cut : (front : Front) (last : List Token) → IsFront front last
    → joined (front ∷ []) (string [] ∷ []) ≡ last ++ string (encode_lower front.1) ∷ []
end_cut front last h = ap (λ ts. ts ++ string (encode_lower front.1) ∷ []) (front_tokens front last h)

-- one more output after what stands after an output
follow_push : (fronts : List Front) (last : List Token) (front : Front) → IsFront front last → Follow fronts last
    → (joined (fronts ++ front ∷ []) (string [] ∷ []) ≡ joined fronts last ++ string (encode_lower front.1) ∷ [])
    × Follow (fronts ++ front ∷ []) (string [] ∷ [])
follow_push [] last front is h = (end_cut front last is, (last, is, h, ([], refl)))
follow_push (first ∷ fronts) last front is h =
    let rest = follow_push fronts last front is h.3 in (
      joined_step first fronts (fronts ++ front ∷ []) last (string [] ∷ []) (string (encode_lower front.1) ∷ [])
          (joined_begins fronts last h.3) rest.0,
      (h.0, h.1, h.2, rest.1),
    )

-- one more output
pub joined_push : (fronts : List Front) (last : List Token) (front : Front) → IsFront front last → AreCut fronts last
    → joined (fronts ++ front ∷ []) (string [] ∷ []) ≡ joined fronts last ++ string (encode_lower front.1) ∷ []
joined_push [] last front is h = end_cut front last is
joined_push (first ∷ fronts) last front is h =
    joined_step first fronts (fronts ++ front ∷ []) last (string [] ∷ []) (string (encode_lower front.1) ∷ [])
    (joined_begins fronts last h.2) (follow_push fronts last front is h.2).0

-- with one more output the texts are those of a line
pub cut_push : (fronts : List Front) (last : List Token) (front : Front) → IsFront front last → AreCut fronts last
    → AreCut (fronts ++ front ∷ []) (string [] ∷ [])
cut_push [] last front is h = (last, is, ([], refl))
cut_push (first ∷ fronts) last front is h = (h.0, h.1, (follow_push fronts last front is h.2).1)

-- no output more, and an empty last text
follow_anew : (fronts : List Front) (last : List Token) → Follow fronts last → Follow fronts (string [] ∷ [])
follow_anew [] last h = ([], refl)
follow_anew (front ∷ fronts) last h = (h.0, h.1, h.2, follow_anew fronts last h.3)

-- with an empty last text the texts are those of a line
pub cut_anew : (fronts : List Front) (last : List Token) → AreCut fronts last → AreCut fronts (string [] ∷ [])
cut_anew [] last h = tt
cut_anew (front ∷ fronts) last h = (h.0, h.1, follow_anew fronts last h.2)

-- ---- one call of a printer

-- a token, and what stays where it is not printed
pub more_printed : (fronts : List Front) (last now more : List Token) → AreCut fronts last → now ≡ last ++ more
    → joined fronts now ≡ joined fronts last ++ more
more_printed fronts last now more h e = ap (joined fronts) e ∙ joined_more fronts last more h

-- the texts are those of a line after it
pub stays_cut : (fronts : List Front) (last now more : List Token) → AreCut fronts last → now ≡ last ++ more
    → AreCut fronts now
stays_cut fronts last now more h e = subst (AreCut fronts) (sym e) (cut_more fronts last more h)

-- and where nothing was printed
pub same_cut : (fronts : List Front) (last now : List Token) → AreCut fronts last → now ≡ last → AreCut fronts now
same_cut fronts last now h e = subst (AreCut fronts) (sym e) h

-- what one call of a printer needs
pub ruleset printing = (more_printed, stays_cut, same_cut)

-- what a writer gave
pub is_front : (front : Front) (last all : List Token) (before : List ℕ) → all ≡ last ++ string [] ∷ [] → before ≡ []
    → front.0.items ≡ before ++ print all → tokens (print all) ≡ all → IsUtf8 (print all) → IsBytes front.1
    → IsFront front last
is_front front last all before ends_so none items reads utf8 bytes =
    let printed : front.0.items ≡ print all = items ∙ ap (λ b. b ++ print all) none in
    record {
      read = ap tokens printed ∙ reads ∙ ends_so;
      text = printed ∙ ap print ends_so;
      utf8 = subst IsUtf8 (sym printed) utf8;
      bytes = bytes;
    }

-- ---- bytes

-- the tests of hex digits: none needs an escape
abbrev digits_plain : ℕ → Bool
digits_plain zero = true
digits_plain (suc n) =
    nat_lt 47 (slice_index lower_digits n) && nat_lt (slice_index lower_digits n) 103
    && not (slice_index lower_digits n == 92) && digits_plain n

digit_plain : (n : ℕ) → digits_plain n ≡ true → (d : ℕ) → d < n
    → (47 < slice_index lower_digits d) × (slice_index lower_digits d < 103) × (slice_index lower_digits d ≡ 92 → ⊥)
digit_plain zero tests d below = absurd (omega arith)
digit_plain (suc n) tests d below =
    let x = slice_index lower_digits n in
    let parts = and_parts (nat_lt 47 x && nat_lt x 103 && not (x == 92)) (digits_plain n) tests in
    let own = and_parts (nat_lt 47 x && nat_lt x 103) (not (x == 92)) parts.0 in
    let range = and_parts (nat_lt 47 x) (nat_lt x 103) own.0 in
    elim (cases_eq d n) [
      | inl same ↦ rw same (ltb-true _ _ range.0, ltb-true _ _ range.1, not_so x own.1)
      | inr other ↦ digit_plain n parts.1 d (omega arith)
    ]
  where
    not_so : (x : ℕ) → not (x == 92) ≡ true → x ≡ 92 → ⊥
    not_so x test e = cc (rw e at test)

-- a digit is printed as it is
digit_escaped : (d : ℕ) → d < 16 → escape_byte (slice_index lower_digits d) ≡ slice_index lower_digits d ∷ []
digit_escaped d below =
    let plain = digit_plain 16 refl d below in
    escape_byte_plain (slice_index lower_digits d) (λ e. omega (arith, plain.0)) plain.2 (omega (arith, plain.0))

-- hex is printed as it is
pub escape-hex : (bytes : List ℕ) → IsBytes bytes → escape (encode_lower bytes) ≡ encode_lower bytes
unfolding encode_with
escape-hex [] h = refl
escape-hex (b ∷ bytes) h =
    let small : b < 256 = h 0 in
    let high = slice_index lower_digits (b / 16) in
    let low = slice_index lower_digits (b % 16) in
    ap (λ front. front ++ escape (low ∷ encode_lower bytes)) (digit_escaped (b / 16) (omega arith))
    ∙ ap (λ front. high ∷ (front ++ escape (encode_lower bytes))) (digit_escaped (b % 16) (omega arith))
    ∙ ap (λ rest. high ∷ low ∷ rest) (escape-hex bytes (λ i. h (suc i)))

-- a text with a quote at its end, up to that
opened : Bool → List Token → List ℕ
opened after before = print_from after before ++ (separator (fold (λ _ t. ends t) after before) (string []) ++ 34 ∷ [])

-- the text of tokens and an empty string
opened_closed : (after : Bool) (before : List Token)
    → print_from after (before ++ string [] ∷ []) ≡ opened after before ++ 34 ∷ []
unfolding opened
opened_closed after before =
    let comma = separator (fold (λ _ t. ends t) after before) (string []) in
    print_from_push after before (string [])
    ∙ ap (λ l. print_from after before ++ l) (sym (append_assoc comma (34 ∷ []) (34 ∷ [])))
    ∙ sym (append_assoc (print_from after before) (comma ++ 34 ∷ []) (34 ∷ []))

-- the text of tokens, a string without escapes and more tokens
printed_around : (after : Bool) (before : List Token) (text : List ℕ) (rest : List Token) → escape text ≡ text
    → print_from after (before ++ (string text ∷ rest)) ≡ opened after before ++ (text ++ (34 ∷ print_from true rest))
unfolding opened print_from
printed_around after before text rest plain =
    let comma = separator (fold (λ _ t. ends t) after before) (string text) in
    print_from-append after before (string text ∷ rest)
    ∙ ap (λ hex. print_from after before ++ (comma ++ ((34 ∷ (hex ++ 34 ∷ [])) ++ print_from true rest))) plain
    ∙ simp append_assoc

-- ---- the bytes of a line

-- the bytes of the first text
first_text : (front : Front) (before : List Token) → IsFront front before
    → front.0.items ≡ opened false before ++ 34 ∷ []
first_text front before h = h.text ∙ opened_closed false before

-- the bytes of a text after an output
later_text : (front : Front) (before : List Token) (h : IsFront front before) (b : BeginsEmpty before)
    → front.0.items ≡ 34 ∷ ((34 ∷ opened true b.0) ++ 34 ∷ [])
unfolding print_from
later_text front before h b =
    h.text ∙ ap (λ ts. print (ts ++ string [] ∷ [])) b.1 ∙ ap (λ l. 34 ∷ 34 ∷ l) (opened_closed true b.0)

-- the bytes of the last text after an output
end_text : (last : List Token) (b : BeginsEmpty last) → print last ≡ 34 ∷ (34 ∷ print_from true b.0)
unfolding print_from
end_text last b = ap print b.1

-- the part of the first text that counts
slice_first : (all m : List ℕ) → all ≡ m ++ 34 ∷ [] → slice_range all 0 (length all - 1) ≡ m
slice_first all m e =
    ap (λ l. slice_range l 0 (length l - 1)) e
    ∙ take_at m (34 ∷ []) (length (m ++ 34 ∷ []) - 1 - 0) (omega (arith, length_push m 34))

-- the part of a text after an output that counts
slice_later : (all m : List ℕ) → all ≡ 34 ∷ (m ++ 34 ∷ []) → slice_range all 1 (length all - 1) ≡ m
slice_later all m e =
    ap (λ l. slice_range l 1 (length l - 1)) e
    ∙ take_at m (34 ∷ []) (suc (length (m ++ 34 ∷ [])) - 1 - 1) (omega (arith, length_push m 34))

-- what stands after an output, with the quote that ends it
followed_text : (fronts : List Front) (last : List Token) → Follow fronts last
    → 34 ∷ print_from true (without_first (joined fronts last)) ≡ fronts_text 1 fronts ++ drop 1 (print last)
followed_text [] last h =
    ap (λ ts. 34 ∷ print_from true (without_first ts)) h.1 ∙ ap (drop 1) (sym (end_text last h))
followed_text (front ∷ fronts) last h =
    let hex = encode_lower front.1 in
    let rest = without_first (joined fronts last) in
    let own = slice_range front.0.items 1 (length front.0.items - 1) in
    ap (λ ts. 34 ∷ print_from true (without_first (ts ++ (string hex ∷ rest)))) (front_tokens front h.0 h.1 ∙ h.2.1)
    ∙ ap (λ l. 34 ∷ l) (printed_around true h.2.0 hex rest (escape-hex front.1 h.1.bytes))
    ∙ ap (λ l. (34 ∷ opened true h.2.0) ++ (hex ++ l)) (followed_text fronts last h.3)
    ∙ ap (λ l. l ++ (hex ++ (fronts_text 1 fronts ++ drop 1 (print last))))
    (sym (slice_later front.0.items (34 ∷ opened true h.2.0) (later_text front h.0 h.1 h.2)))
    ∙ simp append_assoc

-- the bytes of a line are its tokens' text
pub line_printed : (fronts : List Front) (last : List Token) → AreCut fronts last
    → line_text fronts (print last) ≡ print (joined fronts last)
line_printed [] last h = refl
line_printed (front ∷ fronts) last h =
    let hex = encode_lower front.1 in
    let rest = without_first (joined fronts last) in
    sym (ap (λ ts. print (ts ++ (string hex ∷ rest))) (front_tokens front h.0 h.1)
    ∙ printed_around false h.0 hex rest (escape-hex front.1 h.1.bytes)
    ∙ ap (λ l. opened false h.0 ++ (hex ++ l)) (followed_text fronts last h.2)
    ∙ ap (λ l. l ++ (hex ++ (fronts_text 1 fronts ++ drop 1 (print last))))
    (sym (slice_first front.0.items (opened false h.0) (first_text front h.0 h.1)))
    ∙ simp append_assoc)

-- ---- where the texts are cut

-- the first text has a quote
one_more : (all m : List ℕ) → all ≡ m ++ 34 ∷ [] → 1 ≤ length all
one_more all m e = omega (arith, ap length e, length_push m 34)

-- a text after an output has two
two_more : (all m : List ℕ) → all ≡ 34 ∷ (m ++ 34 ∷ []) → 2 ≤ length all
two_more all m e = omega (arith, ap length e, length_push m 34)

-- so has each text after an output
follow_long : (fronts : List Front) (last : List Token) → Follow fronts last
    → AreLong 1 fronts × (1 ≤ length (print last))
follow_long [] last h = (tt, omega (arith, ap length (end_text last h)))
follow_long (front ∷ fronts) last h =
    let rest = follow_long fronts last h.3 in
    ((two_more front.0.items (34 ∷ opened true h.2.0) (later_text front h.0 h.1 h.2), rest.0), rest.1)

-- each text has the quotes that do not count
pub is_long : (fronts : List Front) (last : List Token) → AreCut fronts last → IsLong fronts (print last)
is_long [] last h = (tt, omega arith)
is_long (front ∷ fronts) last h =
    let rest = follow_long fronts last h.2 in
    ((one_more front.0.items (opened false h.0) (first_text front h.0 h.1), rest.0), rest.1)

-- bytes more at the end
pub line_more : (fronts : List Front) (last more : List ℕ) → IsLong fronts last
    → (line_text fronts (last ++ more) ≡ line_text fronts last ++ more) × IsLong fronts (last ++ more)
line_more fronts last more h = (
  ap (λ l. fronts_text 0 fronts ++ l) (drop-append-le (last_start fronts) last more h.1)
      ∙ sym (append_assoc (fronts_text 0 fronts) (drop (last_start fronts) last) more),
  (h.0, omega (arith, length-append last more, h.1)),
)

-- ---- UTF-8

-- what stands before a quote is UTF-8
utf8_front : (m : List ℕ) → IsUtf8 (m ++ 34 ∷ []) → IsUtf8 m
utf8_front m u = subst IsUtf8 (take_at m (34 ∷ []) (length m) refl)
    (IsUtf8-take (m ++ 34 ∷ []) (length m) u
    (IsCharBoundary-at_seam (m ++ 34 ∷ []) m (34 ∷ []) refl (IsUtf8-are_ascii (34 ∷ []) refl)))

-- what stands after a quote is UTF-8
utf8_rest : (m : List ℕ) → IsUtf8 (34 ∷ m) → IsUtf8 m
utf8_rest m u = IsUtf8-drop (34 ∷ m) 1 u (IsCharBoundary-after_ascii (34 ∷ m) 0 u (omega arith) (omega arith))

-- hex is UTF-8
utf8_hex : (bytes : List ℕ) → IsUtf8 (encode_lower bytes)
utf8_hex bytes = IsUtf8-from_ascii (encode_lower bytes) (IsAscii-encode_with lower_digits bytes
    (IsAscii-from_reads lower_digits 16 (omega arith) (λ k below. omega (arith, (digit_plain 16 refl k below).1))))

-- what stands after an output is UTF-8
utf8_follow : (fronts : List Front) (last : List Token) → Follow fronts last → IsUtf8 (print last)
    → IsUtf8 (fronts_text 1 fronts ++ drop 1 (print last))
utf8_follow [] last h u =
    let e = end_text last h in
    subst (λ l. IsUtf8 (drop 1 l)) (sym e) (utf8_rest (34 ∷ print_from true h.0) (subst IsUtf8 e u))
utf8_follow (front ∷ fronts) last h u =
    let e = later_text front h.0 h.1 h.2 in
    let m = 34 ∷ opened true h.2.0 in
    let own : IsUtf8 (slice_range front.0.items 1 (length front.0.items - 1)) =
    subst IsUtf8 (sym (slice_later front.0.items m e))
    (utf8_front m (utf8_rest (m ++ 34 ∷ []) (subst IsUtf8 e h.1.utf8))) in
    subst IsUtf8 (simp append_assoc)
    (IsUtf8-append _ _ (IsUtf8-append _ _ own (utf8_hex front.1)) (utf8_follow fronts last h.3 u))

-- the text of a line is UTF-8
pub utf8_line : (fronts : List Front) (last : List Token) → AreCut fronts last → IsUtf8 (print last)
    → IsUtf8 (line_text fronts (print last))
utf8_line [] last h u = u
utf8_line (front ∷ fronts) last h u =
    let e = first_text front h.0 h.1 in
    let own : IsUtf8 (slice_range front.0.items 0 (length front.0.items - 1)) =
    subst IsUtf8 (sym (slice_first front.0.items (opened false h.0) e))
    (utf8_front (opened false h.0) (subst IsUtf8 e h.1.utf8)) in
    subst IsUtf8 (simp append_assoc)
    (IsUtf8-append _ _ (IsUtf8-append _ _ own (utf8_hex front.1)) (utf8_follow fronts last h.2 u))

-- ---- the line of a printer

-- its line, with the line feed
pub line_ended : (fronts : List Front) (last : List Token) (bytes : List ℕ) → AreCut fronts last
    → bytes ≡ line_bytes (print last)
    → IsLong fronts bytes × (line_text fronts bytes ≡ line_bytes (print (joined fronts last)))
line_ended fronts last bytes h e =
    let more = line_more fronts (print last) (10 ∷ []) (is_long fronts last h) in (
      subst (IsLong fronts) (sym e) more.1,
      ap (line_text fronts) e ∙ more.0 ∙ ap line_bytes (line_printed fronts last h),
    )

-- its line without that
pub line_whole : (fronts : List Front) (last : List Token) (bytes : List ℕ) → AreCut fronts last
    → bytes ≡ print last → IsUtf8 (print last)
    → IsLong fronts bytes × (line_text fronts bytes ≡ print (joined fronts last)) × IsUtf8 (line_text fronts bytes)
line_whole fronts last bytes h e u = (
  subst (IsLong fronts) (sym e) (is_long fronts last h),
  ap (line_text fronts) e ∙ line_printed fronts last h,
  subst (λ b. IsUtf8 (line_text fronts b)) (sym e) (utf8_line fronts last h u),
)
