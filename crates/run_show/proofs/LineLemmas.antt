-- Lines of bytes.
use Rattle.std.proofs.Common.{◌≡◌, ◌≢◌, ℕ, zero, suc, ◌<◌, ◌==◌, ◌+◌, List, [], ◌∷◌, ◌++◌, sym}
use Rattle.std.proofs.Common.{add-one}
use Rattle.std.proofs.Common.{length, take, drop, get_or, Bool, true, false, refl, ap, arith, Option, Some, None}
use Rattle.std.proofs.Common.{eq-eqb}
use Rattle.std.proofs.Common.{length-append, append_assoc}
use Rattle.std.proofs.lemmas.List.{append-nil}
use Rattle.std.proofs.lemmas.Bool.Decides.{nat_tests}
use Rattle.memchr.specs.Find.{NoneBefore, Nowhere, Passes, is_byte}
use Rattle.run_input.specs.Lines.{lines_of, at_front}
use Rattle.run_capture.specs.Bytes.{Gives, AtEnd}
use Rattle.run_show.specs.FirstLines.{ahead, FirstLines, IsPartRead, IsFeedless, IsLast, TakesLinePart}

-- the first bytes, none of which is a line feed
feedless_take : (n : ℕ) (bytes : List ℕ) → ((k : ℕ) → k < n → get_or bytes k 0 ≢ 10) → IsFeedless (take n bytes)
feedless_take zero bytes before = tt
feedless_take (suc n) [] before = tt
feedless_take (suc n) (byte ∷ bytes) before =
    (before 0 (omega arith), feedless_take n bytes (λ k h. before (suc k) (omega arith)))

-- bytes, none of which is a line feed
feedless_each : (bytes : List ℕ) → ((k : ℕ) → k < length bytes → get_or bytes k 0 ≢ 10) → IsFeedless bytes
feedless_each [] before = tt
feedless_each (byte ∷ bytes) before =
    (before 0 (omega arith), feedless_each bytes (λ k h. before (suc k) (omega arith)))

-- the bytes before the first line feed
pub feedless_before : (bytes : List ℕ) (n : ℕ) → NoneBefore (Passes (is_byte 10) bytes) 0 (length bytes) n
    → IsFeedless (take n bytes)
feedless_before bytes n none =
    feedless_take n bytes (λ k h is. none.before k (omega arith) h (eq-eqb (get_or bytes k 0) 10 is))

-- bytes with no line feed
pub feedless_all : (bytes : List ℕ) → Nowhere (Passes (is_byte 10) bytes) 0 (length bytes) → IsFeedless bytes
feedless_all bytes none =
    feedless_each bytes (λ k h is. none k (omega arith) h (eq-eqb (get_or bytes k 0) 10 is))

-- bytes up to a line feed and behind it
pub split_at_feed : (n : ℕ) (bytes : List ℕ) → n < length bytes → get_or bytes n 0 ≡ 10
    → bytes ≡ take n bytes ++ (10 ∷ drop (length (take n bytes) + 1) bytes)
split_at_feed n [] within is = absurd (omega arith)
split_at_feed zero (byte ∷ bytes) within is = rw is refl
split_at_feed (suc n) (byte ∷ bytes) within is =
    rw (add-one (length (take (suc n) (byte ∷ bytes)))) (ap (λ rest. byte ∷ rest)
    (rw (add-one (length (take n bytes))) at (split_at_feed n bytes (omega arith) is)))

-- nothing stands behind the end
pub drop_past : (bytes : List ℕ) → drop (length bytes + 1) bytes ≡ []
drop_past [] = refl
drop_past (byte ∷ bytes) = rw (add-one (length (byte ∷ bytes))) (rw (add-one (length bytes)) at (drop_past bytes))

-- bytes with no line feed behind others
pub feedless_both : (xs ys : List ℕ) → IsFeedless xs → IsFeedless ys → IsFeedless (xs ++ ys)
feedless_both [] ys first second = second
feedless_both (x ∷ xs) ys first second = (first.0, feedless_both xs ys first.1 second)

-- a byte other than a line feed goes to the front of the line after it
lines_of-plain : (byte : ℕ) (bytes : List ℕ) → byte ≢ 10 → lines_of (byte ∷ bytes) ≡ at_front byte (lines_of bytes)
lines_of-plain byte bytes other = let e : (byte == 10) ≡ false = grind (arith, nat_tests) in rw e refl

-- a line before its line feed
lines_of-ended : (line rest : List ℕ) → IsFeedless line → lines_of (line ++ (10 ∷ rest)) ≡ line ∷ lines_of rest
lines_of-ended [] rest feedless = refl
lines_of-ended (byte ∷ line) rest feedless =
    rw (lines_of-plain byte (line ++ (10 ∷ rest)) feedless.0, lines_of-ended line rest feedless.1) refl

-- a last line
lines_of-alone : (line : List ℕ) → 0 < length line → IsFeedless line → lines_of line ≡ line ∷ []
lines_of-alone [] some feedless = absurd (omega arith)
lines_of-alone (byte ∷ []) some feedless = rw (lines_of-plain byte [] feedless.0) refl
lines_of-alone (byte ∷ next ∷ line) some feedless =
    rw (lines_of-plain byte (next ∷ line) feedless.0, lines_of-alone (next ∷ line) (omega arith) feedless.1) refl

-- of bytes whose line feed stands behind a front and a part, the first line is these
lines_of-joined : (line part behind rest : List ℕ) → IsFeedless line → IsFeedless part
    → lines_of (line ++ ((part ++ (10 ∷ behind)) ++ rest)) ≡ (line ++ part) ∷ lines_of (behind ++ rest)
lines_of-joined line part behind rest first second =
    let same : line ++ ((part ++ (10 ∷ behind)) ++ rest) ≡ (line ++ part) ++ (10 ∷ (behind ++ rest)) =
    simp append_assoc in
    rw same (lines_of-ended (line ++ part) (behind ++ rest) (feedless_both line part first second))

-- a line whose end was read
pub first_ended : (before left : Option (List ℕ)) (line part ready behind : List ℕ)
    → Gives before (ahead left ready) line → IsFeedless line → IsFeedless part → TakesLinePart true part ready behind
    → FirstLines before (ahead left behind) ((line ++ part) ∷ [])
first_ended before None line part ready behind gives first second takes = rw gives refl
first_ended before (Some rest) line part ready behind gives first second takes =
    rw (gives, takes) (ap Some (lines_of-joined line part behind rest first second))

-- a line whose end wasn't read yet
pub first_open : (before left : Option (List ℕ)) (line part ready behind : List ℕ)
    → Gives before (ahead left ready) line → TakesLinePart false part ready behind
    → Gives before (ahead left behind) (line ++ part)
first_open before None line part ready behind gives takes = gives
first_open before (Some rest) line part ready behind gives takes =
    rw (gives, takes.0, takes.1) (ap Some (sym (append_assoc line part rest)))

-- a last line, which has no end
first_last : (before after : Option (List ℕ)) (line : List ℕ)
    → Gives before after line → AtEnd after → IsFeedless line → 0 < length line → FirstLines before after (line ∷ [])
first_last before None line gives end feedless some = rw gives refl
first_last before (Some []) line gives end feedless some =
    rw (gives, append-nil line) (ap Some (lines_of-alone line some feedless))
first_last before (Some (byte ∷ rest)) line gives end feedless some = absurd (cc end)

-- no line
pub first_none : (before after : Option (List ℕ)) → Gives before after [] → FirstLines before after []
first_none before None gives = rw gives refl
first_none before (Some rest) gives = rw gives refl

-- at first nothing was read of a line
pub first_start : (before : Option (List ℕ)) → Gives before before []
first_start None = refl
first_start (Some rest) = refl

-- the same of what a part is taken of
pub next_ended : (before left left' : Option (List ℕ)) (line line' ready behind : List ℕ) (ended : Bool)
    → left' ≡ left → IsPartRead before (ahead left ready) line
    → ((part : List ℕ) × IsFeedless part × (line' ≡ line ++ part) × TakesLinePart ended part ready behind)
    → ended ≡ true → FirstLines before (ahead left' behind) (line' ∷ [])
next_ended before left left' line line' ready behind true same begun taken is =
    rw (same, taken.2) (first_ended before left line taken.0 ready behind begun.gives begun.feedless taken.1 taken.3)
next_ended before left left' line line' ready behind false same begun taken is = absurd (cc is)

pub next_begun : (before left left' : Option (List ℕ)) (line line' ready behind : List ℕ) (ended : Bool)
    → left' ≡ left → IsPartRead before (ahead left ready) line
    → ((part : List ℕ) × IsFeedless part × (line' ≡ line ++ part) × TakesLinePart ended part ready behind)
    → ended ≡ false → IsPartRead before (ahead left' behind) line'
next_begun before left left' line line' ready behind true same begun taken is = absurd (cc is)
next_begun before left left' line line' ready behind false same begun taken is =
    rw (same, taken.2) (record {
      gives = first_open before left line taken.0 ready behind begun.gives taken.3;
      feedless = feedless_both line taken.0 begun.feedless taken.1;
    })

-- all was taken
pub taken_all : (line line' ready behind : List ℕ) (ended : Bool)
    → ((part : List ℕ) × IsFeedless part × (line' ≡ line ++ part) × TakesLinePart ended part ready behind)
    → ended ≡ false → (behind ≡ []) × (length line' ≡ length line + length ready)
taken_all line line' ready behind true taken is = absurd (cc is)
taken_all line line' ready behind false taken is =
    (taken.3.1, rw (taken.2, taken.3.0) (length-append line taken.0))

-- a last line, if it has a byte
pub first_rest : (before after : Option (List ℕ)) (line : List ℕ) (lines : List (List ℕ))
    → IsPartRead before after line → AtEnd after → IsLast line lines → FirstLines before after lines
first_rest before after [] lines begun end last = rw last (first_none before after begun.gives)
first_rest before after (byte ∷ line) lines begun end last =
    rw last (first_last before after (byte ∷ line) begun.gives end begun.feedless (omega arith))

-- at first nothing was read of a line
pub first_begun : (before : Option (List ℕ)) → IsPartRead before before []
first_begun before = record { gives = first_start before; feedless = tt }

-- the same where what is to come has another name
pub begun_on : (before between after : Option (List ℕ)) (line : List ℕ)
    → after ≡ between → IsPartRead before between line → IsPartRead before after line
begun_on before between after line same begun = rw same begun
