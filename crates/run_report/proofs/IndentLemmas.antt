-- Outputs that are indented some bytes at a time.
use Rattle.std.proofs.Common.{◌≡◌, ℕ, ◌+◌, ◌≤◌, ◌<◌, List, [], ◌∷◌, ◌++◌, length, take, drop, get_or, refl, sym}
use Rattle.std.proofs.Common.{ap, ◌∙◌}
use Rattle.std.proofs.Common.{append_assoc}
use Rattle.std.proofs.Math.Seq.{take-add}
use Rattle.std.proofs.lemmas.List.{take_all, take_more, take-append-drop}
use Rattle.run_report.specs.Indent.{indented_after, last_byte, output_end, output_shown}

-- bytes and more bytes behind them
pub indented-append : (before : ℕ) (xs ys : List ℕ)
    → indented_after before (xs ++ ys) ≡ indented_after before xs ++ indented_after (last_byte before xs) ys
indented-append before [] ys = refl
indented-append before (x ∷ xs) ys =
    let front = indented_after before (x ∷ []) in
    let rest = indented-append x xs ys in
    simp (rest, append_assoc) refl

-- the last of bytes and more bytes behind them
pub last_byte-append : (before : ℕ) (xs ys : List ℕ)
    → last_byte before (xs ++ ys) ≡ last_byte (last_byte before xs) ys
last_byte-append before [] ys = refl
last_byte-append before (x ∷ xs) ys = last_byte-append x xs ys

-- one byte more
pub indented_more : (before : ℕ) (xs front : List ℕ) (i : ℕ) → i < length xs
    → (front ++ indented_after before (take i xs))
    ++ indented_after (last_byte before (take i xs)) (get_or xs i 0 ∷ [])
    ≡ front ++ indented_after before (take (i + 1) xs)
indented_more before xs front i below =
    append_assoc front _ _
    ∙ ap (λ bytes. front ++ bytes) (sym (indented-append before (take i xs) (get_or xs i 0 ∷ [])))
    ∙ ap (λ bytes. front ++ indented_after before bytes) (sym (take_more xs i 0 below))

-- the last of one byte more
pub last_byte_more : (before : ℕ) (xs : List ℕ) (i : ℕ) → i < length xs
    → get_or xs i 0 ≡ last_byte before (take (i + 1) xs)
last_byte_more before xs i below =
    sym (last_byte-append before (take i xs) (get_or xs i 0 ∷ []))
    ∙ ap (last_byte before) (sym (take_more xs i 0 below))

-- some bytes more, from a place on
pub next_part : (out : List ℕ) (at n k last : ℕ) → k ≡ n → last ≡ last_byte 10 (take at out)
    → indented_after 10 (take at out) ++ indented_after last (take k (drop at out))
    ≡ indented_after 10 (take (at + n) out)
next_part out at n k last size same =
    ap (λ (l : ℕ). indented_after 10 (take at out) ++ indented_after l (take k (drop at out))) same
    ∙ ap (λ (m : ℕ). indented_after 10 (take at out)
    ++ indented_after (last_byte 10 (take at out)) (take m (drop at out))) size
    ∙ sym (indented-append 10 (take at out) (take n (drop at out)))
    ∙ ap (indented_after 10) (sym (take-add at n out))

-- the last of them
pub next_last : (out : List ℕ) (at n k last : ℕ) → k ≡ n → last ≡ last_byte 10 (take at out)
    → last_byte last (take k (drop at out)) ≡ last_byte 10 (take (at + n) out)
next_last out at n k last size same =
    ap (λ (l : ℕ). last_byte l (take k (drop at out))) same
    ∙ ap (λ (m : ℕ). last_byte (last_byte 10 (take at out)) (take m (drop at out))) size
    ∙ sym (last_byte-append 10 (take at out) (take n (drop at out)))
    ∙ ap (last_byte 10) (sym (take-add at n out))

-- a front part of an output, and all behind it
pub rest_part : (out : List ℕ) (k : ℕ)
    → indented_after 10 (take k out)
    ++ (indented_after (last_byte 10 (take k out)) (drop k out) ++ output_end (last_byte 10 out))
    ≡ output_shown out
unfolding output_shown
rest_part out k =
    sym (append_assoc (indented_after 10 (take k out)) _ _)
    ∙ ap (λ bytes. bytes ++ output_end (last_byte 10 out))
    (sym (indented-append 10 (take k out) (drop k out)) ∙ ap (indented_after 10) (take-append-drop k out))

-- a whole output
pub whole_part : (out : List ℕ) (at last : ℕ) → at ≤ length out → length out ≤ at → last ≡ last_byte 10 (take at out)
    → indented_after 10 (take at out) ++ output_end last ≡ output_shown out
unfolding output_shown
whole_part out at last within end same =
    ap (λ (l : ℕ). indented_after 10 (take at out) ++ output_end l) same
    ∙ ap (λ bytes. indented_after 10 bytes ++ output_end (last_byte 10 bytes)) (take_all at out end)
