-- Texts in a document, character by character.
use Rattle.std.proofs.Common.{◌≡◌, ℕ, List, [], ◌∷◌, ◌++◌, refl, sym, ap, ◌∙◌, append_assoc, append-nil}
use Rattle.run_junit.specs.declared.escape.Place.{Place}
use Rattle.run_junit.specs.declared.escape.Sequence.{Sequence}
use Rattle.run_junit.specs.Escape.{sequence_after, after_all, char_shown, shown_chars}

-- characters and more behind them
pub shown-append : (place : Place) (at : Sequence) (xs ys : List ℕ)
    → shown_chars place at (xs ++ ys) ≡ shown_chars place at xs ++ shown_chars place (after_all at xs) ys
shown-append place at [] ys = refl
shown-append place at (x ∷ xs) ys =
    ap (λ rest. char_shown place at x ++ rest) (shown-append place (sequence_after at x) xs ys)
    ∙ sym (append_assoc (char_shown place at x) _ _)

pub after-append : (at : Sequence) (xs ys : List ℕ) → after_all at (xs ++ ys) ≡ after_all (after_all at xs) ys
after-append at [] ys = refl
after-append at (x ∷ xs) ys = after-append (sequence_after at x) xs ys

-- one character more behind some
pub shown_more : (place : Place) (at : Sequence) (xs : List ℕ) (c : ℕ) (now : Sequence) (front before after_it : List ℕ)
    → before ≡ front ++ shown_chars place at xs → now ≡ after_all at xs
    → after_it ≡ before ++ char_shown place now c → after_it ≡ front ++ shown_chars place at (xs ++ c ∷ [])
shown_more place at xs c now front before after_it so_far same more =
    more
    ∙ ap (λ bytes. bytes ++ char_shown place now c) so_far
    ∙ append_assoc front (shown_chars place at xs) _
    ∙ ap (λ (s : Sequence). front ++ (shown_chars place at xs ++ char_shown place s c)) same
    ∙ ap (λ bytes. front ++ (shown_chars place at xs ++ bytes)) (sym (append-nil _))
    ∙ ap (λ bytes. front ++ bytes) (sym (shown-append place at xs (c ∷ [])))

pub after_more : (at : Sequence) (xs : List ℕ) (c : ℕ) (now next : Sequence) → now ≡ after_all at xs
    → next ≡ sequence_after now c → next ≡ after_all at (xs ++ c ∷ [])
after_more at xs c now next same more =
    more ∙ ap (λ (s : Sequence). sequence_after s c) same ∙ sym (after-append at xs (c ∷ []))
