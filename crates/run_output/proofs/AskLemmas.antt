-- Lines of asks, one after another.
use Rattle.std.proofs.Common.{◌≡◌, refl, ap, sym, ◌∙◌, ℕ, List, [], ◌∷◌, ◌++◌, append_assoc}
use Rattle.std.proofs.lemmas.List.{append-nil}
use Rattle.run_events.specs.declared.ask.Ask.{Ask}
use Rattle.run_output.specs.Asks.{ask_lines, ask_text}
use Rattle.run_output.specs.Fields.{line_bytes}

-- lines, and then others
ask_lines_append : (xs ys : List (ℕ × Ask)) → ask_lines (xs ++ ys) ≡ ask_lines xs ++ ask_lines ys
ask_lines_append [] ys = refl
ask_lines_append (x ∷ xs) ys =
    let line = line_bytes (ask_text x.0 x.1) in
    ap (λ l. line ++ l) (ask_lines_append xs ys) ∙ sym (append_assoc line (ask_lines xs) (ask_lines ys))

-- lines, and one more
pub one_more_ask : (xs : List (ℕ × Ask)) (turn : ℕ) (ask : Ask) (old new line : List ℕ)
    → old ≡ ask_lines xs → line ≡ line_bytes (ask_text turn ask) → new ≡ old ++ line
    → new ≡ ask_lines (xs ++ (turn, ask) ∷ [])
one_more_ask xs turn ask old new line before is more =
    more ∙ ap (λ l. l ++ line) before
    ∙ ap (λ l. ask_lines xs ++ l) (is ∙ sym (append-nil (line_bytes (ask_text turn ask))))
    ∙ sym (ask_lines_append xs ((turn, ask) ∷ []))

-- no more lines
pub no_more_asks : (xs : List (ℕ × Ask)) (old new : List ℕ)
    → old ≡ ask_lines xs → new ≡ old → new ≡ ask_lines (xs ++ [])
no_more_asks xs old new before same = same ∙ before ∙ ap ask_lines (sym (append-nil xs))
