-- Parts of a line, one after another.
use Rattle.std.proofs.Common.{◌≡◌, ℕ, Bool, List, [], ◌∷◌, ◌++◌, sym, ap, ◌∙◌, append_assoc, append-nil}
use Rattle.std.proofs.lemmas.List.Concat.{flat_map-append}
use Rattle.run_report.specs.Style.{Span, span_bytes, spans_bytes}

-- some parts and more behind them
pub spans_two : (color : Bool) (front : List ℕ) (xs ys : List Span)
    → (front ++ spans_bytes color xs) ++ spans_bytes color ys ≡ front ++ spans_bytes color (xs ++ ys)
unfolding spans_bytes
spans_two color front xs ys =
    append_assoc front _ _ ∙ ap (λ bytes. front ++ bytes) (sym (flat_map-append (span_bytes color) xs ys))

-- one part and more behind it
pub spans_after : (color : Bool) (front : List ℕ) (y : Span) (ys : List Span)
    → (front ++ span_bytes color y) ++ spans_bytes color ys ≡ front ++ spans_bytes color (y ∷ ys)
unfolding spans_bytes
spans_after color front y ys = append_assoc front (span_bytes color y) (spans_bytes color ys)

-- some parts and one more behind them
pub spans_one : (color : Bool) (front : List ℕ) (xs : List Span) (y : Span)
    → (front ++ spans_bytes color xs) ++ span_bytes color y ≡ front ++ spans_bytes color (xs ++ y ∷ [])
unfolding spans_bytes
spans_one color front xs y =
    ap (λ bytes. (front ++ spans_bytes color xs) ++ bytes) (sym (append-nil (span_bytes color y)))
    ∙ spans_two color front xs (y ∷ [])
