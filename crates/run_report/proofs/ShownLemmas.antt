-- A text in parts.
use Rattle.std.proofs.Common.{◌≡◌, ℕ, ◌+◌, ◌<◌, List, [], ◌∷◌, ◌++◌, length, take, drop, get_or, sym, ap, ◌∙◌}
use Rattle.std.proofs.Common.{append-nil}
use Rattle.std.proofs.lemmas.List.{take_more, take-append-drop}
use Rattle.std.proofs.lemmas.List.Concat.{flat_map-append}
use Rattle.run_report.specs.declared.shown.Part.{Part}
use Rattle.run_report.specs.Shown.{part_shown, parts_shown}

-- the parts up to a place, the part there, and those behind it
pub parts_at : (xs : List Part) (i : ℕ) (x : Part) → i < length xs → x ≡ get_or xs i x
    → (parts_shown (take i xs) ++ part_shown x) ++ parts_shown (drop (i + 1) xs) ≡ parts_shown xs
parts_at xs i x below same =
    let one : parts_shown (x ∷ []) ≡ part_shown x = append-nil (part_shown x) in
    let front : take (i + 1) xs ≡ take i xs ++ x ∷ [] =
    take_more xs i x below ∙ ap (λ y. take i xs ++ y ∷ []) (sym same) in
    ap (λ bytes. (parts_shown (take i xs) ++ bytes) ++ parts_shown (drop (i + 1) xs)) (sym one)
    ∙ ap (λ bytes. bytes ++ parts_shown (drop (i + 1) xs))
    (sym (flat_map-append part_shown (take i xs) (x ∷ [])) ∙ ap parts_shown (sym front))
    ∙ sym (flat_map-append part_shown (take (i + 1) xs) (drop (i + 1) xs))
    ∙ ap parts_shown (take-append-drop (i + 1) xs)
