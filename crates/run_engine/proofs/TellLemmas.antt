-- Events told one after another.
use Rattle.std.proofs.Common.{◌≡◌, ℕ, ◌+◌, ◌<◌, List, [], ◌∷◌, ◌++◌, length, take, zip, get_or, refl, ap, sym, ◌∙◌}
use Rattle.std.proofs.Common.{arith, length-take}
use Rattle.std.proofs.lemmas.List.{take_more}
use Rattle.run_capture.proofs.Facts.{zip-push}

-- the pairs of the first items of a list, and the next one
pub zip-more : {X Y : Type 0} (xs : List X) (ys : List Y) (i : ℕ) (x : X) (y : Y) → i < length xs → length ys ≡ i
    → x ≡ get_or xs i x
    → zip (take (i + 1) xs) (ys ++ y ∷ []) ≡ zip (take i xs) ys ++ (x, y) ∷ []
zip-more xs ys i x y inside many is =
    ap (λ zs. zip zs (ys ++ y ∷ [])) (take_more xs i x inside ∙ ap (λ z. take i xs ++ z ∷ []) (sym is))
    ∙ zip-push (take i xs) ys x y (omega (arith, length-take i xs))
