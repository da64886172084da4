-- How often each finished test is shown again at an end.
use Rattle.std.proofs.Common.{◌≡◌, ℕ, suc, ◌+◌, Bool, true, false, if◌then◌else◌, List, [], ◌∷◌, length, refl, ap, ◌∙◌}
use Rattle.std.proofs.Common.{arith}
use Rattle.std.specs.List.{filter, filter_map, list_all}
use Rattle.run_events.specs.declared.events.ReporterEvent.{ReporterEvent}
use Rattle.run_events.specs.declared.events.TestFinished.{TestFinished}
use Rattle.run_report.specs.declared.levels.ReportSettings.{ReportSettings}
use Rattle.run_report.specs.Finished.{is_kept}
use Rattle.run_report.specs.Heard.{finish_in_event, kept_finishes, placed, placed_all, since_end, told_behind}

-- one more behind another
count_behind : {X : Type 0} (px py : Bool) (x y : X) (xs zs : List X) → length zs ≡ length (if px then x ∷ xs else xs)
    → length (if py then y ∷ zs else zs)
    ≡ length (if px then x ∷ (if py then y ∷ xs else xs) else (if py then y ∷ xs else xs))
count_behind true true x y xs zs e = ap suc e
count_behind true false x y xs zs e = e
count_behind false true x y xs zs e = ap suc e
count_behind false false x y xs zs e = e

count_either : {X : Type 0} (p : X → Bool) (front : Bool) (x y : X) (ys zs : List X)
    → length (filter p zs) ≡ length (filter p (x ∷ ys))
    → length (filter p (if front then x ∷ y ∷ ys else y ∷ zs)) ≡ length (filter p (x ∷ y ∷ ys))
count_either p true x y ys zs e = refl
count_either p false x y ys zs e = count_behind (p x) (p y) x y (filter p ys) (filter p zs) e

-- an item put into its place is there once more
count_placed : {X : Type 0} (p : X → Bool) (behind : X → X → Bool) (x : X) (xs : List X)
    → length (filter p (placed behind x xs)) ≡ length (filter p (x ∷ xs))
count_placed p behind x [] = refl
count_placed p behind x (y ∷ ys) =
    count_either p (list_all (behind x) (y ∷ ys)) x y ys (placed behind x ys) (count_placed p behind x ys)

count_cons : {X : Type 0} (b : Bool) (x : X) (xs bs : List X)
    → length (if b then x ∷ xs else xs) + length bs ≡ length xs + length (if b then x ∷ bs else bs)
count_cons true x xs bs = omega arith
count_cons false x xs bs = refl

-- so are all
count_all : {X : Type 0} (p : X → Bool) (behind : X → X → Bool) (done xs : List X)
    → length (filter p (placed_all behind done xs)) ≡ length (filter p done) + length (filter p xs)
count_all p behind done [] = omega arith
count_all p behind done (x ∷ xs) =
    count_all p behind (placed behind x done) xs
    ∙ ap (λ n. n + length (filter p xs)) (count_placed p behind x done)
    ∙ count_cons (p x) x (filter p done) (filter p xs)

from_none : (n : ℕ) → 0 + n ≡ n
from_none n = omega arith

-- each finished test that is to be shown again is shown as often as it was told
pub kept_once : (settings : ReportSettings) (told : List ReporterEvent) (p : TestFinished → Bool)
    → length (filter p (kept_finishes settings told))
    ≡ length (filter p (filter (λ x. is_kept settings x.finish) (filter_map finish_in_event (since_end told))))
kept_once settings told p =
    let kept = filter (λ x. is_kept settings x.finish) (filter_map finish_in_event (since_end told)) in
    count_all p told_behind [] kept ∙ from_none (length (filter p kept))
