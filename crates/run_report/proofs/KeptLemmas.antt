-- Finished tests in order.
use Rattle.std.proofs.Common.{◌≡◌, ℕ, zero, suc, ◌≤◌, ◌<◌, Bool, true, false, ◌&&◌, if◌then◌else◌, List, []}
use Rattle.std.proofs.Common.{◌∷◌, ◌++◌}
use Rattle.std.proofs.Common.{length, drop, get_or, map, refl, sym, ap, ◌∙◌, arith, subst}
use Rattle.std.proofs.lemmas.List.Concat.{flat_map-append}
use Rattle.std.specs.List.{flat_map, insert, list_all}
use Rattle.run_events.specs.declared.events.TestFinished.{TestFinished}
use Rattle.run_events.specs.declared.plan.TestInstanceId.{TestInstanceId}
use Rattle.run_report.specs.declared.kept.Kept.{Kept}
use Rattle.run_report.specs.declared.levels.ReportSettings.{ReportSettings}
use Rattle.run_report.specs.Finished.{kept_pieces}
use Rattle.run_report.specs.Heard.{id_behind, placed, placed_all, told_behind}
use Rattle.run_report.specs.Kept.{kept_behind, kept_bytes, kept_for}
use Rattle.run_report.specs.Pieces.{piece_bytes, pieces_bytes}

never : (b : Bool) → (b && false) ≡ false
never true = refl
never false = refl

-- items of which one fails don't all pass
not_all : {X : Type 0} (p : X → Bool) (xs : List X) (i : ℕ) (d : X) → i < length xs → p (get_or xs i d) ≡ false
    → list_all p xs ≡ false
not_all p [] i d below fails = absurd (omega arith)
not_all p (x ∷ xs) zero d below fails = ap (λ b. b && list_all p xs) fails
not_all p (x ∷ xs) (suc i) d below fails =
    ap (λ b. p x && b) (not_all p xs i d (omega arith) fails) ∙ never (p x)

-- an item at the front, where all stand behind it
at_front : {X : Type 0} (behind : X → X → Bool) (x : X) (xs : List X) → list_all (behind x) xs ≡ true
    → x ∷ xs ≡ placed behind x xs
at_front behind x [] all = refl
at_front behind x (y ∷ ys) all =
    ap (λ (b : Bool). if b then x ∷ y ∷ ys else y ∷ placed behind x ys) (sym all)

-- an item further on, where one doesn't stand behind it
further : {X : Type 0} (behind : X → X → Bool) (x y : X) (ys : List X) → list_all (behind x) (y ∷ ys) ≡ false
    → y ∷ placed behind x ys ≡ placed behind x (y ∷ ys)
further behind x y ys fails =
    ap (λ (b : Bool). if b then x ∷ y ∷ ys else y ∷ placed behind x ys) (sym fails)

-- an item before those that stand behind it, of which the one before them doesn't
pub placed_at : {X : Type 0} (behind : X → X → Bool) (x d : X) (xs : List X) (at : ℕ) → at ≤ length xs
    → list_all (behind x) (drop at xs) ≡ true
    → ((n : ℕ) → suc n ≡ at → behind x (get_or xs n d) ≡ false)
    → insert xs at x ≡ placed behind x xs
placed_at behind x d xs zero within all before = at_front behind x xs all
placed_at behind x d [] (suc at) within all before = absurd (omega arith)
placed_at behind x d (y ∷ ys) (suc zero) within all before =
    ap (λ zs. y ∷ zs) (at_front behind x ys all)
    ∙ further behind x y ys (not_all (behind x) (y ∷ ys) 0 d (omega arith) (before 0 refl))
placed_at behind x d (y ∷ ys) (suc (suc at)) within all before =
    let fails : behind x (get_or ys at d) ≡ false = before (suc at) refl in
    let next : (n : ℕ) → suc n ≡ suc at → behind x (get_or ys n d) ≡ false =
    λ n e. let same : n ≡ at = omega (arith, e) in
    subst (λ (k : ℕ). behind x (get_or ys k d) ≡ false) (sym same) fails in
    ap (λ zs. y ∷ zs) (placed_at behind x d ys (suc at) (omega arith) all next)
    ∙ further behind x y ys (not_all (behind x) (y ∷ ys) (suc at) d (omega arith) fails)

-- what is kept of a test, before those that stand behind it
pub kept_place : (id : TestInstanceId) (kept : List Kept) (at : ℕ) (test d : Kept) → test.id ≡ id → at ≤ length kept
    → list_all (λ k. id_behind id k.id) (drop at kept) ≡ true
    → ((n : ℕ) → suc n ≡ at → id_behind id (get_or kept n d).id ≡ false)
    → insert kept at test ≡ placed kept_behind test kept
kept_place id kept at test d same within all before =
    placed_at kept_behind test d kept at within
    (subst (λ (i : TestInstanceId). list_all (λ k. id_behind i k.id) (drop at kept) ≡ true) (sym same) all)
    (λ n e. subst (λ (i : TestInstanceId). id_behind i (get_or kept n d).id ≡ false) (sym same) (before n e))

both_hold : (b c : Bool) → b ≡ true → c ≡ true → (b && c) ≡ true
both_hold true c e f = f
both_hold false c e f = cc

-- items from a place on, where the item there and those behind it pass
pub all_from : {X : Type 0} (p : X → Bool) (xs : List X) (i : ℕ) (d : X) → i < length xs → p (get_or xs i d) ≡ true
    → list_all p (drop (suc i) xs) ≡ true → list_all p (drop i xs) ≡ true
all_from p [] i d below passes rest = absurd (omega arith)
all_from p (x ∷ xs) zero d below passes rest = both_hold (p x) (list_all p xs) passes rest
all_from p (x ∷ xs) (suc i) d below passes rest = all_from p xs i d (omega arith) passes rest

-- one item more goes to its place
pub placed_all-more : {X : Type 0} (behind : X → X → Bool) (done xs : List X) (x : X)
    → placed_all behind done (xs ++ x ∷ []) ≡ placed behind x (placed_all behind done xs)
placed_all-more behind done [] x = refl
placed_all-more behind done (y ∷ ys) x = placed_all-more behind (placed behind y done) ys x

-- whether all tests stand behind another, by what is kept of them
all_kept : (settings : ReportSettings) (x : TestFinished) (xs : List TestFinished)
    → list_all (kept_behind (kept_for settings x)) (map (kept_for settings) xs) ≡ list_all (told_behind x) xs
all_kept settings x [] = refl
all_kept settings x (y ∷ ys) = ap (λ b. told_behind x y && b) (all_kept settings x ys)

kept_either : (settings : ReportSettings) (x y : TestFinished) (ys : List TestFinished) (b : Bool)
    → placed kept_behind (kept_for settings x) (map (kept_for settings) ys)
    ≡ map (kept_for settings) (placed told_behind x ys)
    → (if b then kept_for settings x ∷ kept_for settings y ∷ map (kept_for settings) ys
    else kept_for settings y ∷ placed kept_behind (kept_for settings x) (map (kept_for settings) ys))
    ≡ map (kept_for settings) (if b then x ∷ y ∷ ys else y ∷ placed told_behind x ys)
kept_either settings x y ys true rest = refl
kept_either settings x y ys false rest = ap (λ ks. kept_for settings y ∷ ks) rest

-- what is kept of tests stands in their order
pub kept_placed : (settings : ReportSettings) (x : TestFinished) (xs : List TestFinished)
    → placed kept_behind (kept_for settings x) (map (kept_for settings) xs)
    ≡ map (kept_for settings) (placed told_behind x xs)
kept_placed settings x [] = refl
kept_placed settings x (y ∷ ys) =
    ap (λ (b : Bool). if b then kept_for settings x ∷ kept_for settings y ∷ map (kept_for settings) ys
    else kept_for settings y ∷ placed kept_behind (kept_for settings x) (map (kept_for settings) ys))
    (all_kept settings x (y ∷ ys))
    ∙ kept_either settings x y ys (list_all (told_behind x) (y ∷ ys)) (kept_placed settings x ys)

-- what is shown of them
pub kept_shown_of : (settings : ReportSettings) (xs : List TestFinished)
    → kept_bytes (map (kept_for settings) xs) ≡ pieces_bytes settings (flat_map (kept_pieces settings) xs)
unfolding pieces_bytes
kept_shown_of settings [] = refl
kept_shown_of settings (x ∷ xs) =
    ap (λ bytes. pieces_bytes settings (kept_pieces settings x) ++ bytes) (kept_shown_of settings xs)
    ∙ sym (flat_map-append (piece_bytes settings) (kept_pieces settings x) (flat_map (kept_pieces settings) xs))
