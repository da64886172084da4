-- What a report remembers, after one event more.
use Rattle.std.proofs.Common.{◌≡◌, ℕ, Bool, true, false, ◌||◌, if◌then◌else◌, List, [], ◌∷◌, ◌++◌, Option, Some, None}
use Rattle.std.proofs.Common.{refl, ap, ◌∙◌, append-nil, unwrap_or}
use Rattle.std.proofs.lemmas.List.Elements.{filter_map-append}
use Rattle.std.specs.List.{cons_option, filter, filter_map, list_any}
use Rattle.run_events.specs.declared.events.ReporterEvent.{ReporterEvent}
use Rattle.run_events.specs.declared.events.TestFinished.{TestFinished}
use Rattle.run_report.specs.declared.levels.ReportSettings.{ReportSettings}
use Rattle.run_report.specs.Finished.{is_kept}
use Rattle.run_report.specs.Heard.{ends, finish_in_event, kept_finishes, placed, placed_all, since_end, told_behind}
use Rattle.run_report.specs.Heard.{total_in}
use Rattle.run_report.specs.Heard.{total_told}
use Rattle.run_report.proofs.KeptLemmas.{placed_all-more}

-- the tests to run, as told last
pub total_more : (before : ℕ) (told : List ReporterEvent) (event : ReporterEvent)
    → total_told before (told ++ event ∷ []) ≡ unwrap_or (total_in event) (total_told before told)
total_more before [] event = refl
total_more before (first ∷ later) event = total_more (unwrap_or (total_in first) before) later event

always : (b : Bool) → (b || true) ≡ true
always true = refl
always false = refl

-- events with an end among them
any_ends : (told : List ReporterEvent) (event : ReporterEvent) → ends event ≡ true
    → list_any ends (told ++ event ∷ []) ≡ true
any_ends [] event end = ap (λ b. b || false) end
any_ends (first ∷ later) event end = ap (λ b. ends first || b) (any_ends later event end) ∙ always (ends first)

-- events behind the last end, which is the last of all
pub since-end : (told : List ReporterEvent) (event : ReporterEvent) → ends event ≡ true
    → since_end (told ++ event ∷ []) ≡ []
since-end [] event end = ap (λ (b : Bool). if b || false then [] else event ∷ []) end
since-end (first ∷ later) event end =
    ap (λ (b : Bool). if b then since_end (later ++ event ∷ []) else first ∷ (later ++ event ∷ []))
    (any_ends (first ∷ later) event end)
    ∙ since-end later event end

-- an event that is no end adds none
same_ends : (told : List ReporterEvent) (event : ReporterEvent) → ends event ≡ false
    → list_any ends (told ++ event ∷ []) ≡ list_any ends told
same_ends [] event goes = ap (λ b. b || false) goes
same_ends (first ∷ later) event goes = ap (λ b. ends first || b) (same_ends later event goes)

either : (b : Bool) (first : ReporterEvent) (later : List ReporterEvent) (event : ReporterEvent)
    → since_end (later ++ event ∷ []) ≡ since_end later ++ event ∷ []
    → (if b then since_end (later ++ event ∷ []) else first ∷ (later ++ event ∷ []))
    ≡ (if b then since_end later else first ∷ later) ++ event ∷ []
either true first later event rest = rest
either false first later event rest = refl

-- events behind the last end, with one more that is none
pub since-more : (told : List ReporterEvent) (event : ReporterEvent) → ends event ≡ false
    → since_end (told ++ event ∷ []) ≡ since_end told ++ event ∷ []
since-more [] event goes = ap (λ (b : Bool). if b || false then [] else event ∷ []) goes
since-more (first ∷ later) event goes =
    ap (λ (b : Bool). if b then since_end (later ++ event ∷ []) else first ∷ (later ++ event ∷ []))
    (same_ends (first ∷ later) event goes)
    ∙ either (list_any ends (first ∷ later)) first later event (since-more later event goes)

-- whether a finish is shown again
abbrev keeps : ReportSettings → TestFinished → Bool
keeps settings told = is_kept settings told.finish

filter_either : (b c : Bool) (y x : TestFinished) (ys zs : List TestFinished)
    → zs ≡ (if c then ys ++ x ∷ [] else ys)
    → (if b then y ∷ zs else zs)
    ≡ (if c then (if b then y ∷ ys else ys) ++ x ∷ [] else (if b then y ∷ ys else ys))
filter_either true true y x ys zs e = ap (λ rest. y ∷ rest) e
filter_either true false y x ys zs e = ap (λ rest. y ∷ rest) e
filter_either false true y x ys zs e = e
filter_either false false y x ys zs e = e

placed_either : (b : Bool) (xs : List TestFinished) (x : TestFinished)
    → placed_all told_behind [] (if b then xs ++ x ∷ [] else xs)
    ≡ (if b then placed told_behind x (placed_all told_behind [] xs) else placed_all told_behind [] xs)
placed_either true xs x = placed_all-more told_behind [] xs x
placed_either false xs x = refl

-- some finishes, and one more that is shown again or not
filter_more : (settings : ReportSettings) (xs : List TestFinished) (x : TestFinished)
    → filter (keeps settings) (xs ++ x ∷ [])
    ≡ (if keeps settings x then filter (keeps settings) xs ++ x ∷ [] else filter (keeps settings) xs)
filter_more settings [] x = refl
filter_more settings (y ∷ ys) x = filter_either (keeps settings y) (keeps settings x) y x
    (filter (keeps settings) ys) (filter (keeps settings) (ys ++ x ∷ [])) (filter_more settings ys x)

-- at an end none is left
pub kept-end : (settings : ReportSettings) (told : List ReporterEvent) (event : ReporterEvent) → ends event ≡ true
    → kept_finishes settings (told ++ event ∷ []) ≡ []
kept-end settings told event end =
    ap (λ events. placed_all told_behind [] (filter (keeps settings) (filter_map finish_in_event events)))
    (since-end told event end)

-- an event that is no end and no finish changes nothing
pub kept-same : (settings : ReportSettings) (told : List ReporterEvent) (event : ReporterEvent) → ends event ≡ false
    → finish_in_event event ≡ None → kept_finishes settings (told ++ event ∷ []) ≡ kept_finishes settings told
kept-same settings told event goes none =
    ap (λ events. placed_all told_behind [] (filter (keeps settings) (filter_map finish_in_event events)))
    (since-more told event goes)
    ∙ ap (λ finishes. placed_all told_behind [] (filter (keeps settings) finishes))
    (filter_map-append finish_in_event (since_end told) (event ∷ [])
    ∙ ap (λ (one : Option TestFinished). filter_map finish_in_event (since_end told) ++ cons_option one []) none
    ∙ append-nil (filter_map finish_in_event (since_end told)))

-- a finish goes to its place, where it is shown again
pub kept-finish : (settings : ReportSettings) (told : List ReporterEvent) (event : ReporterEvent) (x : TestFinished)
    → ends event ≡ false → finish_in_event event ≡ Some x
    → kept_finishes settings (told ++ event ∷ [])
    ≡ (if keeps settings x then placed told_behind x (kept_finishes settings told) else kept_finishes settings told)
kept-finish settings told event x goes some =
    ap (λ events. placed_all told_behind [] (filter (keeps settings) (filter_map finish_in_event events)))
    (since-more told event goes)
    ∙ ap (λ finishes. placed_all told_behind [] (filter (keeps settings) finishes))
    (filter_map-append finish_in_event (since_end told) (event ∷ [])
    ∙ ap (λ (one : Option TestFinished). filter_map finish_in_event (since_end told) ++ cons_option one []) some)
    ∙ ap (placed_all told_behind []) (filter_more settings (filter_map finish_in_event (since_end told)) x)
    ∙ placed_either (keeps settings x) (filter (keeps settings) (filter_map finish_in_event (since_end told))) x
