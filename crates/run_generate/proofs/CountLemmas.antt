-- The events that a generated run counts are those that it told.
use Rattle.std.proofs.Common.{◌≡◌, suc, ◌+◌, ◌<◌, ◌≤◌, ◌*◌, ◌^◌, min, List, [], ◌∷◌, ◌++◌, length, zip, reverse, Option}
use Rattle.std.proofs.Common.{Some, None, option_to_list, refl, ap, sym, ◌∙◌, arith, length-append}
use Rattle.std.proofs.lemmas.List.{append-nil, length-map}
use Rattle.run_events.specs.declared.events.ReporterEvent.{ReporterEvent}
use Rattle.run_events.specs.declared.settings.Settings.{Settings}
use Rattle.run_model.specs.declared.entry.Entry.{Entry}
use Rattle.run_model.specs.declared.happening.Happening.{Happening}
use Rattle.run_model.specs.Journal.{history, past_of, IsLegalBackward}
use Rattle.run_model.specs.Turns.{happening}
use Rattle.run_model.specs.Words.{answers, events_in, told}
use Rattle.run_laws.proofs.board.Ready.{past_of-length}
use Rattle.run_engine.specs.World.{flagged}
use Rattle.run_generate.specs.OnWay.{IsAfter}
use Rattle.run_generate.specs.declared.on_way.OnWay.{OnWay}

-- a legal journal has an answer to each event that it told
told-length : (p : Settings) (backward : List Entry) → IsLegalBackward p backward
    → length (answers (history p backward)) ≡ length (told (history p backward))
told-length p [] legal = refl
told-length p (e ∷ before) legal =
    let x : Happening = happening p (history p before) e in
    let here : length (zip (events_in x) e.refused) ≡ length (events_in x) =
    length-zip (events_in x) e.refused legal.1 in
    let earlier : length (answers (history p before)) ≡ length (told (history p before)) =
    told-length p before legal.2 in
    length-append (answers (history p before)) (zip (events_in x) e.refused)
    ∙ ap (λ n. n + length (zip (events_in x) e.refused)) earlier
    ∙ ap (λ n. length (told (history p before)) + n) here ∙ sym (length-append (told (history p before)) (events_in x))
  where
    length-zip : {A B : Type 0} (xs : List A) (ys : List B) → length ys ≡ length xs → length (zip xs ys) ≡ length xs
    length-zip [] ys same = refl
    length-zip (x ∷ xs) [] same = absurd (omega arith)
    length-zip (x ∷ xs) (y ∷ ys) same =
        let rest : length (zip xs ys) ≡ length xs = length-zip xs ys (omega arith) in ap (λ n. suc n) rest

-- a turn tells two events at most
told-few : (past : List Happening) → length (told past) ≤ 2 * length past
told-few [] = omega arith
told-few (x ∷ past) =
    let here : length (events_in x) ≤ 2 = few (x.told) (x.after) in
    omega (arith, told-few past, length-append (told past) (events_in x))
  where
    few : (a b : Option ReporterEvent) → length (option_to_list a ++ option_to_list b) ≤ 2
    few None None = omega arith
    few None (Some b) = omega arith
    few (Some a) None = omega arith
    few (Some a) (Some b) = omega arith

-- a run on its way has counted the events that it told
pub counted : (g : OnWay) (journal : List Entry) → IsAfter g journal
    → g.counter.events ≡ length (told (past_of g.run.settings journal))
counted g journal way =
    let p = g.run.settings in
    let past = past_of p journal in
    let h = way.heard in
    let flags : length h.events ≡ length (answers past) =
    sym (length-map h.events flagged) ∙ ap length (h.flags ∙ ap (λ es. answers past ++ es) (h.whole refl).0
    ∙ append-nil (answers past)) in
    let same : length h.events ≡ length (told past) =
    flags ∙ told-length p (reverse journal) way.stands.runnable.legal in
    let count : g.counter.events ≡ min (length h.events) 18446744073709551615 = h.told in
    let few : length (told past) ≤ 2 * length past = told-few past in
    let long : length past ≡ length journal = past_of-length p journal in
    let short : length journal < 2 ^ 32 = way.stands.runnable.short in
    omega arith
