-- All that is told of a history is what its sub-runs tell, in order.
use Rattle.std.proofs.Common.{◌≡◌, ◌⊎◌, inl, inr, ◌||◌, ◌&&◌, List, [], ◌∷◌, ◌++◌, reverse, Bool, true, false, not}
use Rattle.std.proofs.Common.{if◌then◌else◌, refl, ap, sym, ◌∙◌, append_assoc}
use Rattle.std.specs.List.{flat_map}
use Rattle.std.proofs.lemmas.List.{append-nil, reverse-append}
use Rattle.std.proofs.lemmas.List.Concat.{flat_map-append}
use Rattle.run_events.specs.declared.events.ReporterEvent.{ReporterEvent}
use Rattle.run_events.specs.declared.settings.Settings.{Settings}
use Rattle.run_model.specs.declared.entry.Entry.{Entry}
use Rattle.run_model.specs.declared.happening.Happening.{Happening}
use Rattle.run_model.specs.Board.{Deed, board, deed_events}
use Rattle.run_model.specs.Journal.{IsLegalBackward, history}
use Rattle.run_model.specs.Turns.{deed_on, enabled, happening, nothing_done}
use Rattle.run_model.specs.Words.{ended_runs, is_on, is_over, joined_run, sub_run, told}
use Rattle.run_laws.proofs.board.Deeds.{base_of}
use Rattle.run_laws.proofs.board.Kept.{HoldsAfter, IsBeforeRuns, IsOfRun, holds, where_joins}
use Rattle.run_laws_audit.proofs.JoinedLemmas.{begins_off}
use Rattle.run_laws_audit.proofs.WholeLemmas.{over_so}

-- what ended sub-runs tell, the oldest first
abbrev ended_told : List (List Happening) → List ReporterEvent
ended_told runs = flat_map told (reverse runs)

ended_told-cons : (run : List Happening) (runs : List (List Happening))
    → ended_told (run ∷ runs) ≡ ended_told runs ++ told run
ended_told-cons run runs =
    ap (flat_map told) (reverse-append (run ∷ []) runs) ∙ flat_map-append told (reverse runs) (run ∷ [])
    ∙ ap (λ es. ended_told runs ++ es) (append-nil (told run))

-- and what the one tells that is on
abbrev IsJoined : List Happening → Type 0
IsJoined past = told past ≡ ended_told (ended_runs past) ++ (if is_on (sub_run past) then told (sub_run past) else [])

joined_more : (p : Settings) (past : List Happening) (e : Entry) → HoldsAfter p past → enabled p past e.turn ≡ true
    → IsJoined past → IsJoined (happening p past e ∷ past)
joined_more p past e h en was = by_run (where_joins p past e h en)
  where
    x : Happening
    x = happening p past e

    d : Deed
    d = deed_on p (board p past) e.turn

    run : List Happening
    run = sub_run past

    before : (on : Bool) → is_on run ≡ on
        → told past ≡ ended_told (ended_runs past) ++ (if on then told run else [])
    before on is = was ∙ ap (λ on. ended_told (ended_runs past) ++ (if on then told run else [])) is

    after : (on : Bool) (runs : List (List Happening)) (newest : List Happening) → is_on (sub_run (x ∷ past)) ≡ on
        → ended_runs (x ∷ past) ≡ runs → sub_run (x ∷ past) ≡ newest
        → told past ++ deed_events d ≡ ended_told runs ++ (if on then told newest else []) → IsJoined (x ∷ past)
    after on runs newest first second third is =
        is ∙ sym (ap (λ runs. ended_told runs ++ (if is_on (sub_run (x ∷ past)) then told (sub_run (x ∷ past)) else []))
        second
        ∙ ap (λ on. ended_told runs ++ (if on then told (sub_run (x ∷ past)) else [])) first
        ∙ ap (λ run. ended_told runs ++ (if on then told run else [])) third)

    none_ended : x.ends ≡ false → ended_runs (x ∷ past) ≡ ended_runs past
    none_ended is = ap (λ b. if b then sub_run (x ∷ past) ∷ ended_runs past else ended_runs past) is

    rest : is_on run ≡ false → d ≡ nothing_done
        → told past ++ deed_events d ≡ ended_told (ended_runs past) ++ []
    rest off idle = ap (λ d. told past ++ deed_events d) idle ∙ append-nil (told past) ∙ before false off

    by_run : IsOfRun p past e ⊎ IsBeforeRuns p past e → IsJoined (x ∷ past)
    by_run (inr none) =
        after false (ended_runs past) [] (ap is_on none.still)
        (none_ended (ap (λ (d : Deed). d.ends) none.idle)) none.still (rest (ap is_on none.none) none.idle)
    by_run (inl of) = by_begin x.begins refl
      where
        by_begin : (b : Bool) → x.begins ≡ b → IsJoined (x ∷ past)
        by_begin true begins =
            let ends : x.ends ≡ false = (of.does.marks.begins begins).1.ends in
            let begun : sub_run (x ∷ past) ≡ x ∷ [] =
            ap (λ b. if b then x ∷ [] else joined_run x run) begins in
            after true (ended_runs past) (x ∷ [])
            (ap is_on begun ∙ ap (λ b. not b && (x.begins || false)) ends ∙ ap (λ b. b || false) begins)
            (none_ended ends) begun
            (ap (λ es. es ++ deed_events d) (before false (begins_off p past e en begins)
            ∙ append-nil (ended_told (ended_runs past))))
        by_begin false begins = by_end x.ends refl
          where
            base : of.base ≡ run
            base = of.is ∙ ap (λ b. base_of b run) begins

            joins : sub_run (x ∷ past) ≡ x ∷ run
            joins = of.joins ∙ ap (λ run. x ∷ run) base

            idle : is_on run ≡ false → d ≡ nothing_done
            idle off = of.does.marks.still (ap (λ b. b || is_on of.base) begins ∙ ap is_on base ∙ off)

            going : x.ends ≡ false → is_on (sub_run (x ∷ past)) ≡ is_on run
            going ends =
                ap is_on joins ∙ ap (λ b. not b && (x.begins || is_on run)) ends ∙ ap (λ b. b || is_on run) begins

            more : is_on run ≡ true
                → told past ++ deed_events d ≡ ended_told (ended_runs past) ++ (told run ++ deed_events d)
            more on =
                ap (λ es. es ++ deed_events d) (before true on)
                ∙ append_assoc (ended_told (ended_runs past)) (told run) (deed_events d)

            by_end : (b : Bool) → x.ends ≡ b → IsJoined (x ∷ past)
            by_end true ends = by_on (is_on run) refl
              where
                by_on : (on : Bool) → is_on run ≡ on → IsJoined (x ∷ past)
                by_on false off =
                    let never : false ≡ true = sym (ap (λ (d : Deed). d.ends) (idle off)) ∙ ends in cc
                by_on true on =
                    after false ((x ∷ run) ∷ ended_runs past) (x ∷ run)
                    (ap is_on joins ∙ ap (λ b. not b && (x.begins || is_on run)) ends)
                    (ap (λ b. if b then sub_run (x ∷ past) ∷ ended_runs past else ended_runs past) ends
                    ∙ ap (λ run. run ∷ ended_runs past) joins)
                    joins
                    (more on ∙ sym (ended_told-cons (x ∷ run) (ended_runs past))
                    ∙ sym (append-nil (ended_told ((x ∷ run) ∷ ended_runs past))))
            by_end false ends = by_on (is_on run) refl
              where
                by_on : (on : Bool) → is_on run ≡ on → IsJoined (x ∷ past)
                by_on true on =
                    after true (ended_runs past) (x ∷ run) (going ends ∙ on) (none_ended ends) joins (more on)
                by_on false off =
                    after false (ended_runs past) (x ∷ run) (going ends ∙ off) (none_ended ends) joins
                    (rest off (idle off))

joined_so : (p : Settings) (backward : List Entry) → IsLegalBackward p backward → IsJoined (history p backward)
joined_so p [] legal = refl
joined_so p (e ∷ before) legal =
    joined_more p (history p before) e (holds p before legal.2) legal.0 (joined_so p before legal.2)

pub told_joined : (p : Settings) (backward : List Entry) → IsLegalBackward p backward
    → is_over (history p backward) ≡ true
    → told (history p backward) ≡ flat_map told (reverse (ended_runs (history p backward)))
told_joined p backward legal over =
    joined_so p backward legal
    ∙ ap (λ on. ended_told runs ++ (if on then told (sub_run (history p backward)) else []))
    (over_so p backward legal over).off
    ∙ append-nil (ended_told runs)
  where
    runs : List (List Happening)
    runs = ended_runs (history p backward)
