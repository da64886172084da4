-- What is told of a history is what its sub-runs tell, joined.
use Rattle.std.proofs.Common.{◌≡◌, ◌⊎◌, inl, inr, ◌||◌, ◌&&◌, ◌==◌, List, [], ◌∷◌, ◌++◌, map, length, reverse}
use Rattle.std.proofs.Common.{Bool, true, false, not, if◌then◌else◌, refl, ap, sym, subst, ◌∙◌, append_assoc, arith}
use Rattle.std.specs.Cmp.{first_so, second_so}
use Rattle.std.proofs.lemmas.List.{append-nil, map-append, reverse-append}
use Rattle.run_events.specs.declared.settings.Settings.{Settings}
use Rattle.run_model.specs.declared.entry.Entry.{Entry}
use Rattle.run_model.specs.declared.happening.Happening.{Happening}
use Rattle.run_model.specs.Board.{Deed, board, deed_events}
use Rattle.run_model.specs.Journal.{IsLegalBackward, history}
use Rattle.run_model.specs.Turns.{deed_on, enabled, ends_as, happening, nothing_done, takes_turn, turn_of_unit}
use Rattle.run_model.specs.Words.{clock, ended_runs, events_in, is_on, is_over, joined_run, sub_run, told}
use Rattle.run_laws.proofs.board.Deeds.{base_of}
use Rattle.run_laws.proofs.board.Kept.{HoldsAfter, IsBeforeRuns, IsOfRun, holds, where_joins}
use Rattle.run_laws.proofs.board.OnBoard.{board_of, frame_of}
use Rattle.run_laws.proofs.told.Begins.{begins_only}
use Rattle.run_audit_model.specs.Parts.{is_stress}
use Rattle.run_audit_model.specs.Seen.{as_audited}
use Rattle.run_audit_model.specs.declared.audit_event.AuditEvent.{AuditEvent}
use Rattle.run_audit_model.specs.declared.audit_event.AuditEvent.TheVariants as seen
use Rattle.run_laws_audit.specs.Within.{told_within}
use Rattle.run_laws_audit.proofs.BoundEvents.{begin-seen, end-seen, finish}
use Rattle.run_laws_audit.proofs.ShapeLemmas.{back, front, joined, joined-push}

-- what a sub-run tells within, as it is seen; and what the ended sub-runs do, the oldest first
abbrev pub within : List Happening → List AuditEvent
within run = map as_audited (told_within run)

abbrev pub all_within : List (List Happening) → List (List AuditEvent)
all_within runs = map within (reverse runs)

pub all_within-cons : (run : List Happening) (runs : List (List Happening))
    → all_within (run ∷ runs) ≡ all_within runs ++ within run ∷ []
all_within-cons run runs =
    ap (map within) (reverse-append (run ∷ []) runs) ∙ map-append within (reverse runs) (run ∷ [])

-- the start of a run, where something came of it
abbrev pub begun : List (List AuditEvent) → List AuditEvent
begun [] = []
begun (part ∷ parts) = seen.RunStarted ∷ []

pub begun-push : (parts : List (List AuditEvent)) (part : List AuditEvent)
    → begun (parts ++ part ∷ []) ≡ seen.RunStarted ∷ []
begun-push [] part = refl
begun-push (first ∷ parts) part = refl

abbrev is_none_yet : List (List Happening) → Bool
is_none_yet [] = true
is_none_yet (run ∷ runs) = false

none_yet : (runs : List (List Happening)) → (length runs == 0) ≡ is_none_yet runs
none_yet [] = refl
none_yet (run ∷ runs) = grind arith

begun-within : (runs : List (List Happening))
    → begun (all_within runs) ++ (if is_none_yet runs then seen.RunStarted ∷ [] else []) ≡ seen.RunStarted ∷ []
begun-within [] = refl
begun-within (run ∷ runs) =
    append-nil (begun (all_within (run ∷ runs))) ∙ ap begun (all_within-cons run runs)
    ∙ begun-push (all_within runs) (within run)

-- what is told of a history, as it is seen: where a sub-run is on, and where none is
abbrev pub told_as : Bool → Bool → Bool → List (List AuditEvent) → List AuditEvent → List AuditEvent
told_as stress true over parts current = seen.RunStarted ∷ (joined stress parts ++ (front stress ++ current))
told_as stress false over parts current = begun parts ++ (joined stress parts ++ finish over)

abbrev pub IsTold : Settings → List Happening → Type 0
IsTold p past = map as_audited (told past)
    ≡ told_as (is_stress p) (is_on (sub_run past)) (is_over past) (all_within (ended_runs past)) (within (sub_run past))

-- a begin after it
begins_told : (stress over : Bool) (runs : List (List Happening)) (current past more : List AuditEvent)
    → past ≡ told_as stress false false (all_within runs) current
    → more ≡ (if is_none_yet runs then seen.RunStarted ∷ [] else []) ++ front stress
    → past ++ more ≡ told_as stress true over (all_within runs) []
begins_told stress over [] current past more was is =
    rw (was, is) (ap (λ es. seen.RunStarted ∷ es) (sym (append-nil (front stress))))
begins_told stress over (run ∷ runs) current past more was is =
    rw (was, is) (ap (λ es. es ++ front stress) (ap (λ es. begun parts ++ es) (append-nil (joined stress parts))
    ∙ ap (λ es. es ++ joined stress parts) (sym (append-nil (begun parts)) ∙ begun-within (run ∷ runs)))
    ∙ ap (λ es. seen.RunStarted ∷ (joined stress parts ++ es)) (sym (append-nil (front stress))))
  where
    parts : List (List AuditEvent)
    parts = all_within (run ∷ runs)

-- an end after it
ends_told : (stress over : Bool) (parts : List (List AuditEvent)) (current later past more : List AuditEvent)
    → past ≡ told_as stress true false parts current → more ≡ back stress ++ finish over
    → past ++ more ≡ told_as stress false over (parts ++ current ∷ []) later
ends_told stress over parts current later past more was is =
    rw (was, is) (ap (λ es. seen.RunStarted ∷ es)
    (append_assoc (joined stress parts) (front stress ++ current) (back stress ++ finish over)
    ∙ ap (λ es. joined stress parts ++ es) (append_assoc (front stress) current (back stress ++ finish over)
    ∙ ap (λ es. front stress ++ es) (sym (append_assoc current (back stress) (finish over)))
    ∙ sym (append_assoc (front stress) (current ++ back stress) (finish over)))
    ∙ sym (append_assoc (joined stress parts) (front stress ++ (current ++ back stress)) (finish over))
    ∙ ap (λ es. es ++ finish over) (sym (joined-push stress parts current)))
    ∙ ap (λ es. es ++ (joined stress (parts ++ current ∷ []) ++ finish over)) (sym (begun-push parts current)))

-- anything else after it
goes_told : (stress over : Bool) (parts : List (List AuditEvent)) (current past more : List AuditEvent)
    → past ≡ told_as stress true false parts current → past ++ more ≡ told_as stress true over parts (current ++ more)
goes_told stress over parts current past more was =
    rw was (ap (λ es. seen.RunStarted ∷ es) (append_assoc (joined stress parts) (front stress ++ current) more
    ∙ ap (λ es. joined stress parts ++ es) (append_assoc (front stress) current more)))

rest_told : (stress : Bool) (parts : List (List AuditEvent)) (current later past : List AuditEvent)
    → past ≡ told_as stress false false parts current → past ++ [] ≡ told_as stress false false parts later
rest_told stress parts current later past was = append-nil past ∙ was

-- what is told by equal words is equal
same_told : (stress : Bool) (on on_too over over_too : Bool) (parts parts_too : List (List AuditEvent))
    (current current_too : List AuditEvent) → on ≡ on_too → over ≡ over_too → parts ≡ parts_too → current ≡ current_too
    → told_as stress on over parts current ≡ told_as stress on_too over_too parts_too current_too
same_told stress on on_too over over_too parts parts_too current current_too first second third fourth =
    ap (λ on. told_as stress on over parts current) first ∙ ap (λ over. told_as stress on_too over parts current) second
    ∙ ap (λ parts. told_as stress on_too over_too parts current) third
    ∙ ap (λ current. told_as stress on_too over_too parts_too current) fourth

-- no turn is enabled once the run is over
pub goes_on : (p : Settings) (past : List Happening) (e : Entry) → enabled p past e.turn ≡ true → is_over past ≡ false
goes_on p past e en =
    not_so (is_over past)
    (first_so (not (is_over past)) (takes_turn p (board p past) e.turn (turn_of_unit e.turn)) en)
  where
    not_so : (b : Bool) → not b ≡ true → b ≡ false
    not_so false h = refl
    not_so true h = cc

-- a begin comes where no sub-run is on
pub begins_off : (p : Settings) (past : List Happening) (e : Entry) → enabled p past e.turn ≡ true
    → (happening p past e).begins ≡ true → is_on (sub_run past) ≡ false
begins_off p past e en begins =
    not_so (is_on (sub_run past))
    (first_so (not (is_on (sub_run past))) (not (is_over past))
    (second_so (not (is_over past)) (not (is_on (sub_run past)) && not (is_over past))
    (subst (λ turn. enabled p past turn ≡ true) (begins_only p (board p past) e.turn begins) en)))
  where
    not_so : (b : Bool) → not b ≡ true → b ≡ false
    not_so false h = refl
    not_so true h = cc

-- so what is told of a history of one more turn
told_more : (p : Settings) (past : List Happening) (e : Entry) → HoldsAfter p past → enabled p past e.turn ≡ true
    → IsTold p past → IsTold p (happening p past e ∷ past)
told_more p past e h en was = by_begin d.begins refl
  where
    x : Happening
    x = happening p past e

    d : Deed
    d = deed_on p (board p past) e.turn

    stress : Bool
    stress = is_stress p

    parts : List (List AuditEvent)
    parts = all_within (ended_runs past)

    before : (on : Bool) → is_on (sub_run past) ≡ on
        → map as_audited (told past) ≡ told_as stress on false parts (within (sub_run past))
    before on is =
        was ∙ same_told stress (is_on (sub_run past)) on (is_over past) false parts parts (within (sub_run past))
        (within (sub_run past)) is (goes_on p past e en) refl refl

    after : (on over : Bool) (inside : List (List AuditEvent)) (current : List AuditEvent)
        → is_on (sub_run (x ∷ past)) ≡ on → is_over (x ∷ past) ≡ over
        → all_within (ended_runs (x ∷ past)) ≡ inside → within (sub_run (x ∷ past)) ≡ current
        → map as_audited (told past) ++ map as_audited (deed_events d) ≡ told_as stress on over inside current
        → IsTold p (x ∷ past)
    after on over inside current first second third fourth is =
        map-append as_audited (told past) (deed_events d) ∙ is
        ∙ sym (same_told stress _ on _ over _ inside _ current first second third fourth)

    -- the sub-runs that ended before, where this turn ends none
    none_ended : x.ends ≡ false → ended_runs (x ∷ past) ≡ ended_runs past
    none_ended is = ap (λ b. if b then sub_run (x ∷ past) ∷ ended_runs past else ended_runs past) is

    by_begin : (b : Bool) → d.begins ≡ b → IsTold p (x ∷ past)
    by_begin true begins = by_run (where_joins p past e h en)
      where
        begun_run : sub_run (x ∷ past) ≡ x ∷ []
        begun_run = ap (λ b. if b then x ∷ [] else joined_run x (sub_run past)) begins

        tells : map as_audited (deed_events d)
            ≡ (if is_none_yet (ended_runs past) then seen.RunStarted ∷ [] else []) ++ front stress
        tells = subst (λ turn. map as_audited (deed_events (deed_on p (board p past) turn))
            ≡ (if length (ended_runs past) == 0 then seen.RunStarted ∷ [] else []) ++ front stress)
            (sym (begins_only p (board p past) e.turn begins))
            (begin-seen (clock past) (board p past).dispatcher (length (ended_runs past) == 0))
            ∙ ap (λ b. (if b then seen.RunStarted ∷ [] else []) ++ front stress) (none_yet (ended_runs past))

        by_run : IsOfRun p past e ⊎ IsBeforeRuns p past e → IsTold p (x ∷ past)
        by_run (inr none) = let never : false ≡ true = sym (ap (λ (d : Deed). d.begins) none.idle) ∙ begins in cc
        by_run (inl of) =
            let ends : x.ends ≡ false = (of.does.marks.begins begins).1.ends in
            after true (is_over (x ∷ past)) parts []
            (ap is_on begun_run ∙ ap (λ b. not b && (x.begins || false)) ends ∙ ap (λ b. b || false) begins) refl
            (ap all_within (none_ended ends))
            (ap within begun_run ∙ ap (λ b. map as_audited (if b || x.ends then [] else events_in x)) begins)
            (begins_told stress (is_over (x ∷ past)) (ended_runs past) (within (sub_run past))
            (map as_audited (told past)) (map as_audited (deed_events d)) (before false (begins_off p past e en begins))
            tells)
    by_begin false begins = by_run (where_joins p past e h en)
      where
        by_run : IsOfRun p past e ⊎ IsBeforeRuns p past e → IsTold p (x ∷ past)
        by_run (inr none) =
            after false false parts []
            (ap is_on none.still) (ap (λ (d : Deed). d.over || is_over past) none.idle ∙ goes_on p past e en)
            (ap all_within (none_ended (ap (λ (d : Deed). d.ends) none.idle))) (ap within none.still)
            (ap (λ d. map as_audited (told past) ++ map as_audited (deed_events d)) none.idle
            ∙ rest_told stress parts (within (sub_run past)) [] (map as_audited (told past))
            (before false (ap is_on none.none)))
        by_run (inl of) = by_end d.ends refl
          where
            run : List Happening
            run = sub_run past

            base : of.base ≡ run
            base = of.is ∙ ap (λ b. base_of b run) begins

            joins : sub_run (x ∷ past) ≡ x ∷ run
            joins = of.joins ∙ ap (λ run. x ∷ run) base

            idle : is_on run ≡ false → d ≡ nothing_done
            idle off = of.does.marks.still (ap (λ b. b || is_on of.base) begins ∙ ap is_on base ∙ off)

            by_end : (b : Bool) → d.ends ≡ b → IsTold p (x ∷ past)
            by_end true ends = by_on (is_on run) refl
              where
                same : d ≡ ends_as (clock past) (board_of p (frame_of p past) (clock past) of.base).dispatcher p.stress
                same = (of.does.marks.ends ends).0

                still : within (x ∷ run) ≡ within run
                still = ap (λ b. map as_audited (told_within run ++ (if b then [] else events_in x)))
                    (ap (λ b. b || x.ends) begins ∙ ends)
                    ∙ ap (map as_audited) (append-nil (told_within run))

                or_false : (b : Bool) → (b || false) ≡ b
                or_false true = refl
                or_false false = refl

                by_on : (on : Bool) → is_on run ≡ on → IsTold p (x ∷ past)
                by_on false off =
                    let never : false ≡ true = sym (ap (λ (d : Deed). d.ends) (idle off)) ∙ ends in cc
                by_on true on =
                    after false x.over (parts ++ within run ∷ []) (within (sub_run (x ∷ past)))
                    (ap is_on joins ∙ ap (λ b. not b && (x.begins || is_on run)) ends)
                    (ap (λ b. x.over || b) (goes_on p past e en) ∙ or_false x.over)
                    (ap all_within (ap (λ b. if b then sub_run (x ∷ past) ∷ ended_runs past else ended_runs past) ends
                    ∙ ap (λ run. run ∷ ended_runs past) joins)
                    ∙ all_within-cons (x ∷ run) (ended_runs past) ∙ ap (λ part. parts ++ part ∷ []) still)
                    refl
                    (ends_told stress x.over parts (within run) (within (sub_run (x ∷ past)))
                    (map as_audited (told past)) (map as_audited (deed_events d)) (before true on)
                    (ap (λ d. map as_audited (deed_events d)) same
                    ∙ end-seen (clock past) (board_of p (frame_of p past) (clock past) of.base).dispatcher p.stress
                    ∙ ap (λ (d : Deed). back stress ++ finish d.over) (sym same)))
            by_end false ends = by_on (is_on run) refl
              where
                going : is_on (x ∷ run) ≡ is_on run
                going = ap (λ b. not b && (x.begins || is_on run)) ends ∙ ap (λ b. b || is_on run) begins

                by_on : (on : Bool) → is_on run ≡ on → IsTold p (x ∷ past)
                by_on true on =
                    after true (is_over (x ∷ past)) parts (within run ++ map as_audited (deed_events d))
                    (ap is_on joins ∙ going ∙ on) refl (ap all_within (none_ended ends))
                    (ap within joins
                    ∙ ap (λ b. map as_audited (told_within run ++ (if b then [] else events_in x)))
                    (ap (λ b. b || x.ends) begins ∙ ends)
                    ∙ map-append as_audited (told_within run) (events_in x))
                    (goes_told stress (is_over (x ∷ past)) parts (within run) (map as_audited (told past))
                    (map as_audited (deed_events d)) (before true on))
                by_on false off =
                    after false false parts (within (sub_run (x ∷ past)))
                    (ap is_on joins ∙ going ∙ off)
                    (ap (λ (d : Deed). d.over || is_over past) (idle off) ∙ goes_on p past e en)
                    (ap all_within (none_ended ends)) refl
                    (ap (λ d. map as_audited (told past) ++ map as_audited (deed_events d)) (idle off)
                    ∙ rest_told stress parts (within run) (within (sub_run (x ∷ past))) (map as_audited (told past))
                    (before false off))

pub told_so : (p : Settings) (backward : List Entry) → IsLegalBackward p backward → IsTold p (history p backward)
told_so p [] legal = refl
told_so p (e ∷ before) legal =
    told_more p (history p before) e (holds p before legal.2) legal.0 (told_so p before legal.2)
