-- What is told of a run that is over: its shape, and its parts.
use Rattle.std.proofs.Common.{◌≡◌, ◌⊎◌, inl, inr, suc, ◌||◌, ◌&&◌, List, [], ◌∷◌, ◌++◌, map, length, reverse}
use Rattle.std.proofs.Common.{Bool, true, false, not, if◌then◌else◌, Option, Some, None, is_some, refl, ap, sym, subst}
use Rattle.std.proofs.Common.{◌∙◌}
use Rattle.std.specs.List.{All}
use Rattle.std.proofs.lemmas.List.{length-map, length-reverse}
use Rattle.std.proofs.lemmas.List.Elements.{All-nil, All-append, All-map}
use Rattle.run_commands.specs.declared.stress_count.StressCondition.{StressCondition}
use Rattle.run_events.specs.declared.settings.Settings.{Settings}
use Rattle.run_model.specs.declared.dispatcher_view.DispatcherView.{DispatcherView}
use Rattle.run_model.specs.declared.entry.Entry.{Entry}
use Rattle.run_model.specs.declared.happening.Happening.{Happening}
use Rattle.run_model.specs.Board.{Deed}
use Rattle.run_model.specs.Journal.{IsLegalBackward, history}
use Rattle.run_model.specs.Turns.{enabled, ends_as, happening}
use Rattle.run_model.specs.Words.{clock, ended_runs, events_in, is_on, is_over, joined_run, sub_run, told}
use Rattle.run_laws.proofs.board.Deeds.{base_of}
use Rattle.run_laws.proofs.board.Kept.{HoldsAfter, IsBeforeRuns, IsOfRun, does_after, holds, where_joins}
use Rattle.run_laws.proofs.board.OnBoard.{board_of, frame_of}
use Rattle.run_audit_model.specs.Parts.{HasShape, IsInner, is_stress, parts}
use Rattle.run_audit_model.specs.Seen.{as_audited}
use Rattle.run_audit_model.specs.declared.audit_event.AuditEvent.{AuditEvent}
use Rattle.run_audit_model.specs.declared.audit_event.AuditEvent.TheVariants as seen
use Rattle.run_laws_audit.specs.Within.{events_within, sub_run_part, told_within}
use Rattle.run_laws_audit.proofs.BoundEvents.{IsWithin, finish, tells_within}
use Rattle.run_laws_audit.proofs.EndedLemmas.{all-reverse, each_end}
use Rattle.run_laws_audit.proofs.JoinedLemmas.{all_within, all_within-cons, begun, begun-push, goes_on, told_as}
use Rattle.run_laws_audit.proofs.JoinedLemmas.{told_so}
use Rattle.run_laws_audit.proofs.JoinedLemmas.{within}
use Rattle.run_laws_audit.proofs.ShapeLemmas.{joined, parts-whole, shape-joined}

-- what a turn tells that neither begins nor ends a sub-run stands within one
within_one : (p : Settings) (past : List Happening) (e : Entry) → HoldsAfter p past → enabled p past e.turn ≡ true
    → All IsWithin (events_within (happening p past e))
within_one p past e h en = by_bound (x.begins || x.ends) refl
  where
    x : Happening
    x = happening p past e

    first_no : (a b : Bool) → (a || b) ≡ false → a ≡ false
    first_no false b is = refl
    first_no true b is = cc

    second_no : (a b : Bool) → (a || b) ≡ false → b ≡ false
    second_no false b is = is
    second_no true b is = cc

    by_bound : (b : Bool) → (x.begins || x.ends) ≡ b → All IsWithin (if b then [] else events_in x)
    by_bound true is = All-nil IsWithin
    by_bound false is =
        tells_within p past e h en (first_no x.begins x.ends is) (second_no x.begins x.ends is)

told_inner : (p : Settings) (backward : List Entry) → IsLegalBackward p backward
    → All IsWithin (told_within (sub_run (history p backward)))
told_inner p [] legal = All-nil IsWithin
told_inner p (e ∷ before) legal =
    by_begin x.begins (by_run (sub_run past) (told_inner p before legal.2))
  where
    past : List Happening
    past = history p before

    x : Happening
    x = happening p past e

    own : All IsWithin (events_within x)
    own = within_one p past e (holds p before legal.2) legal.0

    by_run : (run : List Happening) → All IsWithin (told_within run) → All IsWithin (told_within (joined_run x run))
    by_run [] earlier = All-nil IsWithin
    by_run (y ∷ run) earlier = All-append IsWithin (told_within (y ∷ run)) (events_within x) earlier own

    by_begin : (b : Bool) → All IsWithin (told_within (joined_run x (sub_run past)))
        → All IsWithin (told_within (if b then x ∷ [] else joined_run x (sub_run past)))
    by_begin true earlier = own
    by_begin false earlier = earlier

pub all_inner : (p : Settings) (backward : List Entry) → IsLegalBackward p backward
    → All (All IsInner) (all_within (ended_runs (history p backward)))
all_inner p backward legal =
    All-map (All IsInner) within (reverse runs)
    (all-reverse (λ run. All IsInner (within run)) runs
    (each_end (λ run. All IsInner (within run)) p
    (λ e before legal ends. All-map IsInner as_audited (told_within (sub_run (history p (e ∷ before))))
    (told_inner p (e ∷ before) legal)) backward legal))
  where
    runs : List (List Happening)
    runs = ended_runs (history p backward)

-- a turn ends a run that is no stress run where it ends a sub-run, and a run where it ends a sub-run
single_over : (p : Settings) (past : List Happening) (e : Entry) → is_stress p ≡ false → HoldsAfter p past
    → enabled p past e.turn ≡ true → (happening p past e).ends ≡ true → (happening p past e).over ≡ true
single_over p past e single h en ends =
    ap (λ (d : Deed). d.over) ((does_after p past e h en).marks.ends ends).0 ∙ by_stress p.stress single
  where
    d : DispatcherView
    d = (board_of p (frame_of p past) (clock past) (base_of (happening p past e).begins (sub_run past))).dispatcher

    by_stress : (o : Option StressCondition) → is_some o ≡ false → (ends_as (clock past) d o).over ≡ true
    by_stress None is = refl
    by_stress (Some condition) is = cc

-- so one sub-run of it has ended where it is over, and none before
one_ended : (p : Settings) (backward : List Entry) → is_stress p ≡ false → IsLegalBackward p backward
    → length (ended_runs (history p backward)) ≡ (if is_over (history p backward) then 1 else 0)
one_ended p [] single legal = refl
one_ended p (e ∷ before) single legal = by_end (one_ended p before single legal.2) x.ends refl
  where
    past : List Happening
    past = history p before

    x : Happening
    x = happening p past e

    h : HoldsAfter p past
    h = holds p before legal.2

    over_too : (b : Bool) → x.over ≡ b → x.ends ≡ false → b ≡ false
    over_too false is ends = refl
    over_too true is ends =
        let never : true ≡ false = sym ((does_after p past e h legal.0).marks.finishes is) ∙ ends in cc

    by_end : length (ended_runs past) ≡ (if is_over past then 1 else 0) → (b : Bool) → x.ends ≡ b
        → length (ended_runs (x ∷ past)) ≡ (if x.over || is_over past then 1 else 0)
    by_end was true ends =
        ap (λ b. length (if b then sub_run (x ∷ past) ∷ ended_runs past else ended_runs past)) ends
        ∙ ap suc (was ∙ ap (λ b. if b then 1 else 0) (goes_on p past e legal.0))
        ∙ ap (λ b. if b || is_over past then 1 else 0) (sym (single_over p past e single h legal.0 ends))
    by_end was false ends =
        ap (λ b. length (if b then sub_run (x ∷ past) ∷ ended_runs past else ended_runs past)) ends ∙ was
        ∙ ap (λ b. if b || is_over past then 1 else 0) (sym (over_too x.over refl ends))

-- where a run is over its newest sub-run has ended, and none is on
pub record IsEnded (past : List Happening) : Type 0 where
  pub off : is_on (sub_run past) ≡ false
  pub some : begun (all_within (ended_runs past)) ≡ seen.RunStarted ∷ []

pub over_so : (p : Settings) (backward : List Entry) → IsLegalBackward p backward → is_over (history p backward) ≡ true
    → IsEnded (history p backward)
over_so p [] legal over = cc
over_so p (e ∷ before) legal over = record {
  off = by_run (where_joins p past e h legal.0);
  some = ap (λ b. begun (all_within (if b then sub_run (x ∷ past) ∷ ended_runs past else ended_runs past))) ends
      ∙ ap begun (all_within-cons (sub_run (x ∷ past)) (ended_runs past))
      ∙ begun-push (all_within (ended_runs past)) (within (sub_run (x ∷ past)));
}
  where
    past : List Happening
    past = history p before

    x : Happening
    x = happening p past e

    h : HoldsAfter p past
    h = holds p before legal.2

    now : x.over ≡ true
    now = or_false x.over ∙ ap (λ b. x.over || b) (sym (goes_on p past e legal.0)) ∙ over
      where
        or_false : (b : Bool) → b ≡ (b || false)
        or_false true = refl
        or_false false = refl

    ends : x.ends ≡ true
    ends = (does_after p past e h legal.0).marks.finishes now

    by_run : IsOfRun p past e ⊎ IsBeforeRuns p past e → is_on (sub_run (x ∷ past)) ≡ false
    by_run (inl of) = ap is_on of.joins ∙ ap (λ b. not b && (x.begins || is_on of.base)) ends
    by_run (inr none) = ap is_on none.still

-- all that is told of a run that is over
whole_told : (p : Settings) (backward : List Entry) → IsLegalBackward p backward → is_over (history p backward) ≡ true
    → map as_audited (told (history p backward)) ≡ seen.RunStarted
    ∷ (joined (is_stress p) (all_within (ended_runs (history p backward))) ++ seen.RunFinished ∷ [])
whole_told p backward legal over =
    told_so p backward legal
    ∙ ap (λ on. told_as (is_stress p) on (is_over past) inside current) ended.off
    ∙ ap (λ over. begun inside ++ (joined (is_stress p) inside ++ finish over)) over
    ∙ ap (λ es. es ++ (joined (is_stress p) inside ++ seen.RunFinished ∷ [])) ended.some
  where
    past : List Happening
    past = history p backward

    inside : List (List AuditEvent)
    inside = all_within (ended_runs past)

    current : List AuditEvent
    current = within (sub_run past)

    ended : IsEnded past
    ended = over_so p backward legal over

-- so it has its shape
pub shape_kept : (p : Settings) (backward : List Entry) → IsLegalBackward p backward
    → is_over (history p backward) ≡ true
    → HasShape p (length (ended_runs (history p backward))) (map as_audited (told (history p backward)))
shape_kept p backward legal over =
    subst (HasShape p (length runs)) (sym (whole_told p backward legal over))
    (subst (λ n. HasShape p n (seen.RunStarted ∷ joined (is_stress p) (all_within runs) ++ seen.RunFinished ∷ []))
    (length-map (reverse runs) within ∙ length-reverse runs)
    (shape-joined p (all_within runs) (all_inner p backward legal)))
  where
    runs : List (List Happening)
    runs = ended_runs (history p backward)

-- and its parts are those of its sub-runs, the oldest first
map-map : {X Y Z : Type 0} (f : Y → Z) (g : X → Y) (xs : List X) → map f (map g xs) ≡ map (λ x. f (g x)) xs
map-map f g [] = refl
map-map f g (x ∷ xs) = ap (λ ys. f (g x) ∷ ys) (map-map f g xs)

pub parts_told : (p : Settings) (backward : List Entry) → IsLegalBackward p backward
    → is_over (history p backward) ≡ true
    → parts p (map as_audited (told (history p backward)))
    ≡ map (sub_run_part p) (reverse (ended_runs (history p backward)))
parts_told p backward legal over =
    ap (parts p) (whole_told p backward legal over)
    ∙ parts-whole (is_stress p) (all_within runs) (all_inner p backward legal)
    (λ single. length-map (reverse runs) within ∙ length-reverse runs ∙ one_ended p backward single legal
    ∙ ap (λ b. if b then 1 else 0) over)
    ∙ map-map (λ part. (if is_stress p then [] else seen.RunStarted ∷ []) ++ part) within (reverse runs)
  where
    runs : List (List Happening)
    runs = ended_runs (history p backward)
