-- What is told of a sub-run is its part, with what tells its begin and its end around it.
use Rattle.std.proofs.Common.{◌≡◌, ◌⊎◌, inl, inr, ◌||◌, ◌&&◌, ◌==◌, List, [], ◌∷◌, ◌++◌, map, length, Bool, true, false}
use Rattle.std.proofs.Common.{not}
use Rattle.std.proofs.Common.{if◌then◌else◌, refl, ap, sym, subst, ◌∙◌, append_assoc}
use Rattle.std.specs.List.{All}
use Rattle.std.proofs.lemmas.List.{append-nil, map-append}
use Rattle.std.proofs.lemmas.List.Elements.{All-nil, All-cons, All-append}
use Rattle.run_events.specs.declared.settings.Settings.{Settings}
use Rattle.run_model.specs.declared.dispatcher_view.DispatcherView.{DispatcherView}
use Rattle.run_model.specs.declared.entry.Entry.{Entry}
use Rattle.run_model.specs.declared.happening.Happening.{Happening}
use Rattle.run_model.specs.Board.{Deed, board, deed_events}
use Rattle.run_model.specs.Journal.{IsLegalBackward, history}
use Rattle.run_model.specs.Turns.{deed_on, ends_as, happening, nothing_done}
use Rattle.run_model.specs.Words.{clock, ended_runs, events_in, is_on, sub_run, told}
use Rattle.run_laws.proofs.board.Deeds.{base_of}
use Rattle.run_laws.proofs.board.Kept.{IsBeforeRuns, IsOfRun, holds, where_joins}
use Rattle.run_laws.proofs.board.OnBoard.{board_of, frame_of}
use Rattle.run_laws.proofs.told.Begins.{begins_only}
use Rattle.run_audit_model.specs.Parts.{is_stress}
use Rattle.run_audit_model.specs.Seen.{as_audited}
use Rattle.run_audit_model.specs.declared.audit_event.AuditEvent.{AuditEvent}
use Rattle.run_audit_model.specs.declared.audit_event.AuditEvent.TheVariants as seen
use Rattle.run_laws_audit.specs.Within.{sub_run_part, told_within}
use Rattle.run_laws_audit.proofs.BoundEvents.{begin-seen, end-seen, finish}
use Rattle.run_laws_audit.proofs.EdgeLemmas.{IsEdge, Ignores}
use Rattle.run_laws_audit.proofs.JoinedLemmas.{within}
use Rattle.run_laws_audit.proofs.ShapeLemmas.{back, front}

-- what is told of a sub-run stands between such events; none comes after it where it is on
pub record IsAround (run : List Happening) : Type 0 where
  pub before : List AuditEvent
  pub after : List AuditEvent
  pub is : map as_audited (told run) ≡ before ++ (within run ++ after)
  pub opens : All IsEdge before
  pub closes : All IsEdge after
  pub none_after : is_on run ≡ true → after ≡ []

edge_one : (e : AuditEvent) → IsEdge e → All IsEdge (e ∷ [])
edge_one e edge = All-cons IsEdge e [] edge (All-nil IsEdge)

front_edge : (stress : Bool) → All IsEdge (front stress)
front_edge true = edge_one seen.SubRunStarted tt
front_edge false = All-nil IsEdge

back_edge : (stress : Bool) → All IsEdge (back stress)
back_edge true = edge_one seen.SubRunFinished tt
back_edge false = All-nil IsEdge

finish_edge : (over : Bool) → All IsEdge (finish over)
finish_edge true = edge_one seen.RunFinished tt
finish_edge false = All-nil IsEdge

start_edge : (first : Bool) → All IsEdge (if first then seen.RunStarted ∷ [] else [])
start_edge true = edge_one seen.RunStarted tt
start_edge false = All-nil IsEdge

-- a begin has nothing before it
begin_around : (p : Settings) (past : List Happening) (e : Entry) → (happening p past e).begins ≡ true
    → IsAround (happening p past e ∷ [])
begin_around p past e begins = record {
  before = map as_audited (deed_events d);
  after = [];
  is = sym (ap (λ es. map as_audited (deed_events d) ++ (es ++ [])) none
      ∙ append-nil (map as_audited (deed_events d)));
  opens = subst (λ turn. All IsEdge (map as_audited (deed_events (deed_on p (board p past) turn))))
      (sym (begins_only p (board p past) e.turn begins))
      (subst (All IsEdge)
      (sym (begin-seen (clock past) (board p past).dispatcher (length (ended_runs past) == 0)))
      (All-append IsEdge (if length (ended_runs past) == 0 then seen.RunStarted ∷ [] else []) (front (is_stress p))
      (start_edge (length (ended_runs past) == 0)) (front_edge (is_stress p))));
  closes = All-nil IsEdge;
  none_after = λ on. refl;
}
  where
    x : Happening
    x = happening p past e

    d : Deed
    d = deed_on p (board p past) e.turn

    none : within (x ∷ []) ≡ []
    none = ap (λ b. map as_audited (if b || x.ends then [] else events_in x)) begins

-- any other turn has the sub-run before it
more_around : (p : Settings) (past : List Happening) (e : Entry) (of : IsOfRun p past e)
    → (happening p past e).begins ≡ false → IsAround of.base → IsAround (happening p past e ∷ of.base)
more_around p past e of begins was = by_end x.ends refl
  where
    run : List Happening
    run = of.base

    x : Happening
    x = happening p past e

    d : Deed
    d = deed_on p (board p past) e.turn

    idle : is_on run ≡ false → d ≡ nothing_done
    idle off = of.does.marks.still (ap (λ b. b || is_on run) begins ∙ off)

    whole : map as_audited (told (x ∷ run)) ≡ was.before ++ (within run ++ was.after) ++ map as_audited (deed_events d)
    whole = map-append as_audited (told run) (deed_events d) ∙ ap (λ es. es ++ map as_audited (deed_events d)) was.is

    regroup : (a b c more : List AuditEvent) → a ++ (b ++ c) ++ more ≡ a ++ (b ++ (c ++ more))
    regroup a b c more =
        append_assoc a (b ++ c) more ∙ ap (λ es. a ++ es) (append_assoc b c more)

    bound : (b : Bool) → (x.begins || x.ends) ≡ b
        → within (x ∷ run) ≡ map as_audited (told_within run ++ (if b then [] else deed_events d))
    bound b is = ap (λ b. map as_audited (told_within run ++ (if b then [] else events_in x))) is

    by_end : (b : Bool) → x.ends ≡ b → IsAround (x ∷ run)
    by_end true ends = record {
      before = was.before;
      after = was.after ++ map as_audited (deed_events d);
      is = whole ∙ regroup was.before (within run) was.after (map as_audited (deed_events d))
          ∙ ap (λ es. was.before ++ (es ++ (was.after ++ map as_audited (deed_events d))))
          (sym (bound true (ap (λ b. b || x.ends) begins ∙ ends) ∙ ap (map as_audited) (append-nil (told_within run))));
      opens = was.opens;
      closes = All-append IsEdge was.after (map as_audited (deed_events d)) was.closes
          (subst (λ d. All IsEdge (map as_audited (deed_events d))) (sym (of.does.marks.ends ends).0)
          (subst (All IsEdge) (sym (end-seen (clock past) dispatcher p.stress))
          (All-append IsEdge (back (is_stress p)) (finish (ends_as (clock past) dispatcher p.stress).over)
          (back_edge (is_stress p)) (finish_edge (ends_as (clock past) dispatcher p.stress).over))));
      none_after = λ on.
          let never : false ≡ true = sym (ap (λ b. not b && (x.begins || is_on run)) ends) ∙ on in cc;
    }
      where
        dispatcher : DispatcherView
        dispatcher = (board_of p (frame_of p past) (clock past) run).dispatcher
    by_end false ends = by_on (is_on run) refl
      where
        still : is_on (x ∷ run) ≡ is_on run
        still = ap (λ b. not b && (x.begins || is_on run)) ends ∙ ap (λ b. b || is_on run) begins

        by_on : (on : Bool) → is_on run ≡ on → IsAround (x ∷ run)
        by_on true on = record {
          before = was.before;
          after = [];
          is = whole ∙ ap (λ es. was.before ++ (within run ++ es) ++ map as_audited (deed_events d)) (was.none_after on)
              ∙ regroup was.before (within run) [] (map as_audited (deed_events d))
              ∙ ap (λ es. was.before ++ es) (sym (append-nil (within (x ∷ run))
              ∙ bound false (ap (λ b. b || x.ends) begins ∙ ends)
              ∙ map-append as_audited (told_within run) (deed_events d)));
          opens = was.opens;
          closes = All-nil IsEdge;
          none_after = λ on. refl;
        }
        by_on false off = record {
          before = was.before;
          after = was.after;
          is = whole ∙ ap (λ d. was.before ++ (within run ++ was.after) ++ map as_audited (deed_events d)) (idle off)
              ∙ append-nil (was.before ++ (within run ++ was.after))
              ∙ ap (λ es. was.before ++ (es ++ was.after)) (sym (bound false (ap (λ b. b || x.ends) begins ∙ ends)
              ∙ ap (λ d. map as_audited (told_within run ++ deed_events d)) (idle off)
              ∙ ap (map as_audited) (append-nil (told_within run))));
          opens = was.opens;
          closes = was.closes;
          none_after = λ on. let never : false ≡ true = sym (still ∙ off) ∙ on in cc;
        }

none_around : IsAround []
none_around = record {
  before = [];
  after = [];
  is = refl;
  opens = All-nil IsEdge;
  closes = All-nil IsEdge;
  none_after = λ on. cc;
}

pub around : (p : Settings) (backward : List Entry) → IsLegalBackward p backward
    → IsAround (sub_run (history p backward))
around p [] legal = none_around
around p (e ∷ before) legal =
    by_run (around p before legal.2) (where_joins p past e (holds p before legal.2) legal.0)
  where
    past : List Happening
    past = history p before

    x : Happening
    x = happening p past e

    by_run : IsAround (sub_run past) → IsOfRun p past e ⊎ IsBeforeRuns p past e → IsAround (sub_run (x ∷ past))
    by_run was (inr none) = subst IsAround (sym none.still) none_around
    by_run was (inl of) = subst IsAround (sym of.joins) (by_begin x.begins refl)
      where
        base : (b : Bool) → x.begins ≡ b → of.base ≡ base_of b (sub_run past)
        base b is = of.is ∙ ap (λ b. base_of b (sub_run past)) is

        by_begin : (b : Bool) → x.begins ≡ b → IsAround (x ∷ of.base)
        by_begin true begins =
            subst (λ run. IsAround (x ∷ run)) (sym (base true begins)) (begin_around p past e begins)
        by_begin false begins =
            more_around p past e of begins (subst IsAround (sym (base false begins)) was)

-- so a part keeps it where all that is told of its sub-run does
pub part_keeps : (Keeps : List AuditEvent → Type 0) (p : Settings) (run : List Happening) → Ignores Keeps → IsAround run
    → Keeps (map as_audited (told run)) → Keeps (sub_run_part p run)
part_keeps Keeps p run ignores around kept = by_stress (is_stress p)
  where
    inside : Keeps (within run)
    inside = ignores.between around.before (within run) around.after around.opens around.closes
        (subst Keeps around.is kept)

    by_stress : (stress : Bool) → Keeps ((if stress then [] else seen.RunStarted ∷ []) ++ within run)
    by_stress true = inside
    by_stress false = ignores.start (within run) inside
