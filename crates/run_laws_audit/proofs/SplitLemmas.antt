-- What is told of a run that is over says of each sub-run what that tells, where news are of no begin and no end.
use Rattle.std.proofs.Common.{◌≡◌, ◌⊎◌, inl, inr, ◌||◌, ◌&&◌, ◌==◌, List, [], ◌∷◌, ◌++◌, map}
use Rattle.std.proofs.Common.{length, reverse, filter_map}
use Rattle.std.proofs.Common.{Bool, true, false, not, if◌then◌else◌, Option, Some, None, is_some, option_to_list}
use Rattle.std.proofs.Common.{refl, ap, sym, subst, ◌∙◌, append_assoc}
use Rattle.std.specs.Cmp.{first_so, second_so}
use Rattle.std.specs.List.{All, cons_option, flat_map}
use Rattle.std.proofs.lemmas.List.{append-nil, map-append}
use Rattle.std.proofs.lemmas.List.Elements.{All-nil, All-cons, All-append, All-head, All-tail, All-map}
use Rattle.run_commands.specs.declared.stress_count.StressCondition.{StressCondition}
use Rattle.run_events.specs.declared.events.ReporterEvent.{ReporterEvent}
use Rattle.run_events.specs.declared.settings.Settings.{Settings}
use Rattle.run_model.specs.declared.dispatcher_view.DispatcherView.{DispatcherView}
use Rattle.run_model.specs.declared.entry.Entry.{Entry}
use Rattle.run_model.specs.declared.happening.Happening.{Happening}
use Rattle.run_model.specs.Board.{Deed, board, deed_events}
use Rattle.run_model.specs.Journal.{IsLegalBackward, history}
use Rattle.run_model.specs.Turns.{deed_on, enabled, ends_as, happening, nothing_done}
use Rattle.run_model.specs.Words.{clock, ended_runs, is_on, is_over, sub_run, told}
use Rattle.run_laws.proofs.board.Deeds.{base_of}
use Rattle.run_laws.proofs.board.Kept.{HoldsAfter, IsBeforeRuns, IsOfRun, holds, where_joins}
use Rattle.run_laws.proofs.board.OnBoard.{board_of, frame_of}
use Rattle.run_laws.proofs.told.Begins.{begins_only}
use Rattle.run_audit_model.specs.Parts.{IsInner, closes_part, is_stress}
use Rattle.run_audit_model.specs.Seen.{as_audited}
use Rattle.run_audit_model.specs.declared.audit_event.AuditEvent.{AuditEvent}
use Rattle.run_audit_model.specs.declared.audit_event.AuditEvent.TheVariants as seen
use Rattle.run_laws_audit.specs.Split.{news_by_part}
use Rattle.run_laws_audit.proofs.BoundEvents.{IsWithin, begin-seen, end-seen, finish, tells_within}
use Rattle.run_laws_audit.proofs.EdgeLemmas.{IsEdge}
use Rattle.run_laws_audit.proofs.EndedLemmas.{all-reverse, each_end}
use Rattle.run_laws_audit.proofs.JoinedTold.{told_joined}
use Rattle.run_laws_audit.proofs.ShapeLemmas.{back, front, inner_open}

-- an event closes no part, and an edge that closes none
abbrev StaysOpen : Bool → AuditEvent → Type 0
StaysOpen stress e = closes_part stress e ≡ false

abbrev IsOpenEdge : Bool → AuditEvent → Type 0
IsOpenEdge stress e = IsEdge e × (closes_part stress e ≡ false)

-- what closes a part
abbrev closing : Bool → AuditEvent
closing true = seen.SubRunFinished
closing false = seen.RunFinished

closing_closes : (stress : Bool) → closes_part stress (closing stress) ≡ true
closing_closes true = refl
closing_closes false = refl

closing_edge : (stress : Bool) → IsEdge (closing stress)
closing_edge true = tt
closing_edge false = tt

-- events that close one part, with edges after that
record IsClosed (stress : Bool) (events : List ReporterEvent) : Type 0 where
  pub earlier : List AuditEvent
  pub rest : List AuditEvent
  pub is : map as_audited events ≡ earlier ++ closing stress ∷ rest
  pub stays : All (StaysOpen stress) earlier
  pub edges : All (IsOpenEdge stress) rest

-- news of no edge
abbrev pub IsOfNoEdge : {Y : Type 0} → (ReporterEvent → Option Y) → Type 0
IsOfNoEdge news = (e : ReporterEvent) → IsEdge (as_audited e) → news e ≡ None

-- edges that close nothing are passed over
over_edges : {Y : Type 0} (stress : Bool) (news : ReporterEvent → Option Y) → IsOfNoEdge news → (before : List Y)
    (events later : List ReporterEvent) → All (IsOpenEdge stress) (map as_audited events)
    → news_by_part stress news before (events ++ later) ≡ news_by_part stress news before later
over_edges stress news none before [] later all = refl
over_edges stress news none before (e ∷ events) later all =
    ap (λ b. if b then before ∷ news_by_part stress news [] (events ++ later)
    else news_by_part stress news (before ++ option_to_list (news e)) (events ++ later)) edge.1
    ∙ ap (λ o. news_by_part stress news (before ++ option_to_list o) (events ++ later)) (none e edge.0)
    ∙ ap (λ before. news_by_part stress news before (events ++ later)) (append-nil before)
    ∙ over_edges stress news none before events later
    (All-tail (IsOpenEdge stress) (as_audited e) (map as_audited events) all)
  where
    edge : IsOpenEdge stress (as_audited e)
    edge = All-head (IsOpenEdge stress) (as_audited e) (map as_audited events) all

none_of_edges : {Y : Type 0} (stress : Bool) (news : ReporterEvent → Option Y) → IsOfNoEdge news
    → (events : List ReporterEvent) → All (IsOpenEdge stress) (map as_audited events) → filter_map news events ≡ []
none_of_edges stress news none [] all = refl
none_of_edges stress news none (e ∷ events) all =
    ap (λ o. cons_option o (filter_map news events))
    (none e (All-head (IsOpenEdge stress) (as_audited e) (map as_audited events) all).0)
    ∙ none_of_edges stress news none events
    (All-tail (IsOpenEdge stress) (as_audited e) (map as_audited events) all)

with_option : {Y : Type 0} (before : List Y) (o : Option Y) (ys : List Y)
    → (before ++ option_to_list o) ++ ys ≡ before ++ cons_option o ys
with_option before None ys = ap (λ zs. zs ++ ys) (append-nil before)
with_option before (Some y) ys = append_assoc before (y ∷ []) ys

-- the news of events that close one part, and what comes after them
closed_once : {Y : Type 0} (stress : Bool) (news : ReporterEvent → Option Y) → IsOfNoEdge news
    → (so_far : List Y)
    (events : List ReporterEvent) (before rest : List AuditEvent) → map as_audited events ≡ before ++ closing stress
    ∷ rest
    → All (StaysOpen stress) before → All (IsOpenEdge stress) rest → (later : List ReporterEvent)
    → news_by_part stress news so_far (events ++ later)
    ≡ (so_far ++ filter_map news events) ∷ news_by_part stress news [] later
closed_once stress news none so_far [] [] rest is stays edges later = cc
closed_once stress news none so_far [] (a ∷ before) rest is stays edges later = cc
closed_once {Y} stress news none so_far (e ∷ events) [] rest is stays edges later =
    ap (λ b. if b then so_far ∷ news_by_part stress news [] (events ++ later)
    else news_by_part stress news (so_far ++ option_to_list (news e)) (events ++ later))
    (ap (closes_part stress) own ∙ closing_closes stress)
    ∙ ap (λ ps. so_far ∷ ps) (over_edges stress news none [] events later all)
    ∙ ap (λ ys. ys ∷ news_by_part stress news [] later) (sym (append-nil so_far)
    ∙ ap (λ ys. so_far ++ ys) (sym nothing))
  where
    own : as_audited e ≡ closing stress
    own = cc

    tail : map as_audited events ≡ rest
    tail = cc

    all : All (IsOpenEdge stress) (map as_audited events)
    all = subst (All (IsOpenEdge stress)) (sym tail) edges

    nothing : filter_map news (e ∷ events) ≡ []
    nothing = ap (λ o. cons_option o (filter_map news events)) (none e (subst IsEdge (sym own) (closing_edge stress)))
        ∙ none_of_edges stress news none events all
closed_once {Y} stress news none so_far (e ∷ events) (a ∷ before) rest is stays edges later =
    ap (λ b. if b then so_far ∷ news_by_part stress news [] (events ++ later)
    else news_by_part stress news (so_far ++ option_to_list (news e)) (events ++ later))
    (ap (closes_part stress) own ∙ All-head (StaysOpen stress) a before stays)
    ∙ closed_once stress news none (so_far ++ option_to_list (news e)) events before rest tail
    (All-tail (StaysOpen stress) a before stays) edges later
    ∙ ap (λ ys. ys ∷ news_by_part stress news [] later) (with_option so_far (news e) (filter_map news events))
  where
    own : as_audited e ≡ a
    own = cc

    tail : map as_audited events ≡ before ++ closing stress ∷ rest
    tail = cc

-- so of sub-runs one after the other
closed_each : {Y : Type 0} (stress : Bool) (news : ReporterEvent → Option Y) → IsOfNoEdge news
    → (runs : List (List Happening)) → All (λ run. IsClosed stress (told run)) runs
    → news_by_part stress news [] (flat_map told runs) ≡ map (λ run. filter_map news (told run)) runs
closed_each stress news none [] all = refl
closed_each stress news none (run ∷ runs) all =
    closed_once stress news none [] (told run) own.earlier own.rest own.is own.stays own.edges (flat_map told runs)
    ∙ ap (λ ps. filter_map news (told run) ∷ ps)
    (closed_each stress news none runs (All-tail (λ run. IsClosed stress (told run)) run runs all))
  where
    own : IsClosed stress (told run)
    own = All-head (λ run. IsClosed stress (told run)) run runs all

-- what a sub-run has told that is on closes no part
stays_one : (stress : Bool) (e : AuditEvent) → StaysOpen stress e → All (StaysOpen stress) (e ∷ [])
stays_one stress e stays = All-cons (StaysOpen stress) e [] stays (All-nil (StaysOpen stress))

start_stays : (stress first : Bool) → All (StaysOpen stress) (if first then seen.RunStarted ∷ [] else [])
start_stays true true = stays_one true seen.RunStarted refl
start_stays false true = stays_one false seen.RunStarted refl
start_stays stress false = All-nil (StaysOpen stress)

front_stays : (stress other : Bool) → All (StaysOpen stress) (front other)
front_stays true true = stays_one true seen.SubRunStarted refl
front_stays false true = stays_one false seen.SubRunStarted refl
front_stays stress false = All-nil (StaysOpen stress)

within_stays : (stress : Bool) (events : List ReporterEvent) → All IsWithin events
    → All (StaysOpen stress) (map as_audited events)
within_stays stress [] all = All-nil (StaysOpen stress)
within_stays stress (e ∷ events) all =
    All-cons (StaysOpen stress) (as_audited e) (map as_audited events)
    (inner_open stress (as_audited e) (All-head IsWithin e events all))
    (within_stays stress events (All-tail IsWithin e events all))

abbrev OnStays : Settings → List Happening → Type 0
OnStays p run = is_on run ≡ true → All (StaysOpen (is_stress p)) (map as_audited (told run))

begin_stays : (p : Settings) (past : List Happening) (e : Entry) → (happening p past e).begins ≡ true
    → All (StaysOpen (is_stress p)) (map as_audited (deed_events (deed_on p (board p past) e.turn)))
begin_stays p past e begins =
    subst (λ turn. All (StaysOpen (is_stress p)) (map as_audited (deed_events (deed_on p (board p past) turn))))
    (sym (begins_only p (board p past) e.turn begins))
    (subst (All (StaysOpen (is_stress p)))
    (sym (begin-seen (clock past) (board p past).dispatcher (length (ended_runs past) == 0)))
    (All-append (StaysOpen (is_stress p)) (if length (ended_runs past) == 0 then seen.RunStarted ∷ [] else [])
    (front (is_stress p)) (start_stays (is_stress p) (length (ended_runs past) == 0))
    (front_stays (is_stress p) (is_stress p))))

on_stays : (p : Settings) (backward : List Entry) → IsLegalBackward p backward
    → OnStays p (sub_run (history p backward))
on_stays p [] legal = λ on. cc
on_stays p (e ∷ before) legal = by_run (on_stays p before legal.2) (where_joins p past e h legal.0)
  where
    past : List Happening
    past = history p before

    x : Happening
    x = happening p past e

    h : HoldsAfter p past
    h = holds p before legal.2

    by_run : OnStays p (sub_run past) → IsOfRun p past e ⊎ IsBeforeRuns p past e → OnStays p (sub_run (x ∷ past))
    by_run was (inr none) = λ on. let never : false ≡ true = sym (ap is_on none.still) ∙ on in cc
    by_run was (inl of) = λ on. joined (subst (λ run. is_on run ≡ true) of.joins on)
      where
        base : (b : Bool) → x.begins ≡ b → of.base ≡ base_of b (sub_run past)
        base b is = of.is ∙ ap (λ b. base_of b (sub_run past)) is

        not_so : (b : Bool) → not b ≡ true → b ≡ false
        not_so false h = refl
        not_so true h = cc

        by_begin : (b : Bool) → x.begins ≡ b → is_on (x ∷ of.base) ≡ true
            → All (StaysOpen (is_stress p)) (map as_audited (told (x ∷ of.base)))
        by_begin true begins on =
            subst (λ run. All (StaysOpen (is_stress p)) (map as_audited (told (x ∷ run)))) (sym (base true begins))
            (begin_stays p past e begins)
        by_begin false begins on =
            subst (All (StaysOpen (is_stress p)))
            (sym (map-append as_audited (told of.base) (deed_events (deed_on p (board p past) e.turn))))
            (All-append (StaysOpen (is_stress p)) (map as_audited (told of.base))
            (map as_audited (deed_events (deed_on p (board p past) e.turn)))
            (subst (λ run. All (StaysOpen (is_stress p)) (map as_audited (told run))) (sym (base false begins))
            (was base_on))
            (within_stays (is_stress p) (deed_events (deed_on p (board p past) e.turn))
            (tells_within p past e h legal.0 begins (not_so x.ends (first_so (not x.ends) (x.begins || is_on of.base)
            on)))))
          where
            base_on : is_on (sub_run past) ≡ true
            base_on = sym (ap is_on (base false begins)) ∙ sym (ap (λ b. b || is_on of.base) begins)
                ∙ second_so (not x.ends) (x.begins || is_on of.base) on

        joined : is_on (x ∷ of.base) ≡ true → All (StaysOpen (is_stress p)) (map as_audited (told (sub_run (x ∷ past))))
        joined on =
            subst (λ run. All (StaysOpen (is_stress p)) (map as_audited (told run))) (sym of.joins)
            (by_begin x.begins refl on)

-- what an end tells
end_is : (stress over : Bool) → (stress ≡ false → over ≡ true)
    → (rest : List AuditEvent) × (back stress ++ finish over ≡ closing stress ∷ rest) × All (IsOpenEdge stress) rest
end_is true true single = (
  seen.RunFinished ∷ [],
  refl,
  All-cons (IsOpenEdge true) seen.RunFinished [] (tt, refl) (All-nil (IsOpenEdge true)),
)
end_is true false single = ([], refl, All-nil (IsOpenEdge true))
end_is false true single = ([], refl, All-nil (IsOpenEdge false))
end_is false false single = let never : false ≡ true = single refl in cc

-- a sub-run that has ended has closed one part
ended_closed : (p : Settings) (e : Entry) (before : List Entry) → IsLegalBackward p (e ∷ before)
    → (happening p (history p before) e).ends ≡ true
    → IsClosed (is_stress p) (told (sub_run (history p (e ∷ before))))
ended_closed p e before legal ends = by_run (where_joins p past e h legal.0)
  where
    past : List Happening
    past = history p before

    x : Happening
    x = happening p past e

    h : HoldsAfter p past
    h = holds p before legal.2

    d : Deed
    d = deed_on p (board p past) e.turn

    not_idle : d ≡ nothing_done → ⊥
    not_idle idle = let never : false ≡ true = sym (ap (λ (d : Deed). d.ends) idle) ∙ ends in cc

    by_run : IsOfRun p past e ⊎ IsBeforeRuns p past e → IsClosed (is_stress p) (told (sub_run (x ∷ past)))
    by_run (inr none) = absurd (not_idle none.idle)
    by_run (inl of) = subst (λ run. IsClosed (is_stress p) (told run)) (sym of.joins) (record {
      earlier = map as_audited (told of.base);
      rest = last.0;
      is = map-append as_audited (told of.base) (deed_events d)
          ∙ ap (λ es. map as_audited (told of.base) ++ es) (ap (λ d. map as_audited (deed_events d))
          (of.does.marks.ends ends).0 ∙ end-seen (clock past) dispatcher p.stress ∙ last.1);
      stays = by_begin x.begins refl;
      edges = last.2;
    })
      where
        dispatcher : DispatcherView
        dispatcher = (board_of p (frame_of p past) (clock past) of.base).dispatcher

        single : (o : Option StressCondition) → is_some o ≡ false → (ends_as (clock past) dispatcher o).over ≡ true
        single None is = refl
        single (Some condition) is = cc

        last : (rest : List AuditEvent)
            × (back (is_stress p) ++ finish (ends_as (clock past) dispatcher p.stress).over
            ≡ closing (is_stress p) ∷ rest) × All (IsOpenEdge (is_stress p)) rest
        last = end_is (is_stress p) (ends_as (clock past) dispatcher p.stress).over (single p.stress)

        base : (b : Bool) → x.begins ≡ b → of.base ≡ base_of b (sub_run past)
        base b is = of.is ∙ ap (λ b. base_of b (sub_run past)) is

        by_on : (on : Bool) → is_on of.base ≡ on → x.begins ≡ false → is_on of.base ≡ true
        by_on true is begins = is
        by_on false is begins = absurd (not_idle (of.does.marks.still (ap (λ b. b || is_on of.base) begins ∙ is)))

        by_begin : (b : Bool) → x.begins ≡ b → All (StaysOpen (is_stress p)) (map as_audited (told of.base))
        by_begin true begins =
            subst (λ run. All (StaysOpen (is_stress p)) (map as_audited (told run))) (sym (base true begins))
            (All-nil (StaysOpen (is_stress p)))
        by_begin false begins =
            subst (λ run. All (StaysOpen (is_stress p)) (map as_audited (told run))) (sym (base false begins))
            (on_stays p before legal.2
            (sym (ap is_on (base false begins)) ∙ by_on (is_on of.base) refl begins))

-- so all that is told of a run that is over says of each sub-run what that tells
pub split_told : {Y : Type 0} (news : ReporterEvent → Option Y) → IsOfNoEdge news → (p : Settings)
    (backward : List Entry) → IsLegalBackward p backward → is_over (history p backward) ≡ true
    → news_by_part (is_stress p) news [] (told (history p backward))
    ≡ map (λ run. filter_map news (told run)) (reverse (ended_runs (history p backward)))
split_told news none p backward legal over =
    ap (news_by_part (is_stress p) news []) (told_joined p backward legal over)
    ∙ closed_each (is_stress p) news none (reverse (ended_runs (history p backward)))
    (all-reverse (λ run. IsClosed (is_stress p) (told run)) (ended_runs (history p backward))
    (each_end (λ run. IsClosed (is_stress p) (told run)) p (ended_closed p) backward legal))
