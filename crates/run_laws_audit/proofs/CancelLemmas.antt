-- A sub-run tells each cause that rises above those before it, and nothing starts after that.
use Rattle.std.proofs.Common.{◌≡◌, ◌⊎◌, inl, inr, ◌||◌, List, [], ◌∷◌, ◌++◌, map, Bool, true, false, if◌then◌else◌}
use Rattle.std.proofs.Common.{Option, Some, None, is_some, option_map, option_and_then, option_to_list, filter_map}
use Rattle.std.proofs.Common.{nat_lt, refl, ap, sym, subst, ◌∙◌, append_assoc}
use Rattle.std.specs.Prelude.{IfSome}
use Rattle.std.specs.List.{All, cons_option, list_any}
use Rattle.std.proofs.lemmas.List.{append-nil, map-append}
use Rattle.std.proofs.lemmas.List.Elements.{filter_map-append}
use Rattle.std.proofs.lemmas.List.Folds.{list_any-append}
use Rattle.run_events.specs.Cancel.{greater, rank}
use Rattle.run_events.specs.declared.cancel.CancelReason.{CancelReason}
use Rattle.run_events.specs.declared.events.ReporterEvent.{ReporterEvent}
use Rattle.run_events.specs.declared.events.ReporterEvent.TheVariants.{Tick, Test}
use Rattle.run_events.specs.declared.events.TestEventKind.{TestEventKind}
use Rattle.run_events.specs.declared.events.TestEventKind.TheVariants.{RunBeginCancel, RunBeginKill, RunFinished}
use Rattle.run_events.specs.declared.events.TestEventKind.TheVariants.{StressSubRunStarted}
use Rattle.run_events.specs.declared.settings.Settings.{Settings}
use Rattle.run_model.specs.declared.entry.Entry.{Entry}
use Rattle.run_model.specs.declared.happening.Happening.{Happening}
use Rattle.run_model.specs.Board.{board}
use Rattle.run_model.specs.Journal.{IsLegalBackward, history}
use Rattle.run_model.specs.Turns.{deed_on, happening}
use Rattle.run_model.specs.Words.{clock, ended_runs, events_in, is_over, reason, sub_run, told}
use Rattle.run_laws.specs.Cancels.{IsCancelled, begins_in, is_second, kills, kills_in, reason_in, reason_told, rises}
use Rattle.run_laws.specs.Cancels.{tells_start}
use Rattle.run_laws.proofs.board.DeedFits.{cancel_told}
use Rattle.run_laws.proofs.board.Deeds.{base_of}
use Rattle.run_laws.proofs.board.Kept.{HoldsAfter, IsBeforeRuns, IsOfRun, from_base, holds, where_joins}
use Rattle.run_laws.proofs.board.OnBoard.{frame_of}
use Rattle.run_laws.proofs.told.Cancelled.{cancelled_after}
use Rattle.run_laws.proofs.told.Cancels.{IsAfter, IsAfterKind}
use Rattle.run_audit_model.specs.Kept.{OfEachRun}
use Rattle.run_audit_model.specs.Seen.{as_audited, audited_kind, cancel_seen}
use Rattle.run_audit_model.specs.SeenCancels.{KeepsCancels, is_seen_any_start, raised, seen_cancel}
use Rattle.run_audit_model.specs.declared.audit_event.AuditEvent.{AuditEvent}
use Rattle.run_audit_model.specs.declared.audit_event.AuditEvent.TheVariants as seen
use Rattle.run_laws_audit.specs.Within.{sub_run_part}
use Rattle.run_laws_audit.proofs.AroundLemmas.{around, part_keeps}
use Rattle.run_laws_audit.proofs.EachLemmas.{of_each}
use Rattle.run_laws_audit.proofs.EdgeLemmas.{IsEdge, Ignores, between_edges}
use Rattle.run_laws_audit.proofs.EndedLemmas.{each_end}
use Rattle.run_laws_audit.specs.Due.{cancel_news}
use Rattle.run_laws_audit.proofs.KeptLemmas.{kept_same, kept_seen}
use Rattle.run_laws_audit.proofs.ListLemmas.{second_none, split_last}

-- a reason, with whether it kills
abbrev with_kill : CancelReason → CancelReason × Bool
with_kill reason = (reason, is_second (Some reason))

-- what is seen of an event is the reason that it tells
of_stats : (why : Option CancelReason) (kill : Bool)
    → seen_cancel (cancel_seen why kill) ≡ option_map (λ reason. (reason, kill)) why
of_stats None kill = refl
of_stats (Some reason) kill = refl

of_kind : (kind : TestEventKind)
    → seen_cancel (audited_kind kind) ≡ option_map (λ reason. (reason, kills_in kind)) (reason_in kind)
of_kind (RunBeginCancel event) = of_stats event.stats.cancel_reason false
of_kind (RunBeginKill event) = of_stats event.stats.cancel_reason true
of_kind kind = refl

cancel_is : (e : ReporterEvent)
    → seen_cancel (as_audited e) ≡ option_map (λ reason. (reason, kills e)) (reason_told e)
cancel_is Tick = refl
cancel_is (Test event) = of_kind event.kind

-- and a start where it tells one
start_of_stats : (why : Option CancelReason) (kill : Bool) → is_seen_any_start (cancel_seen why kill) ≡ false
start_of_stats None kill = refl
start_of_stats (Some reason) kill = refl

start_of_kind : (kind : TestEventKind) → is_seen_any_start (audited_kind kind) ≡ begins_in kind
start_of_kind (RunBeginCancel event) = start_of_stats event.stats.cancel_reason false
start_of_kind (RunBeginKill event) = start_of_stats event.stats.cancel_reason true
start_of_kind kind = refl

start_is : (e : ReporterEvent) → is_seen_any_start (as_audited e) ≡ tells_start e
start_is Tick = refl
start_is (Test event) = start_of_kind event.kind

-- the cancels that are seen in events
abbrev cancels_in : List AuditEvent → List (CancelReason × Bool)
cancels_in events = filter_map seen_cancel events

-- a turn's own event is none
own_none : (o : Option ReporterEvent) → IfSome o (λ event. reason_told event ≡ None)
    → cancels_in (map as_audited (option_to_list o)) ≡ []
own_none None none = refl
own_none (Some e) none =
    ap (λ o. cons_option o []) (cancel_is e ∙ ap (option_map (λ reason. (reason, kills e))) none)

-- what it tells after that is its cause, where that rises
after_cause : (o : Option ReporterEvent) (why cause : Option CancelReason)
    → is_some (option_and_then reason_told o) ≡ rises why cause
    → IfSome (option_and_then reason_told o) (λ reason. Some reason ≡ cause)
    → IfSome o (λ event. kills event ≡ is_second cause)
    → cancels_in (map as_audited (option_to_list o))
    ≡ map with_kill (option_to_list (if rises why cause then cause else None))
after_cause None why cause exactly is killing =
    ap (λ b. map with_kill (option_to_list (if b then cause else None))) exactly
after_cause (Some e) why cause exactly is killing = by_reason (reason_told e) refl
  where
    by_reason : (told : Option CancelReason) → reason_told e ≡ told
        → cons_option (seen_cancel (as_audited e)) []
        ≡ map with_kill (option_to_list (if rises why cause then cause else None))
    by_reason None none =
        ap (λ o. cons_option o []) (cancel_is e ∙ ap (option_map (λ reason. (reason, kills e))) none)
        ∙ ap (λ b. map with_kill (option_to_list (if b then cause else None))) (ap is_some (sym none) ∙ exactly)
    by_reason (Some reason) some =
        let same : Some reason ≡ cause = subst (λ o. IfSome o (λ reason. Some reason ≡ cause)) some is in
        ap (λ o. cons_option o []) (cancel_is e ∙ ap (option_map (λ reason. (reason, kills e))) some)
        ∙ ap (λ kill. (reason, kill) ∷ []) (killing ∙ ap is_second (sym same))
        ∙ ap (λ o. map with_kill (option_to_list o)) same
        ∙ ap (λ b. map with_kill (option_to_list (if b then cause else None))) (ap is_some (sym some) ∙ exactly)

-- so what a sub-run tells are its causes that rise
abbrev AreRaised : List Happening → Type 0
AreRaised run = cancels_in (map as_audited (told run)) ≡ map with_kill (raised run)

raised_more : (p : Settings) (before : List Happening) (x : Happening) (run : List Happening)
    → IsCancelled p before x → rises (reason before) x.cause ≡ rises (reason run) x.cause
    → AreRaised run → AreRaised (x ∷ run)
raised_more p before x run caused same was =
    ap cancels_in (map-append as_audited (told run) (events_in x))
    ∙ filter_map-append seen_cancel (map as_audited (told run)) (map as_audited (events_in x))
    ∙ ap (λ cs. cs ++ cancels_in (map as_audited (events_in x))) was
    ∙ ap (λ cs. map with_kill (raised run) ++ cs)
    (ap cancels_in (map-append as_audited (option_to_list x.told) (option_to_list x.after))
    ∙ filter_map-append seen_cancel (map as_audited (option_to_list x.told)) (map as_audited (option_to_list x.after))
    ∙ ap (λ cs. cs ++ cancels_in (map as_audited (option_to_list x.after))) (own_none x.told caused.own)
    ∙ after_cause x.after (reason before) x.cause caused.exactly caused.with_reason caused.kills
    ∙ ap (λ b. map with_kill (option_to_list (if b then x.cause else None))) same)
    ∙ sym (map-append with_kill (raised run) (option_to_list (if rises (reason run) x.cause then x.cause else None)))

-- where no cause came none is told
raised_none : (run : List Happening) → reason run ≡ None → raised run ≡ []
raised_none [] none = refl
raised_none (x ∷ run) none = by_reason (raised_none run) (reason run) refl x.cause refl
  where
    by_reason : (reason run ≡ None → raised run ≡ []) → (why : Option CancelReason) → reason run ≡ why
        → (cause : Option CancelReason) → x.cause ≡ cause
        → raised (x ∷ run) ≡ []
    by_reason earlier None before None is =
        ap (λ cs. cs ++ option_to_list (if rises (reason run) x.cause then x.cause else None)) (earlier before)
        ∙ ap (λ why. option_to_list (if rises why x.cause then x.cause else None)) before
        ∙ ap (λ c. option_to_list (if rises None c then c else None)) is
    by_reason earlier None before (Some c) is =
        let never : Some c ≡ None =
        sym (ap (λ why. greater why x.cause) before ∙ ap (greater None) is) ∙ none in cc
    by_reason earlier (Some r) before None is =
        let never : Some r ≡ None =
        sym (ap (λ why. greater why x.cause) before ∙ ap (greater (Some r)) is) ∙ none in cc
    by_reason earlier (Some r) before (Some c) is = by_rank (nat_lt (rank r) (rank c)) (sym both ∙ none)
      where
        both : reason (x ∷ run) ≡ (if nat_lt (rank r) (rank c) then Some c else Some r)
        both = ap (λ why. greater why x.cause) before ∙ ap (greater (Some r)) is

        by_rank : (b : Bool) → (if b then Some c else Some r) ≡ None → raised (x ∷ run) ≡ []
        by_rank true never = cc
        by_rank false never = cc

-- nothing starts once a cancel was seen
abbrev is_cancel : AuditEvent → Bool
is_cancel e = is_some (seen_cancel e)

abbrev StopsStarts : List AuditEvent → Type 0
StopsStarts events = (before after : List AuditEvent) (e : AuditEvent) → events ≡ before ++ e ∷ after
    → is_seen_any_start e ≡ true → list_any is_cancel before ≡ false

none_seen : (events : List AuditEvent) → cancels_in events ≡ [] → list_any is_cancel events ≡ false
none_seen [] none = refl
none_seen (e ∷ events) none = by_seen (none_seen events) (seen_cancel e) refl
  where
    by_seen : (cancels_in events ≡ [] → list_any is_cancel events ≡ false) → (o : Option (CancelReason × Bool))
        → seen_cancel e ≡ o → list_any is_cancel (e ∷ events) ≡ false
    by_seen later None is =
        ap (λ o. is_some o || list_any is_cancel events) is
        ∙ later (sym (ap (λ o. cons_option o (cancels_in events)) is) ∙ none)
    by_seen later (Some c) is =
        let never : c ∷ cancels_in events ≡ [] = sym (ap (λ o. cons_option o (cancels_in events)) is) ∙ none in cc

starts_push : (events : List AuditEvent) (x : AuditEvent) → StopsStarts events
    → (is_seen_any_start x ≡ true → list_any is_cancel events ≡ false) → StopsStarts (events ++ x ∷ [])
starts_push events x was next before after e is start = by_place (split_last events before after x e is)
  where
    by_place : ((before ≡ events) × (e ≡ x)) ⊎ ((rest : List AuditEvent) × (events ≡ before ++ e ∷ rest))
        → list_any is_cancel before ≡ false
    by_place (inl last) =
        ap (list_any is_cancel) last.0 ∙ next (ap is_seen_any_start (sym last.1) ∙ start)
    by_place (inr found) = was before found.0 e found.1 start

starts_option : (events : List AuditEvent) (o : Option ReporterEvent) → StopsStarts events
    → IfSome o (λ event. tells_start event ≡ true → list_any is_cancel events ≡ false)
    → StopsStarts (events ++ map as_audited (option_to_list o))
starts_option events None was next = subst StopsStarts (sym (append-nil events)) was
starts_option events (Some e) was next =
    starts_push events (as_audited e) was (λ start. next (sym (start_is e) ∙ start))

-- what comes after a turn's own event starts nothing
after_starts : (o : Option ReporterEvent) → IsAfter o → (events : List AuditEvent)
    → IfSome o (λ event. tells_start event ≡ true → list_any is_cancel events ≡ false)
after_starts None after events = tt
after_starts (Some Tick) after events = absurd after
after_starts (Some (Test event)) after events = by_kind event.kind after
  where
    by_kind : (kind : TestEventKind) → IsAfterKind kind → begins_in kind ≡ true → list_any is_cancel events ≡ false
    by_kind (RunBeginCancel event) after start = cc
    by_kind (RunBeginKill event) after start = cc
    by_kind (StressSubRunStarted event) after start = cc
    by_kind (RunFinished event) after start = cc
    by_kind kind after start = absurd after

-- both, of a sub-run
record CancelsSo (run : List Happening) : Type 0 where
  raised : AreRaised run
  starts : StopsStarts (map as_audited (told run))

starts_more : (x : Happening) (run : List Happening) → CancelsSo run → IsAfter x.after
    → IfSome x.told (λ event. tells_start event ≡ true → reason run ≡ None)
    → StopsStarts (map as_audited (told (x ∷ run)))
starts_more x run was after own =
    subst StopsStarts (sym (map-append as_audited (told run) (events_in x)
    ∙ ap (λ es. events ++ es) (map-append as_audited (option_to_list x.told) (option_to_list x.after))
    ∙ sym (append_assoc events (map as_audited (option_to_list x.told)) (map as_audited (option_to_list x.after)))))
    (starts_option (events ++ map as_audited (option_to_list x.told)) x.after
    (starts_option events x.told was.starts (by_told x.told own)) (after_starts x.after after
    (events ++ map as_audited (option_to_list x.told))))
  where
    events : List AuditEvent
    events = map as_audited (told run)

    by_told : (o : Option ReporterEvent) → IfSome o (λ event. tells_start event ≡ true → reason run ≡ None)
        → IfSome o (λ event. tells_start event ≡ true → list_any is_cancel events ≡ false)
    by_told None own = tt
    by_told (Some e) own = λ start.
        none_seen events (was.raised ∙ ap (map with_kill) (raised_none run (own start)))

nothing : CancelsSo []
nothing = record { raised = refl; starts = λ before after e is start. none before after e is }
  where
    none : (before after : List AuditEvent) (e : AuditEvent) → [] ≡ before ++ e ∷ after
        → list_any is_cancel before ≡ false
    none [] after e is = cc
    none (b ∷ before) after e is = cc

-- a begin is no cause
cancels_more : (p : Settings) (past : List Happening) (e : Entry) (of : IsOfRun p past e)
    → IsCancelled p (sub_run past) (happening p past e) → CancelsSo of.base → CancelsSo (happening p past e ∷ of.base)
cancels_more p past e of caused was = by_begin x.begins refl
  where
    x : Happening
    x = happening p past e

    after : IsAfter x.after
    after = cancel_told p (frame_of p past) (clock past) of.base (deed_on p (board p past) e.turn) of.does.marks

    base : (b : Bool) → x.begins ≡ b → of.base ≡ base_of b (sub_run past)
    base b is = of.is ∙ ap (λ b. base_of b (sub_run past)) is

    by_begin : (b : Bool) → x.begins ≡ b → CancelsSo (x ∷ of.base)
    by_begin true begins =
        let no_cause : x.cause ≡ None = (of.does.marks.begins begins).1.cause in
        let empty : of.base ≡ [] = base true begins in
        record {
          raised = raised_more p (sub_run past) x of.base caused
              (ap (rises (reason (sub_run past))) no_cause ∙ sym (ap (rises (reason of.base)) no_cause)) was.raised;
          starts = starts_more x of.base was after (each_none x.told (ap reason empty));
        }
      where
        each_none : (o : Option ReporterEvent) → reason of.base ≡ None
            → IfSome o (λ event. tells_start event ≡ true → reason of.base ≡ None)
        each_none None none = tt
        each_none (Some e) none = λ start. none
    by_begin false begins =
        let same : of.base ≡ sub_run past = base false begins in
        record {
          raised = raised_more p (sub_run past) x of.base caused
              (ap (λ run. rises (reason run) x.cause) (sym same)) was.raised;
          starts = starts_more x of.base was after
              (subst (λ run. IfSome x.told (λ event. tells_start event ≡ true → reason run ≡ None)) (sym same)
              caused.starts);
        }

cancels_so : (p : Settings) (backward : List Entry) → IsLegalBackward p backward
    → CancelsSo (sub_run (history p backward))
cancels_so p [] legal = nothing
cancels_so p (e ∷ before) legal = by_run (cancels_so p before legal.2) (where_joins p past e h legal.0)
  where
    past : List Happening
    past = history p before

    x : Happening
    x = happening p past e

    h : HoldsAfter p past
    h = holds p before legal.2

    by_run : CancelsSo (sub_run past) → IsOfRun p past e ⊎ IsBeforeRuns p past e → CancelsSo (sub_run (x ∷ past))
    by_run was (inr none) = subst CancelsSo (sym none.still) nothing
    by_run was (inl of) =
        subst CancelsSo (sym of.joins)
        (cancels_more p past e of (cancelled_after p past e h legal.0) (from_base CancelsSo p past e of nothing was))

-- so the whole of what a sub-run tells keeps it
cancels_kept : (p : Settings) (backward : List Entry) → IsLegalBackward p backward
    → KeepsCancels (sub_run (history p backward)) (map as_audited (told (sub_run (history p backward))))
cancels_kept p backward legal =
    let so : CancelsSo (sub_run (history p backward)) = cancels_so p backward legal in
    record { told = so.raised; no_start = so.starts }

-- what events tell of cancels is what is seen of them
cancels_told : (events : List ReporterEvent) → filter_map cancel_news events ≡ cancels_in (map as_audited events)
cancels_told events =
    sym (kept_seen seen_cancel as_audited events
    ∙ kept_same (λ e. seen_cancel (as_audited e)) cancel_news events (λ i d low. cancel_is _))

pub cancels_due : (p : Settings) (backward : List Entry) → IsLegalBackward p backward
    → All (λ run. filter_map cancel_news (told run) ≡ map with_kill (raised run)) (ended_runs (history p backward))
cancels_due p backward legal =
    each_end (λ run. filter_map cancel_news (told run) ≡ map with_kill (raised run)) p
    (λ e before legal ends. cancels_told (told (sub_run (history p (e ∷ before))))
    ∙ (cancels_so p (e ∷ before) legal).raised) backward legal

-- edges cancel nothing, and start nothing
edge_cancels : (e : AuditEvent) → IsEdge e → seen_cancel e ≡ None
edge_cancels seen.RunStarted edge = refl
edge_cancels seen.RunFinished edge = refl
edge_cancels seen.SubRunStarted edge = refl
edge_cancels seen.SubRunFinished edge = refl
edge_cancels e edge = absurd edge

ignores : (run : List Happening) → Ignores (KeepsCancels run)
ignores run = record {
  between = λ before part after opens closes kept. record {
    told = sym (between_edges seen_cancel edge_cancels before part after opens closes) ∙ kept.told;
    no_start = λ earlier later e is start.
        second_none (list_any is_cancel before) (list_any is_cancel earlier)
        (sym (list_any-append is_cancel before earlier)
        ∙ kept.no_start (before ++ earlier) (later ++ after) e
        (ap (λ es. before ++ (es ++ after)) is
        ∙ ap (λ es. before ++ es) (append_assoc earlier (e ∷ later) after)
        ∙ sym (append_assoc before earlier (e ∷ (later ++ after)))) start);
  };
  start = λ part kept. record {
    told = kept.told;
    no_start = λ before after e is start. by_before before e after kept is start;
  };
}
  where
    by_before : {part : List AuditEvent} (before : List AuditEvent) (e : AuditEvent) (after : List AuditEvent)
        → KeepsCancels run part → seen.RunStarted ∷ part ≡ before ++ e ∷ after → is_seen_any_start e ≡ true
        → list_any is_cancel before ≡ false
    by_before [] e after kept is start =
        let same : seen.RunStarted ≡ e = cc in
        let never : false ≡ true = ap is_seen_any_start same ∙ start in cc
    by_before (b ∷ before) e after kept is start =
        let same : seen.RunStarted ≡ b = cc in
        ap (λ b. is_cancel b || list_any is_cancel before) (sym same) ∙ kept.no_start before after e (cc) start

pub told_cancels : (p : Settings) (backward : List Entry) → IsLegalBackward p backward
    → All (λ run. KeepsCancels run (sub_run_part p run)) (ended_runs (history p backward))
told_cancels p backward legal =
    each_end (λ run. KeepsCancels run (sub_run_part p run)) p
    (λ e before legal ends. part_keeps (KeepsCancels (sub_run (history p (e ∷ before)))) p
    (sub_run (history p (e ∷ before))) (ignores (sub_run (history p (e ∷ before)))) (around p (e ∷ before) legal)
    (cancels_kept p (e ∷ before) legal)) backward legal

pub cancels_are_kept : (p : Settings) (backward : List Entry) → IsLegalBackward p backward
    → is_over (history p backward) ≡ true
    → OfEachRun p (history p backward) KeepsCancels (map as_audited (told (history p backward)))
cancels_are_kept p backward legal over = of_each p KeepsCancels backward legal over (told_cancels p backward legal)
