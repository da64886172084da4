-- What came of a script's environment file is told with its finish as its own turns say it.
use Rattle.std.proofs.Common.{◌≡◌, ◌⊎◌, inl, inr, ℕ, ◌==◌, List, [], ◌∷◌, ◌++◌, Bool, true, false, if◌then◌else◌}
use Rattle.std.proofs.Common.{Option, Some, None, option_and_then, option_map, option_to_list, refl, ap, sym, subst}
use Rattle.std.proofs.Common.{◌∙◌}
use Rattle.std.specs.Prelude.{IfSome}
use Rattle.std.specs.List.{All}
use Rattle.std.proofs.lemmas.List.Elements.{All-nil, All-cons, All-append, All-drop, All-head, All-weaker}
use Rattle.std.proofs.lemmas.Option.{same_Some}
use Rattle.run_events.specs.declared.events.ReporterEvent.{ReporterEvent}
use Rattle.run_events.specs.declared.events.ReporterEvent.TheVariants.{Tick, Test}
use Rattle.run_events.specs.declared.events.TestEventKind.{TestEventKind}
use Rattle.run_events.specs.declared.events.TestEventKind.TheVariants.{SetupScriptFinished, RunBeginCancel}
use Rattle.run_events.specs.declared.events.TestEventKind.TheVariants.{RunBeginKill}
use Rattle.run_events.specs.declared.message.Message.{Message}
use Rattle.run_events.specs.declared.message.Message.TheVariants.{ScriptFinish as FinishMessage, ScriptSlow, Slow}
use Rattle.run_events.specs.declared.message.ScriptFinish.{ScriptFinish}
use Rattle.run_events.specs.declared.request.Request.{Request}
use Rattle.run_events.specs.declared.result.ExecuteStatus.{ExecuteStatus}
use Rattle.run_events.specs.declared.result.ScriptEnv.{ScriptEnv}
use Rattle.run_events.specs.declared.result.ScriptEnv.TheVariants.{Unread}
use Rattle.run_events.specs.declared.settings.Settings.{Settings}
use Rattle.run_model.specs.declared.entry.Entry.{Entry}
use Rattle.run_model.specs.declared.happening.Happening.{Happening}
use Rattle.run_model.specs.declared.happening.UnitPart.{UnitPart}
use Rattle.run_model.specs.declared.happening.UnitPart.TheVariants.{Joins, Acts}
use Rattle.run_model.specs.declared.phase.Phase.{Phase}
use Rattle.run_model.specs.declared.phase.Phase.TheVariants.{Delay}
use Rattle.run_model.specs.declared.unit_turn.UnitTurn.{UnitTurn}
use Rattle.run_model.specs.declared.unit_view.UnitRole.{UnitRole}
use Rattle.run_model.specs.declared.unit_view.UnitRole.TheVariants as roles
use Rattle.run_model.specs.declared.unit_view.UnitView.{UnitView}
use Rattle.run_model.specs.Environment.{number_of, number}
use Rattle.run_model.specs.Admission.{is_done, is_last, start_message}
use Rattle.run_model.specs.Board.{Deed, board, deed_events, said}
use Rattle.run_model.specs.Dispatch.{having_told}
use Rattle.run_model.specs.Journal.{history, IsLegalBackward}
use Rattle.run_model.specs.Story.{story_of}
use Rattle.run_model.specs.Turns.{deed_on}
use Rattle.run_model.specs.Ending.{last_status}
use Rattle.run_model.specs.Row.{Row}
use Rattle.run_model.specs.Retries.{failure_message, finish_message, next_delay, retry_message, script_finish}
use Rattle.run_model.specs.Unit.{at_moment, is_live, reach, row, row_at, takes_at}
use Rattle.run_model.specs.Words.{clock, delivered, is_over, sent, sub_run, tally, told, unit_after, unit_of}
use Rattle.run_laws.specs.Scripts.{IsToldAsRead, script_told, script_told_in}
use Rattle.run_laws.specs.Starts.{env_said}
use Rattle.run_laws.proofs.units.AccountLemmas.{IsFirst}
use Rattle.run_laws.proofs.told.Cancels.{IsAfter, IsAfterKind, cancel_is}
use Rattle.run_laws.proofs.board.OnBoard.{moment_in}
use Rattle.run_laws.proofs.board.DeedFits.{PartFits, IsInOrder, IsSentAs, Does}
use Rattle.run_laws.proofs.units.FaceLemmas.{said_in, said_of}
use Rattle.run_laws.proofs.units.AccountRows.{same_number}
use Rattle.run_laws.proofs.board.Holds.{Holds}
use Rattle.run_laws.proofs.board.Kept.{HoldsAfter, does_after, IsOfRun, IsBeforeRuns, where_joins, holds}
use Rattle.run_laws.proofs.board.Ordered.{done_reach, over_kept}
use Rattle.run_laws.proofs.told.PlannedTurns.{HasReadIf}
use Rattle.run_laws.proofs.units.OpenRows.{IsReport}
use Rattle.run_laws.proofs.units.Rows.{StaysOrGoes, Takes, answers, opens, decides, passes, again, continues}
use Rattle.run_laws.proofs.units.Rows.{decide_cases, row_moves, row_passes, row_takes, takes_moment}
use Rattle.run_laws.proofs.told.StartLemmas.{has_starts}
use Rattle.run_laws.proofs.board.OnBoard.{Frame}
use Rattle.run_laws.proofs.board.OnBoard.{frame_of}
use Rattle.run_laws.proofs.board.DeedFits.{cancel_told}
use Rattle.run_events.specs.declared.events.TestEventKind.TheVariants.{StressSubRunStarted}
use Rattle.run_events.specs.declared.events.TestEventKind.TheVariants.{RunFinished}
use Rattle.run_laws.proofs.board.Kept.{from_base}

-- the finish of a script that a message has
abbrev finish_said : Message → Option ScriptFinish
finish_said (FinishMessage finish) = Some finish
finish_said _ = None

abbrev finish_if : Option Message → Option ScriptFinish
finish_if sent = option_and_then finish_said sent

-- a row that sends one leaves its unit over, and sends what came of its environment file
record IsFinishOf (u v : UnitView) (finish : ScriptFinish) : Type 0 where
  unit : number u ≡ finish.script.unit
  over : is_last v.phase ≡ true
  env : v.env ≡ finish.status.env

row_finishes : (now : ℕ) (ph : Phase) (turn : UnitTurn) (u : UnitView) → u.phase ≡ ph → takes_at now ph u turn ≡ true
    → IfSome (finish_if (row_at now ph turn u).sent) (IsFinishOf u (row_at now ph turn u).next)
row_finishes now ph turn u is en = by_take (row_takes now ph turn u en)
  where
    Fine : Row → Type 0
    Fine r = IfSome (finish_if r.sent) (IsFinishOf u r.next)

    report : (v : UnitView) (o : Option Message) → IsReport o → IfSome (finish_if o) (IsFinishOf u v)
    report v None h = tt
    report v (Some (ScriptSlow slow)) h = tt
    report v (Some (Slow slow)) h = tt
    report v (Some m) h = absurd h

    failure : (v : UnitView) (delay : ℕ) (role : UnitRole) (status : Option ExecuteStatus)
        → IfSome (finish_if (failure_message role delay status)) (IsFinishOf u v)
    failure v delay (roles.Test t) None = tt
    failure v delay (roles.Test t) (Some status) = tt
    failure v delay (roles.Script s) status = tt

    finish : (v : UnitView) (role : UnitRole) → u.role ≡ role → is_last v.phase ≡ true → v.env ≡ u.env
        → IfSome (finish_if (finish_message role u)) (IsFinishOf u v)
    finish v (roles.Test t) e over env = tt
    finish v (roles.Script s) e over env = by_last (last_status u.statuses)
      where
        by_last : (o : Option ExecuteStatus) → IfSome (finish_if (option_map (script_finish s u) o)) (IsFinishOf u v)
        by_last None = tt
        by_last (Some status) = record { unit = ap number_of e; over = over; env = env }

    retry : (v : UnitView) (role : UnitRole) → IfSome (finish_if (retry_message role u)) (IsFinishOf u v)
    retry v (roles.Test t) = tt
    retry v (roles.Script s) = tt

    by_way : (r : Row) → StaysOrGoes u r → Fine r
    by_way r (inl stays) = rw stays.1 tt
    by_way r (inr goes) = rw goes.1 (retry r.next u.role)

    by_take : Takes ph turn → Fine (row_at now ph turn u)
    by_take (answers true at to) = rw (at, to) tt
    by_take (answers false at to) = rw (at, to) tt
    by_take (opens on) = report _ _ (continues u _ (row_moves now ph turn u is on)).sent
    by_take (decides word at to) = rw (at, to) (decide_cases Fine now word u
        (λ _. failure _ (next_delay word u) u.role (last_status u.statuses)) (λ _. finish _ u.role refl refl refl))
    by_take (passes at to) = rw at (by_way (row_at now Delay turn u) (row_passes now turn u (is ∙ at)).way)
    by_take (again true at to) = rw (at, to) tt
    by_take (again false at to) = rw (at, to) tt

-- what came of the environment file of a unit, and that one is over with what a finish says of it
abbrev env_if : Option UnitView → ScriptEnv
env_if None = Unread
env_if (Some u) = u.env

record IsOverWith (run : List Happening) (finish : ScriptFinish) : Type 0 where
  over : is_done (unit_of finish.script.unit run) ≡ true
  env : env_if (unit_of finish.script.unit run) ≡ finish.status.env

-- so does each finish of a script that was sent, or told
record HasFinishes (run : List Happening) : Type 0 where
  sends : All (λ m. IfSome (finish_said m) (IsOverWith run)) (sent run)
  tells : All (λ e. IfSome (script_told e) (IsOverWith run)) (told run)

env_reach : (request : Option Request) (v : Option UnitView) → env_if (reach request v) ≡ env_if v
env_reach None v = refl
env_reach (Some request) None = refl
env_reach (Some request) (Some u) = by_live (is_live u.phase)
  where
    by_live : (b : Bool) → env_if (Some (if b then record u { line = u.line ++ request ∷ [] } else u)) ≡ env_if (Some u)
    by_live true = refl
    by_live false = refl

over_stays : (p : Settings) (now : ℕ) (run : List Happening) (e : Entry) (d : Deed) (finish : ScriptFinish)
    → PartFits p now run d.part → IsOverWith run finish → IsOverWith (said now e d ∷ run) finish
over_stays p now run e d finish fits it = record {
  over = done_reach d.request after (ap is_done kept ∙ it.over);
  env = env_reach d.request after ∙ ap env_if kept ∙ it.env;
}
  where
    after : Option UnitView
    after = unit_after now finish.script.unit d.part (unit_of finish.script.unit run)

    kept : after ≡ unit_of finish.script.unit run
    kept = over_kept p run now finish.script.unit d.part it.over fits

sent_over : (p : Settings) (f : Frame) (now : ℕ) (run : List Happening) (e : Entry) (d : Deed) → Holds p now run
    → PartFits p now run d.part → IsSentAs now run d.part d.sent
    → IfSome (finish_if d.sent) (IsOverWith (said now e d ∷ run))
sent_over p f now run e d h fits from = by_part d.part d.sent refl fits from
  where
    first : (skipped : Bool) (u : UnitView) (m : Message) → IsFirst skipped u m → finish_said m ≡ None
    first true u m (ph, (t, (role, (reason, is)))) = ap finish_said is
    first false u m (ph, is) = ap finish_said is ∙ by_role u.role
      where
        by_role : (role : UnitRole) → finish_said (start_message role u) ≡ None
        by_role (roles.Test t) = refl
        by_role (roles.Script s) = refl

    by_part : (part : Option UnitPart) (sent : Option Message) → d.part ≡ part → PartFits p now run part
        → IsSentAs now run part sent → IfSome (finish_if sent) (IsOverWith (said now e d ∷ run))
    by_part None sent is fits from = rw from tt
    by_part (Some (Joins u)) None is fits from = tt
    by_part (Some (Joins u)) (Some m) is fits (skipped, from) = rw (first skipped u m from) tt
    by_part (Some (Acts j turn)) sent is taken from =
        by_sent sent (from ∙ ap (option_and_then (λ v. (row now turn v).sent)) taken.is)
      where
        u : UnitView
        u = taken.unit

        own : IfSome (finish_if (row now turn u).sent) (IsFinishOf (at_moment now u) (row now turn u).next)
        own = row_finishes now u.phase turn (at_moment now u) refl (takes_moment now u.phase u turn taken.takes)

        by_sent : (o : Option Message) → o ≡ (row now turn u).sent
            → IfSome (finish_if o) (IsOverWith (said now e d ∷ run))
        by_sent o same = by_finish (finish_if o)
            (subst (λ o. IfSome (finish_if o) (IsFinishOf (at_moment now u) (row now turn u).next)) (sym same) own)
          where
            by_finish : (f : Option ScriptFinish) → IfSome f (IsFinishOf (at_moment now u) (row now turn u).next)
                → IfSome f (IsOverWith (said now e d ∷ run))
            by_finish None it = tt
            by_finish (Some finish) it = record {
              over = done_reach d.request _ (ap is_done after ∙ it.over);
              env = env_reach d.request _ ∙ ap env_if after ∙ it.env;
            }
              where
                here : finish.script.unit ≡ j
                here = sym it.unit ∙ (h.named j u taken.is).0

                after : unit_after now finish.script.unit d.part (unit_of finish.script.unit run)
                    ≡ Some (row now turn u).next
                after = ap (λ k. unit_after now k d.part (unit_of k run)) here
                    ∙ ap (λ part. unit_after now j part (unit_of j run)) is
                    ∙ own_after (j == j) (same_number j)
                  where
                    own_after : (b : Bool) → b ≡ true
                        → (if b then option_map (λ v. (row now turn v).next) (unit_of j run) else unit_of j run)
                        ≡ Some (row now turn u).next
                    own_after true e = ap (option_map (λ v. (row now turn v).next)) taken.is
                    own_after false e = cc

-- what is told was sent
told_said : (e : ReporterEvent) (finish : ScriptFinish) → script_told e ≡ Some finish
    → said_of e ≡ Some (FinishMessage finish)
told_said Tick finish is = cc
told_said (Test event) finish is = by_kind event.kind is
  where
    by_kind : (kind : TestEventKind) → script_told_in kind ≡ Some finish → said_in kind ≡ Some (FinishMessage finish)
    by_kind (SetupScriptFinished other) is = ap (λ f. Some (FinishMessage f)) (same_Some _ _ is)
    by_kind kind is = cc

cancel_none : (e : ReporterEvent) → IsAfter (Some e) → script_told e ≡ None
cancel_none Tick h = absurd h
cancel_none (Test event) h = by_kind event.kind h
  where
    by_kind : (kind : TestEventKind) → IsAfterKind kind → script_told_in kind ≡ None
    by_kind (RunBeginCancel cancelled) h = refl
    by_kind (RunBeginKill cancelled) h = refl
    by_kind (StressSubRunStarted progress) h = refl
    by_kind (RunFinished finished) h = refl
    by_kind kind h = absurd h

finishes-cons : (p : Settings) (f : Frame) (now : ℕ) (run : List Happening) (e : Entry) (d : Deed)
    → Holds p now run → Does p f now run d → HasFinishes run → HasFinishes (said now e d ∷ run)
finishes-cons p f now run e d h does was = record {
  sends = All-append (λ m. IfSome (finish_said m) Later) (sent run) (option_to_list d.sent)
      (All-weaker (λ m. IfSome (finish_said m) (IsOverWith run)) (λ m. IfSome (finish_said m) Later)
      (λ m it. stays (finish_said m) it) (sent run) was.sends)
      (by_sent d.sent (sent_over p f now run e d h does.part does.sent_as));
  tells = All-append (λ x. IfSome (script_told x) Later) (told run) (deed_events d)
      (All-weaker (λ x. IfSome (script_told x) (IsOverWith run)) (λ x. IfSome (script_told x) Later)
      (λ x it. stays (script_told x) it) (told run) was.tells)
      (All-append (λ x. IfSome (script_told x) Later) (option_to_list d.told) (option_to_list d.after)
      (by_told d.told does.order) (by_cancel d.after
      (cancel_told p f now run d does.marks)));
}
  where
    Later : ScriptFinish → Type 0
    Later finish = IsOverWith (said now e d ∷ run) finish

    stays : (o : Option ScriptFinish) → IfSome o (IsOverWith run) → IfSome o Later
    stays None it = tt
    stays (Some finish) it = over_stays p now run e d finish does.part it

    by_sent : (o : Option Message) → IfSome (finish_if o) Later
        → All (λ m. IfSome (finish_said m) Later) (option_to_list o)
    by_sent None it = All-nil (λ m. IfSome (finish_said m) Later)
    by_sent (Some m) it = All-cons (λ m. IfSome (finish_said m) Later) m [] it
        (All-nil (λ m. IfSome (finish_said m) Later))

    one : (x : ReporterEvent) (o : Option ScriptFinish) → script_told x ≡ o → IsInOrder p run x → IfSome o Later
    one x None is order = tt
    one x (Some finish) is order =
        let oldest = order.said (FinishMessage finish) (told_said x finish is) in
        let waits : All (λ m. IfSome (finish_said m) (IsOverWith run)) (FinishMessage finish ∷ oldest.0) =
        subst (All (λ m. IfSome (finish_said m) (IsOverWith run))) oldest.1
        (All-drop (λ m. IfSome (finish_said m) (IsOverWith run)) (delivered run) (sent run) was.sends) in
        over_stays p now run e d finish does.part
        (All-head (λ m. IfSome (finish_said m) (IsOverWith run)) (FinishMessage finish) oldest.0 waits)

    by_told : (o : Option ReporterEvent) → IfSome o (IsInOrder p run)
        → All (λ x. IfSome (script_told x) Later) (option_to_list o)
    by_told None order = All-nil (λ x. IfSome (script_told x) Later)
    by_told (Some x) order = All-cons (λ x. IfSome (script_told x) Later) x [] (one x (script_told x) refl order)
        (All-nil (λ x. IfSome (script_told x) Later))

    by_cancel : (o : Option ReporterEvent) → IsAfter o → All (λ x. IfSome (script_told x) Later) (option_to_list o)
    by_cancel None none = All-nil (λ x. IfSome (script_told x) Later)
    by_cancel (Some x) none = All-cons (λ x. IfSome (script_told x) Later) x []
        (subst (λ o. IfSome o Later) (sym (cancel_none x none)) tt) (All-nil (λ x. IfSome (script_told x) Later))

finishes-none : HasFinishes []
finishes-none = record {
  sends = All-nil (λ m. IfSome (finish_said m) (IsOverWith []));
  tells = All-nil (λ e. IfSome (script_told e) (IsOverWith []));
}

has_finishes : (p : Settings) (backward : List Entry) → IsLegalBackward p backward
    → HasFinishes (sub_run (history p backward))
has_finishes p [] legal = finishes-none
has_finishes p (e ∷ before) legal = one_more (has_finishes p before legal.2) (holds p before legal.2)
  where
    past : List Happening
    past = history p before

    one_more : HasFinishes (sub_run past) → HoldsAfter p past → HasFinishes (sub_run (history p (e ∷ before)))
    one_more has h = by_run (where_joins p past e h legal.0)
      where
        by_run : IsOfRun p past e ⊎ IsBeforeRuns p past e → HasFinishes (sub_run (history p (e ∷ before)))
        by_run (inl of) = subst HasFinishes (sym of.joins)
            (finishes-cons p (frame_of p past) (clock past) of.base e (deed_on p (board p past) e.turn) of.holds of.does
            (from_base HasFinishes p past e of finishes-none has))
        by_run (inr none) = subst HasFinishes (sym none.still) finishes-none

pub told_as_read : (p : Settings) (backward : List Entry) → IsLegalBackward p backward
    → All (IsToldAsRead (sub_run (history p backward))) (told (sub_run (history p backward)))
told_as_read p backward legal =
    All-weaker (λ e. IfSome (script_told e) (IsOverWith run)) (IsToldAsRead run) (λ e it. by_told (script_told e) it)
    (told run) (has_finishes p backward legal).tells
  where
    run : List Happening
    run = sub_run (history p backward)

    by_unit : (k : ℕ) (v : Option UnitView) → is_done v ≡ true → HasReadIf v (story_of k run)
        → env_if v ≡ env_said (story_of k run)
    by_unit k None done reads = cc
    by_unit k (Some u) done reads = reads.0

    by_told : (o : Option ScriptFinish) → IfSome o (IsOverWith run)
        → IfSome o (λ finish. finish.status.env ≡ env_said (story_of finish.script.unit run))
    by_told None it = tt
    by_told (Some finish) it = sym it.env ∙ by_unit finish.script.unit (unit_of finish.script.unit run) it.over
        ((has_starts p backward legal).reads finish.script.unit)
