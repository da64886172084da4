-- The starts and the signals that are asked are for the groups of their units.
use Rattle.std.proofs.Common.{◌≡◌, ◌⊎◌, inl, inr, ℕ, ◌+◌, ◌||◌, ◌==◌, List, [], ◌∷◌, map, length, Bool, true, false}
use Rattle.std.proofs.Common.{Option, Some, None, option_map, option_to_list, refl, ap, sym, subst, ◌∙◌}
use Rattle.std.specs.Prelude.{IfSome, if◌then◌else◌}
use Rattle.std.specs.List.{All}
use Rattle.std.proofs.Common.{◌++◌, reverse}
use Rattle.std.proofs.lemmas.List.{reverse-append}
use Rattle.std.proofs.lemmas.List.Elements.{All-nil, All-cons, All-append}
use Rattle.run_commands.specs.declared.interceptor.Interceptor.{Interceptor}
use Rattle.run_commands.specs.declared.interceptor.Interceptor.TheVariants as under
use Rattle.run_commands.specs.Interceptor.{has_process_group}
use Rattle.run_events.specs.declared.ask.Ask.{Ask}
use Rattle.run_events.specs.declared.ask.Ask.TheVariants.{StopSelf}
use Rattle.run_events.specs.declared.request.Request.{Request}
use Rattle.run_events.specs.declared.request.Request.TheVariants.{Stop, Continue, Shutdown, OtherCancel, GetInfo}
use Rattle.run_events.specs.declared.request.TermSignal.{TermSignal}
use Rattle.run_events.specs.declared.request.TermSignal.TheVariants.{Interrupt, Term, Hangup, Quit, Kill}
use Rattle.run_events.specs.declared.request.ChildSignal.{ChildSignal}
use Rattle.run_events.specs.declared.request.ChildSignal.TheVariants.{Tstp, Cont}
use Rattle.run_events.specs.declared.request.TerminateReason.{TerminateReason}
use Rattle.run_events.specs.declared.request.TerminateReason.TheVariants.{Signal}
use Rattle.run_events.specs.declared.result.ExecuteStatus.{ExecuteStatus}
use Rattle.run_events.specs.declared.settings.Settings.{Settings}
use Rattle.run_model.specs.declared.entry.Entry.{Entry}
use Rattle.run_model.specs.declared.happening.Happening.{Happening}
use Rattle.run_model.specs.declared.happening.UnitPart.{UnitPart}
use Rattle.run_model.specs.declared.happening.UnitPart.TheVariants.{Joins, Acts}
use Rattle.run_model.specs.declared.phase.Phase.{Phase}
use Rattle.run_model.specs.declared.phase.Phase.TheVariants.{StartSent, Starting, Running, Grace, KillWait, Leak}
use Rattle.run_model.specs.declared.phase.Phase.TheVariants.{EnvWait, Deciding, Delay, RetrySent, Over}
use Rattle.run_model.specs.declared.unit_turn.UnitTurn.{UnitTurn}
use Rattle.run_model.specs.declared.unit_turn.UnitTurn.TheVariants.{Answered, Started, StartFailed, Exit, WaitFailed}
use Rattle.run_model.specs.declared.unit_turn.UnitTurn.TheVariants.{Piece, StreamEnd, ReadError, Env, Due, Take, Decide}
use Rattle.run_model.specs.declared.unit_view.UnitView.{UnitView}
use Rattle.run_model.specs.Accounts.{News, HasAccount, HasAccountAt, HasSkipIn, is_mismatched, account_of, pending_of}
use Rattle.run_model.specs.Board.{Deed, board}
use Rattle.run_model.specs.Environment.{number, start_ask}
use Rattle.run_model.specs.Journal.{history, past_of, IsLegal, IsLegalBackward}
use Rattle.run_model.specs.Slow.{is_out_of_time, one_more}
use Rattle.run_model.specs.Story.{was_left}
use Rattle.run_model.specs.Terminate.{terminate_method}
use Rattle.run_model.specs.Turns.{deed_on, happening}
use Rattle.run_model.specs.Pauses.{is_paused}
use Rattle.run_model.specs.Row.{Row, child_ask}
use Rattle.run_model.specs.Retries.{decide_row, delayed, decided, has_retry, next_delay}
use Rattle.run_model.specs.Requests.{asked_to_end, continue_ask, requested, stop_ask, take_row}
use Rattle.run_model.specs.Unit.{at_moment, in_grace, out_of_time, row, row_at, slow_again, slow_row, takes, takes_at}
use Rattle.run_model.specs.Words.{asked, clock, is_over, queue, sub_run, told, units}
use Rattle.run_laws.proofs.board.DeedFits.{Does, PartFits, asked_by}
use Rattle.run_laws.proofs.units.FaceLemmas.{face}
use Rattle.run_laws.proofs.board.Holds.{Holds}
use Rattle.run_laws.proofs.board.Deeds.{base_of}
use Rattle.run_laws.proofs.told.Planned.{starts-none}
use Rattle.run_laws.proofs.board.Kept.{HoldsAfter, does_after, holds, IsOfRun, IsBeforeRuns, where_joins}
use Rattle.run_laws.proofs.board.Newcomers.{IsPlanned}
use Rattle.run_laws.proofs.told.PlannedTurns.{HasStarts, IsPlannedIf}
use Rattle.run_laws.proofs.units.Rows.{takes_moment}
use Rattle.run_laws.proofs.told.StartLemmas.{has_starts}
use Rattle.run_laws_cancel.specs.Enabled.{is_stop_wait_due}
use Rattle.run_laws_cancel.specs.Pauses.{asks_stop}
use Rattle.run_laws_cancel.proofs.RunnerLemmas.{stops_is}
use Rattle.run_laws_cancel.specs.Groups.{group_asked, group_by, IsOfItsGroup, test_group}
use Rattle.run_laws.proofs.board.OnBoard.{Frame}
use Rattle.run_laws.proofs.board.OnBoard.{frame_of}
use Rattle.run_laws.proofs.board.Kept.{from_base}

-- a row asks for its own unit, and for the group that this has
abbrev AsksOf : ℕ → Bool → Option Ask → Type 0
AsksOf k group o = IfSome o (λ ask. group_asked ask ≡ Some (k, group))

abbrev AsksOfOwn : UnitView → Row → Type 0
AsksOfOwn u r = AsksOf (number u) u.around.group r.asked

starts_own : (u : UnitView) → AsksOf (number u) u.around.group (Some (start_ask u))
unfolding start_ask
starts_own u = refl

ends_own : (now : ℕ) (reason : TerminateReason) (signal : TermSignal) (u : UnitView)
    → AsksOfOwn u (asked_to_end now reason signal u)
ends_own now reason Interrupt u = refl
ends_own now reason Term u = refl
ends_own now reason Hangup u = refl
ends_own now reason Quit u = refl
ends_own now reason Kill u = refl

-- its child is to stop, or to go on
child_own : (asks : Bool) (signal : ChildSignal) (u : UnitView)
    → AsksOf (number u) u.around.group (if asks then Some (child_ask signal u) else None)
child_own true signal u = refl
child_own false signal u = tt

stop_own : (ph : Phase) (u : UnitView) → AsksOf (number u) u.around.group (stop_ask ph u)
stop_own Running u = child_own u.terms.stops Tstp u
stop_own Grace u = refl
stop_own ph u = tt

continue_own : (ph : Phase) (u : UnitView) → AsksOf (number u) u.around.group (continue_ask ph u)
continue_own Running u = child_own (is_paused u.timers) Cont u
continue_own Grace u = refl
continue_own ph u = tt

requests_own : (now : ℕ) (ph : Phase) (request : Request) (u : UnitView) → AsksOfOwn u (requested now ph request u)
requests_own now ph (Stop round) u = stop_own ph u
requests_own now ph Continue u = continue_own ph u
requests_own now ph (GetInfo round) u = tt
requests_own now Running (Shutdown request) u =
    ends_own now (Signal request) (terminate_method (Signal request) u.terms.slow.grace) u
requests_own now Grace (Shutdown request) u = refl
requests_own now Delay (Shutdown request) u = tt
requests_own now Delay OtherCancel u = tt
requests_own now ph request u = tt

takes_own : (now : ℕ) (ph : Phase) (line : List Request) (u : UnitView) → AsksOfOwn u (take_row now ph line u)
takes_own now ph [] u = tt
takes_own now ph (request ∷ line) u = requests_own now ph request (record u { line = line })

slow_own : (now n : ℕ) (u : UnitView) → AsksOfOwn u (slow_row now n u)
slow_own now n u = by_time (is_out_of_time u.terms.slow n) (u.terms.slow.grace == 0)
  where
    by_time : (out none : Bool)
        → AsksOfOwn u (if out then (if none then out_of_time n u else in_grace now n u) else slow_again now n u)
    by_time true true = refl
    by_time true false = refl
    by_time false none = tt

decides_own : (now word : ℕ) (u : UnitView) → AsksOfOwn u (decide_row now word u)
decides_own now word u = by_retry (has_retry u)
  where
    by_retry : (b : Bool) → AsksOfOwn u (if b then delayed now (next_delay word u) u else decided u)
    by_retry true = tt
    by_retry false = tt

row_own : (now : ℕ) (ph : Phase) (turn : UnitTurn) (u : UnitView) → takes_at now ph u turn ≡ true
    → AsksOfOwn u (row_at now ph turn u)
row_own now StartSent (Answered true) u en = starts_own u
row_own now StartSent (Answered false) u en = tt
row_own now Starting (Started pid) u en = tt
row_own now Starting (StartFailed error) u en = tt
row_own now Running Due u en = slow_own now (one_more u.timers.slow_count) u
row_own now Running Take u en = takes_own now Running u.line u
row_own now Running (Exit exit) u en = tt
row_own now Running (WaitFailed error) u en = tt
row_own now Running (Piece stream bytes) u en = tt
row_own now Running (StreamEnd stream) u en = tt
row_own now Running (ReadError stream error) u en = tt
row_own now Grace Due u en = refl
row_own now Grace Take u en = takes_own now Grace u.line u
row_own now Grace (Exit exit) u en = tt
row_own now Grace (WaitFailed error) u en = tt
row_own now Grace (Piece stream bytes) u en = tt
row_own now Grace (StreamEnd stream) u en = tt
row_own now Grace (ReadError stream error) u en = tt
row_own now KillWait (Exit exit) u en = tt
row_own now KillWait (WaitFailed error) u en = tt
row_own now Leak Take u en = takes_own now Leak u.line u
row_own now Leak Due u en = tt
row_own now Leak (Piece stream bytes) u en = tt
row_own now Leak (StreamEnd stream) u en = tt
row_own now Leak (ReadError stream error) u en = tt
row_own now EnvWait (Env input) u en = tt
row_own now Deciding (Decide word) u en = decides_own now word u
row_own now Delay Due u en = tt
row_own now Delay Take u en = takes_own now Delay u.line u
row_own now RetrySent (Answered true) u en = starts_own (record u { attempt = u.attempt + 1 })
row_own now RetrySent (Answered false) u en = tt
row_own now ph turn u en = cc

-- a unit that takes a turn is a script, or a test that matches
takes_matched : (mm left : Bool) (now : ℕ) (u : UnitView) (turn : UnitTurn) (t q : List News) → takes now u turn ≡ true
    → HasAccountAt mm left u.phase u.statuses t q → mm ≡ false
takes_matched false left now u turn t q en account = refl
takes_matched true left now u turn t q en account = absurd (skips u.phase u.statuses en account)
  where
    skips : (ph : Phase) (ss : List ExecuteStatus) → takes_at now ph u turn ≡ true → HasSkipIn ph ss t q → ⊥
    skips Over ss en h = cc
    skips ph ss en h = h

-- so its group is that of its kind
test_group-is : (i : Interceptor) → has_process_group i ≡ test_group i
test_group-is under.None = refl
test_group-is (under.Debugger words) = refl
test_group-is (under.Tracer words) = refl

planned_group : (p : Settings) (us : List (Option UnitView)) (k : ℕ) (u : UnitView) → IsPlanned p us k (face u)
    → u.around.group ≡ group_by p k
planned_group p us k u (inl script) =
    ap (λ (v : UnitView). v.around.group) script.is ∙ sym (ap (λ b. b || test_group p.interceptor) script.kind)
planned_group p us k u (inr test) =
    ap (λ (v : UnitView). v.around.group) test.is ∙ test_group-is p.interceptor
    ∙ sym (ap (λ b. b || test_group p.interceptor) test.kind)

-- what a part asks is for the group of its unit
part_asks : (p : Settings) (f : Frame) (now : ℕ) (run : List Happening) (part : Option UnitPart)
    → Holds p now run
    → HasStarts p run → PartFits p now run part → IfSome (asked_by now run part) (IsOfItsGroup p)
part_asks p f now run None h has fits = tt
part_asks p f now run (Some (Joins first)) h has fits = tt
part_asks p f now run (Some (Acts k turn)) h has taken =
    rw taken.is (by_ask (row now turn u).asked (row_own now u.phase turn (at_moment now u) moved))
  where
    u : UnitView
    u = taken.unit

    moved : takes_at now u.phase (at_moment now u) turn ≡ true
    moved = takes_moment now u.phase u turn taken.takes

    matched : is_mismatched p k ≡ false
    matched = takes_matched (is_mismatched p k) (was_left k run) now u turn (account_of k (told run))
        (pending_of k (queue run)) taken.takes
        (subst (λ v. HasAccount (is_mismatched p k) (was_left k run) v (account_of k (told run))
        (pending_of k (queue run)))
        taken.is (h.accounts k))

    group : u.around.group ≡ group_by p k
    group = planned_group p (units p run) k u
        (subst (λ v. IsPlannedIf p (units p run) k (option_map face v)) taken.is (has.planned k matched))

    by_ask : (o : Option Ask) → AsksOf (number u) u.around.group o → IfSome o (IsOfItsGroup p)
    by_ask None is = tt
    by_ask (Some ask) is = subst (λ o. IfSome o (λ (asked : ℕ × Bool). asked.1 ≡ group_by p asked.0)) (sym is)
        (group ∙ ap (group_by p) (sym (h.named k u taken.is).0))

-- so each ask is
pub groups : (p : Settings) (backward : List Entry) → IsLegalBackward p backward
    → All (λ (asked : ℕ × Ask). IsOfItsGroup p asked.1) (asked (sub_run (history p backward)))
groups p [] legal = All-nil _
groups p (e ∷ before) legal = by_run (groups p before legal.2) (where_joins p past e h legal.0)
  where
    past : List Happening
    past = history p before

    x : Happening
    x = happening p past e

    Fine : ℕ × Ask → Type 0
    Fine asked = IsOfItsGroup p asked.1

    h : HoldsAfter p past
    h = holds p before legal.2

    by_run : All Fine (asked (sub_run past)) → IsOfRun p past e ⊎ IsBeforeRuns p past e
        → All Fine (asked (sub_run (x ∷ past)))
    by_run was (inl of) = subst (λ run. All Fine (asked run)) (sym of.joins)
        (All-append Fine (asked of.base) (map (λ ask. (length of.base, ask)) (option_to_list x.asked))
        (from_base (λ run. All Fine (asked run)) p past e of (All-nil Fine) was)
        (one x.asked (subst (λ o. IfSome o (IsOfItsGroup p)) (sym of.does.asks) (by_stop x.stops))))
      where
        one : (o : Option Ask) → IfSome o (IsOfItsGroup p)
            → All Fine (map (λ ask. (length of.base, ask)) (option_to_list o))
        one None is = All-nil Fine
        one (Some ask) is = All-cons Fine (length of.base, ask) [] is (All-nil Fine)

        has : HasStarts p of.base
        has = from_base (HasStarts p) p past e of (starts-none p) (has_starts p before legal.2)

        by_stop : (b : Bool)
            → IfSome (if b then Some StopSelf else asked_by (clock past) of.base x.part) (IsOfItsGroup p)
        by_stop true = tt
        by_stop false = part_asks p (frame_of p past) (clock past) of.base x.part of.holds has of.does.part
    by_run was (inr none) = subst (λ run. All Fine (asked run)) (sym none.still) (All-nil Fine)

-- the runner is asked to stop itself where a deed says so: no row asks that
no_stop : (k : ℕ) (group : Bool) (o : Option Ask) → AsksOf k group o → asks_stop o ≡ false
no_stop k group None is = refl
no_stop k group (Some StopSelf) is = cc
no_stop k group (Some ask) is = refl

part_stops : (p : Settings) (now : ℕ) (run : List Happening) (part : Option UnitPart) → PartFits p now run part
    → asks_stop (asked_by now run part) ≡ false
part_stops p now run None fits = refl
part_stops p now run (Some (Joins first)) fits = refl
part_stops p now run (Some (Acts k turn)) taken =
    rw taken.is (no_stop (number u) u.around.group (row now turn u).asked
    (row_own now u.phase turn (at_moment now u) (takes_moment now u.phase u turn taken.takes)))
  where
    u : UnitView
    u = taken.unit

pub runner_asked : (p : Settings) (journal : List Entry) (e : Entry) → IsLegal p (journal ++ e ∷ [])
    → asks_stop (happening p (past_of p journal) e).asked ≡ is_stop_wait_due e.turn
runner_asked p journal e legal =
    ap asks_stop does.asks ∙ by_stop d.stops refl ∙ stops_is p (board p past) e.turn
  where
    past : List Happening
    past = past_of p journal

    backward : IsLegalBackward p (e ∷ reverse journal)
    backward = subst (IsLegalBackward p) (reverse-append journal (e ∷ [])) legal

    d : Deed
    d = deed_on p (board p past) e.turn

    base : List Happening
    base = base_of d.begins (sub_run past)

    does : Does p (frame_of p past) (clock past) base d
    does = does_after p past e (holds p (reverse journal) backward.2) backward.0

    by_stop : (b : Bool) → d.stops ≡ b
        → asks_stop (if b then Some StopSelf else asked_by (clock past) base d.part) ≡ b
    by_stop true is = refl
    by_stop false is = part_stops p (clock past) base d.part does.part
