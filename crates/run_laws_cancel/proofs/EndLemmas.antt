-- How children are asked to end, turn by turn.
use Rattle.std.proofs.Common.{◌≡◌, ℕ, zero, suc, ◌-◌, ◌==◌, ◌&&◌, ◌||◌, not, nat_lt, ◌++◌, List, [], ◌∷◌, Bool}
use Rattle.std.proofs.Common.{true, false, Option, Some, None, if◌then◌else◌, is_some, option_to_list, option_map}
use Rattle.std.proofs.Common.{reverse, refl}
use Rattle.std.proofs.Common.{ap, sym, subst, ◌∙◌, slice_get, arith}
use Rattle.std.proofs.lemmas.List.{append_cancel_left, reverse-append}
use Rattle.std.specs.Option.{option_map_or, option_or}
use Rattle.run_laws_cancel.specs.Ends.{EndsItsChild, AsksItsEnds, end_in, first_end_signal, grace_of, shutdown_in}
use Rattle.run_laws_cancel.specs.Ends.{signal_by}
use Rattle.run_laws_cancel.specs.Ends.{comes_due}
use Rattle.run_laws_cancel.specs.Stops.{is_awaited, is_ending, request_in, signal_in, turn_in, is_stopped_unit}
use Rattle.run_laws_cancel.proofs.StopLemmas.{AgreesAt, AgreesIn, none_added, one_of, own, with_added}
use Rattle.run_laws_cancel.proofs.StopRuns.{agrees, request_apart, request_there, signals_one}
use Rattle.std.specs.Prelude.{IfSome}
use Rattle.run_events.specs.Usual.{usual_slow}
use Rattle.run_events.specs.declared.request.ChildSignal.{ChildSignal}
use Rattle.run_events.specs.declared.request.ChildSignal.TheVariants.{End, Tstp, Cont}
use Rattle.run_events.specs.declared.request.Request.{Request}
use Rattle.run_events.specs.declared.request.Request.TheVariants.{Shutdown, Stop, Continue, OtherCancel, GetInfo}
use Rattle.run_events.specs.declared.request.ShutdownRequest.{ShutdownRequest}
use Rattle.run_events.specs.declared.request.TermSignal.TheVariants.{Term, Kill}
use Rattle.run_events.specs.declared.settings.Settings.{Settings}
use Rattle.run_model.specs.declared.entry.Entry.{Entry}
use Rattle.run_model.specs.declared.happening.Happening.{Happening}
use Rattle.run_model.specs.declared.unit_turn.UnitTurn.{UnitTurn}
use Rattle.run_model.specs.declared.unit_turn.UnitTurn.TheVariants.{Due, Answered, Decide, Take}
use Rattle.run_model.specs.Admission.{scripts_in, unit_terms, terms_if, terms_at, script_terms_if}
use Rattle.run_model.specs.Journal.{IsLegal, past_of, IsLegalBackward}
use Rattle.run_model.specs.Turns.{happening, deed_on}
use Rattle.run_model.specs.Words.{sub_run, clock, asked}
use Rattle.run_events.specs.declared.request.ShutdownRequest.TheVariants as shutdowns
use Rattle.run_events.specs.declared.request.ShutdownRequest.TheVariants.{TestFailureImmediate, Twice}
use Rattle.run_events.specs.declared.ask.Ask.{Ask}
use Rattle.run_model.specs.declared.happening.UnitPart.{UnitPart}
use Rattle.run_model.specs.declared.happening.UnitPart.TheVariants.{Acts, Joins}
use Rattle.run_model.specs.Story.{line_of, oldest, takes_request, OwnTurn, Attempt, cut, any_is, pieces, request_of}
use Rattle.run_model.specs.Story.{story_of}
use Rattle.run_clock.specs.Counted.{is_paused}
use Rattle.run_events.specs.declared.plan.SlowTimeout.{SlowTimeout}
use Rattle.run_model.specs.Board.{Deed, board}
use Rattle.run_model.specs.Timing.{ends_wait, pauses_in, signal_of, standing}
use Rattle.run_laws.specs.Reports.{signal_with, signals_by, signals_for, job_signal}
use Rattle.run_laws.proofs.board.DeedFits.{Does}
use Rattle.run_laws.proofs.board.Deeds.{base_of}
use Rattle.run_laws.proofs.board.Kept.{does_after, holds}
use Rattle.run_laws.proofs.board.OnBoard.{frame_of}
use Rattle.run_laws.proofs.told.Reported.{story_with}
use Rattle.run_laws.proofs.units.AttemptLemmas.{more}
use Rattle.run_laws.proofs.units.StandingLemmas.{is_in_grace}
use Rattle.run_events.specs.declared.request.TerminateReason.TheVariants.{Signal as BySignal, Timeout}
use Rattle.run_model.specs.Slow.{is_out_of_time, one_more}
use Rattle.run_model.specs.Terminate.{asking_signal, terminate_method}
use Rattle.run_events.specs.declared.plan.PlanScript.{PlanScript}
use Rattle.run_events.specs.declared.plan.PlanTest.{PlanTest}

some_grace : (grace : ℕ) → (suc grace == 0) ≡ false
some_grace grace = grind arith

-- the signals of the rows are those
method_is : (reason : ShutdownRequest) (grace : ℕ)
    → terminate_method (BySignal reason) grace ≡ first_end_signal grace (signal_by reason)
method_is reason zero = refl
method_is reason (suc grace) = rw (some_grace grace) (by_reason reason)
  where
    by_reason : (reason : ShutdownRequest) → asking_signal (BySignal reason) ≡ signal_by reason
    by_reason shutdowns.Interrupt = refl
    by_reason shutdowns.Term = refl
    by_reason shutdowns.Hangup = refl
    by_reason shutdowns.Quit = refl
    by_reason shutdowns.TestFailureImmediate = refl
    by_reason shutdowns.Twice = refl

late_is : (grace : ℕ) → terminate_method Timeout grace ≡ first_end_signal grace Term
late_is zero = refl
late_is (suc grace) = rw (some_grace grace) refl

-- where nothing is asked, since the child isn't waited for, or with another turn
unawaited : (grace : ℕ) (e : Bool) (turn : Option UnitTurn) (request : Option Request)
    → EndsItsChild grace false e turn request None
unawaited grace e turn request =
    record { request = by_request (shutdown_in request); due = λ is. tt; over = λ is on. cc; only = λ is. cc }
  where
    by_request : (o : Option ShutdownRequest) → IfSome o (λ reason. end_in None
        ≡ (if false then Some (if e then Kill else first_end_signal grace (signal_by reason)) else None))
    by_request None = tt
    by_request (Some reason) = refl

calm : (grace : ℕ) (a e : Bool) (turn : Option UnitTurn) (request : Option Request) (asked : Option ChildSignal)
    → shutdown_in request ≡ None → comes_due turn ≡ false → end_in asked ≡ None
    → EndsItsChild grace a e turn request asked
calm grace a e turn request asked unasked other none = record {
  request = rw unasked tt;
  due = λ is. cc;
  over = λ is on ends. cc;
  only = λ is. cc;
}

-- where the child is waited for: a timer is due
due : (slow : SlowTimeout) (g was out : Bool)
    → EndsItsChild slow.grace true g (Some Due) None
    (if ((true && not g) && not was) && out then Some (End (terminate_method Timeout slow.grace))
    else if g && true then Some (End Kill) else None)
due slow true was out =
    record { request = tt; due = λ is. (refl, refl); over = λ is on ends. refl; only = λ is. refl }
due slow false true out = record { request = tt; due = λ is. tt; over = λ is on ends. cc; only = λ is. cc }
due slow false false true =
    record { request = tt; due = λ is. (refl, late_is slow.grace); over = λ is on ends. cc; only = λ is. refl }
due slow false false false = record { request = tt; due = λ is. tt; over = λ is on ends. cc; only = λ is. cc }

-- it takes a request
takes : (stops : Bool) (slow : SlowTimeout) (piece : List OwnTurn) (request : Option Request) (g : Bool)
    → EndsItsChild slow.grace true g (Some Take) request
    (if g && is_some (signal_of slow request) then Some (End Kill)
    else option_or (option_map End (signal_of slow request)) (job_signal stops slow request piece))
takes stops slow piece (Some (Shutdown reason)) true =
    record { request = refl; due = λ is. cc; over = λ is on ends. refl; only = λ is. refl }
takes stops slow piece (Some (Shutdown reason)) false = record {
  request = ap Some (method_is reason slow.grace);
  due = λ is. cc;
  over = λ is on ends. cc;
  only = λ is. refl;
}
takes stops slow piece (Some (Stop round)) g =
    calm slow.grace true g (Some Take) (Some (Stop round)) _ refl refl
    (by_ask g (is_in_grace slow piece || stops))
  where
    by_ask : (g b : Bool) → end_in (if g && false then Some (End Kill) else if b then Some Tstp else None) ≡ None
    by_ask true true = refl
    by_ask true false = refl
    by_ask false true = refl
    by_ask false false = refl
takes stops slow piece (Some Continue) g =
    calm slow.grace true g (Some Take) (Some Continue) _ refl refl
    (by_ask g (is_in_grace slow piece || is_paused (pauses_in piece)))
  where
    by_ask : (g b : Bool) → end_in (if g && false then Some (End Kill) else if b then Some Cont else None) ≡ None
    by_ask true true = refl
    by_ask true false = refl
    by_ask false true = refl
    by_ask false false = refl
takes stops slow piece (Some OtherCancel) g =
    calm slow.grace true g (Some Take) (Some OtherCancel) _ refl refl (by_ask g)
  where
    by_ask : (g : Bool) → end_in (if g && false then Some (End Kill) else None) ≡ None
    by_ask true = refl
    by_ask false = refl
takes stops slow piece (Some (GetInfo round)) g =
    calm slow.grace true g (Some Take) (Some (GetInfo round)) _ refl refl (by_ask g)
  where
    by_ask : (g : Bool) → end_in (if g && false then Some (End Kill) else None) ≡ None
    by_ask true = refl
    by_ask false = refl
takes stops slow piece None g = calm slow.grace true g (Some Take) None _ refl refl (by_ask g)
  where
    by_ask : (g : Bool) → end_in (if g && false then Some (End Kill) else None) ≡ None
    by_ask true = refl
    by_ask false = refl

-- so with each turn of its own
ends_with : (stops : Bool) (slow : SlowTimeout) (now : ℕ) (turn : UnitTurn) (line : List Request)
    (piece : List OwnTurn) → any_is ends_wait piece ≡ false
    → EndsItsChild slow.grace true (is_in_grace slow piece) (Some turn) (request_of turn line)
    (signal_with stops slow (own now turn line) piece)
ends_with stops slow now Due line piece waited =
    rw waited (due slow (is_in_grace slow piece) (is_out_of_time slow (standing slow piece).slow_count)
    (is_out_of_time slow (one_more (standing slow piece).slow_count)))
ends_with stops slow now Take line piece waited =
    rw waited (takes stops slow piece (oldest line) (is_in_grace slow piece))
ends_with stops slow now turn line piece waited =
    rw waited (calm slow.grace true (is_in_grace slow piece) (Some turn) None _ refl refl
    (by_grace (is_in_grace slow piece)))
  where
    by_grace : (g : Bool) → end_in (if g && false then Some (End Kill) else None) ≡ None
    by_grace true = refl
    by_grace false = refl

-- and by what is said of its child
ends_going : (stops : Bool) (slow : SlowTimeout) (now : ℕ) (turn : UnitTurn) (line : List Request)
    (piece : List OwnTurn) (earlier : List Attempt) (a e s : Bool) (signal : Option ChildSignal)
    → signals_by stops slow (cut (own now turn line ∷ piece) [] ∷ earlier)
    ≡ signals_by stops slow (cut piece [] ∷ earlier) ++ option_to_list signal
    → AgreesAt slow a e s piece (any_is ends_wait piece)
    → EndsItsChild slow.grace a e (Some turn) (request_of turn line) signal
ends_going stops slow now turn line piece earlier a e s signal is h = by_wait (any_is ends_wait piece) refl h
  where
    with : signal ≡ signal_with stops slow (own now turn line) piece
    with = with_added stops slow (own now turn line) piece earlier signal is

    by_wait : (w : Bool) → any_is ends_wait piece ≡ w → AgreesAt slow a e s piece w
        → EndsItsChild slow.grace a e (Some turn) (request_of turn line) signal
    by_wait true waited off =
        let none : signal ≡ None = with ∙ rw waited refl in
        rw (off, none) (unawaited slow.grace e (Some turn) (request_of turn line))
    by_wait false waited (awaited, ending, stopped) =
        rw (awaited, ending, with) (ends_with stops slow now turn line piece waited)

none_asked : (grace : ℕ) (a e : Bool) (turn : Option UnitTurn) (request : Option Request) (signal : Option ChildSignal)
    → signal ≡ None → a ≡ false → EndsItsChild grace a e turn request signal
none_asked grace a e turn request signal none off = rw (none, off) (unawaited grace e turn request)

ends_own : (stops : Bool) (slow : SlowTimeout) (now : ℕ) (turn : UnitTurn) (line : List Request) (ps : List Attempt)
    (a e s : Bool) (signal : Option ChildSignal)
    → signals_by stops slow (more (own now turn line) ps) ≡ signals_by stops slow ps ++ option_to_list signal
    → AgreesIn slow a e s ps
    → EndsItsChild slow.grace a e (Some turn) (request_of turn line) signal
ends_own stops slow now (Answered true) line ps a e s signal is h =
    let none : signal ≡ None =
    sym (one_of None signal (append_cancel_left (signals_by stops slow ps) [] (option_to_list signal) is)) in
    calm slow.grace a e (Some (Answered true)) None signal refl refl (ap end_in none)
ends_own stops slow now (Decide word) line (cut piece [] ∷ earlier) a e s signal is h =
    calm slow.grace a e (Some (Decide word)) None signal refl refl
    (ap end_in (none_added (signals_by stops slow (cut piece [] ∷ earlier)) signal is))
ends_own stops slow now turn line [] a e s signal is h =
    none_asked slow.grace a e (Some turn) (request_of turn line) signal (none_added [] signal is) h
ends_own stops slow now turn line (cut piece [] ∷ earlier) a e s signal is h =
    ends_going stops slow now turn line piece earlier a e s signal is h
ends_own stops slow now turn line (cut piece (d ∷ after) ∷ earlier) a e s signal is h =
    none_asked slow.grace a e (Some turn) (request_of turn line) signal
    (none_added (signals_by stops slow (cut piece (d ∷ after) ∷ earlier)) signal is) h

-- so each part of a turn
abbrev EndsAs : SlowTimeout → ℕ → Option UnitPart → List Request → Option Ask → Bool → Bool → Type 0
EndsAs slow k part line asked a e =
    EndsItsChild slow.grace a e (turn_in k part) (if takes_request k part then oldest line else None)
    (signal_in k asked)

others : (stops : Bool) (slow : SlowTimeout) (k now : ℕ) (part : Option UnitPart) (line : List Request)
    (story : List OwnTurn) (asked : Option Ask) (a e : Bool)
    → turn_in k part ≡ None → (if takes_request k part then oldest line else None) ≡ None
    → story_with k now part line story ≡ story
    → signals_by stops slow (pieces (story_with k now part line story))
    ≡ signals_by stops slow (pieces story) ++ signals_for k asked
    → EndsAs slow k part line asked a e
others stops slow k now part line story asked a e apart request same is =
    let none : signal_in k asked ≡ None =
    none_added (signals_by stops slow (pieces story)) (signal_in k asked)
    (sym (ap (λ story. signals_by stops slow (pieces story)) same) ∙ is
    ∙ ap (λ more. signals_by stops slow (pieces story) ++ more) (signals_one k asked)) in
    rw (apart, request, none) (calm slow.grace a e None None None refl refl refl)

ends : (stops : Bool) (slow : SlowTimeout) (k now : ℕ) (part : Option UnitPart) (line : List Request)
    (story : List OwnTurn) (asked : Option Ask) (a e s : Bool)
    → signals_by stops slow (pieces (story_with k now part line story))
    ≡ signals_by stops slow (pieces story) ++ signals_for k asked
    → AgreesIn slow a e s (pieces story) → EndsAs slow k part line asked a e
ends stops slow k now None line story asked a e s is h =
    others stops slow k now None line story asked a e refl refl refl is
ends stops slow k now (Some (Joins first)) line story asked a e s is h =
    others stops slow k now (Some (Joins first)) line story asked a e refl refl refl is
ends stops slow k now (Some (Acts j turn)) line story asked a e s is h = by_unit (j == k) refl
  where
    by_unit : (b : Bool) → (j == k) ≡ b → EndsAs slow k (Some (Acts j turn)) line asked a e
    by_unit true own_is =
        let own_story : Bool → List OwnTurn =
        λ b. option_to_list (if b then Some (own now turn line) else None) ++ story in
        let said : signals_by stops slow (more (own now turn line) (pieces story))
        ≡ signals_by stops slow (pieces story) ++ option_to_list (signal_in k asked) =
        sym (ap (λ b. signals_by stops slow (pieces (own_story b))) own_is) ∙ is
        ∙ ap (λ more. signals_by stops slow (pieces story) ++ more) (signals_one k asked) in
        rw (request_there j k turn line own_is, own_is)
        (ends_own stops slow now turn line (pieces story) a e s (signal_in k asked) said h)
    by_unit false apart =
        others stops slow k now (Some (Acts j turn)) line story asked a e (rw apart refl)
        (request_apart j k turn line apart) (rw apart refl) is

-- the time that the plan gives
grace_is : (p : Settings) (k : ℕ) → (unit_terms p k).slow.grace ≡ grace_of p k
grace_is p k = by_kind (nat_lt k (scripts_in p))
  where
    by_script : (o : Option PlanScript) → (script_terms_if p o).slow.grace
        ≡ option_map_or (λ script. script.slow.grace) o usual_slow.grace
    by_script None = refl
    by_script (Some script) = refl

    by_test : (o : Option PlanTest) → (terms_if p o).slow.grace
        ≡ option_map_or (λ test. test.slow.grace) o usual_slow.grace
    by_test None = refl
    by_test (Some test) = refl

    by_kind : (b : Bool)
        → (if b then script_terms_if p (slice_get p.plan.scripts k) else terms_at p (k - scripts_in p)).slow.grace
        ≡ (if b
        then option_map_or (λ script. script.slow.grace) (slice_get p.plan.scripts k) usual_slow.grace
        else option_map_or (λ test. test.slow.grace) (slice_get p.plan.tests (k - scripts_in p)) usual_slow.grace)
    by_kind true = by_script (slice_get p.plan.scripts k)
    by_kind false = by_test (slice_get p.plan.tests (k - scripts_in p))

-- so each turn asks what is asked
pub asks_ends : (p : Settings) (journal : List Entry) (e : Entry) → IsLegal p (journal ++ e ∷ [])
    → AsksItsEnds p (sub_run (past_of p journal)) (happening p (past_of p journal) e)
asks_ends p journal e legal k = by_begin d.begins refl
  where
    backward : IsLegalBackward p (e ∷ reverse journal)
    backward = subst (IsLegalBackward p) (reverse-append journal (e ∷ [])) legal

    past : List Happening
    past = past_of p journal

    run : List Happening
    run = sub_run past

    d : Deed
    d = deed_on p (board p past) e.turn

    does : Does p (frame_of p past) (clock past) (base_of d.begins run) d
    does = does_after p past e (holds p (reverse journal) backward.2) backward.0

    by_begin : (b : Bool) → d.begins ≡ b
        → EndsItsChild (grace_of p k) (is_awaited k run) (is_ending k run) (turn_in k d.part) (request_in k run d.part)
        (signal_in k d.asked)
    by_begin true is =
        let it = (does.marks.begins is).1 in
        rw (it.part, it.asked) (calm (grace_of p k) (is_awaited k run) (is_ending k run) None None None refl refl refl)
    by_begin false is =
        let now : Does p (frame_of p past) (clock past) run d =
        subst (λ b. Does p (frame_of p past) (clock past) (base_of b run) d) is does in
        subst (λ grace. EndsItsChild grace (is_awaited k run) (is_ending k run) (turn_in k d.part)
        (request_in k run d.part) (signal_in k d.asked)) (grace_is p k)
        (ends (unit_terms p k).stops (unit_terms p k).slow k (clock past) d.part (line_of k run) (story_of k run)
        d.asked (is_awaited k run) (is_ending k run) (is_stopped_unit k run) (now.reported k).asks
        (agrees p (reverse journal) backward.2 k))
