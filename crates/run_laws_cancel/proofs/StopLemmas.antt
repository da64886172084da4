-- The stops and the continues that are asked of children are those that their requests ask.
use Rattle.std.proofs.Common.{◌≡◌, ℕ, ◌==◌, ◌&&◌, ◌||◌, not, ◌++◌, List, [], ◌∷◌, Bool, true, false, Option, Some, None}
use Rattle.std.proofs.Common.{if◌then◌else◌, option_to_list, option_map, is_some, refl, ap, sym, ◌∙◌, append_assoc}
use Rattle.std.proofs.lemmas.List.{append-nil, append_cancel_left}
use Rattle.std.specs.Option.{option_or}
use Rattle.run_clock.specs.Counted.{is_paused}
use Rattle.run_events.specs.declared.plan.SlowTimeout.{SlowTimeout}
use Rattle.run_events.specs.declared.request.ChildSignal.{ChildSignal}
use Rattle.run_events.specs.declared.request.ChildSignal.TheVariants.{End, Tstp, Cont}
use Rattle.run_events.specs.declared.request.Request.{Request}
use Rattle.run_events.specs.declared.request.Request.TheVariants.{Stop, Continue, Shutdown, OtherCancel, GetInfo}
use Rattle.run_events.specs.declared.request.TermSignal.{TermSignal}
use Rattle.run_events.specs.declared.request.TermSignal.TheVariants.{Interrupt, Term, Hangup, Quit, Kill}
use Rattle.run_events.specs.declared.request.TerminateReason.TheVariants.{Signal as BySignal, Timeout}
use Rattle.run_model.specs.declared.unit_turn.UnitTurn.{UnitTurn}
use Rattle.run_model.specs.declared.unit_turn.UnitTurn.TheVariants.{Due, Take}
use Rattle.run_model.specs.Slow.{is_out_of_time, one_more}
use Rattle.run_model.specs.Story.{OwnTurn, Attempt, cut, any_is, oldest, request_of}
use Rattle.run_model.specs.Terminate.{terminate_method}
use Rattle.run_model.specs.Timing.{ends_wait, gives_time, is_due_turn, pauses_in, signal_of, standing}
use Rattle.run_laws.specs.Reports.{job_signal, signal_with, signals_by, signals_in}
use Rattle.run_laws.proofs.units.CaptureLemmas.{taken}
use Rattle.run_laws.proofs.units.StandingLemmas.{grace_next, is_in_grace}
use Rattle.run_laws_cancel.specs.Stops.{ending_after, job_for, job_in}

-- its child is given time to end where the latest signal to end was no kill: after a timer that is due
grace_due : (stops : Bool) (slow : SlowTimeout) (now : ℕ) (piece : List OwnTurn) → any_is ends_wait piece ≡ false
    → is_in_grace slow (taken now Due None ∷ piece)
    ≡ ending_after (signal_with stops slow (taken now Due None) piece) (is_in_grace slow piece)
grace_due stops slow now piece waited =
    grace_next slow (taken now Due None) piece waited
    ∙ rw waited (by_case (is_in_grace slow piece) (is_out_of_time slow (standing slow piece).slow_count)
    (is_out_of_time slow (one_more (standing slow piece).slow_count)) (slow.grace == 0))
  where
    by_case : (g was out none : Bool)
        → (((((true && not g) && not was) && out) && not none) || (not g && false)) || (g && not (g && true))
        ≡ ending_after (if ((true && not g) && not was) && out then Some (End (if none then Kill else Term))
        else if g && true then Some (End Kill) else None) g
    by_case true was out none = refl
    by_case false true out none = refl
    by_case false false true true = refl
    by_case false false true false = refl
    by_case false false false none = refl

-- and after any other turn
grace_other : (stops : Bool) (slow : SlowTimeout) (t : OwnTurn) (piece : List OwnTurn) → any_is ends_wait piece ≡ false
    → is_due_turn t.turn ≡ false
    → is_in_grace slow (t ∷ piece) ≡ ending_after (signal_with stops slow t piece) (is_in_grace slow piece)
grace_other stops slow t piece waited due =
    grace_next slow t piece waited
    ∙ rw (waited, due) (by_request t.request (is_in_grace slow piece))
  where
    by_signal : (signal : TermSignal) (g : Bool)
        → (not g && gives_time (Some signal)) || (g && not (g && true))
        ≡ ending_after (if g && true then Some (End Kill) else Some (End signal)) g
    by_signal signal true = refl
    by_signal Interrupt false = refl
    by_signal Term false = refl
    by_signal Hangup false = refl
    by_signal Quit false = refl
    by_signal Kill false = refl

    by_none : (o : Option ChildSignal) (g : Bool) → ending_after o g ≡ g
        → (not g && false) || (g && not (g && false)) ≡ ending_after (if g && false then Some (End Kill) else o) g
    by_none o true is = sym is
    by_none o false is = sym is

    by_job : (asks : Bool) (g : Bool) → (ending_after (if asks then Some Tstp else None) g ≡ g)
        × (ending_after (if asks then Some Cont else None) g ≡ g)
    by_job true g = (refl, refl)
    by_job false g = (refl, refl)

    by_request : (request : Option Request) (g : Bool)
        → (not g && gives_time (signal_of slow request)) || (g && not (g && is_some (signal_of slow request)))
        ≡ ending_after (if g && is_some (signal_of slow request) then Some (End Kill)
        else option_or (option_map End (signal_of slow request))
        (job_signal stops slow request piece)) g
    by_request (Some (Shutdown reason)) g = by_signal (terminate_method (BySignal reason) slow.grace) g
    by_request (Some (Stop round)) g =
        let asks : Bool = is_in_grace slow piece || stops in
        by_none (if asks then Some Tstp else None) g (by_job asks g).0
    by_request (Some Continue) g =
        let asks : Bool = is_in_grace slow piece || is_paused (pauses_in piece) in
        by_none (if asks then Some Cont else None) g (by_job asks g).1
    by_request (Some OtherCancel) g = by_none None g refl
    by_request (Some (GetInfo round)) g = by_none None g refl
    by_request None g = by_none None g refl

-- so after each turn of its own
abbrev pub own : ℕ → UnitTurn → List Request → OwnTurn
own now turn line = record { moment = now; turn = turn; request = request_of turn line }

pub grace_after : (stops : Bool) (slow : SlowTimeout) (now : ℕ) (turn : UnitTurn) (line : List Request)
    (piece : List OwnTurn) → any_is ends_wait piece ≡ false
    → is_in_grace slow (own now turn line ∷ piece)
    ≡ ending_after (signal_with stops slow (own now turn line) piece) (is_in_grace slow piece)
grace_after stops slow now Due line piece waited = grace_due stops slow now piece waited
grace_after stops slow now turn line piece waited =
    grace_other stops slow (own now turn line) piece waited refl

-- the stop or continue that comes with a turn of its own is that of its request, while its child is waited for
pub job_with : (stops : Bool) (slow : SlowTimeout) (now : ℕ) (turn : UnitTurn) (line : List Request)
    (piece : List OwnTurn) → any_is ends_wait piece ≡ false
    → job_in (signal_with stops slow (own now turn line) piece)
    ≡ job_for (is_in_grace slow piece || stops) (is_in_grace slow piece || is_paused (pauses_in piece))
    (request_of turn line)
job_with stops slow now Due line piece waited =
    rw waited (by_case (is_in_grace slow piece) (is_out_of_time slow (standing slow piece).slow_count)
    (is_out_of_time slow (one_more (standing slow piece).slow_count)))
  where
    by_case : (g was out : Bool)
        → job_in (if ((true && not g) && not was) && out then Some (End (terminate_method Timeout slow.grace))
        else if g && true then Some (End Kill) else None)
        ≡ None
    by_case true was out = refl
    by_case false true out = refl
    by_case false false true = refl
    by_case false false false = refl
job_with stops slow now Take line piece waited = rw waited (by_request (oldest line) (is_in_grace slow piece) refl)
  where
    ends : (g : Bool) (signal : TermSignal)
        → job_in (if g && true then Some (End Kill) else Some (End signal)) ≡ None
    ends true signal = refl
    ends false signal = refl

    asks : (g b : Bool) (signal : ChildSignal)
        → job_in (if g && false then Some (End Kill) else if b then Some signal else None)
        ≡ job_in (if b then Some signal else None)
    asks true b signal = refl
    asks false b signal = refl

    stop : (b : Bool) → job_in (if b then Some Tstp else None) ≡ (if b then Some Tstp else None)
    stop true = refl
    stop false = refl

    cont : (b : Bool) → job_in (if b then Some Cont else None) ≡ (if b then Some Cont else None)
    cont true = refl
    cont false = refl

    none : (g : Bool) → job_in (if g && false then Some (End Kill) else None) ≡ None
    none true = refl
    none false = refl

    by_request : (request : Option Request) (g : Bool) → is_in_grace slow piece ≡ g
        → job_in (if g && is_some (signal_of slow request) then Some (End Kill)
        else option_or (option_map End (signal_of slow request)) (job_signal stops slow request piece))
        ≡ job_for (is_in_grace slow piece || stops) (is_in_grace slow piece || is_paused (pauses_in piece)) request
    by_request (Some (Shutdown reason)) g is = ends g (terminate_method (BySignal reason) slow.grace)
    by_request (Some (Stop round)) g is =
        asks g (is_in_grace slow piece || stops) Tstp ∙ stop (is_in_grace slow piece || stops)
    by_request (Some Continue) g is =
        asks g (is_in_grace slow piece || is_paused (pauses_in piece)) Cont
        ∙ cont (is_in_grace slow piece || is_paused (pauses_in piece))
    by_request (Some OtherCancel) g is = none g
    by_request (Some (GetInfo round)) g is = none g
    by_request None g is = none g
job_with stops slow now turn line piece waited = rw waited (none (is_in_grace slow piece))
  where
    none : (g : Bool) → job_in (if g && false then Some (End Kill) else None) ≡ None
    none true = refl
    none false = refl

-- what is said of a child by its unit's turns and asks is so by the attempts that these turns make: whether it is
-- waited for, and while it is, whether it is given time to end and whether it is stopped
abbrev pub AgreesAt : SlowTimeout → Bool → Bool → Bool → List OwnTurn → Bool → Type 0
AgreesAt slow awaited ending stopped piece true = awaited ≡ false
AgreesAt slow awaited ending stopped piece false =
    (awaited ≡ true) × (ending ≡ is_in_grace slow piece) × (stopped ≡ is_paused (pauses_in piece))

abbrev pub AgreesIn : SlowTimeout → Bool → Bool → Bool → List Attempt → Type 0
AgreesIn slow awaited ending stopped [] = awaited ≡ false
AgreesIn slow awaited ending stopped (cut piece [] ∷ earlier) =
    AgreesAt slow awaited ending stopped piece (any_is ends_wait piece)
AgreesIn slow awaited ending stopped (cut piece (d ∷ after) ∷ earlier) = awaited ≡ false

-- a signal is the one that is added
pub one_of : (a b : Option ChildSignal) → option_to_list a ≡ option_to_list b → a ≡ b
one_of a b is = sym (first a) ∙ ap head is ∙ first b
  where
    head : List ChildSignal → Option ChildSignal
    head [] = None
    head (x ∷ xs) = Some x

    first : (o : Option ChildSignal) → head (option_to_list o) ≡ o
    first None = refl
    first (Some x) = refl

pub none_added : (a : List ChildSignal) (signal : Option ChildSignal) → a ≡ a ++ option_to_list signal → signal ≡ None
none_added a signal is =
    sym (one_of None signal (append_cancel_left a [] (option_to_list signal) (append-nil a ∙ is)))

pub with_added : (stops : Bool) (slow : SlowTimeout) (t : OwnTurn) (piece : List OwnTurn) (earlier : List Attempt)
    (signal : Option ChildSignal)
    → signals_by stops slow (cut (t ∷ piece) [] ∷ earlier)
    ≡ signals_by stops slow (cut piece [] ∷ earlier) ++ option_to_list signal
    → signal ≡ signal_with stops slow t piece
with_added stops slow t piece earlier signal is =
    sym (one_of (signal_with stops slow t piece) signal
    (append_cancel_left (signals_by stops slow (cut piece [] ∷ earlier))
    (option_to_list (signal_with stops slow t piece)) (option_to_list signal)
    (append_assoc (signals_by stops slow earlier) (signals_in stops slow piece)
    (option_to_list (signal_with stops slow t piece)) ∙ is)))
