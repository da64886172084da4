-- The stops and the continues that are asked of children, turn by turn.
use Rattle.std.proofs.Common.{◌≡◌, ◌⊎◌, inl, inr, ℕ, ◌==◌, ◌&&◌, ◌||◌, ◌++◌, List, [], ◌∷◌, Bool, true, false, Option}
use Rattle.std.proofs.Common.{Some, None, if◌then◌else◌, option_to_list, reverse, refl, ap, sym, subst, ◌∙◌}
use Rattle.std.proofs.lemmas.List.{append_cancel_left, reverse-append}
use Rattle.std.specs.List.{cons_option}
use Rattle.run_clock.specs.Counted.{Mark, is_paused}
use Rattle.run_commands.specs.Interceptor.{sends_sigtstp}
use Rattle.run_commands.specs.declared.interceptor.Interceptor.{Interceptor}
use Rattle.run_commands.specs.declared.interceptor.Interceptor.TheVariants as under
use Rattle.run_events.specs.declared.ask.Ask.{Ask}
use Rattle.run_events.specs.declared.plan.SlowTimeout.{SlowTimeout}
use Rattle.run_events.specs.declared.request.ChildSignal.{ChildSignal}
use Rattle.run_events.specs.declared.request.Request.{Request}
use Rattle.run_events.specs.declared.request.Request.TheVariants.{Stop, Continue}
use Rattle.run_events.specs.declared.settings.Settings.{Settings}
use Rattle.run_model.specs.declared.entry.Entry.{Entry}
use Rattle.run_model.specs.declared.happening.Happening.{Happening}
use Rattle.run_model.specs.declared.happening.UnitPart.{UnitPart}
use Rattle.run_model.specs.declared.happening.UnitPart.TheVariants.{Joins, Acts}
use Rattle.run_model.specs.declared.unit_turn.UnitTurn.{UnitTurn}
use Rattle.run_model.specs.declared.unit_turn.UnitTurn.TheVariants.{Answered, Exit, WaitFailed, Take, Decide}
use Rattle.run_model.specs.Admission.{unit_terms}
use Rattle.run_model.specs.Attempts.{pieces_of}
use Rattle.run_model.specs.Board.{Deed, board}
use Rattle.run_model.specs.Journal.{history, past_of, IsLegal, IsLegalBackward}
use Rattle.run_model.specs.Story.{OwnTurn, Attempt, cut, any_is, line_of, oldest, pieces, request_of, story_of}
use Rattle.run_model.specs.Story.{takes_request}
use Rattle.run_model.specs.Timing.{ends_wait, pause_at, pauses_in}
use Rattle.run_model.specs.Turns.{deed_on, happening}
use Rattle.run_model.specs.Words.{clock, sub_run}
use Rattle.run_laws.specs.Reports.{signal_for, signal_with, signals_by, signals_for}
use Rattle.run_laws.proofs.board.DeedFits.{Does}
use Rattle.run_laws.proofs.board.Deeds.{base_of}
use Rattle.run_laws.proofs.board.Kept.{does_after, holds, from_base, IsOfRun, IsBeforeRuns, where_joins}
use Rattle.run_laws.proofs.board.OnBoard.{frame_of}
use Rattle.run_laws.proofs.told.Reported.{DoesReport, stops_by_terms, story_with}
use Rattle.run_laws.proofs.units.AttemptLemmas.{more}
use Rattle.run_laws.proofs.units.StandingLemmas.{is_in_grace}
use Rattle.run_laws_cancel.specs.Stops.{AsksItsStops, awaited_after, ending_after, is_awaited, is_ending}
use Rattle.run_laws_cancel.specs.Stops.{is_stopped_unit, job_due, job_for, job_in, lets_it_go, request_in, signal_in}
use Rattle.run_laws_cancel.specs.Stops.{stopped_after, stops_with_run, turn_in}
use Rattle.run_laws_cancel.proofs.StopLemmas.{AgreesAt, AgreesIn, grace_after, job_with, none_added, one_of, own}
use Rattle.run_laws_cancel.proofs.StopLemmas.{with_added}

-- a turn with which an attempt goes on
paused_more : (now : ℕ) (request : Option Request) (past : List Mark)
    → stopped_after request (is_paused past) ≡ is_paused (pause_at now request ++ past)
paused_more now (Some (Stop round)) past = refl
paused_more now (Some Continue) past = refl
paused_more now request past = refl

goes_on : (stops : Bool) (slow : SlowTimeout) (now : ℕ) (turn : UnitTurn) (line : List Request) (piece : List OwnTurn)
    (earlier : List Attempt) (a e s : Bool) (signal : Option ChildSignal)
    → signals_by stops slow (cut (own now turn line ∷ piece) [] ∷ earlier)
    ≡ signals_by stops slow (cut piece [] ∷ earlier) ++ option_to_list signal
    → AgreesAt slow a e s piece (any_is ends_wait piece)
    → AgreesAt slow a (ending_after signal e) (stopped_after (request_of turn line) s) (own now turn line ∷ piece)
    (any_is ends_wait piece)
goes_on stops slow now turn line piece earlier a e s signal is h = by_wait (any_is ends_wait piece) refl h
  where
    by_wait : (w : Bool) → any_is ends_wait piece ≡ w → AgreesAt slow a e s piece w
        → AgreesAt slow a (ending_after signal e) (stopped_after (request_of turn line) s)
        (own now turn line ∷ piece) w
    by_wait true waited h = h
    by_wait false waited (awaited, ending, stopped) = (
      awaited,
      ap (ending_after signal) ending
          ∙ ap (λ o. ending_after o (is_in_grace slow piece))
          (with_added stops slow (own now turn line) piece earlier signal is)
          ∙ sym (grace_after stops slow now turn line piece waited),
      ap (stopped_after (request_of turn line)) stopped
          ∙ paused_more now (request_of turn line) (pauses_in piece),
    )

-- after one more turn of its own
steps_own : (stops : Bool) (slow : SlowTimeout) (now : ℕ) (turn : UnitTurn) (line : List Request) (ps : List Attempt)
    (a e s : Bool) (signal : Option ChildSignal)
    → signals_by stops slow (more (own now turn line) ps) ≡ signals_by stops slow ps ++ option_to_list signal
    → AgreesIn slow a e s ps
    → AgreesIn slow (awaited_after (Some turn) a)
    (if lets_it_go (Some turn) then false else ending_after signal e)
    (if lets_it_go (Some turn) then false else stopped_after (request_of turn line) s) (more (own now turn line) ps)
steps_own stops slow now (Answered true) line ps a e s signal is h = (refl, refl, refl)
steps_own stops slow now (Exit exit) line [] a e s signal is h = refl
steps_own stops slow now (Exit exit) line (cut piece [] ∷ earlier) a e s signal is h = refl
steps_own stops slow now (Exit exit) line (cut piece (d ∷ after) ∷ earlier) a e s signal is h = refl
steps_own stops slow now (WaitFailed error) line [] a e s signal is h = refl
steps_own stops slow now (WaitFailed error) line (cut piece [] ∷ earlier) a e s signal is h = refl
steps_own stops slow now (WaitFailed error) line (cut piece (d ∷ after) ∷ earlier) a e s signal is h = refl
steps_own stops slow now (Decide word) line [] a e s signal is h = refl
steps_own stops slow now (Decide word) line (cut piece [] ∷ earlier) a e s signal is h = refl
steps_own stops slow now (Decide word) line (cut piece (d ∷ after) ∷ earlier) a e s signal is h = refl
steps_own stops slow now turn line [] a e s signal is h = h
steps_own stops slow now turn line (cut piece [] ∷ earlier) a e s signal is h =
    goes_on stops slow now turn line piece earlier a e s signal is h
steps_own stops slow now turn line (cut piece (d ∷ after) ∷ earlier) a e s signal is h = h

-- and what such a turn asks
nothing : (request : Option Request) → None ≡ job_for false false request
nothing (Some (Stop round)) = refl
nothing (Some Continue) = refl
nothing request = refl

unawaited : (stops a e s : Bool) (request : Option Request) (signal : Option ChildSignal) → signal ≡ None → a ≡ false
    → job_in signal ≡ job_for (a && (e || stops)) (a && (e || s)) request
unawaited stops a e s request signal none off = rw (none, off) (nothing request)

asks_going : (stops : Bool) (slow : SlowTimeout) (now : ℕ) (turn : UnitTurn) (line : List Request)
    (piece : List OwnTurn) (earlier : List Attempt) (a e s : Bool) (signal : Option ChildSignal)
    → signals_by stops slow (cut (own now turn line ∷ piece) [] ∷ earlier)
    ≡ signals_by stops slow (cut piece [] ∷ earlier) ++ option_to_list signal
    → AgreesAt slow a e s piece (any_is ends_wait piece)
    → job_in signal ≡ job_for (a && (e || stops)) (a && (e || s)) (request_of turn line)
asks_going stops slow now turn line piece earlier a e s signal is h = by_wait (any_is ends_wait piece) refl h
  where
    with : signal ≡ signal_with stops slow (own now turn line) piece
    with = with_added stops slow (own now turn line) piece earlier signal is

    by_wait : (w : Bool) → any_is ends_wait piece ≡ w → AgreesAt slow a e s piece w
        → job_in signal ≡ job_for (a && (e || stops)) (a && (e || s)) (request_of turn line)
    by_wait true waited off = unawaited stops a e s (request_of turn line) signal (with ∙ rw waited refl) off
    by_wait false waited (awaited, ending, stopped) =
        ap job_in with ∙ job_with stops slow now turn line piece waited ∙ rw (awaited, ending, stopped) refl

asks_own : (stops : Bool) (slow : SlowTimeout) (now : ℕ) (turn : UnitTurn) (line : List Request) (ps : List Attempt)
    (a e s : Bool) (signal : Option ChildSignal)
    → signals_by stops slow (more (own now turn line) ps) ≡ signals_by stops slow ps ++ option_to_list signal
    → AgreesIn slow a e s ps
    → job_in signal ≡ job_for (a && (e || stops)) (a && (e || s)) (request_of turn line)
asks_own stops slow now (Answered true) line ps a e s signal is h =
    ap job_in (sym (one_of None signal (append_cancel_left (signals_by stops slow ps) [] (option_to_list signal) is)))
asks_own stops slow now (Decide word) line (cut piece [] ∷ earlier) a e s signal is h =
    ap job_in (none_added (signals_by stops slow (cut piece [] ∷ earlier)) signal is)
asks_own stops slow now turn line [] a e s signal is h =
    unawaited stops a e s (request_of turn line) signal (none_added [] signal is) h
asks_own stops slow now turn line (cut piece [] ∷ earlier) a e s signal is h =
    asks_going stops slow now turn line piece earlier a e s signal is h
asks_own stops slow now turn line (cut piece (d ∷ after) ∷ earlier) a e s signal is h =
    unawaited stops a e s (request_of turn line) signal
    (none_added (signals_by stops slow (cut piece (d ∷ after) ∷ earlier)) signal is) h

-- the signals of a unit with one ask
pub signals_one : (k : ℕ) (asked : Option Ask) → signals_for k asked ≡ option_to_list (signal_in k asked)
signals_one k None = refl
signals_one k (Some ask) = by_signal (signal_for k ask)
  where
    by_signal : (o : Option ChildSignal) → cons_option o [] ≡ option_to_list o
    by_signal None = refl
    by_signal (Some signal) = refl

-- the request that comes with a turn of unit j
pub request_there : (j k : ℕ) (turn : UnitTurn) (line : List Request) → (j == k) ≡ true
    → (if takes_request k (Some (Acts j turn)) then oldest line else None) ≡ request_of turn line
request_there j k Take line is = rw is refl
request_there j k turn line is = refl

pub request_apart : (j k : ℕ) (turn : UnitTurn) (line : List Request) → (j == k) ≡ false
    → (if takes_request k (Some (Acts j turn)) then oldest line else None) ≡ None
request_apart j k Take line is = rw is refl
request_apart j k turn line is = refl

-- so each part of a turn
record Steps (stops : Bool) (slow : SlowTimeout) (k now : ℕ) (part : Option UnitPart) (line : List Request)
    (story : List OwnTurn) (asked : Option Ask) (a e s : Bool) : Type 0 where
  next : AgreesIn slow (awaited_after (turn_in k part) a)
      (if lets_it_go (turn_in k part) then false else ending_after (signal_in k asked) e)
      (if lets_it_go (turn_in k part) then false
      else stopped_after (if takes_request k part then oldest line else None) s)
      (pieces (story_with k now part line story))
  asks : job_in (signal_in k asked)
      ≡ job_for (a && (e || stops)) (a && (e || s)) (if takes_request k part then oldest line else None)

others : (stops : Bool) (slow : SlowTimeout) (k now : ℕ) (part : Option UnitPart) (line : List Request)
    (story : List OwnTurn) (asked : Option Ask) (a e s : Bool)
    → turn_in k part ≡ None → (if takes_request k part then oldest line else None) ≡ None
    → story_with k now part line story ≡ story
    → signals_by stops slow (pieces (story_with k now part line story))
    ≡ signals_by stops slow (pieces story) ++ signals_for k asked
    → AgreesIn slow a e s (pieces story) → Steps stops slow k now part line story asked a e s
others stops slow k now part line story asked a e s apart request same is h =
    let none : signal_in k asked ≡ None =
    none_added (signals_by stops slow (pieces story)) (signal_in k asked)
    (sym (ap (λ story. signals_by stops slow (pieces story)) same) ∙ is
    ∙ ap (λ more. signals_by stops slow (pieces story) ++ more) (signals_one k asked)) in
    record { next = rw (apart, request, same, none) h; asks = rw (request, none) refl }

steps : (stops : Bool) (slow : SlowTimeout) (k now : ℕ) (part : Option UnitPart) (line : List Request)
    (story : List OwnTurn) (asked : Option Ask) (a e s : Bool)
    → signals_by stops slow (pieces (story_with k now part line story))
    ≡ signals_by stops slow (pieces story) ++ signals_for k asked
    → AgreesIn slow a e s (pieces story) → Steps stops slow k now part line story asked a e s
steps stops slow k now None line story asked a e s is h =
    others stops slow k now None line story asked a e s refl refl refl is h
steps stops slow k now (Some (Joins first)) line story asked a e s is h =
    others stops slow k now (Some (Joins first)) line story asked a e s refl refl refl is h
steps stops slow k now (Some (Acts j turn)) line story asked a e s is h = by_unit (j == k) refl
  where
    by_unit : (b : Bool) → (j == k) ≡ b → Steps stops slow k now (Some (Acts j turn)) line story asked a e s
    by_unit true own_is =
        let own_story : Bool → List OwnTurn =
        λ b. option_to_list (if b then Some (own now turn line) else None) ++ story in
        let said : signals_by stops slow (more (own now turn line) (pieces story))
        ≡ signals_by stops slow (pieces story) ++ option_to_list (signal_in k asked) =
        sym (ap (λ b. signals_by stops slow (pieces (own_story b))) own_is) ∙ is
        ∙ ap (λ more. signals_by stops slow (pieces story) ++ more) (signals_one k asked) in
        record {
          next = rw (request_there j k turn line own_is, own_is)
              (steps_own stops slow now turn line (pieces story) a e s (signal_in k asked) said h);
          asks = rw (request_there j k turn line own_is)
              (asks_own stops slow now turn line (pieces story) a e s (signal_in k asked) said h);
        }
    by_unit false apart =
        others stops slow k now (Some (Acts j turn)) line story asked a e s (rw apart refl)
        (request_apart j k turn line apart) (rw apart refl) is h

-- so after each enabled turn, and after every legal journal
abbrev pub AgreesOf : Settings → ℕ → List Happening → Type 0
AgreesOf p k run =
    AgreesIn (unit_terms p k).slow (is_awaited k run) (is_ending k run) (is_stopped_unit k run) (pieces_of k run)

steps_after : (p : Settings) (k now : ℕ) (run : List Happening) (d : Deed) → DoesReport (unit_terms p k) k now run d
    → AgreesOf p k run
    → Steps (unit_terms p k).stops (unit_terms p k).slow k now d.part (line_of k run) (story_of k run) d.asked
    (is_awaited k run) (is_ending k run) (is_stopped_unit k run)
steps_after p k now run d does h =
    steps (unit_terms p k).stops (unit_terms p k).slow k now d.part (line_of k run) (story_of k run) d.asked
    (is_awaited k run) (is_ending k run) (is_stopped_unit k run) does.asks h

pub agrees : (p : Settings) (backward : List Entry) → IsLegalBackward p backward → (k : ℕ)
    → AgreesOf p k (sub_run (history p backward))
agrees p [] legal k = refl
agrees p (e ∷ before) legal k =
    by_run (agrees p before legal.2 k) (where_joins p past e (holds p before legal.2) legal.0)
  where
    past : List Happening
    past = history p before

    by_run : AgreesOf p k (sub_run past) → IsOfRun p past e ⊎ IsBeforeRuns p past e
        → AgreesOf p k (sub_run (happening p past e ∷ past))
    by_run was (inl of) = subst (AgreesOf p k) (sym of.joins)
        (steps_after p k (clock past) of.base (deed_on p (board p past) e.turn) (of.does.reported k)
        (from_base (AgreesOf p k) p past e of refl was)).next
    by_run was (inr before) = subst (AgreesOf p k) (sym before.still) refl

-- so each turn asks what is asked
sends_sigtstp-is : (i : Interceptor) → sends_sigtstp i ≡ stops_with_run i
sends_sigtstp-is under.None = refl
sends_sigtstp-is (under.Debugger words) = refl
sends_sigtstp-is (under.Tracer words) = refl

pub asks_stops : (p : Settings) (journal : List Entry) (e : Entry) → IsLegal p (journal ++ e ∷ [])
    → AsksItsStops p (sub_run (past_of p journal)) (happening p (past_of p journal) e)
asks_stops p journal e legal k = by_begin d.begins refl
  where
    backward : IsLegalBackward p (e ∷ reverse journal)
    backward = subst (IsLegalBackward p) (reverse-append journal (e ∷ [])) legal

    past : List Happening
    past = past_of p journal

    run : List Happening
    run = sub_run past

    d : Deed
    d = deed_on p (board p past) e.turn

    does : Does p (frame_of p past) (clock past) (base_of d.begins run) d
    does = does_after p past e (holds p (reverse journal) backward.2) backward.0

    by_begin : (b : Bool) → d.begins ≡ b
        → job_in (signal_in k d.asked) ≡ job_due p k run (request_in k run d.part)
    by_begin true is = let it = (does.marks.begins is).1 in rw (it.part, it.asked) refl
    by_begin false is =
        let now : Does p (frame_of p past) (clock past) run d =
        subst (λ b. Does p (frame_of p past) (clock past) (base_of b run) d) is does in
        (steps_after p k (clock past) run d (now.reported k) (agrees p (reverse journal) backward.2 k)).asks
        ∙ ap (λ stops. job_for (is_awaited k run && (is_ending k run || stops))
        (is_awaited k run && (is_ending k run || is_stopped_unit k run)) (request_in k run d.part))
        (stops_by_terms p k ∙ sends_sigtstp-is p.interceptor)
