-- What an admission, a turn of a unit and the delivery of a start or a retry do to the seats of the tests.
use Rattle.std.proofs.Common.{◌≡◌, ℕ, ◌==◌, ◌&&◌, List, [], ◌∷◌, ◌++◌, take, drop, Bool, true, false, not}
use Rattle.std.proofs.Common.{if◌then◌else◌, Option, Some, None, is_some, is_none, option_map, option_to_list, refl}
use Rattle.std.proofs.Common.{ap, sym, subst, ◌∙◌, arith}
use Rattle.std.specs.List.{list_any}
use Rattle.run_events.specs.declared.settings.Settings.{Settings}
use Rattle.run_events.specs.declared.message.Message.{Message}
use Rattle.run_events.specs.declared.message.Message.TheVariants.{ScriptStart as ScriptStarts, Start, Retry, Finish}
use Rattle.run_events.specs.declared.message.ScriptStart.{ScriptStart}
use Rattle.run_events.specs.declared.message.ScriptFinish.{ScriptFinish}
use Rattle.run_events.specs.declared.events.TestEventKind.TheVariants.{SetupScriptStarted, SetupScriptFinished}
use Rattle.run_events.specs.declared.message.TestRetry.{TestRetry}
use Rattle.run_events.specs.declared.cancel.CancelReason.{CancelReason}
use Rattle.run_model.specs.declared.happening.UnitPart.TheVariants.{Acts}
use Rattle.run_events.specs.declared.message.TestStart.{TestStart}
use Rattle.run_events.specs.declared.events.ReporterEvent.{ReporterEvent}
use Rattle.run_admission.specs.declared.seat.Seat.{Seat}
use Rattle.run_admission.specs.declared.seat.Seat.TheVariants.{Gone}
use Rattle.run_admission.specs.InUse.{is_in_use}
use Rattle.run_admission.proofs.FewerLemmas.{IsBelow}
use Rattle.run_model.specs.declared.dispatcher_view.Tally.{Tally}
use Rattle.run_model.specs.declared.phase.Phase.TheVariants.{StartSent}
use Rattle.run_model.specs.Cancel.{Cause, caused}
use Rattle.run_model.specs.Accounts.{News, started, finished, HasAccount, is_mismatched, account_of, pending_in}
use Rattle.run_model.specs.Accounts.{pending_of}
use Rattle.run_model.specs.declared.happening.Happening.{Happening}
use Rattle.run_model.specs.declared.unit_turn.UnitTurn.{UnitTurn}
use Rattle.run_model.specs.declared.unit_turn.UnitTurn.TheVariants.{Answered}
use Rattle.run_model.specs.declared.unit_view.UnitView.{UnitView}
use Rattle.run_model.specs.Unit.{row, takes, takes_at}
use Rattle.run_model.specs.Words.{is_running, reason, queue, told, starts, finishes, unit_of, units, tally}
use Rattle.std.specs.Option.{option_or}
use Rattle.run_model.specs.Admission.{Newcomer, newcomer}
use Rattle.run_laws.proofs.board.OnBoard.{moment_in, event_in}
use Rattle.run_model.specs.Dispatch.{Moment, event, with_start, started_event, retried_event}
use Rattle.run_model.specs.Board.{Deed}
use Rattle.run_model.specs.Turns.{unit_takes, taken_deed, admission}
use Rattle.run_laws.specs.Limits.{slots_told, seat_in, seat_told}
use Rattle.run_laws.proofs.board.Holds.{Holds}
use Rattle.run_laws.proofs.told.Running.{is_start, starts-account}
use Rattle.run_laws.proofs.board.ByTurn.{is_answer}
use Rattle.run_laws.proofs.board.Newcomers.{new_unit}
use Rattle.run_model.specs.Story.{was_left}
use Rattle.run_laws.proofs.board.Facts.{start_in, start_own, script_own, start_waits, retry_waits}
use Rattle.run_laws.proofs.board.OpenSeats.{opened, at_last, AreLower, same_lower}
use Rattle.run_laws.proofs.told.ToldSeats.{slots_told-append, none_told, seat_told-other, seat_told-nothing}
use Rattle.run_laws.proofs.told.ToldSeats.{seat_told-started, finished_gone}
use Rattle.run_laws.proofs.board.BoardSeats.{board_seat, seat_after, AreKeptIn, kept_fewer, acts_lower, acts_last}
use Rattle.run_laws.proofs.board.BoardSeats.{acts_refused}
use Rattle.run_laws.proofs.board.JoinSeats.{joins_kept, joins_last}
use Rattle.run_laws.proofs.board.OnBoard.{Frame}
use Rattle.run_laws.proofs.board.OnBoard.{index_in}
use Rattle.run_events.specs.declared.stress.StressIndex.{StressIndex}

-- the messages that wait after a deed has taken one
abbrev pub rest_of : Deed → List Happening → List Message
rest_of d run = drop (if d.taken then 1 else 0) (queue run)

-- what a deed does to the seats: what it tells leaves them below what the messages that it takes say, and as they were
-- or lower where a cause stands; it keeps the limits on the board; and, where none stands, what it sends leaves the
-- last seats below the board's
pub record MovesSeats (p : Settings) (now : ℕ) (run : List Happening) (d : Deed) : Type 0 where
  pub tells : AreLower (seat_told (told run ++ option_to_list d.told))
      (at_last (seat_told (told run)) (take (if d.taken then 1 else 0) (queue run)))
  pub opens_none : is_some (reason run) ≡ true
      → AreLower (seat_told (told run ++ option_to_list d.told)) (seat_told (told run))
  pub keeps : AreKeptIn p (board_seat run) → AreKeptIn p (seat_after now d.part run)
  pub sends : reason run ≡ None
      → AreLower (at_last (seat_told (told run ++ option_to_list d.told)) (rest_of d run)) (board_seat run)
      → AreLower (at_last (at_last (seat_told (told run ++ option_to_list d.told)) (rest_of d run))
      (option_to_list d.sent)) (seat_after now d.part run)

-- a deed that tells nothing and takes no message
pub tells_nothing : (run : List Happening) → AreLower (seat_told (told run ++ [])) (seat_told (told run))
tells_nothing run = same_lower _ _ (λ k. seat_told-nothing k (told run))

-- what an admission does to the seats
pub admits : (p : Settings) (now : ℕ) (index : Option StressIndex) (run : List Happening) (o : Option Newcomer)
    → newcomer p index (units p run) ≡ o
    → MovesSeats p now run (admission o)
admits p now index run None e = record {
  tells = tells_nothing run;
  opens_none = λ cause. tells_nothing run;
  keeps = λ h. h;
  sends = λ calm h. h;
}
admits p now index run (Some new) e = record {
  tells = tells_nothing run;
  opens_none = λ cause. tells_nothing run;
  keeps = joins_kept p now index run new e;
  sends = λ calm. joins_last p now run new.unit new.sent _ (new_unit p index run new e);
}

-- what a unit's own turn does to the seats
pub unit_moves : (p : Settings) (f : Frame) (now : ℕ) (run : List Happening) (j : ℕ) (turn : UnitTurn)
    (v : Option UnitView) → Holds p now run → unit_of j run ≡ v → unit_takes now v turn ≡ true
    → is_answer turn ≡ false → MovesSeats p now run (taken_deed now j turn v)
unit_moves p f now run j turn None h e en other = cc
unit_moves p f now run j turn (Some u) h e en other = record {
  tells = tells_nothing run;
  opens_none = λ cause. tells_nothing run;
  keeps = λ kept. kept_fewer p _ (board_seat run) (acts_lower now j turn run) kept;
  sends = λ calm. acts_last now j turn run u _ e en
      (λ is. let same : is_answer turn ≡ true = ap is_answer is in cc) (h.named j u e).0;
}

-- a cause leaves the seats
pub caused_moves : (p : Settings) (now : ℕ) (run : List Happening) (moment : Moment) (o : Option Cause) (t : Tally)
    (d : Deed)
    → MovesSeats p now run d → MovesSeats p now run (caused moment t o d)
caused_moves p now run moment None t d moves = moves
caused_moves p now run moment (Some cause) t d moves = record {
  tells = moves.tells;
  opens_none = moves.opens_none;
  keeps = moves.keeps;
  sends = moves.sends;
}

-- a test of which nothing was told is in no seat by what was told, and messages that say nothing of it leave its seat
untold_gone : (k : ℕ) (es : List ReporterEvent) → account_of k es ≡ [] → seat_told es k ≡ Gone
untold_gone k es none =
    ap (λ b. if b && not (list_any (finishes k) es) then seat_in (slots_told k es) else Gone)
    (starts-account k es ∙ ap (list_any is_start) none)

opened_apart : (k : ℕ) (m : Message) (seat : ℕ → Seat) → pending_in k m ≡ None → opened m seat k ≡ seat k
opened_apart k (Start start) seat e = by_unit (start.test.unit == k) e
  where
    by_unit : (b : Bool) → (if b then Some started else None) ≡ None
        → (if b then seat_in (Some start.slot) else seat k) ≡ seat k
    by_unit true e = cc
    by_unit false e = refl
opened_apart k (Finish finish) seat e = by_unit (finish.test.unit == k) e
  where
    by_unit : (b : Bool) → (if b then Some (finished finish.statuses) else None) ≡ None
        → (if b then Gone else seat k) ≡ seat k
    by_unit true e = cc
    by_unit false e = refl
opened_apart k m seat e = refl

at_last_apart : (k : ℕ) (ms : List Message) (seat : ℕ → Seat) → pending_of k ms ≡ [] → at_last seat ms k ≡ seat k
at_last_apart k [] seat none = refl
at_last_apart k (m ∷ ms) seat none =
    let apart = both (pending_in k m) refl none in
    at_last_apart k ms (opened m seat) apart.1 ∙ opened_apart k m seat apart.0
  where
    both : (o : Option News) → pending_in k m ≡ o → pending_of k (m ∷ ms) ≡ []
        → (pending_in k m ≡ None) × (pending_of k ms ≡ [])
    both None e none = (e, rw e at none)
    both (Some news) e none = let never = rw e at none in cc

-- what waits of a unit whose start is the oldest message: nothing else
start_alone : (p : Settings) (f : Frame) (now : ℕ) (run : List Happening) (k : ℕ) (m : Message) (rest : List Message)
    → Holds p now run → queue run ≡ m ∷ rest → pending_in k m ≡ Some started → pending_of k rest ≡ []
start_alone p f now run k m rest h eq starts =
    alone (is_mismatched p k) (was_left k run) (unit_of k run) (account_of k (told run)) (rw eq at (h.accounts k))
  where
    alone : (mm left : Bool) (v : Option UnitView) (t : List News)
        → HasAccount mm left v t (pending_of k (m ∷ rest)) → pending_of k rest ≡ []
    alone mm left None t h = let never = (rw starts at h).1 in cc
    alone mm left (Some u) t h =
        (start_in mm left u.phase u.statuses t (pending_of k rest) (rw starts at h)).2

-- nothing is let go where a cause stands
goes_on : (why : Option CancelReason) → is_some why ≡ true → is_none why ≡ true → false ≡ true
goes_on None some none = some
goes_on (Some r) some none = none

-- what the delivery of a start does to the seats: one that isn't let go leaves its seat
pub start_moves : (p : Settings) (f : Frame) (now : ℕ) (run : List Happening) (start : TestStart) (rest : List Message)
    (go : Bool) (w : Option UnitView) → Holds p now run → queue run ≡ Start start ∷ rest
    → go ≡ is_none (reason run) → unit_of start.test.unit run ≡ w
    → MovesSeats p now run (record (taken_deed now start.test.unit (Answered go) w) {
      taken = true;
      told = option_map (event_in now f) (if go then Some (started_event start (with_start (tally p run))) else None);
    })
start_moves p f now run start rest go None h eq goes ew =
    let waits = start_waits p now run start.test.unit (Start start) rest h eq (start_own start) in
    let never : None ≡ Some waits.unit = sym ew ∙ waits.is in cc
start_moves p f now run start rest true (Some u) h eq goes ew =
    let waits = start_waits p now run start.test.unit (Start start) rest h eq (start_own start) in
    let same : waits.unit ≡ u = cc (sym waits.is ∙ ew) in
    let waiting : takes now u (Answered true) ≡ true =
    ap (λ (u : UnitView). takes now u (Answered true)) (sym same)
    ∙ ap (λ ph. takes_at now ph waits.unit (Answered true)) waits.phase in
    record {
      tells = same_lower _ _ (λ k.
          seat_told-started k (moment_in now f) (told run) start (with_start (tally p run)) waits.untold
          ∙ ap (λ q. at_last (seat_told (told run)) (take 1 q) k) (sym eq));
      opens_none = λ cause. absurd (let never = goes_on (reason run) cause (sym goes) in cc);
      keeps = λ kept. kept_fewer p _ (board_seat run) (acts_lower now start.test.unit (Answered true) run) kept;
      sends = λ calm. acts_last now start.test.unit (Answered true) run u _ ew waiting (λ is. cc)
          (h.named start.test.unit u ew).0;
    }
start_moves p f now run start rest false (Some u) h eq goes ew =
    let waits = start_waits p now run start.test.unit (Start start) rest h eq (start_own start) in
    let same : waits.unit ≡ u = cc (sym waits.is ∙ ew) in
    let phase : u.phase ≡ StartSent = ap (λ (u : UnitView). u.phase) (sym same) ∙ waits.phase in
    let untold : seat_told (told run ++ []) start.test.unit ≡ Gone =
    seat_told-nothing start.test.unit (told run) ∙ untold_gone start.test.unit (told run) waits.untold in
    record {
      tells = λ k. subst (λ q. IsBelow (seat_told (told run ++ []) k) (at_last (seat_told (told run)) (take 1 q) k))
          (sym eq) (refused_tells k (start.test.unit == k) refl waits.untold);
      opens_none = λ cause. tells_nothing run;
      keeps = λ kept. kept_fewer p _ (board_seat run) (acts_lower now start.test.unit (Answered false) run) kept;
      sends = λ calm. acts_refused now start.test.unit run u _ ew phase
          (ap (λ q. at_last (seat_told (told run ++ [])) (drop 1 q) start.test.unit) eq
          ∙ at_last_apart start.test.unit rest (seat_told (told run ++ []))
          (start_alone p f now run start.test.unit (Start start) rest h eq (start_own start))
          ∙ untold);
    }
  where
    refused_tells : (k : ℕ) (b : Bool) → (start.test.unit == k) ≡ b → account_of start.test.unit (told run) ≡ []
        → IsBelow (seat_told (told run ++ []) k) (if start.test.unit == k then seat_in (Some start.slot)
        else seat_told (told run) k)
    refused_tells k true e none used =
        let here : start.test.unit ≡ k = grind arith in
        let gone : seat_told (told run ++ []) k ≡ Gone =
        seat_told-nothing k (told run) ∙ untold_gone k (told run)
        (ap (λ k. account_of k (told run)) (sym here) ∙ none) in
        let never : false ≡ true = sym (ap is_in_use gone) ∙ used in cc
    refused_tells k false e none used = rw e (seat_told-nothing k (told run))

-- a script that is told started is in no seat, and neither is one that is told finished
script_started : (k : ℕ) (moment : Moment) (es : List ReporterEvent) (start : ScriptStart)
    → account_of start.script.unit es ≡ []
    → IsBelow (seat_told (es ++ event moment (SetupScriptStarted start) ∷ []) k) (seat_told es k)
script_started k moment es start none = by_unit (start.script.unit == k) refl
  where
    e : ReporterEvent
    e = event moment (SetupScriptStarted start)

    by_unit : (b : Bool) → (start.script.unit == k) ≡ b → IsBelow (seat_told (es ++ e ∷ []) k) (seat_told es k)
    by_unit true is used =
        let here : start.script.unit ≡ k = grind arith in
        let no_start : list_any (starts k) es ≡ false =
        starts-account k es ∙ ap (list_any is_start) (ap (λ k. account_of k es) (sym here) ∙ none) in
        let no_slots : slots_told k (es ++ e ∷ []) ≡ None =
        slots_told-append k es (e ∷ []) ∙ ap (λ o. option_or o None) (none_told k es no_start) in
        let gone : seat_told (es ++ e ∷ []) k ≡ Gone =
        ap (λ o. if is_running (es ++ e ∷ []) k then seat_in o else Gone) no_slots
        ∙ either (is_running (es ++ e ∷ []) k) in
        let never : false ≡ true = sym (ap is_in_use gone) ∙ used in cc
      where
        either : (b : Bool) → (if b then Gone else Gone) ≡ Gone
        either true = refl
        either false = refl
    by_unit false is used = seat_told-other k es e is refl

pub script_finished : (k : ℕ) (moment : Moment) (es : List ReporterEvent) (finish : ScriptFinish)
    → IsBelow (seat_told (es ++ event moment (SetupScriptFinished finish) ∷ []) k) (seat_told es k)
script_finished k moment es finish = by_unit (finish.script.unit == k) refl
  where
    e : ReporterEvent
    e = event moment (SetupScriptFinished finish)

    by_unit : (b : Bool) → (finish.script.unit == k) ≡ b → IsBelow (seat_told (es ++ e ∷ []) k) (seat_told es k)
    by_unit true is used =
        let gone : seat_told (es ++ e ∷ []) k ≡ Gone = finished_gone k es e is in
        let never : false ≡ true = sym (ap is_in_use gone) ∙ used in cc
    by_unit false is used = seat_told-other k es e refl is

-- what the delivery of a script's start does to the seats
pub script_moves : (p : Settings) (f : Frame) (now : ℕ) (run : List Happening) (start : ScriptStart)
    (rest : List Message)
    (go : Bool) (w : Option UnitView) → Holds p now run → queue run ≡ ScriptStarts start ∷ rest
    → go ≡ is_none (reason run) → unit_of start.script.unit run ≡ w
    → MovesSeats p now run (record (taken_deed now start.script.unit (Answered go) w) {
      taken = true;
      told = option_map (event_in now f) (if go then Some (SetupScriptStarted start) else None);
    })
script_moves p f now run start rest go None h eq goes ew =
    let waits = start_waits p now run start.script.unit (ScriptStarts start) rest h eq (script_own start) in
    let never : None ≡ Some waits.unit = sym ew ∙ waits.is in cc
script_moves p f now run start rest go (Some u) h eq goes ew =
    let waits = start_waits p now run start.script.unit (ScriptStarts start) rest h eq (script_own start) in
    let same : waits.unit ≡ u = cc (sym waits.is ∙ ew) in
    let phase : u.phase ≡ StartSent = ap (λ (u : UnitView). u.phase) (sym same) ∙ waits.phase in
    record {
      tells = λ k used. tells go k waits.untold used
          ∙ ap (λ q. at_last (seat_told (told run)) (take 1 q) k) (sym eq);
      opens_none = λ cause k used. tells go k waits.untold used;
      keeps = λ kept. kept_fewer p _ (board_seat run) (acts_lower now start.script.unit (Answered go) run) kept;
      sends = λ calm. by_go go phase (goes ∙ ap is_none calm);
    }
  where
    tells : (go : Bool) (k : ℕ) → account_of start.script.unit (told run) ≡ []
        → IsBelow (seat_told (told run ++ option_to_list (option_map (event_in now f)
        (if go then Some (SetupScriptStarted start) else None))) k) (seat_told (told run) k)
    tells true k untold used = script_started k (moment_in now f) (told run) start untold used
    tells false k untold used = seat_told-nothing k (told run)

    by_go : (go : Bool) → u.phase ≡ StartSent → go ≡ true → {seat : ℕ → Seat} → AreLower seat (board_seat run)
        → AreLower (at_last seat (option_to_list (row now (Answered go) u).sent))
        (seat_after now (Some (Acts start.script.unit (Answered go))) run)
    by_go false phase lets below = cc
    by_go true phase lets below =
        acts_last now start.script.unit (Answered true) run u _ ew (ap (λ ph. takes_at now ph u (Answered true)) phase)
        (λ is. cc) (h.named start.script.unit u ew).0 below

-- the delivery of a retry leaves the seats by what was told
retry_told : (run : List Happening) (f : Frame) (now : ℕ) (retry : TestRetry) (t : Tally) (go : Bool) (k : ℕ)
    → seat_told (told run ++ option_to_list (option_map (event_in now f)
    (if go then Some (retried_event retry t) else None))) k ≡ seat_told (told run) k
retry_told run f now retry t true k = seat_told-other k (told run) _ refl refl
retry_told run f now retry t false k = seat_told-nothing k (told run)

pub retry_moves : (p : Settings) (f : Frame) (now : ℕ) (run : List Happening) (retry : TestRetry) (rest : List Message)
    (go : Bool) (w : Option UnitView) → Holds p now run → queue run ≡ Retry retry ∷ rest
    → go ≡ is_none (reason run) → unit_of retry.start.test.unit run ≡ w
    → MovesSeats p now run (record (taken_deed now retry.start.test.unit (Answered go) w) {
      taken = true;
      told = option_map (event_in now f) (if go then Some (retried_event retry (tally p run)) else None);
    })
retry_moves p f now run retry rest go w h eq goes ew = record {
  tells = same_lower _ _ (λ k. retry_told run f now retry (tally p run) go k
      ∙ ap (λ q. at_last (seat_told (told run)) (take 1 q) k) (sym eq));
  opens_none = λ cause. same_lower _ _ (retry_told run f now retry (tally p run) go);
  keeps = keeps w;
  sends = λ calm. by_go go w ew (goes ∙ ap is_none calm);
}
  where
    unit : ℕ
    unit = retry.start.test.unit

    keeps : (w : Option UnitView) → AreKeptIn p (board_seat run)
        → AreKeptIn p (seat_after now (option_map (λ v. Acts unit (Answered go)) w) run)
    keeps None kept = kept
    keeps (Some u) kept = kept_fewer p _ (board_seat run) (acts_lower now unit (Answered go) run) kept

    by_go : (go : Bool) (w : Option UnitView) → unit_of unit run ≡ w → go ≡ true
        → {seat : ℕ → Seat} → AreLower seat (board_seat run)
        → AreLower (at_last seat (option_to_list (taken_deed now unit (Answered go) w).sent))
        (seat_after now (taken_deed now unit (Answered go) w).part run)
    by_go false w ew lets below = cc
    by_go true None ew lets below = below
    by_go true (Some u) ew lets below =
        let waits = retry_waits p now run retry rest h eq in
        let same : waits.unit ≡ u = cc (sym waits.is ∙ ew) in
        let waiting : takes now u (Answered true) ≡ true =
        ap (λ (u : UnitView). takes now u (Answered true)) (sym same)
        ∙ ap (λ ph. takes_at now ph waits.unit (Answered true)) waits.phase in
        acts_last now unit (Answered true) run u _ ew waiting (λ is. cc) (h.named unit u ew).0 below
