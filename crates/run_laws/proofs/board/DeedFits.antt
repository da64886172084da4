-- What it is that a deed fits a sub-run.
use Rattle.std.proofs.Common.{◌≡◌, ℕ, ◌+◌, ◌<◌, ◌≤◌, ◌||◌, List, [], ◌∷◌, ◌++◌, length, drop, Bool, true, false}
use Rattle.std.proofs.Common.{if◌then◌else◌, Option, Some, None, option_to_list, is_none, is_some, ◌&&◌}
use Rattle.std.proofs.Common.{option_and_then, refl, ap, sym, subst}
use Rattle.std.specs.Prelude.{⊤, IfSome}
use Rattle.std.specs.List.{list_any}
use Rattle.std.specs.Option.{option_or}
use Rattle.run_events.specs.declared.settings.Settings.{Settings}
use Rattle.run_events.specs.declared.turn.Turn.TheVariants.{End}
use Rattle.run_events.specs.declared.ask.Ask.{Ask}
use Rattle.run_events.specs.declared.ask.Ask.TheVariants.{StopSelf}
use Rattle.run_events.specs.declared.message.Message.{Message}
use Rattle.run_events.specs.declared.events.ReporterEvent.{ReporterEvent}
use Rattle.run_events.specs.declared.events.ReporterEvent.TheVariants.{Test}
use Rattle.run_events.specs.declared.events.TestEventKind.{TestEventKind}
use Rattle.run_events.specs.declared.events.TestEventKind.TheVariants.{SetupScriptStarted, SetupScriptFinished}
use Rattle.run_events.specs.declared.events.TestEventKind.TheVariants.{TestStarted, TestFinished}
use Rattle.run_model.specs.declared.happening.Happening.{Happening}
use Rattle.run_model.specs.declared.happening.UnitPart.{UnitPart}
use Rattle.run_model.specs.declared.happening.UnitPart.TheVariants.{Joins, Acts}
use Rattle.run_model.specs.declared.unit_turn.UnitTurn.{UnitTurn}
use Rattle.run_model.specs.declared.unit_turn.UnitTurn.TheVariants.{Answered}
use Rattle.run_model.specs.declared.unit_view.UnitView.{UnitView}
use Rattle.run_model.specs.Unit.{row, takes}
use Rattle.run_model.specs.Story.{lets_go, deliveries, is_at_retry, stopped_at, was_left}
use Rattle.run_model.specs.Words.{is_on, is_running, reason, sent, delivered, queue, told, unit_of, unit_after, tally}
use Rattle.run_model.specs.Rounds.{tells_answer, opens_round, open_round, answers_told, answers_given}
use Rattle.run_model.specs.Admission.{scripts_in, units_in, unit_terms}
use Rattle.run_model.specs.Dispatch.{event, having_told}
use Rattle.run_model.specs.Board.{Deed, deed_events}
use Rattle.run_model.specs.Turns.{is_complete, nothing_done, run_turn}
use Rattle.run_model.specs.Accounts.{HasAccount, is_mismatched, account_of, pending_of}
use Rattle.run_laws.proofs.told.Cancels.{cancel_for, IsAfter, cancel_is}
use Rattle.run_laws.proofs.told.Bounds.{IsBound, IsBoundAfter, bound_after}
use Rattle.run_laws.proofs.units.AccountLemmas.{IsFirst}
use Rattle.run_laws.proofs.units.RowSends.{IsOfKindIf, IsAsRole}
use Rattle.run_laws.proofs.board.Order.{AreSettled}
use Rattle.run_laws.specs.Scripts.{starts_test}
use Rattle.run_laws.proofs.units.FaceLemmas.{said_of}
use Rattle.run_laws.proofs.told.Reported.{DoesReport}
use Rattle.run_laws.proofs.board.OnBoard.{Frame, board_of, moment_in}
use Rattle.run_laws.proofs.board.Newcomers.{IsNew}
use Rattle.run_events.specs.declared.stress.StressIndex.{StressIndex}
use Rattle.run_model.specs.Admission.{index_of_role}
use Rattle.run_laws.proofs.board.OnBoard.{index_in}

-- a unit that takes a turn was admitted and takes it, and is let go where no cause stands
pub record IsTaken (now : ℕ) (run : List Happening) (k : ℕ) (turn : UnitTurn) : Type 0 where
  pub unit : UnitView
  pub is : unit_of k run ≡ Some unit
  pub takes : takes now unit turn ≡ true
  pub answers : (go : Bool) → turn ≡ Answered go → go ≡ is_none (reason run)

abbrev pub PartFits : Settings → ℕ → List Happening → Option UnitPart → Type 0
PartFits p now run None = ⊤
PartFits p now run (Some (Joins first)) = (sent : Message) × IsNew p run first sent
PartFits p now run (Some (Acts k turn)) = IsTaken now run k turn

-- a start is told of a unit of its kind of which nothing was told, a finish of one that runs
abbrev pub ToldFitsIn : Settings → List ReporterEvent → TestEventKind → Type 0
ToldFitsIn p es (SetupScriptStarted e) = (e.script.unit < scripts_in p) × (account_of e.script.unit es ≡ [])
ToldFitsIn p es (SetupScriptFinished e) = (e.script.unit < scripts_in p) × (is_running es e.script.unit ≡ true)
ToldFitsIn p es (TestStarted e) =
    (scripts_in p ≤ e.start.test.unit) × (e.start.test.unit < units_in p) × (account_of e.start.test.unit es ≡ [])
ToldFitsIn p es (TestFinished e) =
    (scripts_in p ≤ e.finish.test.unit) × (e.finish.test.unit < units_in p) × (is_running es e.finish.test.unit ≡ true)
ToldFitsIn p es _ = ⊤

abbrev pub ToldFits : Settings → List ReporterEvent → Option ReporterEvent → Type 0
ToldFits p es (Some (Test e)) = ToldFitsIn p es e.kind
ToldFits p es _ = ⊤

-- a deed that begins a sub-run does nothing else but tell it
pub record IsBegin (d : Deed) : Type 0 where
  pub part : d.part ≡ None
  pub sent : d.sent ≡ None
  pub info : d.info ≡ []
  pub taken : d.taken ≡ false
  pub asked : d.asked ≡ None
  pub cause : d.cause ≡ None
  pub request : d.request ≡ None
  pub stops : d.stops ≡ false
  pub ends : d.ends ≡ false

-- a deed tells of its cause after all else, but where a sub-run begins or ends with it, which has no cause; a sub-run
-- begins with it where nothing has happened in it, and else one is on, or nothing is done; it ends the run only as the
-- end of a complete sub-run does. The runner stops itself with one that tells nothing; a round is opened where a
-- sub-run is on; and an answer is told that was given and wasn't told
pub record Marks (p : Settings) (f : Frame) (now : ℕ) (run : List Happening) (d : Deed) : Type 0 where
  pub cancel : (d.begins || d.ends) ≡ false
      → d.after ≡ cancel_for (moment_in now f) (having_told (tally p run) d.told) d.cause
  pub bounds : (d.begins || d.ends) ≡ true → IsBound d.told × IsBoundAfter d.after × (d.cause ≡ None)
  pub begins : d.begins ≡ true → (run ≡ []) × IsBegin d
  pub still : (d.begins || is_on run) ≡ false → d ≡ nothing_done
  pub finishes : d.over ≡ true → d.ends ≡ true
  pub ends : d.ends ≡ true → (d ≡ run_turn p (board_of p f now run) End)
      × (is_complete (board_of p f now run) ≡ true)
  pub stops : d.stops ≡ true → d.told ≡ None
  pub opens : opens_round d.request ≡ true → is_on run ≡ true
  pub answers : tells_answer d.told ≡ true → answers_told run < length (answers_given (open_round run) run)

-- what it tells after its own event says nothing of a unit
pub cancel_told : (p : Settings) (f : Frame) (now : ℕ) (run : List Happening) (d : Deed) → Marks p f now run d
    → IsAfter d.after
cancel_told p f now run d marks = by_bound (d.begins || d.ends) refl
  where
    by_bound : (b : Bool) → (d.begins || d.ends) ≡ b → IsAfter d.after
    by_bound true is = bound_after d.after (marks.bounds is).1
    by_bound false is =
        subst IsAfter (sym (marks.cancel is)) (cancel_is (moment_in now f) (having_told (tally p run) d.told) d.cause)

-- whether unit k was left, after one more turn with this part
abbrev pub left_with : ℕ → List Happening → Option UnitPart → Bool
left_with k run part = if lets_go k part && is_some (reason run)
    then is_at_retry (option_or (stopped_at k run) (Some (deliveries k run))) else was_left k run

-- it is that of the longer history
pub or_none : (o : Option ℕ) → option_or o None ≡ o
or_none None = refl
or_none (Some n) = refl

pub left-cons : (k : ℕ) (x : Happening) (run : List Happening) → left_with k run x.part ≡ was_left k (x ∷ run)
left-cons k x run = by_stop (lets_go k x.part && is_some (reason run))
  where
    by_stop : (b : Bool)
        → (if b then is_at_retry (option_or (stopped_at k run) (Some (deliveries k run))) else was_left k run)
        ≡ is_at_retry (option_or (stopped_at k run) (if b then Some (deliveries k run) else None))
    by_stop true = refl
    by_stop false = sym (ap is_at_retry (or_none (stopped_at k run)))

-- what is sent is of a script where the unit that has the part is one
abbrev pub IsSentBy : Option UnitView → Message → Type 0
IsSentBy None m = ⊥
IsSentBy (Some u) m = IsAsRole u.role m

abbrev pub IsSentFor : List Happening → Option UnitPart → Option Message → Type 0
IsSentFor run part None = ⊤
IsSentFor run None (Some m) = ⊥
IsSentFor run (Some (Joins first)) (Some m) = IsAsRole first.role m
IsSentFor run (Some (Acts j turn)) (Some m) = IsSentBy (unit_of j run) m

-- whether an event tells the start of a script
abbrev pub starts_script_in : TestEventKind → Bool
starts_script_in (SetupScriptStarted start) = true
starts_script_in _ = false

abbrev pub starts_script : ReporterEvent → Bool
starts_script (Test event) = starts_script_in event.kind
starts_script _ = false

-- a test is told started once no script is to be told anything more, and a script before that; a start, and the finish
-- of a script, that is told is the oldest message
pub record IsInOrder (p : Settings) (run : List Happening) (e : ReporterEvent) : Type 0 where
  pub test : starts_test e ≡ true → AreSettled p run
  pub script : starts_script e ≡ true → list_any starts_test (told run) ≡ false
  pub said : (m : Message) → said_of e ≡ Some m → (rest : List Message) × (queue run ≡ m ∷ rest)

-- what is asked is what the row of its part asks, or that the runner stops itself
abbrev pub asked_by : ℕ → List Happening → Option UnitPart → Option Ask
asked_by now run (Some (Acts j turn)) = option_and_then (λ v. (row now turn v).asked) (unit_of j run)
asked_by now run _ = None

abbrev pub asked_with : ℕ → List Happening → Deed → Option Ask
asked_with now run d = if d.stops then Some StopSelf else asked_by now run d.part

-- what is sent is the first message of a unit that joins, or what the row of its part sends
abbrev pub IsSentAs : ℕ → List Happening → Option UnitPart → Option Message → Type 0
IsSentAs now run None sent = sent ≡ None
IsSentAs now run (Some (Joins first)) None = ⊤
IsSentAs now run (Some (Joins first)) (Some m) = (skipped : Bool) × IsFirst skipped first m
IsSentAs now run (Some (Acts j turn)) sent = sent ≡ option_and_then (λ v. (row now turn v).sent) (unit_of j run)

-- a unit that joins is of this sub-run of a stress run
abbrev pub JoinsAs : Option StressIndex → Option UnitPart → Type 0
JoinsAs index (Some (Joins first)) = index_of_role first.role ≡ index
JoinsAs index part = ⊤

-- what a deed does fits a sub-run
pub record Does (p : Settings) (f : Frame) (now : ℕ) (run : List Happening) (d : Deed) : Type 0 where
  pub part : PartFits p now run d.part
  pub index : JoinsAs (index_in p f) d.part
  pub room : delivered run + (if d.taken then 1 else 0) ≤ length (sent run)
  pub sends : IsOfKindIf p d.sent
  pub tells : ToldFits p (told run) d.told
  pub accounts : (k : ℕ) → HasAccount (is_mismatched p k) (left_with k run d.part)
      (unit_after now k d.part (unit_of k run))
      (account_of k (told run) ++ account_of k (deed_events d))
      (pending_of k (drop (if d.taken then 1 else 0) (queue run) ++ option_to_list d.sent))
  pub reported : (k : ℕ) → DoesReport (unit_terms p k) k now run d
  pub source : IsSentFor run d.part d.sent
  pub asks : d.asked ≡ asked_with now run d
  pub sent_as : IsSentAs now run d.part d.sent
  pub order : IfSome d.told (IsInOrder p run)
  pub marks : Marks p f now run d
