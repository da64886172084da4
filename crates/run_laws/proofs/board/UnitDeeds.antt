-- What a unit's own turn does, and the delivery of its start and of its retry, fits the sub-run before it.
use Rattle.std.proofs.Common.{◌≡◌, ℕ, zero, suc, ◌<◌, ◌||◌, ◌==◌, List, [], ◌∷◌, ◌++◌, drop, Bool, true, false, not}
use Rattle.std.proofs.Common.{if◌then◌else◌, Option, Some, None, option_and_then, option_map, option_to_list, is_none}
use Rattle.std.proofs.Common.{is_some, IfSome, refl, ap, sym, subst, ◌∙◌, arith}
use Rattle.std.specs.Option.{option_or}
use Rattle.std.proofs.lemmas.List.{append-nil}
use Rattle.run_events.specs.declared.settings.Settings.{Settings}
use Rattle.run_events.specs.declared.message.Message.{Message}
use Rattle.run_events.specs.declared.message.Message.TheVariants.{Retry}
use Rattle.run_events.specs.declared.message.TestRetry.{TestRetry}
use Rattle.run_events.specs.declared.cancel.CancelReason.{CancelReason}
use Rattle.run_events.specs.declared.events.TestEventKind.{TestEventKind}
use Rattle.run_model.specs.declared.happening.Happening.{Happening}
use Rattle.run_model.specs.declared.happening.UnitPart.{UnitPart}
use Rattle.run_model.specs.declared.happening.UnitPart.TheVariants.{Acts}
use Rattle.run_model.specs.declared.unit_turn.UnitTurn.{UnitTurn}
use Rattle.run_model.specs.declared.unit_turn.UnitTurn.TheVariants.{Answered}
use Rattle.run_model.specs.declared.unit_view.UnitRole.{UnitRole}
use Rattle.run_model.specs.declared.unit_view.UnitRole.TheVariants as roles
use Rattle.run_model.specs.declared.unit_view.UnitView.{UnitView}
use Rattle.run_model.specs.Environment.{number}
use Rattle.run_model.specs.Unit.{at_moment, row, takes, takes_at}
use Rattle.run_model.specs.declared.phase.Phase.TheVariants.{Over, RetrySent, StartSent}
use Rattle.run_model.specs.Story.{begins_attempt, deliveries, is_at_retry, lets_go, line_of, story_of}
use Rattle.run_model.specs.Story.{stopped_at, was_left}
use Rattle.run_model.specs.Words.{is_on, reason, sent, delivered, queue, told, unit_of, units, unit_after, tally}
use Rattle.run_model.specs.Admission.{is_script, units_in, unit_terms, start_message, Newcomer, newcomer}
use Rattle.run_model.specs.Rounds.{tells_answer, is_answer as is_told_answer}
use Rattle.run_model.specs.Dispatch.{Moment, event, having_told, retried_event}
use Rattle.run_model.specs.Board.{Deed, deed_events}
use Rattle.run_model.specs.Turns.{unit_takes, taken_deed, admission}
use Rattle.run_model.specs.Accounts.{started, HasAccount, is_mismatched, account_of, news_in, pending_in, pending_of}
use Rattle.run_laws.proofs.board.Holds.{HasLine, Holds, IsOnWay, IsOnWayAt, IsStill, IsWaiting, is_script_role, way_of}
use Rattle.run_laws.proofs.units.OneOff.{tried_once, once_later}
use Rattle.run_laws.proofs.units.Lines.{own_request}
use Rattle.run_laws.proofs.told.Cancels.{cancel_for}
use Rattle.run_laws.proofs.board.Queue.{lt-from_queue}
use Rattle.run_laws.proofs.board.ByTurn.{is_answer}
use Rattle.run_laws.proofs.units.AccountLemmas.{begins, first_kind, first_role, news_for, of_retry, of_row, of_start}
use Rattle.run_laws.proofs.units.AccountLemmas.{IsFirst}
use Rattle.run_laws.proofs.units.RowSends.{HoldsIf, IsAsRole, row_sends_kind, row_sends_role}
use Rattle.run_laws.proofs.units.Rows.{takes_moment}
use Rattle.run_laws.specs.Reports.{report_in, report_of_kind, reports_told, reports_waiting}
use Rattle.run_laws.proofs.told.Reported.{DoesReport, still_reports, acts_report}
use Rattle.run_laws.proofs.board.Newcomers.{new_unit, new_index}
use Rattle.run_laws.proofs.board.OnBoard.{Frame, event_in, index_in, moment_in}
use Rattle.run_laws.proofs.board.Facts.{delay_number, delivered_once, retry_waits, start_waits, undelivered}
use Rattle.run_laws.proofs.units.AccountRows.{same_number}
use Rattle.run_laws.proofs.board.Facts.{unleft, unstopped}
use Rattle.run_laws.proofs.board.DeedFits.{ToldFitsIn, ToldFits, Marks, left_with, IsSentFor, IsInOrder, Does}

-- a deed that neither cancels nor begins nor ends
pub quiet : (p : Settings) (f : Frame) (now : ℕ) (run : List Happening) (d : Deed) → is_on run ≡ true
    → d.cause ≡ None → d.after ≡ None → d.begins ≡ false → d.over ≡ false → d.ends ≡ false → d.stops ≡ false
    → tells_answer d.told ≡ false → Marks p f now run d
quiet p f now run d on cause cancel begins over_not ends stops answers = record {
  cancel = λ _. cancel ∙ sym (ap (cancel_for (moment_in now f) (having_told (tally p run) d.told)) cause);
  bounds = λ some. let never : false ≡ true = sym (rw (begins, ends) refl) ∙ some in cc;
  begins = λ h. cc;
  still = λ off. let never : true ≡ false = sym (ap (λ b. b || is_on run) begins ∙ on) ∙ off in cc;
  finishes = λ over. let never : false ≡ true = sym over_not ∙ over in cc;
  ends = λ h. cc;
  stops = λ h. cc;
  opens = λ _. on;
  answers = λ h. cc;
}

-- what a unit's own turn asks and reports, in a deed that tells no report
acts_reported : (p : Settings) (f : Frame) (now : ℕ) (run : List Happening) (j : ℕ) (turn : UnitTurn) (u : UnitView)
    (k : ℕ) (d : Deed) → Holds p now run → unit_of j run ≡ Some u → takes now u turn ≡ true
    → d.part ≡ Some (Acts j turn) → d.asked ≡ (row now turn u).asked → d.sent ≡ (row now turn u).sent
    → reports_told k (deed_events d) ++ reports_waiting k (drop (if d.taken then 1 else 0) (queue run))
    ≡ reports_waiting k (queue run)
    → DoesReport (unit_terms p k) k now run d
acts_reported p f now run j turn u k d h is en part asked sent tells =
    let it = acts_report (unit_terms p k) k now j turn u (unit_of k run) (line_of k run) (story_of k run) en
    (h.named j u is).2 (tried_once p now run j u h is) (h.named j u is).0
    (λ same. let here : k ≡ j = grind arith in own_request now turn u (line_of k run) en
    (subst (λ v. HasLine v (line_of k run)) (ap (λ k. unit_of k run) here ∙ is) (h.lines k)))
    (λ same. let here : k ≡ j = grind arith in ap (λ k. unit_of k run) here ∙ is) (h.made k) in
    record { asks = rw (part, asked) it.asks; sends = rw (part, sent) it.sends; tells = tells }

-- the first message of a unit is no slow report
start_silent : (role : UnitRole) (u : UnitView) (k : ℕ) → reports_waiting k (start_message role u ∷ []) ≡ []
start_silent (roles.Test t) u k = refl
start_silent (roles.Script s) u k = refl

first_reports : (mm : Bool) (u : UnitView) (sent : Message) (k : ℕ) → IsFirst mm u sent
    → reports_waiting k (sent ∷ []) ≡ []
first_reports true u sent k (ph, (t, (role, (reason, is)))) = rw is refl
first_reports false u sent k (ph, is) = rw is (start_silent u.role u k)

-- what an admission does
pub admits : (p : Settings) (f : Frame) (now : ℕ) (run : List Happening) (o : Option Newcomer) → Holds p now run
    → is_on run ≡ true
    → newcomer p (index_in p f) (units p run) ≡ o → is_some o ≡ true → Does p f now run (admission o)
admits p f now run None h on e en = cc
admits p f now run (Some new) h on e en =
    let it = new_unit p (index_in p f) run new e in
    record {
      part = (new.sent, it);
      index = new_index p (index_in p f) (units p run) new e;
      room = omega (arith, h.fits);
      sends = first_kind p _ new.unit new.sent it.role it.first;
      tells = tt;
      accounts = λ k. begins (is_mismatched p (number new.unit)) (is_mismatched p k)
          (was_left k run) k new.unit new.sent (unit_of k run)
          (account_of k (told run)) (queue run) it.first it.statuses
          (λ same. let here : k ≡ (number new.unit) = grind arith in ap (λ k. is_mismatched p k) here)
          (λ same. let here : k ≡ (number new.unit) = grind arith in ap (λ k. unit_of k run) here ∙ it.unknown)
          (h.accounts k);
      reported = λ k. still_reports _ k now run _ refl refl (first_reports _ new.unit new.sent k it.first) refl;
      source = first_role _ new.unit new.sent it.first;
      asks = refl;
      sent_as = (_, it.first);
      order = tt;
      marks = quiet p f now run _ on refl refl refl refl refl refl refl;
    }

-- a turn that is no answer delivers no start, nor a retry
lets_none : (j k : ℕ) (turn : UnitTurn) → is_answer turn ≡ false → lets_go k (Some (Acts j turn)) ≡ false
lets_none j k (Answered go) other = cc
lets_none j k turn other = refl

-- and where none is, a unit was left only where it was before
left_apart : (k : ℕ) (run : List Happening) (part : Option UnitPart) → lets_go k part ≡ false
    → left_with k run part ≡ was_left k run
left_apart k run part none = rw none refl

-- a unit has the role that its number says
kind_of : (p : Settings) (f : Frame) (now : ℕ) (run : List Happening) (k : ℕ) (u : UnitView) → Holds p now run
    → unit_of k run ≡ Some u → is_script_role u.role ≡ is_script p (number u)
kind_of p f now run k u h is = let named = h.named k u is in named.3 ∙ ap (is_script p) (sym named.0)

-- what its row sends is sent for it
sent_for : (run : List Happening) (j : ℕ) (turn : UnitTurn) (u : UnitView) (o : Option Message) → unit_of j run ≡ Some u
    → HoldsIf (IsAsRole u.role) o → IsSentFor run (Some (Acts j turn)) o
sent_for run j turn u None e h = tt
sent_for run j turn u (Some m) e h = rw e h

-- a unit that is over takes no turn
takes_none : (now : ℕ) (u : UnitView) (turn : UnitTurn) → u.phase ≡ Over → takes now u turn ≡ true → ⊥
takes_none now u turn over en =
    let never : false ≡ true = sym (ap (λ ph. takes_at now ph u turn) over) ∙ en in cc

-- what a unit's own turn does
pub unit_does : (p : Settings) (f : Frame) (now : ℕ) (run : List Happening) (j : ℕ) (turn : UnitTurn)
    (v : Option UnitView) → Holds p now run
    → unit_of j run ≡ v → unit_takes now v turn ≡ true → is_answer turn ≡ false
    → Does p f now run (taken_deed now j turn v)
unit_does p f now run j turn None h e en other = cc
unit_does p f now run j turn (Some u) h e en other = record {
  part = record {
    unit = u;
    is = e;
    takes = en;
    answers = λ go is. let same : is_answer turn ≡ true = ap is_answer is in cc;
  };
  index = tt;
  room = omega (arith, h.fits);
  sends = row_sends_kind p now u.phase turn (at_moment now u) (kind_of p f now run j u h e) refl
      (takes_moment now u.phase u turn en);
  tells = tt;
  accounts = λ k. subst (λ b. HasAccount (is_mismatched p k) b
      (unit_after now k (Some (Acts j turn)) (unit_of k run)) (account_of k (told run) ++ [])
      (pending_of k (queue run ++ option_to_list (row now turn u).sent))) (sym (left_still k))
      (rw (append-nil (account_of k (told run))) (of_row (is_mismatched p k) (was_left k run) now j k turn u
      (unit_of k run) (account_of k (told run)) (queue run)
      en other (h.named j u e).0 (λ same. own k same) (λ same. unleft (is_mismatched p k) now u turn
      (way_of k run) en (subst (λ v. IsOnWay (is_mismatched p k) v (way_of k run)) (own k same) (h.on_way k)))
      (once_later now u (tried_once p now run j u h e)) (λ same. delay_number (is_mismatched p k) u (way_of k run)
      (subst (λ v. IsOnWay (is_mismatched p k) v (way_of k run)) (own k same) (h.on_way k))) (h.accounts k)));
  reported = λ k. acts_reported p f now run j turn u k _ h e en refl refl refl refl;
  source = sent_for run j turn u (row now turn u).sent e
      (row_sends_role now u.phase turn (at_moment now u) refl (takes_moment now u.phase u turn en));
  asks = sym (ap (option_and_then (λ v. (row now turn v).asked)) e);
  sent_as = sym (ap (option_and_then (λ v. (row now turn v).sent)) e);
  order = tt;
  marks = quiet p f now run _ (by_on (is_on run) refl) refl refl refl refl refl refl refl;
}
  where
    own : (k : ℕ) → (j == k) ≡ true → unit_of k run ≡ Some u
    own k same = let here : k ≡ j = grind arith in ap (λ k. unit_of k run) here ∙ e

    left_still : (k : ℕ) → left_with k run (Some (Acts j turn)) ≡ was_left k run
    left_still k = left_apart k run (Some (Acts j turn)) (lets_none j k turn other)

    by_on : (b : Bool) → is_on run ≡ b → is_on run ≡ true
    by_on true is = is
    by_on false is = absurd (takes_none now u turn (subst IsStill e (h.still is j)) en)

-- a start that is told, or isn't, is no answer to a query
tells_none : (go : Bool) (moment : Moment) (kind : TestEventKind) → is_told_answer kind ≡ false
    → tells_answer (option_map (event moment) (if go then Some kind else None)) ≡ false
tells_none true moment kind none = none
tells_none false moment kind none = refl

-- what the delivery of a start message does, which tells an event of this kind where its unit is let go
pub start_does : (p : Settings) (f : Frame) (now : ℕ) (run : List Happening) (i : ℕ) (m : Message)
    (kind : TestEventKind)
    (rest : List Message) (go : Bool) (w : Option UnitView)
    → Holds p now run → is_on run ≡ true → go ≡ is_none (reason run) → queue run ≡ m ∷ rest
    → ((k : ℕ) → pending_in k m ≡ news_for i started k) → ((k : ℕ) → news_in k kind ≡ news_for i started k)
    → ((k : ℕ) → report_in k m ≡ None) → ((k : ℕ) → report_of_kind k kind ≡ None) → is_told_answer kind ≡ false
    → (account_of i (told run) ≡ [] → i < units_in p → ToldFitsIn p (told run) kind)
    → (is_some (unit_of i run) ≡ true → IsInOrder p run (event_in now f kind))
    → unit_of i run ≡ w
    → Does p f now run (record (taken_deed now i (Answered go) w) {
      taken = true;
      told = option_map (event_in now f) (if go then Some kind else None);
    })
start_does p f now run i m kind rest go None h on goes eq pends news silent quiet_kind no_answer fits order ew =
    let waits = start_waits p now run i m rest h eq (pends i ∙ rw (same_number i) refl) in
    let never : None ≡ Some waits.unit = sym ew ∙ waits.is in cc
start_does p f now run i m kind rest go (Some u) h on goes eq pends news silent quiet_kind no_answer fits order ew =
    let waits = start_waits p now run i m rest h eq (pends i ∙ rw (same_number i) refl) in
    let same : waits.unit ≡ u = cc (sym waits.is ∙ ew) in
    let at : u.phase ≡ StartSent = ap (λ (u : UnitView). u.phase) (sym same) ∙ waits.phase in
    let waiting : takes now u (Answered go) ≡ true = ap (λ ph. takes_at now ph u (Answered go)) at in
    record {
      part = record {
        unit = u;
        is = ew;
        takes = waiting;
        answers = λ answer is. sym (ap begins_attempt is) ∙ goes;
      };
      index = tt;
      room = lt-from_queue (delivered run) (sent run) rest _ eq;
      sends = row_sends_kind p now u.phase (Answered go) (at_moment now u) (kind_of p f now run i u h ew) refl
          (takes_moment now u.phase u (Answered go) waiting);
      tells = start_told go (fits waits.untold waits.below);
      accounts = λ k. rw (eq, told_events go, left_still k u ew at)
          (of_start (is_mismatched p k) (was_left k run) now (moment_in now f) k i go u (unit_of k run)
          (account_of k (told run)) rest m kind (pends k) (news k) at (λ same. own k u ew same)
          (λ same. unleft (is_mismatched p k) now u (Answered go)
          (way_of k run) waiting (on_way k u ew same))
          (rw eq at (h.accounts k)));
      reported = λ k. acts_reported p f now run i (Answered go) u k _ h ew waiting refl refl refl
          (rw eq (start_reports k go));
      source = sent_for run i (Answered go) u (row now (Answered go) u).sent ew
          (row_sends_role now u.phase (Answered go) (at_moment now u) refl
          (takes_moment now u.phase u (Answered go) waiting));
      asks = sym (ap (option_and_then (λ v. (row now (Answered go) v).asked)) ew);
      sent_as = sym (ap (option_and_then (λ v. (row now (Answered go) v).sent)) ew);
      order = in_order go (order (ap is_some ew));
      marks = quiet p f now run _ on refl refl refl refl refl refl
          (tells_none go _ _ no_answer);
    }
  where
    own : (k : ℕ) (u : UnitView) → unit_of i run ≡ Some u → (i == k) ≡ true → unit_of k run ≡ Some u
    own k u ew same = let here : k ≡ i = grind arith in ap (λ k. unit_of k run) here ∙ ew

    on_way : (k : ℕ) (u : UnitView) → unit_of i run ≡ Some u → (i == k) ≡ true
        → IsOnWayAt (is_mismatched p k) u (way_of k run)
    on_way k u ew same =
        subst (λ v. IsOnWay (is_mismatched p k) v (way_of k run)) (own k u ew same) (h.on_way k)

    left_still : (k : ℕ) (u : UnitView) → unit_of i run ≡ Some u → u.phase ≡ StartSent
        → left_with k run (Some (Acts i (Answered go))) ≡ was_left k run
    left_still k u ew at = by_unit (i == k) refl
      where
        by_reason : (why : Option CancelReason)
            → (if is_some why then is_at_retry (option_or None (Some 0)) else is_at_retry None) ≡ is_at_retry None
        by_reason None = refl
        by_reason (Some why) = refl

        by_unit : (b : Bool) → (i == k) ≡ b → left_with k run (Some (Acts i (Answered go))) ≡ was_left k run
        by_unit true e =
            let waits : IsWaiting (way_of k run) =
            undelivered (is_mismatched p k) u (way_of k run) at (on_way k u ew e) in
            rw (e, waits.0, waits.1) (by_reason (reason run))
        by_unit false e = left_apart k run (Some (Acts i (Answered go))) e

    start_told : (go : Bool) → ToldFitsIn p (told run) kind
        → ToldFits p (told run) (option_map (event_in now f) (if go then Some kind else None))
    start_told true fits = fits
    start_told false fits = tt

    in_order : (go : Bool) → IsInOrder p run (event_in now f kind)
        → IfSome (option_map (event_in now f) (if go then Some kind else None)) (IsInOrder p run)
    in_order true order = order
    in_order false order = tt

    told_events : (go : Bool) → option_to_list (option_map (event_in now f) (if go then Some kind else None)) ++ []
        ≡ option_to_list (if go then Some (event_in now f kind) else None)
    told_events true = refl
    told_events false = refl

    start_reports : (k : ℕ) (go : Bool)
        → reports_told k (option_to_list (option_map (event_in now f) (if go then Some kind else None)) ++ [])
        ++ reports_waiting k rest ≡ reports_waiting k (m ∷ rest)
    start_reports k true = rw (silent k, quiet_kind k) refl
    start_reports k false = rw (silent k) refl

pub same_unit : (j k : ℕ) → (j == k) ≡ true → k ≡ j
same_unit j k e = grind arith

-- what the delivery of a retry does
pub retry_does : (p : Settings) (f : Frame) (now : ℕ) (run : List Happening) (retry : TestRetry) (rest : List Message)
    (go : Bool) (w : Option UnitView)
    → Holds p now run → is_on run ≡ true → go ≡ is_none (reason run) → queue run ≡ Retry retry ∷ rest
    → unit_of retry.start.test.unit run ≡ w
    → Does p f now run (record (taken_deed now retry.start.test.unit (Answered go) w) {
      taken = true;
      told = option_map (event_in now f) (if go then Some (retried_event retry (tally p run)) else None);
    })
retry_does p f now run retry rest go None h on goes eq ew =
    let waits = retry_waits p now run retry rest h eq in
    let never : None ≡ Some waits.unit = sym ew ∙ waits.is in cc
retry_does p f now run retry rest go (Some u) h on goes eq ew =
    let waits = retry_waits p now run retry rest h eq in
    let same : waits.unit ≡ u = cc (sym waits.is ∙ ew) in
    let at : u.phase ≡ RetrySent = ap (λ (u : UnitView). u.phase) (sym same) ∙ waits.phase in
    let waiting : takes now u (Answered go) ≡ true = ap (λ ph. takes_at now ph u (Answered go)) at in
    record {
      part = record {
        unit = u;
        is = ew;
        takes = waiting;
        answers = λ answer is. sym (ap begins_attempt is) ∙ goes;
      };
      index = tt;
      room = lt-from_queue (delivered run) (sent run) rest _ eq;
      sends = row_sends_kind p now u.phase (Answered go) (at_moment now u)
          (kind_of p f now run retry.start.test.unit u h ew) refl (takes_moment now u.phase u (Answered go) waiting);
      tells = retry_told go;
      accounts = λ k. rw (eq, told_events go) (of_retry (is_mismatched p k) (was_left k run)
          (left_with k run (Some (Acts retry.start.test.unit (Answered go)))) now (moment_in now f) k go u
          (unit_of k run) (account_of k (told run)) rest retry (tally p run) at (λ same. own k u ew same)
          (λ same. left_now k u ew at waits.matched same (unstopped (is_mismatched p k) now u (Answered go)
          (way_of k run) waiting (on_way k u ew same)))
          (left_apart k run (Some (Acts retry.start.test.unit (Answered go))))
          (rw eq at (h.accounts k)));
      reported = λ k. acts_reported p f now run retry.start.test.unit (Answered go) u k _ h ew waiting refl refl refl
          (rw eq (retry_reports k go));
      source = sent_for run retry.start.test.unit (Answered go) u (row now (Answered go) u).sent ew
          (row_sends_role now u.phase (Answered go) (at_moment now u) refl
          (takes_moment now u.phase u (Answered go) waiting));
      asks = sym (ap (option_and_then (λ v. (row now (Answered go) v).asked)) ew);
      sent_as = sym (ap (option_and_then (λ v. (row now (Answered go) v).sent)) ew);
      order = in_order go;
      marks = quiet p f now run _ on refl refl refl refl refl refl
          (tells_none go _ _ refl);
    }
  where
    own : (k : ℕ) (u : UnitView) → unit_of retry.start.test.unit run ≡ Some u → (retry.start.test.unit == k) ≡ true
        → unit_of k run ≡ Some u
    own k u ew same = ap (λ k. unit_of k run) (same_unit retry.start.test.unit k same) ∙ ew

    on_way : (k : ℕ) (u : UnitView) → unit_of retry.start.test.unit run ≡ Some u → (retry.start.test.unit == k) ≡ true
        → IsOnWayAt (is_mismatched p k) u (way_of k run)
    on_way k u ew same =
        subst (λ v. IsOnWay (is_mismatched p k) v (way_of k run)) (own k u ew same) (h.on_way k)

    caused_so : (go : Bool) → go ≡ is_none (reason run) → is_some (reason run) ≡ not go
    caused_so go goes = by_reason (reason run) goes
      where
        by_reason : (why : Option CancelReason) → go ≡ is_none why → is_some why ≡ not go
        by_reason None is = rw is refl
        by_reason (Some why) is = rw is refl

    left_now : (k : ℕ) (u : UnitView) → unit_of retry.start.test.unit run ≡ Some u → u.phase ≡ RetrySent
        → is_mismatched p retry.start.test.unit ≡ false → (retry.start.test.unit == k) ≡ true
        → stopped_at k run ≡ None
        → left_with k run (Some (Acts retry.start.test.unit (Answered go))) ≡ not go
    left_now k u ew at matched e unstopped_yet =
        let once : 0 < deliveries k run = delivered_once (is_mismatched p k) u (way_of k run)
        (ap (λ k. is_mismatched p k) (same_unit retry.start.test.unit k e) ∙ matched) at (on_way k u ew e) in
        rw (e, unstopped_yet, caused_so go goes) (by_go (not go) (deliveries k run) once)
      where
        by_go : (b : Bool) (n : ℕ) → 0 < n
            → (if b then is_at_retry (option_or None (Some n)) else is_at_retry None) ≡ b
        by_go false n some = refl
        by_go true zero some = absurd (omega arith)
        by_go true (suc n) some = refl

    in_order : (go : Bool)
        → IfSome (option_map (event_in now f) (if go then Some (retried_event retry (tally p run)) else None))
        (IsInOrder p run)
    in_order true = record { test = λ e. cc; script = λ e. cc; said = λ m e. cc }
    in_order false = tt

    retry_told : (go : Bool) → ToldFits p (told run)
        (option_map (event_in now f) (if go then Some (retried_event retry (tally p run)) else None))
    retry_told true = tt
    retry_told false = tt

    told_events : (go : Bool)
        → option_to_list (option_map (event_in now f)
        (if go then Some (retried_event retry (tally p run)) else None)) ++ []
        ≡ option_to_list (if go then Some (event_in now f (retried_event retry (tally p run))) else None)
    told_events true = refl
    told_events false = refl

    retry_reports : (k : ℕ) (go : Bool)
        → reports_told k (option_to_list (option_map (event_in now f)
        (if go then Some (retried_event retry (tally p run)) else None)) ++ [])
        ++ reports_waiting k rest ≡ reports_waiting k (Retry retry ∷ rest)
    retry_reports k true = refl
    retry_reports k false = refl
