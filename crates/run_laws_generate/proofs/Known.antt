-- What the laws of every legal journal say of the board of a run whose plan has plain tests alone.
use Rattle.std.proofs.Common.{◌≡◌, ◌⊎◌, inl, inr, ℕ, ◌<◌, List, [], length, Bool, true, false}
use Rattle.std.proofs.Common.{Some, None, refl, ap, sym, ◌∙◌, subst, arith}
use Rattle.run_events.specs.declared.message.Message.{Message}
use Rattle.run_events.specs.declared.message.Message.TheVariants as messages
use Rattle.run_events.specs.declared.result.ExecuteStatus.{ExecuteStatus}
use Rattle.run_events.specs.declared.retry_policy.MaxFail.TheVariants.{All}
use Rattle.run_events.specs.declared.settings.Settings.{Settings}
use Rattle.run_model.specs.Accounts.{News, HasAccount, HasAccountAt, is_mismatched, pending_of, account_of}
use Rattle.run_model.specs.Admission.{Newcomer, scripts_in, unit_terms}
use Rattle.run_model.specs.Board.{Board, board, unit_in}
use Rattle.run_model.specs.Environment.{number}
use Rattle.run_model.specs.Journal.{history, IsLegalBackward}
use Rattle.run_model.specs.Story.{was_left, story_of, pieces}
use Rattle.run_model.specs.Turns.{index_of}
use Rattle.run_model.specs.Words.{clock, queue, sub_run, time_limit, told, unit_of}
use Rattle.run_model.specs.declared.entry.Entry.{Entry}
use Rattle.run_model.specs.declared.happening.Happening.{Happening}
use Rattle.run_model.specs.declared.phase.Phase.{Phase}
use Rattle.run_model.specs.declared.phase.Phase.TheVariants.{StartSent}
use Rattle.run_model.specs.declared.phase.Phase.TheVariants.{RetrySent, Over}
use Rattle.run_model.specs.declared.unit_view.UnitView.{UnitView}
use Rattle.run_laws.proofs.board.Facts.{oldest_kind, script_below}
use Rattle.run_laws.proofs.board.Holds.{Holds, IsOfKind}
use Rattle.run_laws.proofs.board.Kept.{holds}
use Rattle.run_laws.proofs.board.Newcomers.{IsNew, new_unit}
use Rattle.run_laws.proofs.board.OnBoard.{unit_in-is, units-length}
use Rattle.run_laws.proofs.units.AccountLemmas.{IsFirst}
use Rattle.run_laws.proofs.units.AttemptLemmas.{IsMadeIf}
use Rattle.run_laws.proofs.units.MadeLemmas.{IsMade}
use Rattle.run_laws_events.proofs.IdleBoards.{idle_admits}
use Rattle.run_laws_generate.proofs.Steps.{IsFresh, IsKnown, IsOfTest, is_sent}
use Rattle.run_laws_generate.proofs.Weights.{IsPlain}

-- a plan of plain tests, with no scripts, whose run isn't cut short
pub record IsPlainPlan (p : Settings) : Type 0 where
  pub scripts : p.plan.scripts ≡ []
  pub single : p.stress ≡ None
  pub all : p.max_fail ≡ All
  pub unlimited : time_limit p ≡ None
  pub terms : (k : ℕ) → IsPlain (unit_terms p k)

-- where no message waits, none waits for one
waits_not : (mm left : Bool) (ph : Phase) (ss : List ExecuteStatus) (t : List News)
    → HasAccountAt mm left ph ss t [] → is_sent ph ≡ false
waits_not true left StartSent ss t h = absurd h
waits_not true left RetrySent ss t h = absurd h
waits_not false left StartSent ss t (none, (told, waits)) = cc
waits_not false left RetrySent ss t (early, (s, (e, inl (told, waits)))) = cc
waits_not false left RetrySent ss t (early, (s, (e, inr (told, waits)))) = cc
waits_not mm left ph ss t h = refl

-- what is known of the board after a legal journal
pub known : (p : Settings) (backward : List Entry) → IsPlainPlan p → IsLegalBackward p backward
    → IsKnown p (board p (history p backward))
known p backward is legal = record {
  plain = λ k u at. subst IsPlain (sym (made k u (on_board k u at)).terms) (is.terms k);
  news = λ new comes. fresh new (new_unit p (index_of b.dispatcher) run new comes);
  kinds = λ m rest q. by_kind m (oldest_kind p (clock past) run m rest h q);
  waits = λ empty k u at. accounted empty k u (on_board k u at);
  admits = λ on over k below none. idle_admits p backward k legal on
      (λ k u at. over k u (unit_in-is p (clock past) run k h ∙ at)) (omega (arith, below, units-length p run))
      (sym (unit_in-is p (clock past) run k h) ∙ none);
  whole = units-length p run;
}
  where
    past : List Happening
    past = history p backward

    run : List Happening
    run = sub_run past

    b : Board
    b = board p past

    h : Holds p (clock past) run
    h = holds p backward legal

    on_board : (k : ℕ) (u : UnitView) → unit_in b k ≡ Some u → unit_of k run ≡ Some u
    on_board k u at = sym (unit_in-is p (clock past) run k h) ∙ at

    made : (k : ℕ) (u : UnitView) → unit_of k run ≡ Some u → IsMade (unit_terms p k) u (pieces (story_of k run))
    made k u at = subst (λ v. IsMadeIf (unit_terms p k) v (story_of k run)) at (h.made k)

    by_first : (mm : Bool) (u : UnitView) (sent : Message) → IsFirst mm u sent
        → (u.phase ≡ StartSent) ⊎ (u.phase ≡ Over)
    by_first true u sent first = inr first.0
    by_first false u sent first = inl first.0

    fresh : (new : Newcomer) → IsNew p run new.unit new.sent → IsFresh b new.unit
    fresh new it = record {
      below = let below = it.below in omega (arith, units-length p run);
      absent = unit_in-is p (clock past) run (number new.unit) h ∙ it.unknown;
      attempt = it.attempt;
      line = it.line;
      plain = subst IsPlain (sym it.terms) (is.terms (number new.unit));
      phase = by_first (is_mismatched p (number new.unit)) new.unit new.sent it.first;
    }

    by_kind : (m : Message) → IsOfKind p m → IsOfTest m
    by_kind (messages.ScriptFinish finish) kind =
        let below : finish.script.unit < scripts_in p = script_below p finish.script.unit kind in
        let none : scripts_in p ≡ 0 = ap length is.scripts in absurd (omega arith)
    by_kind m kind = tt

    accounted : queue run ≡ [] → (k : ℕ) (u : UnitView) → unit_of k run ≡ Some u → is_sent u.phase ≡ false
    accounted empty k u at =
        waits_not (is_mismatched p k) (was_left k run) u.phase u.statuses (account_of k (told run))
        (subst (λ q. HasAccount (is_mismatched p k) (was_left k run) (Some u) (account_of k (told run))
        (pending_of k q))
        empty (subst (λ v. HasAccount (is_mismatched p k) (was_left k run) v (account_of k (told run))
        (pending_of k (queue run))) at (h.accounts k)))
