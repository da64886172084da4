-- A unit that has ended its last attempt answers each query in its line with that.
use Rattle.std.proofs.Common.{◌≡◌, ℕ, ◌==◌, ◌&&◌, List, [], ◌∷◌, ◌++◌, map, reverse, Bool, true, false, Option, Some}
use Rattle.std.proofs.Common.{None, is_none, option_map, unwrap_or, refl, ap, sym, subst, ◌∙◌, arith, inl, inr}
use Rattle.std.proofs.Common.{if◌then◌else◌, nat_lt}
use Rattle.std.proofs.lemmas.Option.{same_Some}
use Rattle.std.specs.Cmp.{first_so, second_so}
use Rattle.std.proofs.lemmas.List.{reverse-append}
use Rattle.run_events.specs.declared.cancel.CancelReason.{CancelReason}
use Rattle.run_events.specs.declared.info.InfoResponse.{InfoResponse}
use Rattle.run_events.specs.declared.result.ExecuteStatus.{ExecuteStatus}
use Rattle.run_events.specs.declared.settings.Settings.{Settings}
use Rattle.run_events.specs.declared.info.UnitState.TheVariants.{Exited}
use Rattle.run_model.specs.declared.entry.Entry.{Entry}
use Rattle.run_model.specs.declared.happening.Happening.{Happening}
use Rattle.run_model.specs.declared.happening.UnitPart.{UnitPart}
use Rattle.run_model.specs.declared.happening.UnitPart.TheVariants.{Joins, Acts}
use Rattle.run_model.specs.declared.phase.Phase.{Phase}
use Rattle.run_model.specs.declared.phase.Phase.TheVariants.{Deciding, Delay}
use Rattle.run_model.specs.declared.unit_turn.UnitTurn.{UnitTurn}
use Rattle.run_model.specs.declared.unit_turn.UnitTurn.TheVariants.{Answered}
use Rattle.run_model.specs.declared.unit_view.UnitRole.{UnitRole}
use Rattle.run_model.specs.declared.unit_view.UnitRole.TheVariants as roles
use Rattle.run_model.specs.declared.unit_view.UnitView.{UnitView}
use Rattle.run_model.specs.Accounts.{HasAccount, account_of, is_mismatched, pending_of}
use Rattle.run_model.specs.Admission.{is_done, is_last, unit_terms}
use Rattle.run_model.specs.Attempts.{statuses_of, ended_statuses}
use Rattle.run_model.specs.Board.{Deed, board}
use Rattle.run_model.specs.Ending.{last_status}
use Rattle.run_model.specs.Info.{answers_to, exited_answer, fault_in, rounds_in, subject_of}
use Rattle.run_model.specs.Journal.{IsLegal, IsLegalBackward, history, past_of}
use Rattle.run_model.specs.Row.{Row}
use Rattle.run_model.specs.Story.{deliveries, lets_go, line_of, pieces, stopped_at, story_of, was_left, Attempt, cut}
use Rattle.run_model.specs.Turns.{deed_on, enabled, happening}
use Rattle.run_model.specs.Unit.{at_moment, row, row_at, takes, takes_at}
use Rattle.run_model.specs.Words.{clock, queue, reason, sub_run, told, unit_after, unit_of}
use Rattle.run_laws_rounds.specs.Requests.{AnswersAsExited, exited_with, is_turn_of}
use Rattle.run_laws.specs.Starts.{env_said}
use Rattle.run_laws.proofs.board.ByTurn.{is_answer}
use Rattle.run_laws.proofs.board.DeedFits.{PartFits}
use Rattle.run_laws.proofs.board.Facts.{unstopped}
use Rattle.run_laws.proofs.board.Holds.{HasLine, HasLineIn, Holds, IsOnWay, way_of}
use Rattle.run_laws.proofs.board.Kept.{HoldsAfter, holds}
use Rattle.run_laws_rounds.proofs.rounds.DeedAnswers.{answers_as, info_by, part_fits}
use Rattle.run_laws_rounds.proofs.rounds.RowLeaves.{reach_done, stopped_with}
use Rattle.run_laws_rounds.proofs.rounds.Taken.{ended_in}
use Rattle.run_laws_rounds.proofs.rounds.Shown.{IsShown}
use Rattle.run_laws_rounds.proofs.rounds.ShownRuns.{IsShownIf, shown}
use Rattle.run_laws.proofs.told.PlannedTurns.{HasReadIf}
use Rattle.run_laws.proofs.told.StartLemmas.{has_starts}
use Rattle.run_laws.proofs.units.AttemptLemmas.{IsMadeIf, made_statuses, HasPieces, IsMade}
use Rattle.run_laws.proofs.units.LetGo.{and_true, lets_go-is}
use Rattle.run_laws.proofs.units.Rows.{StaysOrGoes, Takes, answers, opens, decides, passes, again, continues}
use Rattle.run_laws.proofs.units.Rows.{decide_cases, row_moves, row_passes, row_takes, takes_moment}
use Rattle.run_laws.proofs.units.GoingLemmas.{ended_statuses-past, next_status}
use Rattle.run_laws.proofs.units.AccountRows.{last-append}
use Rattle.run_laws.proofs.board.OnBoard.{Frame}
use Rattle.run_laws.proofs.board.OnBoard.{frame_of}
use Rattle.run_laws.proofs.board.UnitDeeds.{same_unit}

-- one that a cause stops is stopped
is_stopped : (stopped : Option ℕ) (why : Option CancelReason) (delivered : ℕ) → stopped ≡ None → false ≡ is_none why
    → is_none (stopped_with stopped true why delivered) ≡ false
is_stopped stopped None delivered none never = cc
is_stopped stopped (Some why) delivered none never = rw none refl

-- a row with which a unit has ended its last attempt
row_finishes : (now : ℕ) (ph : Phase) (turn : UnitTurn) (u : UnitView) (stopped : Option ℕ) (why : Option CancelReason)
    (delivered : ℕ) → u.phase ≡ ph → takes_at now ph u turn ≡ true → stopped ≡ None
    → ((go : Bool) → turn ≡ Answered go → go ≡ is_none why)
    → is_last (row_at now ph turn u).next.phase ≡ true
    → is_none (stopped_with stopped (is_answer turn) why delivered) ≡ true
    → (ph ≡ Deciding) × ((row_at now ph turn u).info ≡ answers_to (rounds_in u.line) (exited_answer u))
row_finishes now ph turn u stopped why delivered is en none goes done on = by_take (row_takes now ph turn u en)
  where
    Finishes : Row → Type 0
    Finishes r = is_last r.next.phase ≡ true → r.info ≡ answers_to (rounds_in u.line) (exited_answer u)

    not_over : is_last (row_at now ph turn u).next.phase ≡ false
        → (ph ≡ Deciding) × ((row_at now ph turn u).info ≡ answers_to (rounds_in u.line) (exited_answer u))
    not_over going = let never : false ≡ true = sym going ∙ done in cc

    refused : turn ≡ Answered false
        → (ph ≡ Deciding) × ((row_at now ph turn u).info ≡ answers_to (rounds_in u.line) (exited_answer u))
    refused to =
        let stays : is_none (stopped_with stopped true why delivered) ≡ true =
        subst (λ turn. is_none (stopped_with stopped (is_answer turn) why delivered) ≡ true) to on in
        let never : false ≡ true = sym (is_stopped stopped why delivered none (goes false to)) ∙ stays in cc

    delay_on : (r : Row) → StaysOrGoes u r → is_last r.next.phase ≡ false
    delay_on r (inl stays) = ap is_last stays.0
    delay_on r (inr leaves) = ap is_last leaves.0

    by_take : Takes ph turn
        → (ph ≡ Deciding) × ((row_at now ph turn u).info ≡ answers_to (rounds_in u.line) (exited_answer u))
    by_take (answers true at to) = not_over (rw (at, to) refl)
    by_take (answers false at to) = refused to
    by_take (opens going) =
        not_over (continues u (row_at now ph turn u) (row_moves now ph turn u is going)).phase
    by_take (decides word at to) =
        let finish : Finishes (row_at now ph turn u) =
        rw (at, to) (decide_cases Finishes now word u (λ more last. cc) (λ over last. refl)) in
        (at, finish done)
    by_take (passes at to) =
        not_over (subst (λ ph. is_last (row_at now ph turn u).next.phase ≡ false) (sym at)
        (delay_on (row_at now Delay turn u) (row_passes now turn u (is ∙ at)).way))
    by_take (again true at to) = not_over (rw (at, to) refl)
    by_take (again false at to) = refused to

-- what it answers is the same wherever its latest turn was
pub subject_at : (now : ℕ) (u : UnitView) → subject_of u.role (at_moment now u) ≡ subject_of u.role u
subject_at now u = by_role u.role
  where
    by_role : (role : UnitRole) → subject_of role (at_moment now u) ≡ subject_of role u
    by_role (roles.Test t) = refl
    by_role (roles.Script s) = refl

exited_at : (now : ℕ) (u : UnitView) (s : ExecuteStatus) (rounds : List ℕ) → last_status u.statuses ≡ Some s
    → s.slow ≡ nat_lt 0 u.timers.slow_count
    → answers_to rounds (exited_answer (at_moment now u)) ≡ map (λ round. (round, exited_with u.terms u.env s u)) rounds
exited_at now u s rounds last slow = rw (last, subject_at now u) (ap (λ b. map (λ round. (
  round,
  record {
    subject = subject_of u.role u;
    state = Exited s.result s.time (if b then Some u.terms.slow.period else None) (fault_in u.env);
    output = s.output;
  },
)) rounds) (sym slow))

-- it was slow as its last attempt was
slow_said : (u : UnitView) (ps : List Attempt) (s : ExecuteStatus) → HasPieces u.terms Deciding u ps
    → IsShown Deciding u ps → last_status u.statuses ≡ Some s → s.slow ≡ nat_lt 0 u.timers.slow_count
slow_said u [] s past counted last = absurd past
slow_said u (cut piece (d ∷ after) ∷ earlier) s past counted last = absurd past
slow_said u (cut piece [] ∷ earlier) s past counted last =
    let same : s ≡ next_status u.terms piece earlier = same_Some _ _ (sym last
    ∙ ap last_status (past.1 ∙ ended_statuses-past u.terms piece earlier past.0)
    ∙ last-append (ended_statuses u.terms earlier) (next_status u.terms piece earlier)) in
    ap (λ (s : ExecuteStatus). s.slow) same ∙ ap (nat_lt 0) counted

-- so a turn with which a unit has finished
turn_finishes : (p : Settings) (f : Frame) (now : ℕ) (run : List Happening) (k : ℕ) (turn : UnitTurn) (u : UnitView)
    → Holds p now run → IsShownIf (unit_of k run) (story_of k run)
    → HasReadIf (unit_of k run) (story_of k run) → unit_of k run ≡ Some u
    → takes now u turn ≡ true
    → ((go : Bool) → turn ≡ Answered go → go ≡ is_none (reason run))
    → is_last (row now turn u).next.phase ≡ true
    → is_none (stopped_with (stopped_at k run) (is_answer turn) (reason run) (deliveries k run)) ≡ true
    → (s : ExecuteStatus) × ((last_status (statuses_of p k run) ≡ Some s)
    × ((row now turn u).info
    ≡ map (λ round. (round, exited_with (unit_terms p k) (env_said (story_of k run)) s u))
    (rounds_in (line_of k run))))
turn_finishes p f now run k turn u h shows reads is en goes done on =
    let it = row_finishes now u.phase turn (at_moment now u) (stopped_at k run) (reason run) (deliveries k run) refl
    (takes_moment now u.phase u turn en) none goes done on in
    let last = ended_in (is_mismatched p k) (was_left k run) u.phase u.statuses (account_of k (told run))
    (pending_of k (queue run)) (inl it.0) account in
    let lined : u.line ≡ line_of k run = subst (λ ph. HasLineIn ph u.line (line_of k run)) it.0 line in (
      last.0,
      (
        sym (ap last_status statuses) ∙ last.1,
        it.1 ∙ exited_at now u last.0 (rounds_in u.line) last.1 (slow it.0 last.0 last.1)
            ∙ ap (λ terms. map (λ round. (round, exited_with terms u.env last.0 u)) (rounds_in u.line)) made.terms
            ∙ ap (λ env. map (λ round. (round, exited_with (unit_terms p k) env last.0 u)) (rounds_in u.line)) read
            ∙ ap (λ line. map (λ round. (round, exited_with (unit_terms p k) (env_said (story_of k run)) last.0 u))
            (rounds_in line)) lined,
      ),
    )
  where
    line : HasLineIn u.phase u.line (line_of k run)
    line = subst (λ v. HasLine v (line_of k run)) is (h.lines k)

    none : stopped_at k run ≡ None
    none = unstopped (is_mismatched p k) now u turn (way_of k run) en
        (subst (λ v. IsOnWay (is_mismatched p k) v (way_of k run)) is (h.on_way k))

    account : HasAccount (is_mismatched p k) (was_left k run) (Some u) (account_of k (told run))
        (pending_of k (queue run))
    account = subst (λ v. HasAccount (is_mismatched p k) (was_left k run) v (account_of k (told run))
        (pending_of k (queue run))) is (h.accounts k)

    ps : List Attempt
    ps = pieces (story_of k run)

    read : u.env ≡ env_said (story_of k run)
    read = (subst (λ v. HasReadIf v (story_of k run)) is reads).0

    made : IsMade (unit_terms p k) u ps
    made = subst (λ v. IsMadeIf (unit_terms p k) v (story_of k run)) is (h.made k)

    statuses : u.statuses ≡ statuses_of p k run
    statuses = made_statuses (unit_terms p k) u ps made

    slow : u.phase ≡ Deciding → (s : ExecuteStatus) → last_status u.statuses ≡ Some s
        → s.slow ≡ nat_lt 0 u.timers.slow_count
    slow at s last =
        slow_said u ps s
        (subst (λ ph. HasPieces u.terms ph u ps) at
        (subst (λ terms. HasPieces terms u.phase u ps) (sym made.terms) made.has))
        (subst (λ ph. IsShown ph u ps) at (subst (λ v. IsShownIf v (story_of k run)) is shows)) last

part_finishes : (p : Settings) (f : Frame) (now : ℕ) (run : List Happening) (k : ℕ) (u : UnitView)
    (part : Option UnitPart) (info : List (ℕ × InfoResponse)) → Holds p now run → IsShownIf (unit_of k run)
    (story_of k run) → HasReadIf (unit_of k run) (story_of k run) → PartFits p now run part
    → info ≡ info_by now run part → is_turn_of k part ≡ true → unit_of k run ≡ Some u
    → is_done (unit_after now k part (unit_of k run)) ≡ true
    → is_none (stopped_with (stopped_at k run) (lets_go k part) (reason run) (deliveries k run)) ≡ true
    → (s : ExecuteStatus) × ((last_status (statuses_of p k run) ≡ Some s)
    × (info ≡ map (λ round. (round, exited_with (unit_terms p k) (env_said (story_of k run)) s u))
    (rounds_in (line_of k run))))
part_finishes p f now run k u None info h shows reads fits given own is done on = cc
part_finishes p f now run k u (Some (Joins first)) info h shows reads fits given own is done on = cc
part_finishes p f now run k u (Some (Acts j turn)) info h shows reads fits given own is done on =
    let here : k ≡ j = same_unit j k own in
    let same : fits.unit ≡ u = same_Some _ _ (sym fits.is ∙ ap (λ k. unit_of k run) (sym here) ∙ is) in
    let en : takes now u turn ≡ true = ap (λ u. takes now u turn) (sym same) ∙ fits.takes in
    let over_now : is_last (row now turn u).next.phase ≡ true = over_by (rw own at done) in
    let it = turn_finishes p f now run k turn u h shows reads is en fits.answers over_now (on_by own) in (
      it.0,
      (
        it.1.0,
        given ∙ ap (λ v. unwrap_or (option_map (λ v. (row now turn v).info) v) [])
            (fits.is ∙ ap Some same) ∙ it.1.1,
      ),
    )
  where
    over_by : is_done (option_map (λ w. (row now turn w).next) (unit_of k run)) ≡ true
        → is_last (row now turn u).next.phase ≡ true
    over_by done = sym (ap (λ v. is_done (option_map (λ w. (row now turn w).next) v)) is) ∙ done

    on_by : (j == k) ≡ true
        → is_none (stopped_with (stopped_at k run) (is_answer turn) (reason run) (deliveries k run)) ≡ true
    on_by own = ap (λ b. is_none (stopped_with (stopped_at k run) b (reason run) (deliveries k run)))
        (sym (lets_go-is j k turn ∙ ap (λ b. is_answer turn && b) own ∙ and_true (is_answer turn))) ∙ on

finishes : (p : Settings) (past : List Happening) (e : Entry) → HoldsAfter p past
    → ((k : ℕ) → IsShownIf (unit_of k (sub_run past)) (story_of k (sub_run past)))
    → ((k : ℕ) → HasReadIf (unit_of k (sub_run past)) (story_of k (sub_run past))) → enabled p past e.turn ≡ true
    → AnswersAsExited p (sub_run past) (happening p past e)
finishes p past e h shows reads en k u own is done =
    part_finishes p (frame_of p past) (clock past) run k u d.part d.info h (shows k) (reads k) (part_fits p past e h en)
    (answers_as p past e.turn h) own is
    (sym (reach_done d.request v) ∙ first_so (is_done after) (is_none (stopped_at k (happening p past e ∷ run))) done)
    (second_so (is_done after) (is_none (stopped_at k (happening p past e ∷ run))) done)
  where
    run : List Happening
    run = sub_run past

    d : Deed
    d = deed_on p (board p past) e.turn

    v : Option UnitView
    v = unit_after (clock past) k d.part (unit_of k run)

    after : Option UnitView
    after = unit_of k (happening p past e ∷ run)

pub finishes_so : (p : Settings) (journal : List Entry) (e : Entry) → IsLegal p (journal ++ e ∷ [])
    → AnswersAsExited p (sub_run (past_of p journal)) (happening p (past_of p journal) e)
finishes_so p journal e legal =
    let backward : IsLegalBackward p (e ∷ reverse journal) =
    subst (IsLegalBackward p) (reverse-append journal (e ∷ [])) legal in
    finishes p (history p (reverse journal)) e (holds p (reverse journal) backward.2)
    (shown p (reverse journal) backward.2) (has_starts p (reverse journal) backward.2).reads backward.0
