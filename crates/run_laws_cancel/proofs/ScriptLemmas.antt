-- Scripts are admitted, and told started, one by one.
use Rattle.std.proofs.Common.{◌≡◌, ◌⊎◌, inl, inr, ℕ, ◌+◌, ◌<◌, ◌≤◌, ◌==◌, ◌&&◌, ◌||◌, List, [], ◌∷◌, ◌++◌, drop, length}
use Rattle.std.proofs.Common.{Bool, true, false, not, if◌then◌else◌, Option, Some, None, is_some, option_to_list}
use Rattle.std.proofs.Common.{nat_le, refl, ap, sym, subst, ◌∙◌, arith, append-nil, append_assoc}
use Rattle.std.specs.Prelude.{IfSome}
use Rattle.std.specs.Cmp.{second_so}
use Rattle.std.specs.List.{list_any}
use Rattle.run_events.specs.declared.events.ReporterEvent.{ReporterEvent}
use Rattle.run_events.specs.declared.events.ReporterEvent.TheVariants.{Tick, Test}
use Rattle.run_events.specs.declared.events.TestEventKind.{TestEventKind}
use Rattle.run_events.specs.declared.events.TestEventKind.TheVariants.{SetupScriptStarted, TestStarted}
use Rattle.run_events.specs.declared.message.Message.{Message}
use Rattle.run_events.specs.declared.message.Message.TheVariants.{ScriptStart}
use Rattle.run_events.specs.declared.message.ScriptStart.{ScriptStart as Start}
use Rattle.run_events.specs.declared.settings.Settings.{Settings}
use Rattle.run_model.specs.declared.entry.Entry.{Entry}
use Rattle.run_model.specs.declared.happening.Happening.{Happening}
use Rattle.run_model.specs.declared.happening.UnitPart.TheVariants.{Joins}
use Rattle.run_model.specs.declared.phase.Phase.{Phase}
use Rattle.run_model.specs.declared.phase.Phase.TheVariants.{Over, StartSent}
use Rattle.run_model.specs.declared.unit_view.AttemptTerms.{AttemptTerms}
use Rattle.run_model.specs.declared.unit_view.UnitView.{UnitView}
use Rattle.run_model.specs.Accounts.{News, started, HasAccount, is_mismatched}
use Rattle.run_model.specs.Accounts.{account_of, pending_in, pending_of}
use Rattle.run_model.specs.Admission.{is_done, is_last, is_script, scripts_in, unit_terms}
use Rattle.run_model.specs.Backoff.{retry_count}
use Rattle.run_model.specs.Board.{Deed, board, deed_events, said}
use Rattle.run_model.specs.Environment.{number}
use Rattle.run_model.specs.Journal.{history, IsLegalBackward}
use Rattle.run_model.specs.Story.{Attempt, cut, pieces, story_of, is_at_start, was_left}
use Rattle.run_model.specs.Attempts.{result_in}
use Rattle.run_events.specs.Result.{is_success}
use Rattle.run_model.specs.Turns.{deed_on, enabled, takes_turn, turn_of_unit}
use Rattle.run_model.specs.Words.{clock, finishes, is_over, queue, starts, starts_in, sub_run, told, unit_after}
use Rattle.run_model.specs.Words.{unit_of}
use Rattle.run_laws.proofs.units.AttemptLemmas.{HasPieces, IsMade, IsMadeIf}
use Rattle.run_laws.proofs.told.Cancels.{IsAfter, cancel_apart}
use Rattle.run_laws.proofs.board.DeedFits.{Does, IsInOrder, cancel_told, ToldFits, ToldFitsIn}
use Rattle.run_laws.proofs.board.Facts.{Waits, start_waits}
use Rattle.run_laws.proofs.units.AccountRows.{same_number}
use Rattle.run_laws.proofs.board.Holds.{Holds, IsOnWayIn, IsOverWith, Way, way_of}
use Rattle.run_laws.proofs.board.Deeds.{base_of}
use Rattle.run_laws.proofs.board.Kept.{holds, IsOfRun, IsBeforeRuns, where_joins}
use Rattle.run_laws.proofs.board.Newcomers.{script_number}
use Rattle.run_laws.proofs.board.Queue.{queue-cons}
use Rattle.run_laws.proofs.told.Running.{is_start, starts-account}
use Rattle.run_laws_cancel.proofs.Admissions.{comes_after, each_over, joins_is, over_after}
use Rattle.run_laws.proofs.board.Ordered.{some_reach}
use Rattle.run_laws_cancel.proofs.Behind.{IsBehind, behind-drop, behind-more, is_news_of, none_waits, sends_none_of}
use Rattle.run_laws_cancel.proofs.Behind.{some-drop}
use Rattle.run_laws_cancel.specs.Reach.{is_finished}
use Rattle.run_laws_cancel.specs.Scripts.{AreAdmittedInTurn, ComeInTurn, is_done_with}
use Rattle.run_laws.proofs.board.OnBoard.{Frame}
use Rattle.run_laws.proofs.board.OnBoard.{frame_of}
use Rattle.run_laws.proofs.board.OnBoard.{index_in}
use Rattle.run_laws.proofs.board.Kept.{from_base}
use Rattle.run_laws_cancel.proofs.ScriptEnds.{way_of_script, finished_told}
use Rattle.run_laws.proofs.units.OneOff.{no_retries_of}
use Rattle.run_laws.proofs.told.FirstLemmas.{split_last}

-- before a script that was admitted each is over, and no message of one waits behind a message of it; so they are told
record AreInTurn (p : Settings) (run : List Happening) : Type 0 where
  over : (j k : ℕ) → j < k → k < scripts_in p → is_some (unit_of k run) ≡ true → is_done (unit_of j run) ≡ true
  behind : (j k : ℕ) → j < k → k < scripts_in p → IsBehind j k (queue run)
  told : ComeInTurn p (told run)

-- a unit of which something waits was admitted
waits_admitted : (mm left : Bool) (k : ℕ) (v : Option UnitView) (t : List News) (q : List Message)
    → list_any (is_news_of k) q ≡ true → HasAccount mm left v t (pending_of k q) → is_some v ≡ true
waits_admitted mm left k None t q some h = absurd (none_waits k q some h.1)
waits_admitted mm left k (Some u) t q some h = refl

behind_after : (p : Settings) (f : Frame) (now : ℕ) (run : List Happening) (e : Entry) (d : Deed) (j k : ℕ)
    → Holds p now run → Does p f now run d → AreInTurn p run → j < k → k < scripts_in p
    → IsBehind j k (queue (said now e d ∷ run))
behind_after p f now run e d j k h does was below within =
    subst (IsBehind j k) (sym (queue-cons (said now e d) run does.room)) (by_sent d.sent refl)
  where
    rest : List Message
    rest = drop (if d.taken then 1 else 0) (queue run)

    kept : IsBehind j k rest
    kept = behind-drop j k (if d.taken then 1 else 0) (queue run) (was.behind j k below within)

    apart : (m : Message) → d.sent ≡ Some m → list_any (is_news_of k) rest ≡ true → pending_in j m ≡ None
    apart m is some =
        let admitted : is_some (unit_of k run) ≡ true =
        waits_admitted (is_mismatched p k) (was_left k run) k (unit_of k run) (account_of k (told run)) (queue run)
        (some-drop (is_news_of k) (if d.taken then 1 else 0) (queue run) some) (h.accounts k) in
        subst (λ o. IfSome o (λ m. pending_in j m ≡ None)) is
        (sends_none_of p f now run d.part d.sent j h does.part does.sent_as (was.over j k below within admitted))

    by_sent : (o : Option Message) → d.sent ≡ o → IsBehind j k (rest ++ option_to_list o)
    by_sent None is = subst (IsBehind j k) (sym (append-nil rest)) kept
    by_sent (Some m) is = behind-more j k rest m kept (apart m is)

-- so where a script is told started
told_admitted : (mm left : Bool) (v : Option UnitView) (t q : List News) → list_any is_start t ≡ true
    → HasAccount mm left v t q → is_some v ≡ true
told_admitted mm left None t q some h = let never : false ≡ true = sym (ap (list_any is_start) h.0) ∙ some in cc
told_admitted mm left (Some u) t q some h = refl

start_in_turn : (p : Settings) (f : Frame) (now : ℕ) (run : List Happening) (s : Start) (rest : List Message)
    (j k : ℕ) → Holds p now run → AreInTurn p run → queue run ≡ ScriptStart s ∷ rest → s.script.unit ≡ k
    → j < scripts_in p
    → k < scripts_in p → list_any (starts j) (told run) ≡ true
    → (j < k) × (list_any (finishes j) (told run) ≡ true)
start_in_turn p f now run s rest j k h was eq here below within some = by_order (j == k) refl
  where
    own : pending_in k (ScriptStart s) ≡ Some started
    own = ap (λ n. if n == k then Some started else None) here ∙ rw (same_number k) refl

    waits : Waits p now run k
    waits = start_waits p now run k (ScriptStart s) rest h eq own

    started_j : is_some (unit_of j run) ≡ true
    started_j = told_admitted (is_mismatched p j) (was_left j run) (unit_of j run) (account_of j (told run))
        (pending_of j (queue run)) (sym (starts-account j (told run)) ∙ some) (h.accounts j)

    lower : (j == k) ≡ false → (j < k) ⊎ (k < j) → (j < k) × (list_any (finishes j) (told run) ≡ true)
    lower apart (inr above) =
        let done : is_done (unit_of k run) ≡ true = was.over k j above below started_j in
        let last : is_last StartSent ≡ true = sym (ap is_done waits.is ∙ ap is_last waits.phase) ∙ done in cc
    lower apart (inl before) = (
      before,
      finished_told p f now run j h below (was.over j k before within (ap is_some waits.is)) none some,
    )
      where
        behind : IsBehind j k (ScriptStart s ∷ rest)
        behind = subst (IsBehind j k) eq (was.behind j k before within)

        other : (s.script.unit == j) ≡ false
        other = grind arith

        none : pending_of j (queue run) ≡ []
        none = ap (pending_of j) eq ∙ rw other (behind.0 (ap is_some own))

    by_order : (b : Bool) → (j == k) ≡ b → (j < k) × (list_any (finishes j) (told run) ≡ true)
    by_order false e = lower e (grind arith)
    by_order true e =
        let same : j ≡ k = grind arith in
        let none : list_any (starts j) (told run) ≡ false =
        starts-account j (told run) ∙ ap (λ k. list_any is_start (account_of k (told run))) same
        ∙ ap (list_any is_start) waits.untold in
        let never : false ≡ true = sym none ∙ some in cc

-- what was told comes in turn with one more event that does
one_more : (p : Settings) (es : List ReporterEvent) (x : ReporterEvent) → ComeInTurn p es
    → ((j k : ℕ) → j < scripts_in p → k < scripts_in p → starts k x ≡ true → list_any (starts j) es ≡ true
    → (j < k) × (list_any (finishes j) es ≡ true)) → ComeInTurn p (es ++ x ∷ [])
one_more p es x was next j k before after e below within is start some = by_place (split_last es before after x e is)
  where
    by_place : ((before ≡ es) × (e ≡ x)) ⊎ ((rest : List ReporterEvent) × (es ≡ before ++ e ∷ rest))
        → (j < k) × (list_any (finishes j) before ≡ true)
    by_place (inl (all, last)) =
        let found = next j k below within (ap (starts k) (sym last) ∙ start)
        (ap (list_any (starts j)) (sym all) ∙ some) in
        (found.0, ap (list_any (finishes j)) all ∙ found.1)
    by_place (inr (rest, found)) = was j k before rest e below within found start some

test_apart : (p : Settings) (k n : ℕ) → k < scripts_in p → scripts_in p ≤ n → (n == k) ≡ true → ⊥
test_apart p k n below above e = let here : n ≡ k = grind arith in absurd (omega arith)

told_after : (p : Settings) (f : Frame) (now : ℕ) (run : List Happening) (d : Deed) → Holds p now run
    → Does p f now run d → AreInTurn p run → ComeInTurn p (told run ++ deed_events d)
told_after p f now run d h does was =
    subst (ComeInTurn p) (append_assoc (told run) (option_to_list d.told) (option_to_list d.after))
    (with_cancel (told run ++ option_to_list d.told) d.after cancels (with_own d.told does.tells does.order))
  where
    cancels : IsAfter d.after
    cancels = cancel_told p f now run d does.marks

    by_event : (x : ReporterEvent) → ToldFits p (told run) (Some x) → IsInOrder p run x → (j k : ℕ) → j < scripts_in p
        → k < scripts_in p → starts k x ≡ true → list_any (starts j) (told run) ≡ true
        → (j < k) × (list_any (finishes j) (told run) ≡ true)
    by_event Tick fits order j k below within start some = cc
    by_event (Test event) fits order j k below within start some = by_kind event.kind refl fits start
      where
        by_kind : (kind : TestEventKind) → event.kind ≡ kind → ToldFitsIn p (told run) kind → starts_in k kind ≡ true
            → (j < k) × (list_any (finishes j) (told run) ≡ true)
        by_kind (SetupScriptStarted s) is fits start =
            let oldest = order.said (ScriptStart s) (rw is refl) in
            start_in_turn p f now run s oldest.0 j k h was oldest.1 (grind arith) below within some
        by_kind (TestStarted s) is fits start = absurd (test_apart p k s.start.test.unit within fits.0 start)
        by_kind kind is fits start = cc

    with_own : (o : Option ReporterEvent) → ToldFits p (told run) o → IfSome o (IsInOrder p run)
        → ComeInTurn p (told run ++ option_to_list o)
    with_own None fits order = subst (ComeInTurn p) (sym (append-nil (told run))) was.told
    with_own (Some x) fits order = one_more p (told run) x was.told (by_event x fits order)

    with_cancel : (es : List ReporterEvent) (o : Option ReporterEvent) → IsAfter o → ComeInTurn p es
        → ComeInTurn p (es ++ option_to_list o)
    with_cancel es None none told = subst (ComeInTurn p) (sym (append-nil es)) told
    with_cancel es (Some x) none told = one_more p es x told
        (λ j k below within start some. let never : false ≡ true = sym ((cancel_apart x none).0 k) ∙ start in cc)

-- so after each enabled turn, and after every legal journal
in_turn_none : (p : Settings) → AreInTurn p []
in_turn_none p = record {
  over = λ j k below within some. cc;
  behind = λ j k below within. tt;
  told = λ j k before after e below within is start some. nothing before e after is;
}
  where
    nothing : {X : Type 0} (before : List ReporterEvent) (e : ReporterEvent) (after : List ReporterEvent)
        → [] ≡ before ++ e ∷ after → X
    nothing [] e after is = cc
    nothing (b ∷ before) e after is = cc

in_turn-cons : (p : Settings) (past : List Happening) (e : Entry) → enabled p past e.turn ≡ true
    → (of : IsOfRun p past e) → AreInTurn p of.base
    → AreInTurn p (said (clock past) e (deed_on p (board p past) e.turn) ∷ of.base)
in_turn-cons p past e en of was = record {
  over = λ j k below within some. over_after p (clock past) run e d j of.does.part
      (each_over p (clock past) run d.part j k joins (was.over j k below within) below within
      (some_reach d.request (unit_after (clock past) k d.part (unit_of k run)) some));
  behind = λ j k below within.
      behind_after p (frame_of p past) (clock past) run e d j k of.holds of.does was below within;
  told = told_after p (frame_of p past) (clock past) run d of.holds of.does was;
}
  where
    run : List Happening
    run = of.base

    d : Deed
    d = deed_on p (board p past) e.turn

    joins : (first : UnitView) → d.part ≡ Some (Joins first) → (j : ℕ) → j < number first → j < scripts_in p
        → is_done (unit_of j run) ≡ true
    joins first is j below within = by_begin d.begins refl
      where
        by_begin : (b : Bool) → d.begins ≡ b → is_done (unit_of j run) ≡ true
        by_begin true begins =
            let never : None ≡ Some (Joins first) = sym (of.does.marks.begins begins).1.part ∙ is in cc
        by_begin false begins =
            let same : of.base ≡ sub_run past = of.is ∙ ap (λ b. base_of b (sub_run past)) begins in
            let came = joins_is p (board p past) e.turn first
            (second_so (not (is_over past)) (takes_turn p (board p past) e.turn (turn_of_unit e.turn)) en) is in
            ap (λ run. is_done (unit_of j run)) same
            ∙ comes_after p (index_in p (frame_of p past)) (sub_run past) came.new came.is j
            (subst (λ (u : UnitView). j < number u) (sym came.unit) below) within

in_turn : (p : Settings) (backward : List Entry) → IsLegalBackward p backward
    → AreInTurn p (sub_run (history p backward))
in_turn p [] legal = in_turn_none p
in_turn p (e ∷ before) legal =
    by_run (in_turn p before legal.2) (where_joins p past e (holds p before legal.2) legal.0)
  where
    past : List Happening
    past = history p before

    by_run : AreInTurn p (sub_run past) → IsOfRun p past e ⊎ IsBeforeRuns p past e
        → AreInTurn p (sub_run (history p (e ∷ before)))
    by_run was (inl of) =
        subst (AreInTurn p) (sym of.joins) (in_turn-cons p past e legal.0 of
        (from_base (AreInTurn p) p past e of (in_turn_none p) was))
    by_run was (inr none) = subst (AreInTurn p) (sym none.still) (in_turn_none p)

-- a script that is over is done with by its own turns
over_done : (terms : AttemptTerms) (u : UnitView) (ps : List Attempt) (w : Way) → retry_count terms.retries ≡ 0
    → u.phase ≡ Over → IsMade terms u ps → IsOnWayIn 0 Over u.attempt u.statuses w
    → (is_at_start w.stopped || is_finished terms ps) ≡ true
over_done terms u ps w none over made way = by_pieces ps (subst (λ ph. HasPieces terms ph u ps) over made.has)
  where
    never : IsOverWith 0 u.attempt [] w → (is_at_start w.stopped || false) ≡ true
    never h = rw h refl

    once : (attempt : ℕ) (passed : Bool) → 0 < attempt
        → not (not passed && nat_le attempt (retry_count terms.retries)) ≡ true
    once attempt true some = refl
    once attempt false some =
        let late : nat_le attempt (retry_count terms.retries) ≡ false = grind arith in ap not late

    either : (a b : Bool) → b ≡ true → (a || b) ≡ true
    either true b e = refl
    either false b e = e

    by_pieces : (ps : List Attempt) → HasPieces terms Over u ps → (is_at_start w.stopped || is_finished terms ps) ≡ true
    by_pieces [] h = never (subst (λ ss. IsOverWith 0 u.attempt ss w) h way)
    by_pieces (cut piece (d ∷ after) ∷ earlier) h =
        either (is_at_start w.stopped) _ (once (length earlier + 1) (is_success (result_in terms piece)) (omega arith))
    by_pieces (cut piece [] ∷ earlier) h = absurd h

done_so : (p : Settings) (f : Frame) (now : ℕ) (run : List Happening) (k : ℕ) → Holds p now run
    → k < scripts_in p
    → is_done (unit_of k run) ≡ true → is_done_with p k run ≡ true
done_so p f now run k h below done = by_unit (unit_of k run) refl done
  where
    script : is_script p k ≡ true
    script = script_number p k below

    last : (ph : Phase) → is_last ph ≡ true → ph ≡ Over
    last Over e = refl
    last ph e = cc

    by_unit : (v : Option UnitView) → unit_of k run ≡ v → is_done v ≡ true → is_done_with p k run ≡ true
    by_unit None is done = cc
    by_unit (Some u) is done =
        let at : u.phase ≡ Over = last u.phase done in
        over_done (unit_terms p k) u (pieces (story_of k run)) (way_of k run) (no_retries_of p k script) at
        (subst (λ v. IsMadeIf (unit_terms p k) v (story_of k run)) is (h.made k))
        (subst (λ ph. IsOnWayIn 0 ph u.attempt u.statuses (way_of k run)) at
        (way_of_script p f now run k u h is script))

pub admitted_in_turn : (p : Settings) (backward : List Entry) → IsLegalBackward p backward
    → AreAdmittedInTurn p (sub_run (history p backward))
admitted_in_turn p backward legal j k before below some =
    done_so p (frame_of p past) (clock past) (sub_run past) j (holds p backward legal) (omega arith)
    ((in_turn p backward legal).over j k before below some)
  where
    past : List Happening
    past = history p backward

pub one_by_one : (p : Settings) (backward : List Entry) → IsLegalBackward p backward
    → ComeInTurn p (told (sub_run (history p backward)))
one_by_one p backward legal = (in_turn p backward legal).told
