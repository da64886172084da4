-- The start of a test and its retries are sent in order, each as the plan says.
use Rattle.std.proofs.Common.{◌≡◌, inl, inr, ℕ, ◌+◌, ◌<◌, ◌==◌, List, [], ◌∷◌, ◌++◌, Bool, true, false, if◌then◌else◌}
use Rattle.std.proofs.Common.{Option, Some, None, option_map, option_and_then, option_to_list, is_some, refl, ap, sym}
use Rattle.std.proofs.Common.{subst, ◌∙◌, arith, append-nil}
use Rattle.std.proofs.lemmas.List.Elements.{filter_map-append}
use Rattle.run_events.specs.declared.message.Message.{Message}
use Rattle.run_events.specs.declared.request.Request.{Request}
use Rattle.run_events.specs.declared.settings.Settings.{Settings}
use Rattle.run_model.specs.declared.entry.Entry.{Entry}
use Rattle.run_model.specs.declared.happening.Happening.{Happening}
use Rattle.run_model.specs.declared.happening.UnitPart.{UnitPart}
use Rattle.run_model.specs.declared.happening.UnitPart.TheVariants.{Joins, Acts}
use Rattle.run_model.specs.declared.unit_turn.UnitTurn.{UnitTurn}
use Rattle.run_model.specs.declared.unit_view.UnitView.{UnitView}
use Rattle.run_model.specs.Admission.{unit_terms}
use Rattle.run_model.specs.Attempts.{attempt_in}
use Rattle.run_model.specs.Board.{Deed}
use Rattle.run_model.specs.Environment.{number}
use Rattle.run_model.specs.Journal.{history, IsLegalBackward}
use Rattle.run_model.specs.Story.{Attempt, pieces, story_of}
use Rattle.run_model.specs.Turns.{deed_on}
use Rattle.run_model.specs.Unit.{at_moment, is_live, reach, row, takes_at}
use Rattle.run_model.specs.Words.{sent, sub_run, unit_after, unit_of, units}
use Rattle.run_laws.proofs.units.AccountLemmas.{IsFirst}
use Rattle.run_laws.proofs.units.AttemptLemmas.{IsMade, IsMadeIf}
use Rattle.run_laws.proofs.board.DeedFits.{IsSentAs, PartFits}
use Rattle.run_laws.proofs.board.Holds.{Holds}
use Rattle.run_laws.proofs.board.OnBoard.{board_with}
use Rattle.run_laws.proofs.units.Rows.{row_keeps, takes_moment}
use Rattle.run_laws_events.specs.Names.{test_of_unit}
use Rattle.run_laws_events.specs.Slots.{slots_in_role}
use Rattle.run_laws_events.proofs.ByJournal.{IsKept, by_journal}
use Rattle.run_laws_events.proofs.GoRows.{HasGos, HasSentGos, SendsGo, SentGos}
use Rattle.run_laws_events.proofs.GoRows.{apart_none, apart_start, go_in, gos-none}
use Rattle.run_laws_events.proofs.GoRows.{gos-zero, gos_as, gos_in, retry_more, row_gos, start_first, unit_slots}
use Rattle.run_laws_events.proofs.Joined.{joins_new}
use Rattle.run_laws_events.proofs.PlanUnits.{ArePlanUnits, IsPlanUnit, IsPlanUnitIf, newcomer_planned, units_kept}
use Rattle.run_laws.proofs.board.OnBoard.{Frame}
use Rattle.run_laws.proofs.board.OnBoard.{index_in}
use Rattle.run_laws_events.proofs.GoRows.{unit_index}
use Rattle.run_model.specs.Admission.{index_of_role}
use Rattle.run_events.specs.declared.stress.StressIndex.{StressIndex}

-- a request leaves the slots of a unit, and how many it has sent
pub reach_slots : (request : Option Request) (v : Option UnitView) → unit_slots (reach request v) ≡ unit_slots v
reach_slots None v = refl
reach_slots (Some request) None = refl
reach_slots (Some request) (Some u) = by_live (is_live u.phase)
  where
    by_live : (b : Bool) → unit_slots (Some (if b then record u { line = u.line ++ request ∷ [] } else u))
        ≡ unit_slots (Some u)
    by_live true = refl
    by_live false = refl

reach_index : (request : Option Request) (v : Option UnitView) → unit_index (reach request v) ≡ unit_index v
reach_index None v = refl
reach_index (Some request) None = refl
reach_index (Some request) (Some u) = by_live (is_live u.phase)
  where
    by_live : (b : Bool) → unit_index (Some (if b then record u { line = u.line ++ request ∷ [] } else u))
        ≡ unit_index (Some u)
    by_live true = refl
    by_live false = refl

reach_count : (request : Option Request) (v : Option UnitView) (n : ℕ) → HasSentGos v n → HasSentGos (reach request v) n
reach_count None v n h = h
reach_count (Some request) None n h = h
reach_count (Some request) (Some u) n h = by_live (is_live u.phase)
  where
    by_live : (b : Bool) → HasSentGos (Some (if b then record u { line = u.line ++ request ∷ [] } else u)) n
    by_live true = h
    by_live false = h

reach_gos : (p : Settings) (k : ℕ) (request : Option Request) (v : Option UnitView) (ms : List Message)
    → HasGos p k v ms → HasGos p k (reach request v) ms
reach_gos p k request v ms it = record {
  count = it.count;
  fits = reach_count request v it.count it.fits;
  sent = it.sent ∙ ap (λ s. gos_as p (unit_index v) k (test_of_unit p k) s it.count) (sym (reach_slots request v))
      ∙ ap (λ index. gos_as p index k (test_of_unit p k) (unit_slots (reach request v)) it.count)
      (sym (reach_index request v));
}

-- a unit that takes a turn
still : (p : Settings) (k : ℕ) (v : Option UnitView) (ms : List Message) (o : Option Message)
    → gos_in k (option_to_list o) ≡ [] → HasGos p k v ms → HasGos p k v (ms ++ option_to_list o)
still p k v ms o none it = record {
  count = it.count;
  fits = it.fits;
  sent = filter_map-append (go_in k) ms (option_to_list o) ∙ ap (λ xs. gos_in k ms ++ xs) none
      ∙ append-nil (gos_in k ms)
      ∙ it.sent;
}

acts_gos : (p : Settings) (k now : ℕ) (turn : UnitTurn) (u : UnitView) (ms : List Message) → number u ≡ k
    → 0 < u.attempt
    → takes_at now u.phase (at_moment now u) turn ≡ true → IsPlanUnit p u → HasGos p k (Some u) ms
    → HasGos p k (Some (row now turn u).next) (ms ++ option_to_list (row now turn u).sent)
acts_gos p k now turn u ms here above moved planned it =
    by_row (row_gos now u.phase turn (at_moment now u) it.count refl moved it.fits)
  where
    role_kept : (row now turn u).next.role ≡ u.role
    role_kept = (row_keeps now u.phase turn (at_moment now u) refl).role

    by_row : SendsGo (at_moment now u) it.count (row now turn u)
        → HasGos p k (Some (row now turn u).next) (ms ++ option_to_list (row now turn u).sent)
    by_row (inl (fits, none)) = record {
      count = it.count;
      fits = fits;
      sent = filter_map-append (go_in k) ms (option_to_list (row now turn u).sent)
          ∙ ap (λ xs. gos_in k ms ++ xs) (none k) ∙ append-nil (gos_in k ms) ∙ it.sent
          ∙ ap (λ role. gos_as p (index_of_role role) k (test_of_unit p k) (slots_in_role role)
          it.count) (sym role_kept);
    }
    by_row (inr (at, fits, retry)) = record {
      count = it.count + 1;
      fits = fits;
      sent = filter_map-append (go_in k) ms (option_to_list (row now turn u).sent)
          ∙ ap (λ o. gos_in k ms ++ gos_in k (option_to_list o)) retry
          ∙ retry_more p k it.count u.role (at_moment now u) (gos_in k ms) planned here (omega (arith, at, above)) at
          it.sent
          ∙ ap (λ role. gos_as p (index_of_role role) k (test_of_unit p k) (slots_in_role role) (it.count + 1))
          (sym role_kept);
    }

apart_gos : (now k : ℕ) (turn : UnitTurn) (u : UnitView) → (number u == k) ≡ false
    → takes_at now u.phase (at_moment now u) turn ≡ true → (n : ℕ) → SentGos u.phase u.attempt n
    → gos_in k (option_to_list (row now turn u).sent) ≡ []
apart_gos now k turn u apart moved n fits = by_row (row_gos now u.phase turn (at_moment now u) n refl moved fits)
  where
    by_row : SendsGo (at_moment now u) n (row now turn u) → gos_in k (option_to_list (row now turn u).sent) ≡ []
    by_row (inl (fits, none)) = none k
    by_row (inr (at, fits, retry)) =
        ap (λ o. gos_in k (option_to_list o)) retry ∙ apart_none k u.role (at_moment now u) apart

-- a unit that joins
first_gos : (p : Settings) (skipped : Bool) (k : ℕ) (first : UnitView) (m : Message) (ms : List Message)
    → IsFirst skipped first m → number first ≡ k → first.attempt ≡ 1 → IsPlanUnit p first → HasGos p k None ms
    → HasGos p k (Some first) (ms ++ m ∷ [])
first_gos p true k first m ms (ph, (t, (role, (reason, is)))) here at planned it = record {
  count = 0;
  fits = subst (λ ph. SentGos ph first.attempt 0) (sym ph) tt;
  sent = filter_map-append (go_in k) ms (m ∷ []) ∙ ap (λ m. gos_in k ms ++ gos_in k (m ∷ [])) is
      ∙ append-nil (gos_in k ms)
      ∙ it.sent ∙ gos-none p None k it.count (test_of_unit p k)
      ∙ sym (gos-zero p (index_of_role first.role) k (test_of_unit p k) (slots_in_role first.role));
}
first_gos p false k first m ms (ph, is) here at planned it = record {
  count = 1;
  fits = subst (λ ph. SentGos ph first.attempt 1) (sym ph) (sym at);
  sent = filter_map-append (go_in k) ms (m ∷ []) ∙ ap (λ xs. xs ++ gos_in k (m ∷ [])) (it.sent
      ∙ gos-none p None k it.count (test_of_unit p k)) ∙ ap (λ m. gos_in k (m ∷ [])) is
      ∙ start_first p k first.role first planned here;
}

first_apart : (skipped : Bool) (k : ℕ) (first : UnitView) (m : Message) → IsFirst skipped first m
    → (number first == k) ≡ false → gos_in k (m ∷ []) ≡ []
first_apart true k first m (ph, (t, (role, (reason, is)))) apart = ap (λ m. gos_in k (m ∷ [])) is
first_apart false k first m (ph, is) apart =
    ap (λ m. gos_in k (m ∷ [])) is ∙ apart_start k first.role first apart

-- so that is kept
attempt_some : (ps : List Attempt) (attempt : ℕ) → attempt ≡ attempt_in ps → 0 < attempt
attempt_some [] attempt is = omega arith
attempt_some (a ∷ earlier) attempt is = omega arith

attempt_above : (p : Settings) (f : Frame) (now : ℕ) (run : List Happening) (k : ℕ) (u : UnitView)
    → Holds p now run
    → unit_of k run ≡ Some u → 0 < u.attempt
attempt_above p f now run k u h is =
    let made : IsMade (unit_terms p k) u (pieces (story_of k run)) =
    subst (λ v. IsMadeIf (unit_terms p k) v (story_of k run)) is (h.made k) in
    attempt_some (pieces (story_of k run)) u.attempt made.attempt

part_gos : (p : Settings) (f : Frame) (now : ℕ) (run : List Happening) (k : ℕ) (part : Option UnitPart)
    (o : Option Message)
    → Holds p now run → PartFits p now run part → IsSentAs now run part o → ArePlanUnits p run
    → ((first : UnitView) → part ≡ Some (Joins first) → IsPlanUnit p first × (is_some o ≡ true))
    → ((j : ℕ) → HasGos p j (unit_of j run) (sent run))
    → HasGos p k (unit_after now k part (unit_of k run)) (sent run ++ option_to_list o)
part_gos p f now run k None o h fits from units joins was =
    still p k (unit_of k run) (sent run) o (ap (λ o. gos_in k (option_to_list o)) from) (was k)
part_gos p f now run k (Some (Joins first)) None h fits from units joins was =
    let never : false ≡ true = (joins first refl).1 in cc
part_gos p f now run k (Some (Joins first)) (Some m) h (first_sent, new) (skipped, from) units joins was =
    by_unit (number first == k) refl
  where
    by_unit : (b : Bool) → (number first == k) ≡ b
        → HasGos p k (if b then Some first else unit_of k run) (sent run ++ m ∷ [])
    by_unit true e =
        let here : number first ≡ k = grind arith in
        first_gos p skipped k first m (sent run) from here new.attempt (joins first refl).0
        (subst (λ v. HasGos p k v (sent run)) (ap (λ k. unit_of k run) (sym here) ∙ new.unknown) (was k))
    by_unit false e = still p k (unit_of k run) (sent run) (Some m) (first_apart skipped k first m from e) (was k)
part_gos p f now run k (Some (Acts j turn)) o h taken from units joins was = by_unit (j == k) refl
  where
    u : UnitView
    u = taken.unit

    moved : takes_at now u.phase (at_moment now u) turn ≡ true
    moved = takes_moment now u.phase u turn taken.takes

    sends : o ≡ (row now turn u).sent
    sends = from ∙ ap (option_and_then (λ v. (row now turn v).sent)) taken.is

    named : number u ≡ j
    named = (h.named j u taken.is).0

    own : HasGos p j (Some u) (sent run)
    own = subst (λ v. HasGos p j v (sent run)) taken.is (was j)

    by_unit : (b : Bool) → (j == k) ≡ b
        → HasGos p k (if b then option_map (λ w. (row now turn w).next) (unit_of k run) else unit_of k run)
        (sent run ++ option_to_list o)
    by_unit true e =
        let here : j ≡ k = grind arith in
        subst (λ v. HasGos p k (option_map (λ w. (row now turn w).next) v) (sent run ++ option_to_list o))
        (sym (ap (λ k. unit_of k run) (sym here) ∙ taken.is))
        (subst (λ o. HasGos p k (Some (row now turn u).next) (sent run ++ option_to_list o)) (sym sends)
        (acts_gos p k now turn u (sent run) (named ∙ here) (attempt_above p f now run j u h taken.is) moved
        (subst (IsPlanUnitIf p) taken.is (units j)) (subst (λ k. HasGos p k (Some u) (sent run)) here own)))
    by_unit false e =
        let apart : (number u == k) ≡ false = ap (λ n. n == k) named ∙ e in
        still p k (unit_of k run) (sent run) o (ap (λ o. gos_in k (option_to_list o)) sends
        ∙ apart_gos now k turn u apart moved own.count own.fits) (was k)

abbrev AreSentGos : Settings → List Happening → Type 0
AreSentGos p run = ArePlanUnits p run × ((k : ℕ) → HasGos p k (unit_of k run) (sent run))

gos_kept : (p : Settings) → IsKept p (AreSentGos p)
gos_kept p f refused now run e h en does was = (
  units_kept p f refused now run e h en does was.0,
  λ k. reach_gos p k d.request (unit_after now k d.part (unit_of k run)) (sent run ++ option_to_list d.sent)
      (part_gos p f now run k d.part d.sent h does.part does.sent_as was.0
      (λ first is. let it = joins_new p f refused now run e.turn en first is in (
        subst (IsPlanUnit p) (sym it.1.1) (newcomer_planned p (index_in p f) (units p run) it.0 it.1.0),
        ap is_some it.1.2,
      )) was.1),
)
  where
    d : Deed
    d = deed_on p (board_with p refused f now run) e.turn

pub sent_gos : (p : Settings) (backward : List Entry) → IsLegalBackward p backward → (k : ℕ)
    → HasGos p k (unit_of k (sub_run (history p backward))) (sent (sub_run (history p backward)))
sent_gos p backward legal =
    (by_journal p (AreSentGos p) (
      λ k. tt,
      λ k. record {
        count = 0;
        fits = refl;
        sent = sym (gos-zero p None k (test_of_unit p k) None);
      },
    ) (gos_kept p) backward legal).1
