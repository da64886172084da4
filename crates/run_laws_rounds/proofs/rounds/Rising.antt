-- The rounds of the queries that were broadcast to a unit rise.
use Rattle.std.proofs.Common.{◌≡◌, ◌⊎◌, inl, inr, ℕ, ◌+◌, ◌&&◌, nat_lt, List, [], ◌∷◌, ◌++◌, Bool, true, false}
use Rattle.std.proofs.Common.{if◌then◌else◌, Option, Some, None, option_to_list, refl, ap, sym, subst, ◌∙◌, arith}
use Rattle.std.specs.Cmp.{first_so, second_so}
use Rattle.std.specs.List.{list_all}
use Rattle.std.proofs.lemmas.Bool.Decides.{nat_tests}
use Rattle.std.proofs.lemmas.List.{append-nil}
use Rattle.std.proofs.lemmas.List.Elements.{filter_map-append}
use Rattle.std.proofs.lemmas.List.Folds.{list_all-append}
use Rattle.run_capture.proofs.Facts.{and_both}
use Rattle.run_events.specs.declared.request.Request.{Request}
use Rattle.run_events.specs.declared.request.Request.TheVariants.{Stop, Continue, Shutdown, OtherCancel, GetInfo}
use Rattle.run_events.specs.declared.settings.Settings.{Settings}
use Rattle.run_model.specs.declared.entry.Entry.{Entry}
use Rattle.run_model.specs.declared.happening.Happening.{Happening}
use Rattle.run_model.specs.declared.unit_view.UnitView.{UnitView}
use Rattle.run_model.specs.Info.{round_of, rounds_in}
use Rattle.run_model.specs.Journal.{IsLegalBackward, history}
use Rattle.run_model.specs.Rounds.{opens_round, round_count}
use Rattle.run_model.specs.Story.{broadcast_to, is_live_unit}
use Rattle.run_model.specs.Turns.{happening}
use Rattle.run_model.specs.Words.{sub_run, unit_after, unit_of}
use Rattle.run_laws_rounds.specs.Requests.{are_rising}
use Rattle.run_laws.proofs.board.Kept.{IsBeforeRuns, IsOfRun, from_base, holds, where_joins}
use Rattle.run_laws_rounds.proofs.rounds.JoinedRounds.{of_round_in}
use Rattle.run_laws_rounds.proofs.rounds.RoundDeeds.{IsNumbered}

-- one number more, above all others
rising-append : (ns : List ℕ) (n : ℕ) → are_rising ns ≡ true → list_all (λ m. nat_lt m n) ns ≡ true
    → are_rising (ns ++ n ∷ []) ≡ true
rising-append [] n rise below = refl
rising-append (m ∷ ns) n rise below =
    and_both (list_all (nat_lt m) (ns ++ n ∷ [])) (are_rising (ns ++ n ∷ []))
    (list_all-append (nat_lt m) ns (n ∷ [])
    ∙ and_both (list_all (nat_lt m) ns) (nat_lt m n && true) (first_so (list_all (nat_lt m) ns) (are_rising ns) rise)
    (and_both (nat_lt m n) true (first_so (nat_lt m n) (list_all (λ m. nat_lt m n) ns) below) refl))
    (rising-append ns n (second_so (list_all (nat_lt m) ns) (are_rising ns) rise)
    (second_so (nat_lt m n) (list_all (λ m. nat_lt m n) ns) below))

below_more : (ns : List ℕ) (n more : ℕ) → list_all (λ m. nat_lt m n) ns ≡ true
    → list_all (λ m. nat_lt m (n + more)) ns ≡ true
below_more [] n more below = refl
below_more (m ∷ ns) n more below =
    and_both (nat_lt m (n + more)) (list_all (λ m. nat_lt m (n + more)) ns)
    (further (first_so (nat_lt m n) (list_all (λ m. nat_lt m n) ns) below))
    (below_more ns n more (second_so (nat_lt m n) (list_all (λ m. nat_lt m n) ns) below))
  where
    further : nat_lt m n ≡ true → nat_lt m (n + more) ≡ true
    further lt = grind (arith, nat_tests)

-- the rounds that were broadcast to a unit rise, and are below this number
pub record AreRisen (count : ℕ) (rounds : List ℕ) : Type 0 where
  pub rising : are_rising rounds ≡ true
  pub below : list_all (λ n. nat_lt n count) rounds ≡ true

-- what a turn broadcasts to a unit
heard_round : (count : ℕ) (request : Option Request) (live : Bool) → IsNumbered count request
    → (rounds_in (if live then option_to_list request else []) ≡ [])
    ⊎ ((rounds_in (if live then option_to_list request else []) ≡ count ∷ []) × (opens_round request ≡ true))
heard_round count request false number = inl refl
heard_round count None true number = inl refl
heard_round count (Some (Stop round)) true number = inl refl
heard_round count (Some Continue) true number = inl refl
heard_round count (Some (Shutdown reason)) true number = inl refl
heard_round count (Some OtherCancel) true number = inl refl
heard_round count (Some (GetInfo round)) true number = inr (ap (λ n. n ∷ []) number, refl)

risen-append : (count : ℕ) (rounds heard : List ℕ) (opens : Bool) → AreRisen count rounds
    → (heard ≡ []) ⊎ ((heard ≡ count ∷ []) × (opens ≡ true))
    → AreRisen (count + (if opens then 1 else 0)) (rounds ++ heard)
risen-append count rounds heard opens was (inl none) = rw (none, append-nil rounds) (record {
  rising = was.rising;
  below = below_more rounds count (if opens then 1 else 0) was.below;
})
risen-append count rounds heard opens was (inr (one, opened)) = rw (one, opened) (record {
  rising = rising-append rounds count was.rising was.below;
  below = list_all-append (λ n. nat_lt n (count + 1)) rounds (count ∷ [])
      ∙ and_both (list_all (λ n. nat_lt n (count + 1)) rounds) (nat_lt count (count + 1) && true)
      (below_more rounds count 1 was.below) (and_both (nat_lt count (count + 1)) true next refl);
})
  where
    next : nat_lt count (count + 1) ≡ true
    next = grind (arith, nat_tests)

-- so in a sub-run
abbrev pub IsRisen : ℕ → List Happening → Type 0
IsRisen k run = AreRisen (round_count run) (rounds_in (broadcast_to k run))

risen_more : (k : ℕ) (x : Happening) (run : List Happening) → IsNumbered (round_count run) x.request → IsRisen k run
    → IsRisen k (x ∷ run)
risen_more k x run number was =
    subst (AreRisen (round_count (x ∷ run))) (sym (filter_map-append round_of (broadcast_to k run) heard))
    (risen-append (round_count run) (rounds_in (broadcast_to k run)) (rounds_in heard) (opens_round x.request) was
    (heard_round (round_count run) x.request (is_live_unit v) number))
  where
    v : Option UnitView
    v = unit_after x.moment k x.part (unit_of k run)

    heard : List Request
    heard = if is_live_unit v then option_to_list x.request else []

pub risen : (p : Settings) (backward : List Entry) → IsLegalBackward p backward → (k : ℕ)
    → IsRisen k (sub_run (history p backward))
risen p [] legal k = record { rising = refl; below = refl }
risen p (e ∷ before) legal k =
    by_run (where_joins p past e (holds p before legal.2) legal.0) (risen p before legal.2 k)
  where
    past : List Happening
    past = history p before

    x : Happening
    x = happening p past e

    none : IsRisen k []
    none = record { rising = refl; below = refl }

    by_run : IsOfRun p past e ⊎ IsBeforeRuns p past e → IsRisen k (sub_run past) → IsRisen k (sub_run (x ∷ past))
    by_run (inl of) was =
        subst (IsRisen k) (sym of.joins)
        (risen_more k x of.base (of_round_in p past e of legal.0).number (from_base (IsRisen k) p past e of none was))
    by_run (inr before_runs) was = subst (IsRisen k) (sym before_runs.still) none
