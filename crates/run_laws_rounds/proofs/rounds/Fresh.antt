-- A new round has a number that stands in no line.
use Rattle.std.proofs.Common.{◌≡◌, ◌⊎◌, inl, inr, ℕ, ◌+◌, ◌&&◌, nat_lt, List, [], ◌∷◌, Bool, true, false, if◌then◌else◌}
use Rattle.std.proofs.Common.{Option, Some, None, option_to_list, refl, ap, sym, subst, ◌∙◌, arith}
use Rattle.std.specs.Cmp.{first_so, second_so}
use Rattle.std.specs.List.{list_all, list_any}
use Rattle.std.proofs.lemmas.Bool.Decides.{nat_tests}
use Rattle.std.proofs.lemmas.List.Folds.{list_all-append}
use Rattle.run_events.specs.declared.request.Request.{Request}
use Rattle.run_events.specs.declared.request.Request.TheVariants.{Stop, Continue, Shutdown, OtherCancel, GetInfo}
use Rattle.run_events.specs.declared.settings.Settings.{Settings}
use Rattle.run_model.specs.declared.entry.Entry.{Entry}
use Rattle.run_model.specs.declared.happening.Happening.{Happening}
use Rattle.run_model.specs.declared.unit_view.UnitView.{UnitView}
use Rattle.run_model.specs.Journal.{IsLegalBackward, history}
use Rattle.run_model.specs.Rounds.{opens_round, round_count}
use Rattle.run_model.specs.Same.{is_request}
use Rattle.run_model.specs.Story.{broadcast_to, is_live_unit, line_of, story_of}
use Rattle.run_model.specs.Turns.{happening}
use Rattle.run_model.specs.Words.{sub_run, unit_after, unit_of}
use Rattle.run_laws_rounds.specs.Requests.{requests_taken}
use Rattle.run_laws.proofs.board.Kept.{IsBeforeRuns, IsOfRun, from_base, holds, where_joins}
use Rattle.run_laws_rounds.proofs.rounds.JoinedRounds.{of_round_in}
use Rattle.run_laws_rounds.proofs.rounds.RoundDeeds.{IsNumbered}
use Rattle.run_laws_rounds.proofs.rounds.Taken.{HasAnswered}

-- whether the round of a request, if it has one, is below this number
abbrev pub is_before : ℕ → Request → Bool
is_before count (Stop round) = nat_lt round count
is_before count (GetInfo round) = nat_lt round count
is_before count request = true

later_too : (count more : ℕ) (request : Request) → is_before count request ≡ true
    → is_before (count + more) request ≡ true
later_too count more (Stop round) before = grind (arith, nat_tests)
later_too count more (GetInfo round) before = grind (arith, nat_tests)
later_too count more Continue before = refl
later_too count more (Shutdown reason) before = refl
later_too count more OtherCancel before = refl

all_later : (count more : ℕ) (requests : List Request) → list_all (is_before count) requests ≡ true
    → list_all (is_before (count + more)) requests ≡ true
all_later count more [] all = refl
all_later count more (request ∷ requests) all =
    rw (
      later_too count more request (first_so (is_before count request) (list_all (is_before count) requests) all),
      all_later count more requests (second_so (is_before count request) (list_all (is_before count) requests) all),
    ) refl

-- what a turn asks is before the count with it
asked_before : (count : ℕ) (request : Option Request) (live : Bool) → IsNumbered count request
    → list_all (is_before (count + (if opens_round request then 1 else 0)))
    (if live then option_to_list request else []) ≡ true
asked_before count request false number = refl
asked_before count None true number = refl
asked_before count (Some (Stop round)) true number = next round number
  where
    next : (round : ℕ) → round ≡ count → (nat_lt round (count + 1) && true) ≡ true
    next round is = grind (arith, nat_tests)
asked_before count (Some (GetInfo round)) true number = next round number
  where
    next : (round : ℕ) → round ≡ count → (nat_lt round (count + 1) && true) ≡ true
    next round is = grind (arith, nat_tests)
asked_before count (Some Continue) true number = refl
asked_before count (Some (Shutdown reason)) true number = refl
asked_before count (Some OtherCancel) true number = refl

-- what was broadcast to a unit is before the count of a sub-run
abbrev pub AreBefore : ℕ → List Happening → Type 0
AreBefore k run = list_all (is_before (round_count run)) (broadcast_to k run) ≡ true

before_more : (k : ℕ) (x : Happening) (run : List Happening) → IsNumbered (round_count run) x.request → AreBefore k run
    → AreBefore k (x ∷ run)
before_more k x run number was =
    list_all-append (is_before (round_count (x ∷ run))) (broadcast_to k run)
    (if is_live_unit v then option_to_list x.request else [])
    ∙ rw (
      all_later (round_count run) (if opens_round x.request then 1 else 0) (broadcast_to k run) was,
      asked_before (round_count run) x.request (is_live_unit v) number,
    ) refl
  where
    v : Option UnitView
    v = unit_after x.moment k x.part (unit_of k run)

pub before_all : (p : Settings) (backward : List Entry) → IsLegalBackward p backward → (k : ℕ)
    → AreBefore k (sub_run (history p backward))
before_all p [] legal k = refl
before_all p (e ∷ before) legal k =
    by_run (where_joins p past e (holds p before legal.2) legal.0) (before_all p before legal.2 k)
  where
    past : List Happening
    past = history p before

    x : Happening
    x = happening p past e

    by_run : IsOfRun p past e ⊎ IsBeforeRuns p past e → AreBefore k (sub_run past) → AreBefore k (sub_run (x ∷ past))
    by_run (inl of) was =
        subst (AreBefore k) (sym of.joins)
        (before_more k x of.base (of_round_in p past e of legal.0).number
        (from_base (AreBefore k) p past e of refl was))
    by_run (inr none) was = subst (AreBefore k) (sym none.still) refl

-- so no line has a request of a new round
none_same : (count : ℕ) (request : Request) (line : List Request) → IsNumbered count (Some request)
    → opens_round (Some request) ≡ true → list_all (is_before count) line ≡ true
    → list_any (is_request request) line ≡ false
none_same count request [] number opens all = refl
none_same count request (other ∷ line) number opens all =
    rw (
      differs request other number opens (first_so (is_before count other) (list_all (is_before count) line) all),
      none_same count request line number opens
          (second_so (is_before count other) (list_all (is_before count) line) all),
    ) refl
  where
    differs : (request other : Request) → IsNumbered count (Some request) → opens_round (Some request) ≡ true
        → is_before count other ≡ true → is_request request other ≡ false
    differs (Stop round) (Stop n) number opens before = grind (arith, nat_tests)
    differs (GetInfo round) (GetInfo n) number opens before = grind (arith, nat_tests)
    differs (Stop round) other number opens before = cc
    differs (GetInfo round) other number opens before = cc
    differs Continue other number opens before = cc
    differs (Shutdown reason) other number opens before = cc
    differs OtherCancel other number opens before = cc

pub new_to_line : (count k : ℕ) (run : List Happening) (request : Request) → HasAnswered k run
    → list_all (is_before count) (broadcast_to k run) ≡ true → IsNumbered count (Some request)
    → opens_round (Some request) ≡ true → list_any (is_request request) (line_of k run) ≡ false
new_to_line count k run request it all number opens =
    none_same count request (line_of k run) number opens
    (second_so (list_all (is_before count) (requests_taken (story_of k run)))
    (list_all (is_before count) (line_of k run))
    (sym (list_all-append (is_before count) (requests_taken (story_of k run)) (line_of k run))
    ∙ ap (list_all (is_before count)) it.whole ∙ all))
