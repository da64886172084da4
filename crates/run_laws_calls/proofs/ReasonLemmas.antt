-- The reasons that are told rise in their list.
use Rattle.std.proofs.Common.{◌≡◌, ◌⊎◌, inl, inr, ℕ, zero, suc, ◌≤◌, ◌<◌, nat_lt, List, [], ◌∷◌, ◌++◌, Bool, true}
use Rattle.std.proofs.Common.{false, Option}
use Rattle.std.proofs.Common.{Some, None, if◌then◌else◌, is_some, option_to_list, option_and_then, filter_map}
use Rattle.std.proofs.Common.{reverse, refl, ap}
use Rattle.std.proofs.Common.{sym, subst, ◌∙◌, arith, slice_get, IfSome}
use Rattle.std.specs.List.{All, Contains, cons_option}
use Rattle.std.proofs.lemmas.List.{append-nil, reverse-append}
use Rattle.std.proofs.lemmas.List.Elements.{All-nil, All-cons, All-append, All-weaker, All-contains}
use Rattle.std.proofs.lemmas.List.Elements.{Contains-append_right, filter_map-append}
use Rattle.run_laws_calls.specs.Reasons.{IsAboveAll, RanksArePlaces, ReasonsRise, RanksBefore, TellsInOrder}
use Rattle.run_laws_calls.specs.Reasons.{reasons_in_order}
use Rattle.run_laws_calls.proofs.ToldLemmas.{Tells, reason_after, rises_in, tells}
use Rattle.run_events.specs.Cancel.{rank, greater}
use Rattle.run_events.specs.declared.cancel.CancelReason.{CancelReason}
use Rattle.run_events.specs.declared.cancel.CancelReason.TheVariants.{SetupScriptFailure, TestFailure, ReportError}
use Rattle.run_events.specs.declared.cancel.CancelReason.TheVariants.{GlobalTimeout, TestFailureImmediate, Signal}
use Rattle.run_events.specs.declared.cancel.CancelReason.TheVariants.{Interrupt, SecondSignal}
use Rattle.run_events.specs.declared.settings.Settings.{Settings}
use Rattle.run_model.specs.declared.entry.Entry.{Entry}
use Rattle.run_model.specs.declared.happening.Happening.{Happening}
use Rattle.run_model.specs.Journal.{past_of, IsLegalBackward, history}
use Rattle.run_model.specs.Turns.{happening}
use Rattle.run_model.specs.Words.{sub_run, told, reason}
use Rattle.run_laws.specs.Cancels.{reason_told, rises}
use Rattle.run_events.specs.declared.events.ReporterEvent.{ReporterEvent}
use Rattle.run_laws.proofs.board.Kept.{IsBeforeRuns, IsOfRun, from_base, holds, where_joins}

-- the list has each reason at its rank, and no other there
pub placed : RanksArePlaces
placed SetupScriptFailure = refl
placed TestFailure = refl
placed ReportError = refl
placed GlobalTimeout = refl
placed TestFailureImmediate = refl
placed Signal = refl
placed Interrupt = refl
placed SecondSignal = refl

abbrev rank_or : Option CancelReason → ℕ
rank_or None = 0
rank_or (Some reason) = rank reason

place_is : (place : ℕ) (reason : CancelReason) → slice_get reasons_in_order place ≡ Some reason → place ≡ rank reason
place_is zero reason is = ap rank_or is
place_is (suc zero) reason is = ap rank_or is
place_is (suc (suc zero)) reason is = ap rank_or is
place_is (suc (suc (suc zero))) reason is = ap rank_or is
place_is (suc (suc (suc (suc zero)))) reason is = ap rank_or is
place_is (suc (suc (suc (suc (suc zero))))) reason is = ap rank_or is
place_is (suc (suc (suc (suc (suc (suc zero)))))) reason is = ap rank_or is
place_is (suc (suc (suc (suc (suc (suc (suc zero))))))) reason is = ap rank_or is
place_is (suc (suc (suc (suc (suc (suc (suc (suc n)))))))) reason is = cc

stands : (reason above : CancelReason) → rank reason < rank above → RanksBefore reason above
stands reason above lower = record {
  place = rank reason;
  place_above = rank above;
  lower = lower;
  is = placed reason;
  is_above = placed above;
}

stands_lower : (reason above : CancelReason) → RanksBefore reason above → rank reason < rank above
stands_lower reason above h =
    let a : h.place ≡ rank reason = place_is h.place reason h.is in
    let b : h.place_above ≡ rank above = place_is h.place_above above h.is_above in
    let lt : h.place < h.place_above = h.lower in omega arith

-- the reason of a sub-run is the greatest of those told
abbrev IsGreatest : Option CancelReason → List CancelReason → Type 0
IsGreatest None told = told ≡ []
IsGreatest (Some reason) told = All (λ other. rank other ≤ rank reason) told × Contains told reason

greatest_more : (before cause : Option CancelReason) (after : Option CancelReason) (told : List CancelReason)
    → is_some after ≡ rises before cause → IfSome after (λ reason. Some reason ≡ cause)
    → IsGreatest before told → IsGreatest (greater before cause) (told ++ option_to_list after)
greatest_more before None (Some a) told exactly is h = cc
greatest_more None None None told exactly is h = append-nil told ∙ h
greatest_more (Some b) None None told exactly is h = subst (IsGreatest (Some b)) (sym (append-nil told)) h
greatest_more None (Some c) None told exactly is h = cc
greatest_more None (Some c) (Some a) told exactly is h =
    subst (λ told. IsGreatest (Some c) (told ++ a ∷ [])) (sym h)
    (subst (λ o. IsGreatest o (a ∷ [])) is (
      All-cons (λ other. rank other ≤ rank a) a [] (omega arith) (All-nil (λ other. rank other ≤ rank a)),
      (0, omega arith, refl),
    ))
greatest_more (Some b) (Some c) None told exactly is h =
    rw (sym exactly) (subst (IsGreatest (Some b)) (sym (append-nil told)) h)
greatest_more (Some b) (Some c) (Some a) told exactly is h =
    rw (sym exactly) (subst (λ o. IsGreatest o (told ++ a ∷ [])) is (by_rank lower))
  where
    lower : nat_lt (rank b) (rank c) ≡ true
    lower = sym exactly

    by_rank : nat_lt (rank b) (rank c) ≡ true → IsGreatest (Some a) (told ++ a ∷ [])
    by_rank lower =
        let same : rank a ≡ rank c = ap rank_or is in
        let lt : rank b < rank c = grind (arith, lower) in (
          All-append (λ other. rank other ≤ rank a) told (a ∷ [])
              (All-weaker (λ other. rank other ≤ rank b) (λ other. rank other ≤ rank a)
              (λ other le. omega (arith, le, lt, same)) told h.0)
              (All-cons (λ other. rank other ≤ rank a) a [] (omega arith) (All-nil (λ other. rank other ≤ rank a))),
          Contains-append_right told (a ∷ []) a (0, omega arith, refl),
        )

-- so after one more turn of a sub-run
told_one : (o : Option ReporterEvent)
    → filter_map reason_told (option_to_list o) ≡ option_to_list (option_and_then reason_told o)
told_one None = refl
told_one (Some event) = by_reason (reason_told event)
  where
    by_reason : (o : Option CancelReason) → cons_option o [] ≡ option_to_list o
    by_reason None = refl
    by_reason (Some reason) = refl

own_none : (o : Option ReporterEvent) → IfSome o (λ event. reason_told event ≡ None)
    → filter_map reason_told (option_to_list o) ≡ []
own_none None h = refl
own_none (Some event) h = rw h refl

reasons_more : (x : Happening) (run : List Happening) → IfSome x.told (λ event. reason_told event ≡ None)
    → filter_map reason_told (told (x ∷ run)) ≡ filter_map reason_told (told run) ++ option_to_list (reason_after x)
reasons_more x run calm =
    filter_map-append reason_told (told run) (option_to_list x.told ++ option_to_list x.after)
    ∙ ap (λ reasons. filter_map reason_told (told run) ++ reasons)
    (filter_map-append reason_told (option_to_list x.told) (option_to_list x.after)
    ∙ ap (λ reasons. reasons ++ filter_map reason_told (option_to_list x.after)) (own_none x.told calm)
    ∙ told_one x.after)

abbrev HasGreatest : List Happening → Type 0
HasGreatest run = IsGreatest (reason run) (filter_map reason_told (told run))

has_greatest : (p : Settings) (backward : List Entry) → IsLegalBackward p backward
    → HasGreatest (sub_run (history p backward))
has_greatest p [] legal = refl
has_greatest p (e ∷ before) legal =
    by_run (has_greatest p before legal.2) (where_joins p past e (holds p before legal.2) legal.0)
  where
    past : List Happening
    past = history p before

    x : Happening
    x = happening p past e

    t : Tells p (sub_run past) x
    t = tells p e before legal

    by_run : HasGreatest (sub_run past) → IsOfRun p past e ⊎ IsBeforeRuns p past e → HasGreatest (sub_run (x ∷ past))
    by_run was (inl of) = subst HasGreatest (sym of.joins)
        (subst (IsGreatest (greater (reason of.base) x.cause)) (sym (reasons_more x of.base t.caused.own))
        (greatest_more (reason of.base) x.cause (reason_after x) (filter_map reason_told (told of.base))
        (rises_in p past e of t.caused) t.caused.with_reason (from_base HasGreatest p past e of refl was)))
    by_run was (inr before) = subst HasGreatest (sym before.still) refl

-- a cause tells its reason exactly where it is above all that were told
above_all : (before : Option CancelReason) (told : List CancelReason) (above : CancelReason) → IsGreatest before told
    → rises before (Some above) ≡ true → All (λ reason. RanksBefore reason above) told
above_all None told above h rises = subst (All (λ reason. RanksBefore reason above)) (sym h)
    (All-nil (λ reason. RanksBefore reason above))
above_all (Some b) told above h rises =
    let lt : rank b < rank above = grind (arith, rises) in
    All-weaker (λ other. rank other ≤ rank b) (λ reason. RanksBefore reason above)
    (λ other le. stands other above (omega (arith, le, lt))) told h.0

rises_above : (before : Option CancelReason) (told : List CancelReason) (above : CancelReason) → IsGreatest before told
    → All (λ reason. RanksBefore reason above) told → rises before (Some above) ≡ true
rises_above None told above h all = refl
rises_above (Some b) told above h all =
    let lt : rank b < rank above =
    stands_lower b above (All-contains (λ reason. RanksBefore reason above) told b all h.1) in
    grind (arith, lt)

in_order : (before cause after : Option CancelReason) (told : List CancelReason) → IsGreatest before told
    → is_some after ≡ rises before cause → IfSome after (λ reason. Some reason ≡ cause)
    → (is_some after ≡ true → IfSome cause (λ above. All (λ reason. RanksBefore reason above) told))
    × IfSome cause (λ above. All (λ reason. RanksBefore reason above) told → after ≡ Some above)
in_order before None after told h exactly is = (λ some. cc, tt)
in_order before (Some c) after told h exactly is = (
  λ some. above_all before told c h (sym exactly ∙ some),
  λ all. by_after after (exactly ∙ rises_above before told c h all) is,
)
  where
    by_after : (o : Option CancelReason) → is_some o ≡ true → IfSome o (λ reason. Some reason ≡ Some c) → o ≡ Some c
    by_after None some is = cc
    by_after (Some a) some is = is

pub rise : ReasonsRise
rise p journal e legal =
    let backward : IsLegalBackward p (e ∷ reverse journal) =
    subst (IsLegalBackward p) (reverse-append journal (e ∷ [])) legal in
    let t : Tells p (sub_run (past_of p journal)) (happening p (past_of p journal) e) =
    tells p e (reverse journal) backward in
    let it = in_order (reason (sub_run (past_of p journal))) (happening p (past_of p journal) e).cause
    (reason_after (happening p (past_of p journal) e)) (filter_map reason_told (told (sub_run (past_of p journal))))
    (greatest_of p (reverse journal) backward.2) t.caused.exactly t.caused.with_reason in
    record { only = it.0; each = it.1 }
  where
    greatest_of : (p : Settings) (backward : List Entry) → IsLegalBackward p backward
        → IsGreatest (reason (sub_run (history p backward)))
        (filter_map reason_told (told (sub_run (history p backward))))
    greatest_of p backward legal = has_greatest p backward legal
