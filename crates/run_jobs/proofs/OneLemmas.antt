-- Lists of turns come to one answer.
use Rattle.std.proofs.Common.{◌≡◌, ◌∙◌, ℕ, zero, suc, ◌<◌, ◌≤◌, ◌⊎◌, inl, inr, List, [], ◌∷◌, ◌++◌, map, length}
use Rattle.std.proofs.Common.{take}
use Rattle.std.proofs.Common.{true, false, Option, Some, None, Result, Ok, Err, slice_get, refl, sym}
use Rattle.std.proofs.Common.{ap, subst, arith}
use Rattle.std.proofs.Common.{add-one}
use Rattle.std.proofs.lemmas.List.{take_more}
use Rattle.std.proofs.lemmas.Option.{get_or_from_slice_get}
use Rattle.run_events.specs.declared.outcome.RunOutcome.{RunOutcome}
use Rattle.run_events.specs.declared.settings.Settings.{Settings}
use Rattle.run_events.specs.declared.turn.Turn.{Turn}
use Rattle.run_model.specs.declared.entry.Entry.{Entry}
use Rattle.run_model.specs.Journal.{outcome, past_of}
use Rattle.run_model.specs.Words.{asked, told}
use Rattle.run_laws.specs.Course.{Ends, HasOneCourse, IsJournalOf, refuses_none}
use Rattle.run_laws.proofs.board.Courses.{one_course}
use Rattle.run_engine.specs.declared.errors.TestRunnerExecuteErrors.{TestRunnerExecuteErrors}
use Rattle.run_engine.specs.declared.errors.TestRunnerExecuteErrors.TheVariants as engine
use Rattle.run_jobs.specs.declared.job.JobState.{JobState}
use Rattle.run_jobs.specs.declared.waves_error.WavesError.{WavesError}
use Rattle.run_jobs.specs.declared.waves_error.WavesError.TheVariants as errors
use Rattle.run_jobs.specs.Jobs.{Batch}
use Rattle.run_jobs.specs.States.{Wave, states_after}
use Rattle.run_jobs.specs.Waves.{ComesTo, ComesToError, HasRun, HaveRun, is_next_due, next_settings}
use Rattle.run_jobs.proofs.FaultLemmas.{none_there, some_is, there_within}

-- after the same waves the next one is the same
outcomes_same : (p : Settings) (turns other : List Turn) (j k : List Entry) (a b : RunOutcome) → turns ≡ other
    → IsJournalOf p turns refuses_none j → IsJournalOf p other refuses_none k → k ≡ j
outcomes_same p turns other j k a b same took took_too =
    (one_course p turns refuses_none).one_journal j k took
    (subst (λ ts. IsJournalOf p ts refuses_none k) (sym same) took_too)

same_fields : (v w : Wave) → v.told ≡ w.told → v.asked ≡ w.asked → v.outcome ≡ w.outcome → v ≡ w
same_fields v w told asked outcome =
    ap (λ t. record { told = t; asked = v.asked; outcome = v.outcome }) told
    ∙ ap (λ a. record { told = w.told; asked = a; outcome = v.outcome }) asked
    ∙ ap (λ o. record { told = w.told; asked = w.asked; outcome = o }) outcome

next_same : (batch : Batch) (lists : List (List Turn)) (before : List Wave) (v w : Wave) → HasRun batch lists before v
    → HasRun batch lists before w → v ≡ w
next_same batch lists before v w has too =
    let p : Settings = next_settings batch before in
    let turns : has.turns ≡ too.turns = some_is has.turns too.turns (sym has.given ∙ too.given) in
    let journal : too.journal ≡ has.journal =
    outcomes_same p has.turns too.turns has.journal too.journal v.outcome w.outcome turns has.took too.took in
    same_fields v w
    (has.tells ∙ ap (λ j. told (past_of p j)) (sym journal) ∙ sym too.tells)
    (has.asks ∙ ap (λ j. asked (past_of p j)) (sym journal) ∙ sym too.asks)
    (some_is v.outcome w.outcome
    (sym has.ended ∙ ap (λ j. outcome p (past_of p j)) (sym journal) ∙ too.ended))

-- the first waves of two lists are the same
take_next : (waves : List Wave) (n : ℕ) (w : Wave) → slice_get waves n ≡ Some w → take (suc n) waves ≡ take n
    waves ++ w ∷ []
take_next waves n w at =
    ap (λ m. take m waves) (sym (add-one n)) ∙ take_more waves n w (there_within waves n w at)
    ∙ ap (λ v. take n waves ++ v ∷ []) (get_or_from_slice_get waves n w w at)

one_further : (batch : Batch) (lists : List (List Turn)) (a b : List Wave) (n : ℕ) → HaveRun batch lists a
    → HaveRun batch lists b → n < length a → n < length b → take n a ≡ take n b → take (suc n) a ≡ take (suc n) b
one_further batch lists a b n have too in_a in_b same = by_waves (slice_get a n) refl (slice_get b n) refl
  where
    by_waves : (v : Option Wave) → slice_get a n ≡ v → (w : Option Wave) → slice_get b n ≡ w
        → take (suc n) a ≡ take (suc n) b
    by_waves None at w at_too = absurd (none_there a n in_a at)
    by_waves (Some v) at None at_too = absurd (none_there b n in_b at_too)
    by_waves (Some v) at (Some w) at_too =
        let one : v ≡ w =
        next_same batch lists (take n a) v w (have n v at)
        (subst (λ before. HasRun batch lists before w) (sym same) (too n w at_too)) in
        take_next a n v at ∙ ap (λ before. before ++ v ∷ []) same ∙ ap (λ x. take n b ++ x ∷ []) one
        ∙ sym (take_next b n w at_too)

fronts_same : (batch : Batch) (lists : List (List Turn)) (a b : List Wave) (n : ℕ) → HaveRun batch lists a
    → HaveRun batch lists b → n ≤ length a → n ≤ length b → take n a ≡ take n b
fronts_same batch lists a b zero have too in_a in_b = refl
fronts_same batch lists a b (suc n) have too in_a in_b =
    one_further batch lists a b n have too (omega arith) (omega arith)
    (fronts_same batch lists a b n have too (omega arith) (omega arith))

-- no wave runs after these
abbrev pub NoMore : Batch → List (List Turn) → List Wave → Type 0
NoMore batch lists waves = (wave : Wave) → HasRun batch lists waves wave → ⊥

take_whole : {X : Type 0} (xs : List X) → take (length xs) xs ≡ xs
take_whole [] = refl
take_whole (x ∷ xs) = ap (λ zs. x ∷ zs) (take_whole xs)

-- a list after which no wave runs is no front of a longer one
no_longer : (batch : Batch) (lists : List (List Turn)) (a b : List Wave) → HaveRun batch lists a → HaveRun batch lists b
    → NoMore batch lists a → length a < length b → ⊥
no_longer batch lists a b have too ends below = by_wave (slice_get b (length a)) refl
  where
    same : take (length a) b ≡ a
    same = sym (fronts_same batch lists a b (length a) have too (omega arith) (omega arith)) ∙ take_whole a

    by_wave : (o : Option Wave) → slice_get b (length a) ≡ o → ⊥
    by_wave None at = none_there b (length a) below at
    by_wave (Some w) at = ends w (subst (λ before. HasRun batch lists before w) same (too (length a) w at))

order_of : (m n : ℕ) → (m < n) ⊎ ((m ≡ n) ⊎ (n < m))
order_of zero zero = inr (inl refl)
order_of zero (suc n) = inl (omega arith)
order_of (suc m) zero = inr (inr (omega arith))
order_of (suc m) (suc n) = step (order_of m n)
  where
    step : (m < n) ⊎ ((m ≡ n) ⊎ (n < m)) → (suc m < suc n) ⊎ ((suc m ≡ suc n) ⊎ (suc n < suc m))
    step (inl h) = inl (omega arith)
    step (inr (inl h)) = inr (inl (ap suc h))
    step (inr (inr h)) = inr (inr (omega arith))

-- the waves that run, until none runs any more, are one list
pub one_list : (batch : Batch) (lists : List (List Turn)) (a b : List Wave) → HaveRun batch lists a → HaveRun
    batch lists b
    → NoMore batch lists a → NoMore batch lists b → a ≡ b
one_list batch lists a b have too ends ends_too = by_order (order_of (length a) (length b))
  where
    by_order : (length a < length b) ⊎ ((length a ≡ length b) ⊎ (length b < length a)) → a ≡ b
    by_order (inl h) = absurd (no_longer batch lists a b have too ends h)
    by_order (inr (inl h)) =
        sym (take_whole a) ∙ fronts_same batch lists a b (length a) have too (omega arith) (omega (arith, h))
        ∙ ap (λ n. take n b) h ∙ take_whole b
    by_order (inr (inr h)) = absurd (no_longer batch lists b a too have ends_too h)

-- where none runs
pub not_due : (batch : Batch) (lists : List (List Turn)) (waves : List Wave) → is_next_due batch waves ≡ false
    → NoMore batch lists waves
not_due batch lists waves not_now wave has = false_true (sym not_now ∙ has.due)
  where
    false_true : false ≡ true → ⊥
    false_true e = cc

pub no_list : (batch : Batch) (lists : List (List Turn)) (waves : List Wave) → length lists ≡ length waves
    → NoMore batch lists waves
no_list batch lists waves count wave has =
    absurd (omega (arith, there_within lists (length waves) has.turns has.given, count))

pub in_error : {E : Type 0} (batch : Batch) (lists : List (List Turn)) (waves : List Wave) (turns : List Turn)
    (error : TestRunnerExecuteErrors E) → slice_get lists (length waves) ≡ Some turns
    → ComesToError (next_settings batch waves) turns error → NoMore batch lists waves
in_error {E} batch lists waves turns error given comes wave has =
    by_error error (subst (λ ts. ComesToError (next_settings batch waves) ts error) same comes)
  where
    p : Settings
    p = next_settings batch waves

    same : turns ≡ has.turns
    same = some_is turns has.turns (sym given ∙ has.given)

    course : HasOneCourse p has.turns refuses_none
    course = one_course p has.turns refuses_none

    ends : Ends p has.turns refuses_none wave.outcome
    ends = (has.journal, has.took, has.ended)

    by_error : (error : TestRunnerExecuteErrors E) → ComesToError p has.turns error → ⊥
    by_error (engine.NotEnabled place) comes = course.stop_or_end place false wave.outcome comes ends
    by_error (engine.ThirdSignal place) comes = course.stop_or_end place true wave.outcome comes ends
    by_error engine.Unfinished comes = course.unfinished_or_end wave.outcome comes ends
    by_error (engine.Report e) comes = comes
    by_error engine.OutOfMemory comes = comes

-- the error of turns is one
one_error : {E : Type 0} (p : Settings) (turns : List Turn) (d e : TestRunnerExecuteErrors E) → ComesToError p turns d
    → ComesToError p turns e → d ≡ e
one_error p turns (engine.NotEnabled i) (engine.NotEnabled j) comes too =
    ap engine.NotEnabled ((one_course p turns refuses_none).one_stop i j false false comes too).0
one_error p turns (engine.NotEnabled i) (engine.ThirdSignal j) comes too =
    cc (((one_course p turns refuses_none).one_stop i j false true comes too).1)
one_error p turns (engine.NotEnabled i) engine.Unfinished comes too =
    absurd ((one_course p turns refuses_none).stop_or_unfinished i false comes too)
one_error p turns (engine.ThirdSignal i) (engine.NotEnabled j) comes too =
    cc (((one_course p turns refuses_none).one_stop i j true false comes too).1)
one_error p turns (engine.ThirdSignal i) (engine.ThirdSignal j) comes too =
    ap engine.ThirdSignal ((one_course p turns refuses_none).one_stop i j true true comes too).0
one_error p turns (engine.ThirdSignal i) engine.Unfinished comes too =
    absurd ((one_course p turns refuses_none).stop_or_unfinished i true comes too)
one_error p turns engine.Unfinished (engine.NotEnabled j) comes too =
    absurd ((one_course p turns refuses_none).stop_or_unfinished j false too comes)
one_error p turns engine.Unfinished (engine.ThirdSignal j) comes too =
    absurd ((one_course p turns refuses_none).stop_or_unfinished j true too comes)
one_error p turns engine.Unfinished engine.Unfinished comes too = refl
one_error p turns (engine.Report d) e comes too = absurd comes
one_error p turns engine.OutOfMemory e comes too = absurd comes
one_error p turns d (engine.Report e) comes too = absurd too
one_error p turns d engine.OutOfMemory comes too = absurd too

-- the answer to lists is one
due_or_not : (batch : Batch) (a b : List Wave) → a ≡ b → is_next_due batch a ≡ false → is_next_due batch b ≡ true → ⊥
due_or_not batch a b same never now = both (sym never ∙ ap (is_next_due batch) same ∙ now)
  where
    both : false ≡ true → ⊥
    both e = cc

maps_same : (xs ys : List JobState) → map Some xs ≡ map Some ys → xs ≡ ys
maps_same [] [] e = refl
maps_same [] (y ∷ ys) e = cc
maps_same (x ∷ xs) [] e = cc
maps_same (x ∷ xs) (y ∷ ys) e =
    let rest : map Some xs ≡ map Some ys = cc in
    let first : x ≡ y = cc in
    ap (λ z. z ∷ xs) first ∙ ap (λ zs. y ∷ zs) (maps_same xs ys rest)

waves_answer : {E : Type 0} (batch : Batch) (lists : List (List Turn)) (n m : ℕ) (d e : TestRunnerExecuteErrors E)
    → ComesTo {E = E} batch lists (Err (errors.Wave n d)) → ComesTo {E = E} batch lists (Err (errors.Wave m e))
    → ◌≡◌ {A = Result (List JobState) (WavesError E)} (Err (errors.Wave n d)) (Err (errors.Wave m e))
waves_answer {E} batch lists n m d e x y =
    let at : slice_get lists (length x.0) ≡ Some x.4.0 = subst (λ m. slice_get lists m ≡ Some x.4.0) x.3 x.4.1 in
    let too : slice_get lists (length y.0) ≡ Some y.4.0 = subst (λ m. slice_get lists m ≡ Some y.4.0) y.3 y.4.1 in
    let same : x.0 ≡ y.0 =
    one_list batch lists x.0 y.0 x.1 y.1 (in_error batch lists x.0 x.4.0 d at x.4.2)
    (in_error batch lists y.0 y.4.0 e too y.4.2) in
    let turns : x.4.0 ≡ y.4.0 =
    some_is x.4.0 y.4.0 (sym at ∙ ap (λ ws. slice_get lists (length ws)) same ∙ too) in
    let first : ComesToError (next_settings batch y.0) y.4.0 d =
    subst (λ ws. ComesToError (next_settings batch ws) y.4.0 d) same
    (subst (λ ts. ComesToError (next_settings batch x.0) ts d) turns x.4.2) in
    ap (λ k. Err (errors.Wave k d)) (x.3 ∙ ap length same ∙ sym y.3)
    ∙ ap (λ k. Err (errors.Wave m k)) (one_error (next_settings batch y.0) y.4.0 d e first y.4.2)

pub one_answer : {E : Type 0} (batch : Batch) (lists : List (List Turn)) (x y : Result (List JobState) (WavesError E))
    → ComesTo batch lists x → ComesTo batch lists y → x ≡ y
one_answer batch lists (Ok s) (Ok t) x y =
    let same : x.0 ≡ y.0 =
    one_list batch lists x.0 y.0 x.1 y.1 (not_due batch lists x.0 x.2) (not_due batch lists y.0 y.2) in
    ap Ok (maps_same s t (x.4 ∙ ap (states_after batch.jobs) same ∙ sym y.4))
one_answer batch lists (Ok s) (Err (errors.Wave n e)) x y =
    let given : slice_get lists (length y.0) ≡ Some y.4.0 = subst (λ m. slice_get lists m ≡ Some y.4.0) y.3 y.4.1 in
    let same : x.0 ≡ y.0 =
    one_list batch lists x.0 y.0 x.1 y.1 (not_due batch lists x.0 x.2)
    (in_error batch lists y.0 y.4.0 e given y.4.2) in
    absurd (due_or_not batch x.0 y.0 same x.2 y.2)
one_answer batch lists (Ok s) (Err (errors.Missing n)) x y =
    let same : x.0 ≡ y.0 =
    one_list batch lists x.0 y.0 x.1 y.1 (not_due batch lists x.0 x.2) (no_list batch lists y.0 (y.4 ∙ y.3)) in
    absurd (due_or_not batch x.0 y.0 same x.2 y.2)
one_answer batch lists (Ok s) (Err (errors.Extra given due)) x y =
    let same : x.0 ≡ y.0 =
    one_list batch lists x.0 y.0 x.1 y.1 (not_due batch lists x.0 x.2) (not_due batch lists y.0 y.2) in
    absurd (omega (arith, ap length same, x.3, y.3, y.4, y.5))
one_answer batch lists (Err (errors.Wave n d)) (Ok t) x y =
    let given : slice_get lists (length x.0) ≡ Some x.4.0 = subst (λ m. slice_get lists m ≡ Some x.4.0) x.3 x.4.1 in
    let same : x.0 ≡ y.0 =
    one_list batch lists x.0 y.0 x.1 y.1 (in_error batch lists x.0 x.4.0 d given x.4.2) (not_due batch lists y.0 y.2) in
    absurd (due_or_not batch y.0 x.0 (sym same) y.2 x.2)
one_answer batch lists (Err (errors.Wave n d)) (Err (errors.Wave m e)) x y = waves_answer batch lists n m d e x y
one_answer batch lists (Err (errors.Wave n d)) (Err (errors.Missing m)) x y =
    let given : slice_get lists (length x.0) ≡ Some x.4.0 = subst (λ m. slice_get lists m ≡ Some x.4.0) x.3 x.4.1 in
    let same : x.0 ≡ y.0 =
    one_list batch lists x.0 y.0 x.1 y.1 (in_error batch lists x.0 x.4.0 d given x.4.2)
    (no_list batch lists y.0 (y.4 ∙ y.3)) in
    absurd (omega (arith, there_within lists (length x.0) x.4.0 given, ap length same, y.3, y.4))
one_answer batch lists (Err (errors.Wave n d)) (Err (errors.Extra given due)) x y =
    let at : slice_get lists (length x.0) ≡ Some x.4.0 = subst (λ m. slice_get lists m ≡ Some x.4.0) x.3 x.4.1 in
    let same : x.0 ≡ y.0 =
    one_list batch lists x.0 y.0 x.1 y.1 (in_error batch lists x.0 x.4.0 d at x.4.2) (not_due batch lists y.0 y.2) in
    absurd (due_or_not batch y.0 x.0 (sym same) y.2 x.2)
one_answer batch lists (Err (errors.Missing n)) (Ok t) x y =
    let same : x.0 ≡ y.0 =
    one_list batch lists x.0 y.0 x.1 y.1 (no_list batch lists x.0 (x.4 ∙ x.3)) (not_due batch lists y.0 y.2) in
    absurd (due_or_not batch y.0 x.0 (sym same) y.2 x.2)
one_answer batch lists (Err (errors.Missing n)) (Err (errors.Wave m e)) x y =
    let given : slice_get lists (length y.0) ≡ Some y.4.0 = subst (λ m. slice_get lists m ≡ Some y.4.0) y.3 y.4.1 in
    let same : x.0 ≡ y.0 =
    one_list batch lists x.0 y.0 x.1 y.1 (no_list batch lists x.0 (x.4 ∙ x.3))
    (in_error batch lists y.0 y.4.0 e given y.4.2) in
    absurd (omega (arith, there_within lists (length y.0) y.4.0 given, ap length same, x.3, x.4))
one_answer batch lists (Err (errors.Missing n)) (Err (errors.Missing m)) x y =
    let same : x.0 ≡ y.0 =
    one_list batch lists x.0 y.0 x.1 y.1 (no_list batch lists x.0 (x.4 ∙ x.3)) (no_list batch lists y.0 (y.4 ∙ y.3)) in
    ap (λ k. Err (errors.Missing k)) (x.3 ∙ ap length same ∙ sym y.3)
one_answer batch lists (Err (errors.Missing n)) (Err (errors.Extra given due)) x y =
    let same : x.0 ≡ y.0 =
    one_list batch lists x.0 y.0 x.1 y.1 (no_list batch lists x.0 (x.4 ∙ x.3)) (not_due batch lists y.0 y.2) in
    absurd (due_or_not batch y.0 x.0 (sym same) y.2 x.2)
one_answer batch lists (Err (errors.Extra given due)) (Ok t) x y =
    let same : x.0 ≡ y.0 =
    one_list batch lists x.0 y.0 x.1 y.1 (not_due batch lists x.0 x.2) (not_due batch lists y.0 y.2) in
    absurd (omega (arith, ap length same, y.3, x.3, x.4, x.5))
one_answer batch lists (Err (errors.Extra given due)) (Err (errors.Wave m e)) x y =
    let at : slice_get lists (length y.0) ≡ Some y.4.0 = subst (λ m. slice_get lists m ≡ Some y.4.0) y.3 y.4.1 in
    let same : x.0 ≡ y.0 =
    one_list batch lists x.0 y.0 x.1 y.1 (not_due batch lists x.0 x.2) (in_error batch lists y.0 y.4.0 e at y.4.2) in
    absurd (due_or_not batch x.0 y.0 same x.2 y.2)
one_answer batch lists (Err (errors.Extra given due)) (Err (errors.Missing m)) x y =
    let same : x.0 ≡ y.0 =
    one_list batch lists x.0 y.0 x.1 y.1 (not_due batch lists x.0 x.2) (no_list batch lists y.0 (y.4 ∙ y.3)) in
    absurd (due_or_not batch x.0 y.0 same x.2 y.2)
one_answer batch lists (Err (errors.Extra g d)) (Err (errors.Extra h e)) x y =
    let same : x.0 ≡ y.0 =
    one_list batch lists x.0 y.0 x.1 y.1 (not_due batch lists x.0 x.2) (not_due batch lists y.0 y.2) in
    ap (λ k. Err (errors.Extra k d)) (x.4 ∙ sym y.4)
    ∙ ap (λ k. Err (errors.Extra h k)) (x.3 ∙ ap length same ∙ sym y.3)
one_answer batch lists (Err errors.OutOfMemory) y comes too = absurd comes
one_answer batch lists x (Err errors.OutOfMemory) comes too = absurd too
