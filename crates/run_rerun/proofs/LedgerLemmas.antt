-- What a ledger has heard of each unit.
use Rattle.std.proofs.Common.{◌≡◌, ◌∙◌, ◌+◌, ◌-◌, ◌==◌, ◌&&◌, ℕ, List, [], ◌∷◌, ◌++◌, map, filter, filter_map, length}
use Rattle.std.proofs.Common.{Bool, true, false, Some, None, cond, nat_eq, nat_lt, slice_get, unwrap_or}
use Rattle.std.proofs.Common.{refl, sym, ap, subst, arith}
use Rattle.std.specs.List.{list_all, cons_option}
use Rattle.std.specs.BTreeMap.{get, is_at, Updates, IsUnchanged}
use Rattle.std.specs.Map.{lookup}
use Rattle.std.specs.Ordering.{nat_cmp}
use Rattle.std.proofs.lemmas.Grind.{common_steps}
use Rattle.std.proofs.lemmas.List.{append-nil, length-map}
use Rattle.std.proofs.lemmas.List.Elements.{filter_map-append, filter-append}
use Rattle.std.proofs.lemmas.List.Folds.{list_all-append}
use Rattle.run_events.specs.Stats.{adds_of, last_or, nothing, plus, test_adds}
use Rattle.run_events.proofs.StatsLemmas.{last_or_read}
use Rattle.run_events.specs.declared.stats.RunStats.{RunStats}
use Rattle.run_events.specs.declared.events.ReporterEvent.{ReporterEvent}
use Rattle.run_events.specs.declared.message.TestFinish.{TestFinish}
use Rattle.run_events.specs.declared.result.ExecuteStatus.{ExecuteStatus}
use Rattle.run_events.specs.declared.result.ExecutionResult.{ExecutionResult}
use Rattle.run_events.specs.declared.result.ExecutionResult.TheVariants.{ExecFail}
use Rattle.run_model.specs.Words.{last_slow}
use Rattle.run_rerun.specs.declared.ledger.Ledger.{Ledger}
use Rattle.run_rerun.specs.Ledgers.{IsLedgerOf, is_marked, mark_of, next_mark}
use Rattle.run_rerun.specs.Outstanding.{adds_pass, are_passes, finish_told, finishes_of, is_told_passed}

last_or_map : {X Y : Type 0} (f : X → Y) (x : X) (ys : List X) → last_or (f x) (map f ys) ≡ f (last_or x ys)
last_or_map f x [] = refl
last_or_map f x (y ∷ ys) = last_or_map f y ys

-- what is read off the last of a list is the last of what is read off it
pub last_or_mapped : {X Y : Type 0} (f : X → Y) (other : Y) (xs : List X) (y : X)
    → slice_get xs (length xs - 1) ≡ Some y → f y ≡ last_or other (map f xs)
last_or_mapped f other [] y read = cc
last_or_mapped f other (x ∷ xs) y read =
    ap f (last_or_read x (x ∷ xs) y read) ∙ sym (last_or_map f x xs)

-- a finish that is counted alone
pub adds_alone : (f : TestFinish) (slow : Bool) (last : ExecutionResult) (stats : RunStats)
    → slow ≡ last_slow f.statuses → last ≡ last_or ExecFail (map (λ s. s.result) f.statuses)
    → stats ≡ plus nothing (test_adds f.flaky (nat_lt 1 (length f.statuses)) slow last)
    → nat_eq stats.passed 1 ≡ adds_pass f
unfolding plus adds_of
adds_alone f slow last stats slow_is last_is stats_is =
    let flaky = f.flaky in
    let many = length f.statuses in
    let zero : (n : ℕ) → 0 + n ≡ n = λ n. omega arith in
    ap (λ (s : RunStats). nat_eq s.passed 1) stats_is
    ∙ ap (λ n. nat_eq n 1) (zero (test_adds flaky (nat_lt 1 many) slow last).passed)
    ∙ ap (λ s. nat_eq (test_adds flaky (nat_lt 1 many) s last).passed 1) slow_is
    ∙ ap (λ l. nat_eq (test_adds flaky (nat_lt 1 many) (last_slow f.statuses) l).passed 1) last_is
    ∙ ap (λ n. nat_eq (test_adds flaky (nat_lt 1 n) (last_slow f.statuses)
    (last_or ExecFail (map (λ s. s.result) f.statuses))).passed 1)
    (sym (length-map f.statuses (λ (s : ExecuteStatus). s.result)))

-- one of two numbers is at the other where they are equal
at_number : (u k : ℕ) → is_at (nat_cmp u) k ≡ (u == k)
at_number u k = grind (arith, common_steps)

-- what finishes come to with one more
mark_more : (fs : List TestFinish) (f : TestFinish) → mark_of (fs ++ f ∷ []) ≡ next_mark (mark_of fs) (adds_pass f)
mark_more [] f = ap Some (right_true (adds_pass f))
  where
    right_true : (b : Bool) → (b && true) ≡ b
    right_true true = refl
    right_true false = refl
mark_more (g ∷ fs) f =
    ap Some (list_all-append adds_pass (g ∷ fs) (f ∷ [])
    ∙ ap (λ b. list_all adds_pass (g ∷ fs) && b) (right_true (adds_pass f)))
  where
    right_true : (b : Bool) → (b && true) ≡ b
    right_true true = refl
    right_true false = refl

-- the finishes of a unit with one more event
finishes_more : (k : ℕ) (events : List ReporterEvent) (e : ReporterEvent)
    → finishes_of k (events ++ e ∷ [])
    ≡ finishes_of k events ++ filter (λ f. f.test.unit == k) (cons_option (finish_told e) [])
finishes_more k events e =
    ap (filter (λ f. f.test.unit == k)) (filter_map-append finish_told events (e ∷ []))
    ∙ filter-append (λ f. f.test.unit == k) (filter_map finish_told events) (filter_map finish_told (e ∷ []))

-- an event that tells no finish changes nothing
pub heard_other : (ledger : Ledger) (events : List ReporterEvent) (e : ReporterEvent) → finish_told e ≡ None
    → IsLedgerOf ledger events → IsLedgerOf ledger (events ++ e ∷ [])
heard_other ledger events e none is k =
    let same : finishes_of k (events ++ e ∷ []) ≡ finishes_of k events =
    finishes_more k events e
    ∙ ap (λ o. finishes_of k events ++ filter (λ f. f.test.unit == k) (cons_option o [])) none
    ∙ append-nil (finishes_of k events) in
    is k ∙ ap mark_of (sym same)

-- one that tells a finish marks its unit
pub heard_finish : (old new : Ledger) (events : List ReporterEvent) (e : ReporterEvent) (f : TestFinish)
    → finish_told e ≡ Some f
    → Updates nat_cmp old.marks new.marks f.test.unit
    (next_mark (get nat_cmp old.marks f.test.unit) (adds_pass f))
    → IsLedgerOf old events → IsLedgerOf new (events ++ e ∷ [])
heard_finish old new events e f some updates is k = by_unit (f.test.unit == k) refl
  where
    more : (b : Bool) → (f.test.unit == k) ≡ b
        → finishes_of k (events ++ e ∷ []) ≡ finishes_of k events ++ cond b (f ∷ []) []
    more b at =
        finishes_more k events e
        ∙ ap (λ o. finishes_of k events ++ filter (λ f. f.test.unit == k) (cons_option o [])) some
        ∙ ap (λ b. finishes_of k events ++ cond b (f ∷ []) []) at

    by_unit : (b : Bool) → (f.test.unit == k) ≡ b → get nat_cmp new.marks k ≡ mark_of (finishes_of k (events ++ e ∷ []))
    by_unit true at =
        let same : f.test.unit ≡ k = grind (arith, at) in
        let now : get nat_cmp new.marks k ≡ next_mark (get nat_cmp old.marks k) (adds_pass f) =
        subst (λ u. get nat_cmp new.marks u ≡ next_mark (get nat_cmp old.marks u) (adds_pass f)) same updates.1 in
        now ∙ ap (λ o. next_mark o (adds_pass f)) (is k) ∙ sym (mark_more (finishes_of k events) f)
        ∙ ap mark_of (sym (more true at))
    by_unit false at =
        updates.2 k (at_number f.test.unit k ∙ at) ∙ is k
        ∙ ap mark_of (sym (more false at ∙ append-nil (finishes_of k events)))

-- a ledger whose entries are as they were has heard what it had
pub unheard : (old new : Ledger) (events : List ReporterEvent) → IsUnchanged old.marks new.marks
    → IsLedgerOf old events → IsLedgerOf new events
unheard old new events same is k = ap (lookup (is_at (nat_cmp k))) same ∙ is k

-- an empty one has heard nothing
pub heard_nothing : (ledger : Ledger) → ledger.marks.entries ≡ [] → IsLedgerOf ledger []
heard_nothing ledger empty k = ap (lookup (is_at (nat_cmp k))) empty

-- a unit passed where it is marked so
pub marked_passed : (ledger : Ledger) (events : List ReporterEvent) → IsLedgerOf ledger events → (k : ℕ)
    → is_marked ledger k ≡ is_told_passed events k
marked_passed ledger events is k = ap (λ o. unwrap_or o false) (is k) ∙ by_finishes (finishes_of k events)
  where
    by_finishes : (fs : List TestFinish) → unwrap_or (mark_of fs) false ≡ are_passes fs
    by_finishes [] = refl
    by_finishes (f ∷ fs) = refl
