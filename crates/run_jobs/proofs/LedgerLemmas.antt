-- What results have heard of each test.
use Rattle.std.proofs.Common.{◌≡◌, ◌∙◌, ◌==◌, ◌-◌, ℕ, List, [], ◌∷◌, ◌++◌, length, Bool, true, false, cond, Option}
use Rattle.std.proofs.Common.{Some, None}
use Rattle.std.proofs.Common.{slice_get, refl, sym, ap, subst, arith}
use Rattle.std.specs.BTreeMap.{get, is_at, Updates, IsUnchanged}
use Rattle.std.specs.Map.{lookup}
use Rattle.std.specs.Option.{option_or}
use Rattle.std.specs.Ordering.{nat_cmp}
use Rattle.std.proofs.lemmas.Grind.{common_steps}
use Rattle.run_events.specs.Result.{is_success}
use Rattle.run_events.specs.declared.events.ReporterEvent.{ReporterEvent}
use Rattle.run_events.specs.declared.result.ExecuteStatus.{ExecuteStatus}
use Rattle.run_laws_calls.specs.Success.{has_last_passed}
use Rattle.run_jobs.specs.declared.ledger.Results.{Results}
use Rattle.run_jobs.specs.Ledgers.{IsResultsOf}
use Rattle.run_jobs.specs.States.{last_result, result_for, result_told}

-- the last of some attempts by its place
pub last_read : (ss : List ExecuteStatus) (s : ExecuteStatus) → slice_get ss (length ss - 1) ≡ Some s
    → is_success s.result ≡ has_last_passed ss
last_read [] s read = cc
last_read (x ∷ []) s read =
    let same : s ≡ x = cc in
    ap (λ (o : ExecuteStatus). is_success o.result) same
last_read (x ∷ y ∷ ss) s read =
    let place : length (x ∷ y ∷ ss) - 1 ≡ length (y ∷ ss) = omega arith in
    let next : length (y ∷ ss) - 1 ≡ length ss = omega arith in
    last_read (y ∷ ss) s (ap (slice_get (y ∷ ss)) next ∙ sym (ap (slice_get (x ∷ y ∷ ss)) place) ∙ read)

-- one of two numbers is at the other where they are equal
is_at_number : (u k : ℕ) → is_at (nat_cmp u) k ≡ (u == k)
is_at_number u k = grind (arith, common_steps)

-- the last result with one more event
or_joined : (o p q : Option Bool) → option_or (option_or o p) q ≡ option_or o (option_or p q)
or_joined None p q = refl
or_joined (Some b) p q = refl

pub last_more : (unit : ℕ) (events : List ReporterEvent) (e : ReporterEvent)
    → last_result unit (events ++ e ∷ []) ≡ option_or (result_for unit (result_told e)) (last_result unit events)
last_more unit [] e = right_none (result_for unit (result_told e))
  where
    right_none : (o : Option Bool) → option_or None o ≡ option_or o None
    right_none None = refl
    right_none (Some b) = refl
last_more unit (x ∷ events) e =
    ap (λ o. option_or o (result_for unit (result_told x))) (last_more unit events e)
    ∙ or_joined (result_for unit (result_told e)) (last_result unit events) (result_for unit (result_told x))

-- an event that tells no result changes nothing
pub heard_nothing : (results : Results) (events : List ReporterEvent) (e : ReporterEvent) → result_told e ≡ None
    → IsResultsOf results events → IsResultsOf results (events ++ e ∷ [])
heard_nothing results events e none is k =
    is k ∙ sym (last_more k events e ∙ ap (λ o. option_or (result_for k o) (last_result k events)) none)

-- one that tells a result keeps it
pub heard_result : (old new : Results) (events : List ReporterEvent) (e : ReporterEvent) (unit : ℕ) (passed : Bool)
    → result_told e ≡ Some (unit, passed) → Updates nat_cmp old.passed new.passed unit (Some passed)
    → IsResultsOf old events → IsResultsOf new (events ++ e ∷ [])
heard_result old new events e unit passed some updates is k = by_unit (unit == k) refl
  where
    more : (b : Bool) → (unit == k) ≡ b
        → last_result k (events ++ e ∷ []) ≡ option_or (cond b (Some passed) None) (last_result k events)
    more b at =
        last_more k events e
        ∙ ap (λ o. option_or (result_for k o) (last_result k events)) some
        ∙ ap (λ b. option_or (cond b (Some passed) None) (last_result k events)) at

    by_unit : (b : Bool) → (unit == k) ≡ b → get nat_cmp new.passed k ≡ last_result k (events ++ e ∷ [])
    by_unit true at =
        let same : unit ≡ k = grind (arith, at) in
        let now : get nat_cmp new.passed k ≡ Some passed =
        subst (λ u. get nat_cmp new.passed u ≡ Some passed) same updates.1 in
        now ∙ sym (more true at)
    by_unit false at =
        updates.2 k (is_at_number unit k ∙ at) ∙ is k ∙ sym (more false at)

-- results whose entries are as they were have heard what they had
pub unheard_result : (old new : Results) (events : List ReporterEvent) → IsUnchanged old.passed new.passed
    → IsResultsOf old events → IsResultsOf new events
unheard_result old new events same is k = ap (lookup (is_at (nat_cmp k))) same ∙ is k

-- empty ones have heard nothing
pub no_result : (results : Results) → results.passed.entries ≡ [] → IsResultsOf results []
no_result results empty k = ap (lookup (is_at (nat_cmp k))) empty
