-- The words over a sub-run in which nothing has happened.
use Rattle.std.proofs.Common.{◌≡◌, ℕ, zero, suc, ◌+◌, List, [], length, get_or, Bool, false, cond, Option, None}
use Rattle.std.proofs.Common.{count_by, refl, ap, sym, ◌∙◌, add-zero, map}
use Rattle.std.specs.List.{range_with_len}
use Rattle.std.proofs.lemmas.List.FromFn.{fill_by_all}
use Rattle.std.proofs.lemmas.List.Sums.{sum_by-cons}
use Rattle.run_events.specs.Stats.{total_by}
use Rattle.run_events.specs.declared.stats.RunStats.{RunStats}
use Rattle.run_events.specs.declared.settings.Settings.{Settings}
use Rattle.run_model.specs.declared.dispatcher_view.Tally.{Tally}
use Rattle.run_model.specs.declared.unit_view.UnitView.{UnitView}
use Rattle.run_model.specs.Admission.{units_in, tests_in, scripts_in}
use Rattle.run_model.specs.Dispatch.{tally_from}
use Rattle.run_model.specs.Words.{units, unit_of, running, scripts_running, is_running, adds_by, tally, initial_stats}

-- no finish adds nothing
pub total-nil : (start : RunStats) → total_by adds_by start [] ≡ start
unfolding total_by
total-nil start = simp add-zero refl

-- no unit counts
count-none : (f : ℕ → Bool) (n a : ℕ) → ((k : ℕ) → f k ≡ false) → count_by f (range_with_len a n) ≡ 0
count-none f zero a none = refl
count-none f (suc n) a none =
    sum_by-cons (λ x. cond (f x) 1 0) a (range_with_len (a + 1) n)
    ∙ ap (λ b. cond b 1 0 + count_by f (range_with_len (a + 1) n)) (none a)
    ∙ ap (λ m. 0 + m) (count-none f n (a + 1) none)

-- no test runs, and no script
pub running-nil : (p : Settings) → running p [] ≡ 0
running-nil p = count-none (is_running []) (tests_in p) (scripts_in p) (λ k. refl)

pub scripts_running-nil : (p : Settings) → scripts_running p [] ≡ 0
scripts_running-nil p = count-none (is_running []) (scripts_in p) 0 (λ k. refl)

-- no unit was admitted
pub units-nil : (p : Settings) (us : List (Option UnitView)) → length us ≡ units_in p
    → ((k : ℕ) → get_or us k None ≡ None) → us ≡ units p []
units-nil p us whole none = fill_by_all (λ k. unit_of k []) us (units_in p) None whole (λ k h. none k)

-- nothing is counted
pub tally-nil : (p : Settings) → tally_from (initial_stats p) ≡ tally p []
tally-nil p =
    ap (λ s. record (tally_from (initial_stats p)) { stats = s }) (sym (total-nil (initial_stats p)))
    ∙ ap (λ n. record { running = n; scripts_running = 0; stats = (tally p []).stats }) (sym (running-nil p))
    ∙ ap (λ n. record { running = running p []; scripts_running = n; stats = (tally p []).stats })
    (sym (scripts_running-nil p))
