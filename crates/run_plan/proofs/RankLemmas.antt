-- The priorities of a plan are from -100 to 100.
use Rattle.std.proofs.Common.{◌≡◌, ℕ, zero, suc, ℤ, pos, negsuc, Bool, true, false, List, [], ◌∷◌, map, refl}
use Rattle.std.proofs.Common.{if◌then◌else◌, nat_le, All, arith, le-leb, leb-false}
use Rattle.run_profile.specs.Settings.{test_settings}
use Rattle.run_profile.specs.declared.scripts.SetupScript.{SetupScript}
use Rattle.run_profile.specs.declared.settings.Profile.{Profile}
use Rattle.run_plan_line.specs.SaidPlan.{HasRank, is_rank}
use Rattle.run_plan.specs.Listed.{AskedTest}
use Rattle.run_plan.specs.Planned.{scripted_test, within_100}
use Rattle.run_plan.specs.declared.choices.Picks.{Picks}

not_above : (n : ℕ) (b : Bool) → nat_le 100 n ≡ b → is_rank (if b then pos 100 else pos n) ≡ true
not_above n true is = refl
not_above n false is = le-leb n 100 (omega (arith, leb-false 100 n is))

not_below : (m : ℕ) (b : Bool) → nat_le 99 m ≡ b → is_rank (if b then negsuc 99 else negsuc m) ≡ true
not_below m true is = refl
not_below m false is = rw (le-leb m 99 (omega (arith, leb-false 99 m is))) refl

within_ranks : (z : ℤ) → is_rank (within_100 z) ≡ true
within_ranks (pos n) = not_above n (nat_le 100 n) refl
within_ranks (negsuc m) = not_below m (nat_le 99 m) refl

pub tests_ranked : (processors most : ℕ) (profile : Profile) (picks : Picks) (used : List SetupScript)
    (rows : List (AskedTest × Bool)) → All HasRank (map (scripted_test processors most profile picks used) rows)
tests_ranked processors most profile picks used [] k d below = absurd (omega (arith, below))
tests_ranked processors most profile picks used (row ∷ rows) zero d below =
    within_ranks (test_settings profile row.0.1.overrides).priority.value
tests_ranked processors most profile picks used (row ∷ rows) (suc k) d below =
    tests_ranked processors most profile picks used rows k d (omega (arith, below))
