-- What is told of a slow attempt.
use Rattle.std.proofs.Common.{ℕ, ◌≡◌, ◌==◌, [], Bool, true, false, if◌then◌else◌, refl}
use Rattle.run_model.specs.declared.unit_view.UnitView.{UnitView}
use Rattle.run_model.specs.Slow.{is_out_of_time}
use Rattle.run_model.specs.Row.{Row}
use Rattle.run_model.specs.Unit.{slow_row, slow_again, in_grace, out_of_time, slow_message}

-- it is told alike where it has run out of time
out_of_time_sent : (now n : ℕ) (u : UnitView)
    → (if u.terms.slow.grace == 0 then out_of_time n u else in_grace now n u).sent ≡ slow_message n u
out_of_time_sent now n u =
    elim (u.terms.slow.grace == 0) as
    (λ b. (if b then out_of_time n u else in_grace now n u).sent ≡ slow_message n u)
    [ true ↦ refl | false ↦ refl ]

-- and so whatever comes of it
pub slow_sent : (now n : ℕ) (u : UnitView) → (slow_row now n u).sent ≡ slow_message n u
slow_sent now n u =
    elim (is_out_of_time u.terms.slow n) as
    (λ b. (if b
    then (if u.terms.slow.grace == 0 then out_of_time n u else in_grace now n u)
    else slow_again now n u).sent ≡ slow_message n u)
    [ true ↦ out_of_time_sent now n u | false ↦ refl ]

-- it answers no query, and no stop is gone
slow_answers : (now n : ℕ) (u : UnitView) (out none : Bool) (r : Row)
    → r ≡ (if out then (if none then out_of_time n u else in_grace now n u) else slow_again now n u)
    → (r.info ≡ []) × (r.acks ≡ 0)
slow_answers now n u true true r is = rw is (refl, refl)
slow_answers now n u true false r is = rw is (refl, refl)
slow_answers now n u false none r is = rw is (refl, refl)

pub slow_info : (now n : ℕ) (u : UnitView) → (slow_row now n u).info ≡ []
slow_info now n u =
    (slow_answers now n u (is_out_of_time u.terms.slow n) (u.terms.slow.grace == 0) (slow_row now n u) refl).0

pub slow_acks : (now n : ℕ) (u : UnitView) → (slow_row now n u).acks ≡ 0
slow_acks now n u =
    (slow_answers now n u (is_out_of_time u.terms.slow n) (u.terms.slow.grace == 0) (slow_row now n u) refl).1
