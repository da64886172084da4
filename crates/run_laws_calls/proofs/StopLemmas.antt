-- Where no cause came, no unit is never started, and none is left.
use Rattle.std.proofs.Common.{◌≡◌, ℕ, ◌&&◌, nat_lt, List, [], ◌∷◌, Bool, true, false, if◌then◌else◌}
use Rattle.std.proofs.Common.{Option, Some, None, is_some, refl, ap}
use Rattle.run_events.specs.Cancel.{greater, rank}
use Rattle.run_events.specs.declared.cancel.CancelReason.{CancelReason}
use Rattle.run_model.specs.declared.happening.Happening.{Happening}
use Rattle.run_model.specs.Story.{deliveries, is_at_retry, is_at_start, lets_go, stopped_at}
use Rattle.run_model.specs.Words.{reason}
use Rattle.run_laws_calls.specs.Stops.{IsUnstopped}

earlier_none : (before cause : Option CancelReason) → is_some (greater before cause) ≡ false → is_some before ≡ false
earlier_none None cause h = refl
earlier_none (Some r) None h = cc
earlier_none (Some r) (Some c) h = by_rank (nat_lt (rank r) (rank c)) h
  where
    by_rank : (b : Bool) → is_some (if b then Some c else Some r) ≡ false → true ≡ false
    by_rank true h = cc
    by_rank false h = cc

shut : (a b : Bool) (n : ℕ) → b ≡ false → (if a && b then Some n else None) ≡ None
shut true b n h = rw h refl
shut false b n h = refl

stopped_none : (k : ℕ) (run : List Happening) → is_some (reason run) ≡ false → stopped_at k run ≡ None
stopped_none k [] calm = refl
stopped_none k (x ∷ past) calm =
    let before : is_some (reason past) ≡ false = earlier_none (reason past) x.cause calm in
    rw (stopped_none k past before) (shut (lets_go k x.part) (is_some (reason past)) (deliveries k past) before)

pub unstopped : (k : ℕ) (run : List Happening) → is_some (reason run) ≡ false → IsUnstopped run k
unstopped k run calm = record {
  started = ap is_at_start (stopped_none k run calm);
  stayed = ap is_at_retry (stopped_none k run calm);
}
