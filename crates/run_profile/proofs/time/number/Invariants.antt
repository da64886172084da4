use Rattle.std.proofs.Common.{◌≡◌, ◌<◌, ◌^◌, drop}
use Rattle.run_profile.specs.Time.{number_after}
use Rattle.run_profile.proofs.time.number.Given as goal

abbrev pub invariant-loop-digit : goal.invariant-loop-digit
invariant-loop-digit l =
    (number_after l.number (drop l.digit-index l.digits) ≡ number_after 0 l.digits) × (l.number < 2 ^ 64)
