-- The lines of what shards come to.
use Rattle.std.proofs.Common.{◌≡◌, false, refl}
use Rattle.serde_json.specs.Written.{has_float}
use Rattle.run_rerun.specs.declared.answers.ShardsVerdict.{ShardsVerdict}
use Rattle.run_rerun.specs.declared.answers.ShardsVerdict.TheVariants.{Whole, Cut, Other, Twice, Missing}
use Rattle.run_rerun.specs.ShardLines.{shards_value}

-- no line has a number that isn't whole
pub no_float : (verdict : ShardsVerdict) → has_float (shards_value verdict) ≡ false
no_float (Whole tests passed) = refl
no_float (Cut place) = refl
no_float (Other place) = refl
no_float (Twice id) = refl
no_float (Missing id) = refl
