-- How a unit takes a request.
use Rattle.std.specs.Prelude.{Bool, true, false}
use Rattle.run_events.specs.declared.request.Request.{Request}
use Rattle.run_events.specs.declared.request.Request.TheVariants.{Shutdown, OtherCancel, GetInfo}
use Rattle.run_model.specs.declared.phase.Phase.{Phase}
use Rattle.run_model.specs.declared.phase.Phase.TheVariants.{Delay}

-- whether it says something of a request that it takes in a phase: it answers a query, and tells its retry where one
-- ends a delay
abbrev pub is_told : Phase → Request → Bool
is_told ph (GetInfo round) = true
is_told Delay (Shutdown request) = true
is_told Delay OtherCancel = true
is_told ph request = false
