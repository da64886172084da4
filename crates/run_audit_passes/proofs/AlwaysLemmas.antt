-- What holds of each state, of parts too.
use Rattle.std.specs.Prelude.{IfSome}
use Rattle.std.proofs.Common.{List, Option, Some, None}
use Rattle.std.specs.List.{All}
use Rattle.run_audit_machines.specs.Laws.{HoldsAlways}
use Rattle.run_audit_machines.specs.Machines.{HoldsInParts, InParts}

always_within : {S : Type 0} (o : Option S) → IfSome o HoldsAlways
always_within None = tt
always_within (Some s) = tt

pub always_held : {S : Type 0} (now : InParts S (List S)) → HoldsInParts HoldsAlways (All HoldsAlways) now
always_held now = record { within = always_within now.within; comes = λ k d within. tt }
