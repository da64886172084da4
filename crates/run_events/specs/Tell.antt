-- What a reporter has told and what children were asked, as lists that grow at their ends.
use Rattle.std.specs.Prelude.{List, [], ◌∷◌, ◌++◌, Option, Some, None, Result, Ok, Err}
use Rattle.run_events.specs.declared.reporter.ReportFault.{ReportFault}
use Rattle.run_events.specs.declared.reporter.ReportFault.TheVariants.{Refused, OutOfMemory}

-- what a call that was told an event adds: the event with the error that refused it, if one did,
-- and nothing where memory was wanting
abbrev pub answered : {E X : Type 0} → X → Result (Unit {0}) (ReportFault E) → List (X × Option E)
answered x (Ok _) = (x, None) ∷ []
answered x (Err (Refused e)) = (x, Some e) ∷ []
answered x (Err OutOfMemory) = []

-- whatever list held before, a longer one holds after
abbrev pub Adds : {S X : Type 0} → (S → List X → Type 0) → S → S → List X → Type 0
Adds {S} {X} holds before after more = (xs : List X) → holds before xs → holds after (xs ++ more)

-- whatever list held before, holds after
abbrev pub Retains : {S X : Type 0} → (S → List X → Type 0) → S → S → Type 0
Retains {S} {X} holds before after = (xs : List X) → holds before xs → holds after xs
