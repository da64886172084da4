-- What a reporter has told and a listener beside it has heard.
use Rattle.std.specs.Prelude.{List, Option, Some, None}
use Rattle.std.specs.List.{filter_map}

-- an event that was told, if it wasn't refused
abbrev pub taken_event : {E X : Type 0} → X × Option E → Option X
taken_event (x, None) = Some x
taken_event (x, Some e) = None

-- a reporter has told these events, refused or not, and a listener has heard just those that it took, in order
pub record BothTold {A B E X : Type 0} (told : A → List (X × Option E) → Type 0) (heard : B → List X → Type 0)
    (lines : A) (report : B) (answers : List (X × Option E)) : Type 0 where
  pub lines_told : told lines answers
  pub report_heard : heard report (filter_map taken_event answers)
