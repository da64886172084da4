-- What came from outside, and ticks between.
use Rattle.std.specs.Prelude.{◌≡◌, List, Bool, true, false}
use Rattle.std.specs.List.{filter}
use Rattle.run_keep.specs.declared.outside.Came.{Came}
use Rattle.run_keep.specs.declared.outside.Came.TheVariants as came

-- whether what came is no tick
abbrev pub is_given : Came → Bool
is_given (came.Signal signal) = true
is_given (came.Key key) = true
is_given came.Tick = false

-- this has come where a list did that is the same without ticks
abbrev pub HasComeTicking : (List Came → Type 0) → List Came → Type 0
HasComeTicking has_come came = (given : List Came) × has_come given × (filter is_given came ≡ filter is_given given)
