-- Whether a list has an item.
use Rattle.std.specs.Prelude.{Bool, true, false, List, []}

abbrev pub has_any : {X : Type 0} → List X → Bool
has_any [] = false
has_any _ = true
