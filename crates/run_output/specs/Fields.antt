-- A line of output: an object of optional fields, as text with no space and with its keys in byte order.
use Rattle.std.specs.Prelude.{ℕ, ℤ, zero, suc, List, [], ◌∷◌, ◌++◌, Option, Some, None, map}
use Rattle.std.specs.Borrow.{Bor}
use Rattle.serde_json.specs.Data.{Data, unsigned, number, string, array, object, Members, no_members, put}
use Rattle.serde_json.specs.Find.{of_integer}
use Rattle.serde_json.specs.View.{items_of}
use Rattle.serde_json.specs.Written.{compact_text}

-- a member is added where there is a value
abbrev pub put_some : List ℕ → Option Data → Members → Members
put_some key None members = members
put_some key (Some value) members = put key value members

-- each field in order
abbrev pub put_all : List (List ℕ × Option Data) → Members → Members
put_all [] members = members
put_all (field ∷ fields) members = put_all fields (put_some field.0 field.1 members)

-- the object of the fields that have a value
abbrev pub object_of : List (List ℕ × Option Data) → Data
object_of fields = object (put_all fields no_members)

-- its text
abbrev pub object_text : List (List ℕ × Option Data) → List ℕ
object_text fields = compact_text (object_of fields)

-- the fields that the program has, by what stands at each key
abbrev pub rows : {X : Type 0} → (X → Option Data) → List (Bor (List ℕ) × X) → List (List ℕ × Option Data)
rows printed fields = map (λ field. (field.0.now, printed field.1)) fields

-- a number
abbrev pub count : ℕ → Data
count n = number (unsigned n)

-- a number that may be below 0
abbrev pub signed : ℤ → Data
signed n = number (of_integer n)

-- a number that is left out where it is 0
unfoldable pub nonzero : ℕ → Option Data
nonzero zero = None
nonzero (suc n) = Some (count (suc n))

-- an array
abbrev pub array_of : {X : Type 0} → (X → Data) → List X → Data
array_of printed list = array (items_of (map printed list))

-- an array that is left out where it is empty
abbrev pub array_unless_empty : List Data → Option Data
array_unless_empty [] = None
array_unless_empty (first ∷ others) = Some (array (items_of (first ∷ others)))

-- an array of texts
abbrev pub texts : List (List ℕ) → Data
texts list = array_of string list

-- a pair of texts
abbrev pub pair : List ℕ × List ℕ → Data
pair texts_of_pair = texts (texts_of_pair.0 ∷ texts_of_pair.1 ∷ [])

-- a line, with the line feed that ends it
abbrev pub line_bytes : List ℕ → List ℕ
line_bytes text = text ++ 10 ∷ []
