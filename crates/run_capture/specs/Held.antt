-- What a list, a text and a blob hold. A list that is made without an allocator holds no `Vec` until its first item;
-- the bytes of a text lie in the text itself or in memory of their own; those of a blob in memory that several may
-- hold.
use Rattle.std.specs.Prelude.{ℕ, List, [], Option, None, Some, string_bytes}
use Rattle.std.specs.Arc.{arc_value}
use Rattle.std.specs.declared.sync.Arc.{Arc}
use Rattle.std.specs.declared.vec.Vec.{Vec}
use Rattle.std.specs.declared.alloc.Global.{Global}
use Rattle.run_capture.specs.declared.text.Bytes.{Bytes}
use Rattle.run_capture.specs.declared.text.Bytes.TheVariants.{Short, Long}

-- the items of such a list
abbrev pub items_held : {T : Type 0} → Option (Vec T Global) → List T
items_held None = []
items_held (Some v) = v.items

-- the bytes of such a blob
abbrev pub bytes_held : Option (Arc (Vec ℕ Global) Global) → List ℕ
bytes_held None = []
bytes_held (Some arc) = (arc_value arc).items

-- the bytes of such a text
abbrev pub text_held : Bytes → List ℕ
text_held (Short short) = short.bytes
text_held (Long string) = string_bytes string
