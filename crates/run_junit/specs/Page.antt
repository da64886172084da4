-- Text that is kept until the end, of which outputs are as children wrote them.
use Rattle.std.specs.Prelude.{ℕ, List}
use Rattle.std.specs.List.{flat_map}
use Rattle.run_junit.specs.declared.page.Part.{Part}
use Rattle.run_junit.specs.declared.page.Part.TheVariants.{Line, Output}
use Rattle.run_junit.specs.Escape.{body_text}

-- a part as it is written
abbrev pub part_bytes : Part → List ℕ
part_bytes (Line text) = text
part_bytes (Output bytes) = body_text bytes

-- parts, one after another
abbrev pub parts_bytes : List Part → List ℕ
parts_bytes parts = flat_map part_bytes parts
