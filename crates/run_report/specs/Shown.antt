-- Text on its way to a sink.
use Rattle.std.specs.Prelude.{ℕ, List}
use Rattle.std.specs.List.{flat_map}
use Rattle.run_report.specs.declared.shown.Part.{Part}
use Rattle.run_report.specs.declared.shown.Part.TheVariants.{Line, Output}
use Rattle.run_report.specs.Indent.{output_shown}

-- a part as it is shown
abbrev pub part_shown : Part → List ℕ
part_shown (Line text) = text
part_shown (Output output) = output_shown output

-- parts as they are shown
abbrev pub parts_shown : List Part → List ℕ
parts_shown parts = flat_map part_shown parts
