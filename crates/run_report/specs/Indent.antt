-- Outputs of children as they are shown.
use Rattle.std.specs.Prelude.{ℕ, ◌==◌, if◌then◌else◌, List, [], ◌∷◌, ◌++◌, codes}

-- bytes behind another, with four blanks before each that stands behind a line feed
abbrev pub indented_after : ℕ → List ℕ → List ℕ
indented_after before [] = []
indented_after before (byte ∷ bytes) =
    (if before == 10 then codes "    " else []) ++ (byte ∷ indented_after byte bytes)

-- the last of bytes behind another
abbrev pub last_byte : ℕ → List ℕ → ℕ
last_byte before [] = before
last_byte before (byte ∷ bytes) = last_byte byte bytes

-- what stands behind an output: the end of its last line, and an empty line
abbrev pub output_end : ℕ → List ℕ
output_end last = if last == 10 then 10 ∷ [] else 10 ∷ 10 ∷ []

-- an output as it is shown, each line indented, with an empty line behind it
unfoldable pub output_shown : List ℕ → List ℕ
output_shown output = indented_after 10 output ++ output_end (last_byte 10 output)
