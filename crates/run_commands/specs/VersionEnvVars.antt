-- The variables that tell a child the versions.
use Rattle.std.specs.Prelude.{ℕ, List, [], ◌∷◌, Option, Some, None, codes}
use Rattle.semver.specs.Identifiers.{parts_text}
use Rattle.run_commands.specs.Versions.{Parts, Versions}

-- a version's text, or `none`
abbrev pub version_or_none : Option Parts → List ℕ
version_or_none None = codes "none"
version_or_none (Some version) = parts_text version

-- the three variables, with their values
abbrev pub version_pairs : Versions → List (List ℕ × List ℕ)
version_pairs v =
    (codes "NEXTEST_VERSION", parts_text v.current)
    ∷ (codes "NEXTEST_REQUIRED_VERSION", version_or_none v.required)
    ∷ (codes "NEXTEST_RECOMMENDED_VERSION", version_or_none v.recommended) ∷ []
