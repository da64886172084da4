-- The version of the runner that a project asks for.
use Rattle.std.specs.Prelude.{ℕ, ◌&&◌, ◌||◌, Bool, false, List, nat_eq, nat_lt, Result, Ok, Err}
use Rattle.std.specs.Option.{option_map_or}
use Rattle.semver.specs.Parse.{Parts, version_parts}
use Rattle.run_profile.specs.declared.version.VersionsAsked.{VersionsAsked}

-- a version is above 0.9.129
abbrev pub is_version_above : ℕ → ℕ → ℕ → Bool
is_version_above major minor patch = nat_lt 0 major || (nat_lt 9 minor || (nat_eq minor 9 && nat_lt 129 patch))

abbrev pub are_above : {E : Type 0} → Result Parts E → Bool
are_above (Ok parts) = is_version_above parts.0 parts.1 parts.2
are_above (Err error) = false

abbrev pub is_newer : List ℕ → Bool
is_newer text = are_above (version_parts text)

-- the least version that a project asks for is
abbrev pub needs_newer : VersionsAsked → Bool
needs_newer versions = option_map_or is_newer versions.required false
