-- The versions of the runner that a project asks for.
use Rattle.std.specs.Prelude.{ℕ, Bool, List, [], ◌∷◌, codes, Option, Some, None, Ok, if◌then◌else◌}
use Rattle.std.specs.Result.{is_ok}
use Rattle.semver.specs.Parse.{version_parts}
use Rattle.toml.specs.Data.{Data, as_str}
use Rattle.run_profile.specs.declared.errors.Fault.TheVariants as faults
use Rattle.run_profile.specs.declared.version.VersionsAsked.{VersionsAsked}
use Rattle.run_profile.specs.Fields.{ProfileRead, Reader, only_keys, optional_key, refused, text_read}
use Rattle.run_profile.specs.Reads.{◌>>=◌}

-- whether a text is a version as `1.2.3`
abbrev pub is_version : List ℕ → Bool
is_version text = is_ok (version_parts text)

-- the text, where it is one
abbrev pub version_text : List ℕ → List ℕ → ProfileRead (List ℕ)
version_text path text = if is_version text then Ok text else refused path faults.NotVersion

abbrev pub version_read : Reader (List ℕ)
version_read path d = do
  text ← text_read path d
  version_text path text

-- a text is the least version, and a table says both
abbrev pub versions_said : Option (List ℕ) → Reader VersionsAsked
versions_said (Some text) path d = do
  version ← version_text path text
  Ok (record { required = Some version; recommended = None })
versions_said None path d = do
  _ ← only_keys (codes "recommended" ∷ codes "required" ∷ []) path d
  required ← optional_key version_read path (codes "required") d
  recommended ← optional_key version_read path (codes "recommended") d
  Ok (record { required = required; recommended = recommended })

abbrev pub versions_read : Reader VersionsAsked
versions_read path d = versions_said (as_str d) path d

-- none where nothing is said
abbrev pub versions_at : List ℕ → Option Data → ProfileRead VersionsAsked
versions_at path None = Ok (record { required = None; recommended = None })
versions_at path (Some d) = versions_read path d
