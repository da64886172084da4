-- Which platforms an override is for, and what it must have.
use Rattle.std.specs.Prelude.{ℕ, ◌&&◌, Bool, true, List, [], ◌∷◌, codes}
use Rattle.std.specs.Prelude.{Option, Some, None, is_none, is_some, unwrap_or, Result, Ok, Err, if◌then◌else◌}
use Rattle.toml.specs.Data.{as_str}
use Rattle.run_profile.specs.declared.cfg.Cfg.{Cfg}
use Rattle.run_profile.specs.declared.cfg.PlatformFault.{PlatformFault}
use Rattle.run_profile.specs.declared.cfg.TheConstants.{ROOM}
use Rattle.run_profile.specs.declared.errors.Fault.TheVariants as faults
use Rattle.run_profile.specs.Fields.{ProfileRead, Reader, only_keys, optional_key, refused, refused_at, text_read}
use Rattle.run_profile.specs.Platform.{platform_names}
use Rattle.run_profile.specs.Reads.{◌>>=◌}

-- whether a text names the platform
abbrev pub platformed : List ℕ → Result Bool PlatformFault → ProfileRead Bool
platformed path (Ok holds) = Ok holds
platformed path (Err fault) = refused path (faults.Platform fault)

abbrev pub platform_text : Cfg → Reader Bool
platform_text cfg path d = do
  text ← text_read path d
  platformed path (platform_names ROOM cfg text)

-- a text, or a table of one for the host and one for the target: each is this platform
abbrev pub platform_said : Cfg → Option (List ℕ) → Reader Bool
platform_said cfg (Some text) path d = platformed path (platform_names ROOM cfg text)
platform_said cfg None path d = do
  _ ← only_keys (codes "host" ∷ codes "target" ∷ []) path d
  host ← optional_key (platform_text cfg) path (codes "host") d
  target ← optional_key (platform_text cfg) path (codes "target") d
  Ok (unwrap_or host true && unwrap_or target true)

abbrev pub holds_of : Cfg → Reader Bool
holds_of cfg path d = platform_said cfg (as_str d) path d

-- an override has a filter or a platform, and a default filter without a filter alone
abbrev pub conditions : List ℕ → Option Bool → Option (List ℕ) → Option (List ℕ) → ProfileRead (Unit {0})
conditions path holds filter default_filter =
    if is_none holds && is_none filter then refused path faults.NoCondition
    else if is_some default_filter && is_some filter then refused_at path (codes "default-filter") faults.WithFilter
    else Ok tt
