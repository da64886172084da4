-- The settings that a profile gives a test.
use Rattle.std.specs.Prelude.{ℕ, pos, ◌≡◌, ◌<◌, ◌&&◌, Bool, true, List, [], position}
use Rattle.std.specs.Prelude.{slice_get, IsSomeAnd, MatchOption}
use Rattle.std.specs.Prelude.{Option, Some, None, is_some, option_map, option_and_then, unwrap_or}
use Rattle.std.specs.List.{list_any, zip}
use Rattle.run_events.specs.Usual.{no_retries, usual_leak, usual_slow}
use Rattle.run_events.specs.declared.result.FlakyResult.TheVariants as flakies
use Rattle.run_profile.specs.declared.settings.Setting.{Setting}
use Rattle.run_profile.specs.declared.settings.Setting.TheVariants as settings
use Rattle.run_profile.specs.declared.settings.Said.{Said}
use Rattle.run_profile.specs.declared.settings.Override.{Override}
use Rattle.run_profile.specs.declared.settings.Chosen.{Chosen}
use Rattle.run_profile.specs.declared.settings.Profile.{Profile}
use Rattle.run_profile.specs.declared.settings.TestSettings.{TestSettings}
use Rattle.run_profile.specs.declared.run_keys.RunKeys.{RunKeys}
use Rattle.run_profile.specs.declared.settings.Weight.{Weight}
use Rattle.run_profile.specs.declared.settings.Weight.TheVariants as weights
use Rattle.run_profile.specs.declared.scripts.ScriptRule.{ScriptRule}
use Rattle.run_profile.specs.declared.settings.Origin.{Origin}
use Rattle.run_profile.specs.declared.settings.Origin.TheVariants as origins
use Rattle.run_profile.specs.Time.{one_of}

-- whether a setting is said
abbrev pub names : Setting → Said → Bool
names settings.Retries said = is_some said.retries
names settings.Flaky said = is_some said.flaky
names settings.Slow said = is_some said.slow
names settings.Leak said = is_some said.leak
names settings.Weight said = is_some said.weight
names settings.Group said = is_some said.group
names settings.Priority said = is_some said.priority
names settings.ExtraArgs said = is_some said.extra_args

-- the number that a weight is
abbrev pub weight_count : ℕ → ℕ → Weight → ℕ
weight_count processors threads (weights.Count n) = n
weight_count processors threads weights.Processors = processors
weight_count processors threads weights.Threads = threads

-- nothing is said
abbrev pub no_run_keys : RunKeys
no_run_keys = record { threads = None; max_fail = None; global_timeout = None; default_filter = None }

abbrev pub no_profile : Profile
no_profile = record { overrides = []; plain = []; rules = []; run = no_run_keys }

-- whether an override says a setting and matches
abbrev pub gives : Setting → Bool × Override → Bool
gives setting pair = pair.0 && names setting pair.1.said

-- the place of the first override that matches and says a setting
abbrev pub first_match : Setting → List Override → List Bool → Option ℕ
first_match setting overrides matches = position (gives setting) (zip matches overrides)

-- the override at a place matches, and says a setting
abbrev pub IsGiver : Setting → List Override → List Bool → ℕ → Type 0
IsGiver setting overrides matches place =
    (slice_get matches place ≡ Some true) × IsSomeAnd (slice_get overrides place) (λ o. names setting o.said ≡ true)

-- it is the first that does, or none does
abbrev pub IsFirstGiver : Setting → List Override → List Bool → Option ℕ → Type 0
IsFirstGiver setting overrides matches found = MatchOption found
    ((k : ℕ) → ¬ IsGiver setting overrides matches k)
    (λ place. IsGiver setting overrides matches place × ((k : ℕ) → k < place → ¬ IsGiver setting overrides matches k))

-- the place of the first profile whose plain keys say a setting
abbrev pub first_plain : Setting → List Said → Option ℕ
first_plain setting plain = position (names setting) plain

-- the plain keys of the profile at a place say a setting; it is the first of which they do, or none is
abbrev pub IsSaid : Setting → List Said → ℕ → Type 0
IsSaid setting plain level = IsSomeAnd (slice_get plain level) (λ said. names setting said ≡ true)

abbrev pub IsFirstSaid : Setting → List Said → Option ℕ → Type 0
IsFirstSaid setting plain found = MatchOption found
    ((k : ℕ) → ¬ IsSaid setting plain k)
    (λ level. IsSaid setting plain level × ((k : ℕ) → k < level → ¬ IsSaid setting plain k))

-- a setting comes from the first override that matches and says it; where there is none, from the first profile whose
-- plain keys say it; and else it is the usual one
abbrev pub ComesFrom : Setting → Profile → List Bool → Origin → Type 0
ComesFrom setting p matches (origins.Override place) = IsFirstGiver setting p.overrides matches (Some place)
ComesFrom setting p matches (origins.Plain level) =
    IsFirstGiver setting p.overrides matches None × IsFirstSaid setting p.plain (Some level)
ComesFrom setting p matches origins.Usual =
    IsFirstGiver setting p.overrides matches None × IsFirstSaid setting p.plain None

-- where a setting comes from: the first override that matches and says it, else the first plain key
abbrev pub plain_origin : Option ℕ → Origin
plain_origin (Some level) = origins.Plain level
plain_origin None = origins.Usual

abbrev pub first_origin : Option ℕ → Option ℕ → Origin
first_origin (Some place) level = origins.Override place
first_origin None level = plain_origin level

abbrev pub origin_of : Setting → Profile → List Bool → Origin
origin_of setting p matches = first_origin (first_match setting p.overrides matches) (first_plain setting p.plain)

-- what is said there
abbrev pub said_at : Profile → Origin → Option Said
said_at p (origins.Override place) = option_map (λ o. o.said) (slice_get p.overrides place)
said_at p (origins.Plain level) = slice_get p.plain level
said_at p origins.Usual = None

-- the setting that is said at an origin, and the usual one where none is
abbrev pub chosen : {A : Type 0} → Profile → Origin → (Said → Option A) → A → Chosen A
chosen p origin part usual =
    record { value = unwrap_or (option_and_then part (said_at p origin)) usual; origin = origin }

-- the settings of a test that overrides match so
unfoldable pub test_settings : Profile → List Bool → TestSettings
test_settings p matches = record {
  retries = chosen p (origin_of settings.Retries p matches) (λ s. s.retries) no_retries;
  flaky = chosen p (origin_of settings.Flaky p matches) (λ s. s.flaky) flakies.Pass;
  slow = chosen p (origin_of settings.Slow p matches) (λ s. s.slow) usual_slow;
  leak = chosen p (origin_of settings.Leak p matches) (λ s. s.leak) usual_leak;
  weight = chosen p (origin_of settings.Weight p matches) (λ s. s.weight) (weights.Count 1);
  group = chosen p (origin_of settings.Group p matches) (λ s. s.group) None;
  priority = chosen p (origin_of settings.Priority p matches) (λ s. s.priority) (pos 0);
  extra_args = chosen p (origin_of settings.ExtraArgs p matches) (λ s. s.extra_args) [];
}

-- whether a rule names a setup script
abbrev pub names_script : List ℕ → ScriptRule → Bool
names_script script rule = one_of script rule.scripts

-- whether a rule that matches does
abbrev pub wants_script : Profile → List ℕ → List Bool → Bool
wants_script p script matches = list_any (λ pair. pair.0 && names_script script pair.1) (zip matches p.rules)
