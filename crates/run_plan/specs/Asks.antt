-- What filters say of the tests of a list.
use Rattle.std.specs.Prelude.{ℕ, ◌≡◌, ◌<◌, ⊤, ◌⊎◌, ◌++◌, ◌||◌, Bool, true, false, List, [], ◌∷◌, length, nat_eq, codes}
use Rattle.std.specs.Prelude.{Any, Option, Some, None, Result, Ok, Err, IfSome, decimal, slice_index_or, unwrap_or}
use Rattle.std.specs.List.{AllZip, list_any}
use Rattle.std.specs.Option.{option_or}
use Rattle.run_commands.specs.declared.target_runner.BuildPlatform.{BuildPlatform}
use Rattle.run_commands.specs.declared.target_runner.BuildPlatform.TheVariants as platforms
use Rattle.run_filter.specs.Grammar.{filter_of}
use Rattle.run_filter.specs.Held.{HoldsByText}
use Rattle.run_filter.specs.Holds.{HoldsOf}
use Rattle.run_filter.specs.Tree.{Tree, default, is, negation, both, either}
use Rattle.run_filter.specs.declared.facts.Facts.{Facts}
use Rattle.run_filter.specs.declared.fault.FilterError.{FilterError}
use Rattle.run_filter.specs.declared.fault.FilterError.TheVariants as filter_errors
use Rattle.run_filter.specs.declared.fault.FilterFault.{FilterFault}
use Rattle.run_profile.specs.Settings.{test_settings}
use Rattle.run_profile.specs.declared.scripts.ScriptRule.{ScriptRule}
use Rattle.run_profile.specs.declared.settings.Override.{Override}
use Rattle.run_profile.specs.declared.settings.Profile.{Profile}
use Rattle.run_plan.specs.Listed.{Listed}
use Rattle.run_plan.specs.declared.asked.Asked.{Asked}
use Rattle.run_plan.specs.declared.choices.Picks.{Picks}
use Rattle.run_plan.specs.declared.filters.AskError.{AskError}
use Rattle.run_plan.specs.declared.filters.AskError.TheVariants as errors
use Rattle.run_plan.specs.declared.test_list.ListedTest.{ListedTest}
use Rattle.run_plan.specs.declared.test_list.TestBinary.{TestBinary}

-- the group of a test that stands in none
abbrev pub no_group : List ℕ
no_group = codes "@global"

abbrev pub platform_name : BuildPlatform → List ℕ
platform_name platforms.Target = codes "target"
platform_name platforms.Host = codes "host"

-- a test as filters see it, in this group, and where the default filter says so much of it
pub record IsSeen (b : TestBinary) (t : ListedTest) (its_group : List ℕ) (is_default : Bool) (facts : Facts)
    : Type 0 where
  pub test : facts.test.now ≡ t.name
  pub of_package : facts.package.now ≡ b.facts.package_name
  pub binary : facts.binary.now ≡ b.facts.name
  pub binary_id : facts.binary_id.now ≡ b.id
  pub kind : facts.kind.now ≡ b.facts.kind
  pub platform : facts.platform.now ≡ platform_name b.facts.platform
  pub group : facts.group.now ≡ its_group
  pub in_default : facts.in_default ≡ is_default

-- whether a filter holds: what its text reads as, or, where there is no filter, always
abbrev pub FilterSays : Option (List ℕ) → Facts → Bool → Type 0
FilterSays None facts held = held ≡ true
FilterSays (Some text) facts held = (t : Tree) × (filter_of text ≡ Ok t) × HoldsOf t facts held

abbrev pub SaysOf : Listed → List ℕ → Bool → Option (List ℕ) → Bool → Type 0
SaysOf l group in_default filter held =
    (facts : Facts) × IsSeen l.1 l.2 group in_default facts × FilterSays filter facts held

-- the default filter: the first that an override says, else that of the profile
abbrev pub first_default : List Override → Option (List ℕ)
first_default [] = None
first_default (o ∷ os) = option_or o.default_filter (first_default os)

abbrev pub default_filter : Profile → Option (List ℕ)
default_filter p = option_or (first_default p.overrides) p.run.default_filter

-- the group of a test that overrides match so
abbrev pub asked_group : Profile → List Bool → List ℕ
asked_group p overrides = unwrap_or (test_settings p overrides).group.value no_group

-- whether some filter of the words holds, or they give none
abbrev pub is_any_held : List (List ℕ) → List Bool → Bool
is_any_held filters held = nat_eq (length filters) 0 || list_any (λ b. b) held

abbrev pub IsPicked : Listed → List ℕ → Bool → List (List ℕ) → Bool → Type 0
IsPicked l group in_default filters picked =
    (held : List Bool) × AllZip (λ text. SaysOf l group in_default (Some text)) filters held
    × (picked ≡ is_any_held filters held)

-- what filters say of a test: first the default filter, then overrides and rules, which see no group, then the words'
pub record IsAsked (p : Profile) (picks : Picks) (l : Listed) (asked : Asked) : Type 0 where
  pub in_default : SaysOf l no_group false (default_filter p) asked.in_default
  pub overrides : AllZip (λ (o : Override). SaysOf l no_group asked.in_default o.filter) p.overrides asked.overrides
  pub rules : AllZip (λ (r : ScriptRule). SaysOf l no_group asked.in_default r.filter) p.rules asked.rules
  pub is_picked : IsPicked l (asked_group p asked.overrides) asked.in_default picks.filters asked.is_picked

-- whether `default()` stands in a filter
abbrev pub asks_default : Tree → Bool
asks_default default = true
asks_default (negation t) = asks_default t
asks_default (both t u) = asks_default t || asks_default u
asks_default (either t u) = asks_default t || asks_default u
asks_default _ = false

-- a default filter reads as a filter that doesn't ask itself
abbrev pub AsksNotItself : Option (List ℕ) → Type 0
AsksNotItself None = ⊤
AsksNotItself (Some text) = (t : Tree) × (filter_of text ≡ Ok t) × (asks_default t ≡ false)

-- a text reads as a filter that asks itself so
abbrev pub AsksDefault : List ℕ → Bool → Type 0
AsksDefault text asks = (t : Tree) × (filter_of text ≡ Ok t) × (asks ≡ asks_default t)

-- a text is no filter, or has a regex that is none, by this fault at this place
abbrev pub IsFaulty : List ℕ → ℕ → FilterFault → Type 0
IsFaulty text place fault = HoldsByText (Err (filter_errors.Wrong place fault)) text []

-- where the filter of an override or a rule stands
abbrev pub filter_path : List ℕ → List ℕ → ℕ → List ℕ
filter_path profile key number =
    codes "profile." ++ profile ++ codes "." ++ key ++ codes "[" ++ decimal number ++ codes "].filter"

abbrev pub IsOverrideFilter : List ℕ → List ℕ → Override → Type 0
IsOverrideFilter path text o =
    (path ≡ filter_path o.profile (codes "overrides") o.number) × (o.filter ≡ Some text)

abbrev pub IsRuleFilter : List ℕ → List ℕ → ScriptRule → Type 0
IsRuleFilter path text r = (path ≡ filter_path r.profile (codes "scripts") r.number) × (r.filter ≡ Some text)

-- a filter of a profile stands there
pub data HasFilter (p : Profile) (path text : List ℕ) : Type 0 where
  of_profile : path ≡ codes "default-filter" → default_filter p ≡ Some text → HasFilter p path text
  of_override : Any (IsOverrideFilter path text) p.overrides → HasFilter p path text
  of_rule : Any (IsRuleFilter path text) p.rules → HasFilter p path text

-- a filter of the words has this number
pub record IsNumbered (filters : List (List ℕ)) (number : ℕ) (text : List ℕ) : Type 0 where
  pub within : number < length filters
  pub is : slice_index_or filters number text ≡ text

-- why a filter of a profile says nothing, that stands there
abbrev pub IsProfileFault : (List ℕ → List ℕ → Type 0) → AskError → Type 0
IsProfileFault Stands (errors.OfProfile path place fault) =
    (text : List ℕ) × Stands path text × IsFaulty text place fault
IsProfileFault Stands (errors.OfWords number place fault) = ⊥
IsProfileFault Stands errors.AsksItself = ⊥
IsProfileFault Stands errors.OutOfMemory = ⊤

-- why one of the words' filters says nothing
abbrev pub IsWordFault : List (List ℕ) → AskError → Type 0
IsWordFault filters (errors.OfProfile path place fault) = ⊥
IsWordFault filters (errors.OfWords number place fault) =
    (text : List ℕ) × IsNumbered filters number text × IsFaulty text place fault
IsWordFault filters errors.AsksItself = ⊥
IsWordFault filters errors.OutOfMemory = ⊤

-- why filters say nothing
abbrev pub IsAskError : Profile → Picks → AskError → Type 0
IsAskError p picks (errors.OfProfile path place fault) =
    (text : List ℕ) × HasFilter p path text × IsFaulty text place fault
IsAskError p picks (errors.OfWords number place fault) =
    (text : List ℕ) × IsNumbered picks.filters number text × IsFaulty text place fault
IsAskError p picks errors.AsksItself =
    (text : List ℕ) × (t : Tree) × (default_filter p ≡ Some text) × (filter_of text ≡ Ok t) × (asks_default t ≡ true)
IsAskError p picks errors.OutOfMemory = ⊤

-- why the filter that a text is says nothing; want of memory has no cause
abbrev pub IsTextFault : List ℕ → FilterError → Type 0
IsTextFault text (filter_errors.Wrong place fault) = IsFaulty text place fault
IsTextFault text filter_errors.OutOfMemory = ⊤

abbrev pub IsFilterFault : Option (List ℕ) → FilterError → Type 0
IsFilterFault filter (filter_errors.Wrong place fault) =
    (text : List ℕ) × (filter ≡ Some text) × IsFaulty text place fault
IsFilterFault filter filter_errors.OutOfMemory = ⊤

-- why the filter of a text, which is the default filter, can't be asked
abbrev pub IsUnsound : List ℕ → AskError → Type 0
IsUnsound text (errors.OfProfile path place fault) = (path ≡ codes "default-filter") × IsFaulty text place fault
IsUnsound text (errors.OfWords number place fault) = ⊥
IsUnsound text errors.AsksItself = (t : Tree) × (filter_of text ≡ Ok t) × (asks_default t ≡ true)
IsUnsound text errors.OutOfMemory = ⊤

-- the same of the words' filter of this number
abbrev pub IsUnsaid : ℕ → List ℕ → AskError → Type 0
IsUnsaid number text (errors.OfProfile path place fault) = ⊥
IsUnsaid number text (errors.OfWords at place fault) = (at ≡ number) × IsFaulty text place fault
IsUnsaid number text errors.AsksItself = ⊥
IsUnsaid number text errors.OutOfMemory = ⊤

-- the fault of the default filter, or want of memory
abbrev pub IsDefaultFault : ℕ → FilterFault → AskError → Type 0
IsDefaultFault place fault (errors.OfProfile path at found) =
    (path ≡ codes "default-filter") × (at ≡ place) × (found ≡ fault)
IsDefaultFault place fault (errors.OfWords number at found) = ⊥
IsDefaultFault place fault errors.AsksItself = ⊥
IsDefaultFault place fault errors.OutOfMemory = ⊤

-- the same of a default filter that is there
abbrev pub IsUnsoundDefault : Option (List ℕ) → AskError → Type 0
IsUnsoundDefault None error = error ≡ errors.OutOfMemory
IsUnsoundDefault (Some text) error = IsUnsound text error
