-- What each filter says of all tests of a list: a column for each filter.
use Rattle.std.specs.Prelude.{ℕ, ◌≡◌, ⊤, zero, suc, Bool, false, List, [], ◌∷◌, Option, Some, map, slice_get, unwrap_or}
use Rattle.std.specs.List.{AllZip}
use Rattle.run_filter.specs.declared.facts.Facts.{Facts}
use Rattle.run_profile.specs.declared.scripts.ScriptRule.{ScriptRule}
use Rattle.run_profile.specs.declared.settings.Override.{Override}
use Rattle.run_profile.specs.declared.settings.Profile.{Profile}
use Rattle.run_plan.specs.Asks.{IsSeen, SaysOf, asked_group, default_filter, is_any_held, no_group}
use Rattle.run_plan.specs.Listed.{Listed}
use Rattle.run_plan.specs.declared.asked.Asked.{Asked}
use Rattle.run_plan.specs.declared.columns.ProfileSays.{ProfileSays}

-- at each place this holds of the place and of what stands there in the two lists, which are as long
abbrev pub AtEach : {A B : Type 0} → (ℕ → A → B → Type 0) → List A → List B → Type 0
AtEach Q [] [] = ⊤
AtEach Q [] (y ∷ ys) = ⊥
AtEach Q (x ∷ xs) [] = ⊥
AtEach Q (x ∷ xs) (y ∷ ys) = Q zero x y × AtEach (λ i. Q (suc i)) xs ys

-- what a column says of the test at a place
abbrev pub cell : ℕ → List Bool → Bool
cell place column = unwrap_or (slice_get column place) false

-- what each of some filters says of it
abbrev pub row_of : List (List Bool) → ℕ → List Bool
row_of columns place = map (cell place) columns

-- the group of the test at a place, where groups are known
abbrev pub given_group : List (List ℕ) → ℕ → List ℕ
given_group groups place = unwrap_or (slice_get groups place) no_group

-- the tests of a list as filters see them, in these groups, and where the default filter says so much of each
abbrev pub AreSeen : List Listed → List (List ℕ) → List Bool → List Facts → Type 0
AreSeen list groups in_default facts =
    AtEach (λ i (l : Listed). IsSeen l.1 l.2 (given_group groups i) (cell i in_default)) list facts

-- a column is what a filter says of each test, in these groups
abbrev pub IsColumn : List Listed → (ℕ → List ℕ) → (ℕ → Bool) → Option (List ℕ) → List Bool → Type 0
IsColumn list group in_default filter column = AtEach (λ i l. SaysOf l (group i) (in_default i) filter) list column

-- what the filters of a profile say of each test
pub record AreProfileSays (p : Profile) (list : List Listed) (says : ProfileSays) : Type 0 where
  pub in_default : IsColumn list (λ i. no_group) (λ i. false) (default_filter p) says.in_default
  pub overrides : AllZip (λ (o : Override). IsColumn list (λ i. no_group) (λ i. cell i says.in_default) o.filter)
      p.overrides says.overrides
  pub rules : AllZip (λ (r : ScriptRule). IsColumn list (λ i. no_group) (λ i. cell i says.in_default) r.filter)
      p.rules says.rules

-- the group of the test at a place
abbrev pub said_group : Profile → ProfileSays → ℕ → List ℕ
said_group p says place = asked_group p (row_of says.overrides place)

-- what the words' filters say of each test, which see its group
abbrev pub AreWordsSays : Profile → List Listed → ProfileSays → List (List ℕ) → List (List Bool) → Type 0
AreWordsSays p list says filters columns =
    AllZip (λ text. IsColumn list (said_group p says) (λ i. cell i says.in_default) (Some text)) filters columns

-- what is said of the test at a place
abbrev pub asked_at : List (List ℕ) → ProfileSays → List (List Bool) → ℕ → Asked
asked_at filters says words place = record {
  overrides = row_of says.overrides place;
  rules = row_of says.rules place;
  is_picked = is_any_held filters (row_of words place);
  in_default = cell place says.in_default;
}
