-- Of which tests a filter holds.
use Rattle.std.specs.Prelude.{ℕ, ◌≡◌, Bool, true, false, ◌&&◌, ◌||◌, not, List, [], ◌∷◌, nat_eq, is_some}
use Rattle.std.specs.List.{starts_with}
use Rattle.std.specs.Str.{chars}
use lib.Pointwise.{pointwise}
use Rattle.regex.specs.Patterns.{find_str, default_config}
use Rattle.regex.specs.Strings.{regex_pattern, regex_source, regex_config, IsReadFromSource}
use Rattle.regex.specs.declared.string.regex.Regex.{Regex}
use Rattle.run_filter.specs.declared.facts.Facts.{Facts}
use Rattle.run_filter.specs.declared.facts.Subject.{Subject}
use Rattle.run_filter.specs.declared.facts.Subject.TheVariants.{Test, Package, Binary, BinaryId, Kind, Platform, Group}
use Rattle.run_filter.specs.declared.filter.Matcher.{Matcher}
use Rattle.run_filter.specs.declared.filter.Matcher.TheVariants as matchers
use Rattle.run_filter.specs.Globs.{fits_some}
use Rattle.run_filter.specs.Tree.{Tree, all, nothing, default, is, negation, both, either}

-- what a test is called under a subject
abbrev pub fact_of : Subject → Facts → List ℕ
fact_of Test facts = facts.test.now
fact_of Package facts = facts.package.now
fact_of Binary facts = facts.binary.now
fact_of BinaryId facts = facts.binary_id.now
fact_of Kind facts = facts.kind.now
fact_of Platform facts = facts.platform.now
fact_of Group facts = facts.group.now

-- whether a part stands somewhere in a text
abbrev pub stands_in : List ℕ → List ℕ → Bool
stands_in part [] = starts_with nat_eq [] part
stands_in part (b ∷ bs) = starts_with nat_eq (b ∷ bs) part || stands_in part bs

-- a regex is what a pattern is read as, under the usual options
pub record IsRegexOf (pattern : List ℕ) (r : Regex) : Type 0 where
  pub source : regex_source r ≡ pattern
  pub config : regex_config r ≡ default_config
  pub read : IsReadFromSource r

-- whether a regex matches somewhere in a text
abbrev pub is_found : Regex → List ℕ → Bool
is_found r text = is_some (find_str (regex_pattern r) text 0)

-- whether a matcher matches a text
abbrev pub Matches : Matcher → List ℕ → Bool → Type 0
Matches (matchers.Contains part) text b = b ≡ stands_in part text
Matches (matchers.Equals own) text b = b ≡ pointwise nat_eq text own
Matches (matchers.Glob glob) text b = b ≡ fits_some glob (chars text)
Matches (matchers.Regex place pattern) text b = (r : Regex) × IsRegexOf pattern r × (b ≡ is_found r text)

-- whether a filter holds of a test
abbrev pub HoldsOf : Tree → Facts → Bool → Type 0
HoldsOf all facts b = b ≡ true
HoldsOf nothing facts b = b ≡ false
HoldsOf default facts b = b ≡ facts.in_default
HoldsOf (is subject matcher) facts b = Matches matcher (fact_of subject facts) b
HoldsOf (negation t) facts b = (p : Bool) × HoldsOf t facts p × (b ≡ not p)
HoldsOf (both t u) facts b = (p : Bool) × (q : Bool) × HoldsOf t facts p × HoldsOf u facts q × (b ≡ p && q)
HoldsOf (either t u) facts b = (p : Bool) × (q : Bool) × HoldsOf t facts p × HoldsOf u facts q × (b ≡ p || q)
