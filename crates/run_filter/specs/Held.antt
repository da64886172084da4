-- What filters say of lists of tests.
use Rattle.std.specs.Prelude.{ℕ, ◌≡◌, ◌⊎◌, Bool, List, Result, Ok, Err, map}
use Rattle.std.specs.List.{AllZip}
use Rattle.std.specs.declared.vec.Vec.{Vec}
use Rattle.std.specs.declared.alloc.Global.{Global}
use Rattle.regex.specs.declared.string.regex.Regex.{Regex}
use Rattle.run_filter.specs.declared.facts.Facts.{Facts}
use Rattle.run_filter.specs.declared.fault.FilterError.{FilterError}
use Rattle.run_filter.specs.declared.fault.FilterError.TheVariants.{Wrong, OutOfMemory}
use Rattle.run_filter.specs.declared.filter.Matcher.TheVariants as matchers
use Rattle.run_filter.specs.Tree.{Tree, is, negation, both, either}
use Rattle.run_filter.specs.Holds.{IsRegexOf, HoldsOf}
use Rattle.run_filter.specs.Regexes.{IsPatternFault}
use Rattle.run_filter.specs.Grammar.{filter_of, IsFilterOf}

-- of each test what a function says; want of memory says nothing
abbrev pub Maps : Result (Vec Bool Global) FilterError → List Facts → (Facts → Bool) → Type 0
Maps (Ok held) tests f = held.items ≡ map f tests
Maps (Err (Wrong place fault)) tests f = ⊥
Maps (Err OutOfMemory) tests f = Unit {0}

-- a regex of a filter: its pattern, and its place in the text
abbrev pub HasRegex : Tree → List ℕ → ℕ → Type 0
HasRegex (is subject (matchers.Regex at own)) pattern place = (own ≡ pattern) × (at ≡ place)
HasRegex (negation t) pattern place = HasRegex t pattern place
HasRegex (both t u) pattern place = HasRegex t pattern place ⊎ HasRegex u pattern place
HasRegex (either t u) pattern place = HasRegex t pattern place ⊎ HasRegex u pattern place
HasRegex _ pattern place = ⊥

-- each regex of a filter is well formed
abbrev pub AreRegexes : Tree → Type 0
AreRegexes t = (pattern : List ℕ) (place : ℕ) → HasRegex t pattern place → (r : Regex) × IsRegexOf pattern r

-- of each test whether a filter holds, or which of its regexes is refused; want of memory says nothing
abbrev pub HoldsOfTests : Result (Vec Bool Global) FilterError → Tree → List Facts → Type 0
HoldsOfTests (Ok held) t tests = AreRegexes t × AllZip (HoldsOf t) tests held.items
HoldsOfTests (Err (Wrong place fault)) t tests =
    (pattern : List ℕ) × HasRegex t pattern place × IsPatternFault pattern fault
HoldsOfTests (Err OutOfMemory) t tests = Unit {0}

-- the same of the filter that a text reads as; or the text is none
abbrev pub HoldsByText : Result (Vec Bool Global) FilterError → List ℕ → List Facts → Type 0
HoldsByText (Ok held) text tests = (t : Tree) × (filter_of text ≡ Ok t) × HoldsOfTests (Ok held) t tests
HoldsByText (Err e) text tests =
    IsFilterOf text (Err e) ⊎ ((t : Tree) × (filter_of text ≡ Ok t) × HoldsOfTests (Err e) t tests)
