-- What a call answers that reads a part of a text.
use Rattle.std.specs.Prelude.{ℕ, suc, ◌≡◌, ◌≤◌, List, Result, Ok, Err, length, drop}
use Rattle.run_filter.specs.declared.filter.Filter.{Filter}
use Rattle.run_filter.specs.declared.filter.Matcher.{Matcher}
use Rattle.run_filter.specs.declared.fault.FilterFault.{FilterFault}
use Rattle.run_filter.specs.declared.fault.FilterError.{FilterError}
use Rattle.run_filter.specs.declared.fault.FilterError.TheVariants.{Wrong, OutOfMemory}
use Rattle.run_filter.specs.declared.operators.Step.{Step}
use Rattle.run_filter.specs.declared.operators.Step.TheVariants.{Ends, GoesOn}
use Rattle.run_filter.specs.Tree.{Tree, tree_of}
use Rattle.run_filter.specs.Grammar.{Left, TreeRead, TextRead}

-- what is left of a text at a place
abbrev pub left_at : List ℕ → ℕ → Left
left_at text next = record { bytes = drop next text; whole = length text }

-- a filter that was read, or what is wrong and where
abbrev pub ReadsTree : Result (Filter × ℕ) FilterError → List ℕ → TreeRead → Type 0
ReadsTree (Ok r) text reading = (reading ≡ Ok (tree_of r.0, left_at text r.1)) × (r.1 ≤ length text)
ReadsTree (Err (Wrong place fault)) text reading = (reading ≡ Err (fault, drop place text)) × (place ≤ length text)
ReadsTree (Err OutOfMemory) text reading = Unit {0}

-- a text that was read
abbrev pub ReadsText : Result (List ℕ × ℕ) FilterError → List ℕ → TextRead → Type 0
ReadsText (Ok r) text reading = (reading ≡ Ok (r.0, drop r.1 text)) × (r.1 ≤ length text)
ReadsText (Err (Wrong place fault)) text reading = (reading ≡ Err (fault, drop place text)) × (place ≤ length text)
ReadsText (Err OutOfMemory) text reading = Unit {0}

-- a matcher that was made, or a fault at this place
abbrev pub MakesMatcher : Result Matcher FilterError → ℕ → Result Matcher FilterFault → Type 0
MakesMatcher (Ok matcher) at reading = reading ≡ Ok matcher
MakesMatcher (Err (Wrong place fault)) at reading = (reading ≡ Err fault) × (place ≡ at)
MakesMatcher (Err OutOfMemory) at reading = Unit {0}

-- a step along a chain after what was read so far: the chain ends, or goes on with one sign less
abbrev pub StepsAlong : Result Step FilterError → List ℕ → (ℕ → Tree → Left → TreeRead) → Tree → Left → Type 0
StepsAlong (Ok (Ends f next)) text chain t l =
    ((n : ℕ) → chain (suc n) t l ≡ Ok (tree_of f, left_at text next)) × (next ≤ length text)
StepsAlong (Ok (GoesOn f next)) text chain t l =
    ((n : ℕ) → chain (suc n) t l ≡ chain n (tree_of f) (left_at text next)) × (next ≤ length text)
StepsAlong (Err (Wrong place fault)) text chain t l =
    ((n : ℕ) → chain (suc n) t l ≡ Err (fault, drop place text)) × (place ≤ length text)
StepsAlong (Err OutOfMemory) text chain t l = Unit {0}
