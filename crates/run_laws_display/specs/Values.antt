-- What comparisons of plain values answer.
use Rattle.std.specs.Prelude.{ℕ, ◌≡◌, ◌↔◌, Bool, true, List}
use Rattle.std.specs.declared.cmp.Ordering.{Ordering}
use Rattle.std.specs.Ordering.{nat_cmp, ordering_then}
use Rattle.std.specs.Cmp.Lexicographic.{slice_cmp}
use Rattle.run_events.specs.declared.plan.TestInstanceId.{TestInstanceId}
use Rattle.run_events.specs.declared.signal.SignalHandlerKind.{SignalHandlerKind}
use Rattle.run_events.specs.declared.signal.SignalHandlerKind.TheVariants.{Standard, DebuggerMode, Noop}

-- a test of two values that answers whether they are the same
abbrev pub IsSameness : {A : Type 0} → (A → A → Bool) → Type 0
IsSameness {A} eq = (a b : A) → (eq a b ≡ true) ↔ (a ≡ b)

-- what is made of two values is the same exactly where they are
abbrev pub TellsApart : {A B : Type 0} → (A → B) → Type 0
TellsApart {A} made = (a b : A) → (made a ≡ made b) ↔ (a ≡ b)

-- an order by a number of each value
abbrev pub IsOrderBy : {A : Type 0} → (A → ℕ) → (A → A → Ordering) → Type 0
IsOrderBy {A} number cmp = (a b : A) → cmp a b ≡ nat_cmp (number a) (number b)

-- the place of a kind of signal handler among the kinds
abbrev pub kind_number : SignalHandlerKind → ℕ
kind_number Standard = 0
kind_number DebuggerMode = 1
kind_number Noop = 2

-- texts in the order of their bytes, from the first on
abbrev pub text_cmp : List ℕ → List ℕ → Ordering
text_cmp = slice_cmp nat_cmp

-- tests by binary, and those of one binary by name
abbrev pub test_cmp : TestInstanceId → TestInstanceId → Ordering
test_cmp a b = ordering_then (text_cmp a.binary b.binary) (text_cmp a.name b.name)
