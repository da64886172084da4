-- A set of the names of groups.
use Rattle.std.specs.Prelude.{ℕ, ◌≡◌, List, nat_eq}
use Rattle.std.specs.Borrow.{Bor}
use Rattle.std.specs.BTreeSet.{BTreeSet, contains}
use Rattle.std.specs.List.{list_any}
use Rattle.std.specs.Ordering.{nat_cmp}
use Rattle.std.specs.Cmp.Lexicographic.{slice_cmp}
use lib.Pointwise.{pointwise}
use Rattle.run_events.specs.declared.plan.Group.{Group}

-- it has a name exactly where a group has it
abbrev pub HasNames : List Group → BTreeSet (Bor (List ℕ)) → Type 0
HasNames groups names = (name : Bor (List ℕ))
    → contains (λ x y. slice_cmp nat_cmp x.now y.now) names name
    ≡ list_any (λ g. pointwise nat_eq g.name name.now) groups
