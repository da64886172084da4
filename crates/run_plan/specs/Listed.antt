-- The tests of a list, in its order.
use Rattle.std.specs.Prelude.{ℕ, ◌+◌, List, [], ◌∷◌, ◌++◌, map}
use Rattle.run_plan.specs.declared.asked.Asked.{Asked}
use Rattle.run_plan.specs.declared.test_list.ListedTest.{ListedTest}
use Rattle.run_plan.specs.declared.test_list.TestBinary.{TestBinary}
use Rattle.run_plan.specs.declared.test_list.TestList.{TestList}

-- a test of a list: the place of its binary, its binary, and itself
abbrev pub Listed : Type 0
Listed = ℕ × TestBinary × ListedTest

-- the tests of a list, in its order
abbrev pub listed_from : ℕ → List TestBinary → List Listed
listed_from place [] = []
listed_from place (binary ∷ binaries) =
    map (λ test. (place, binary, test)) binary.tests ++ listed_from (place + 1) binaries

abbrev pub listed : TestList → List Listed
listed list = listed_from 0 list.binaries

-- a test of a list with what filters say of it
abbrev pub AskedTest : Type 0
AskedTest = Listed × Asked
