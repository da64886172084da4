-- What is done with stores, in order.
use Rattle.std.specs.Prelude.{ℕ, List, [], ◌∷◌, ◌++◌, Result, Ok, Err}
use Rattle.run_capture.specs.declared.source.Failed.{Failed}

-- a store was opened by its name; it was not, since that failed; the one that is open was given back
pub data StoreAct : Type 0 where
  opened : List ℕ → StoreAct
  unopened : List ℕ → StoreAct
  given_back : StoreAct

-- opening a store by its name is this act, by what it answers
abbrev pub opening : {S : Type 0} → List ℕ → Result S Failed → StoreAct
opening name (Ok store) = opened name
opening name (Err failed) = unopened name

-- each of these stores was opened, and given back before the next one was
abbrev pub visits : List (List ℕ) → List StoreAct
visits [] = []
visits (name ∷ names) = opened name ∷ given_back ∷ visits names

-- whatever was done before, this was done next
abbrev pub DoesNext : {S : Type 0} → (S → List StoreAct → Type 0) → S → S → List StoreAct → Type 0
DoesNext did before after more = (acts : List StoreAct) → did before acts → did after (acts ++ more)
