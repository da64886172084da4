-- Where a profile is refused, and what a reader answers.
use Rattle.std.specs.Prelude.{ℕ, ◌≡◌, ⊤, List, [], ◌∷◌, ◌++◌, decimal, Result, Ok, Err}
use Rattle.run_profile.specs.declared.errors.ProfileError.{ProfileError}
use Rattle.run_profile.specs.declared.errors.ProfileError.TheVariants.{Refused, OutOfMemory}

-- the path of a key of a table, where that of the file is empty, and of an item of a list
abbrev pub dotted : List ℕ → List ℕ → List ℕ
dotted [] key = key
dotted (byte ∷ path) key = (byte ∷ path) ++ 46 ∷ key

abbrev pub item_path : List ℕ → ℕ → List ℕ
item_path path number = path ++ 91 ∷ decimal number ++ 93 ∷ []

-- a reader gives the value that there is, and refuses exactly as it is refused; want of memory alone is free
abbrev pub Agrees : {X : Type 0} → Result X ProfileError → Result X ProfileError → Type 0
Agrees (Ok x) read = read ≡ Ok x
Agrees (Err (Refused path fault)) read = read ≡ Err (Refused path fault)
Agrees (Err OutOfMemory) read = ⊤
