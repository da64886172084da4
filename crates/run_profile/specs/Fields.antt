-- The values of a table, each read or refused with its path.
use Rattle.std.specs.Prelude.{ℕ, ◌+◌, ℤ, pos, negsuc, Bool, List, [], ◌∷◌, ◌++◌, Option, Some, None, Result, Ok, Err}
use Rattle.std.specs.Prelude.{if◌then◌else◌, nat_le, ◌&&◌, option_and_then}
use Rattle.toml.specs.Data.{Data, Items, no_items, item, Members, no_members, member, as_array, as_bool, as_integer}
use Rattle.toml.specs.Data.{as_str}
use Rattle.toml.specs.Data.{as_table, get}
use Rattle.run_profile.specs.declared.errors.Fault.{Fault}
use Rattle.run_profile.specs.declared.errors.Fault.TheVariants as faults
use Rattle.run_profile.specs.declared.errors.ProfileError.{ProfileError}
use Rattle.run_profile.specs.declared.errors.ProfileError.TheVariants.{Refused}
use Rattle.run_profile.specs.Reads.{◌>>=◌, or_refuse}
use Rattle.run_profile.specs.Refusals.{dotted, item_path}
use Rattle.run_profile.specs.Time.{one_of, time_said}
use Rattle.run_profile.specs.declared.time.TimeFault.{TimeFault}

-- a value, or why it is refused
abbrev pub ProfileRead : Type 0 → Type 0
ProfileRead A = Result A ProfileError

-- how the value at a path is read
abbrev pub Reader : Type 0 → Type 0
Reader A = List ℕ → Data → ProfileRead A

-- refused at a path, and at a key of the table at a path
abbrev pub refused : {A : Type 0} → List ℕ → Fault → ProfileRead A
refused path fault = Err (Refused path fault)

abbrev pub refused_at : {A : Type 0} → List ℕ → List ℕ → Fault → ProfileRead A
refused_at path key fault = refused (dotted path key) fault

-- a key that may be missing, and one that must be there
abbrev pub optional_at : {A : Type 0} → Reader A → List ℕ → Option Data → ProfileRead (Option A)
optional_at read path None = Ok None
optional_at read path (Some d) = read path d >>= (λ a. Ok (Some a))

abbrev pub optional_key : {A : Type 0} → Reader A → List ℕ → List ℕ → Data → ProfileRead (Option A)
optional_key read path key d = optional_at read (dotted path key) (get key d)

abbrev pub needed_at : {A : Type 0} → Reader A → List ℕ → Option Data → ProfileRead A
needed_at read path None = refused path faults.MissingKey
needed_at read path (Some d) = read path d

abbrev pub needed : {A : Type 0} → Reader A → List ℕ → List ℕ → Data → ProfileRead A
needed read path key d = needed_at read (dotted path key) (get key d)

-- the first key of members that is none of these names is refused
abbrev pub only_names : List ℕ → List (List ℕ) → Members → ProfileRead (Unit {0})
only_names path names no_members = Ok tt
only_names path names (member key d ms) =
    if one_of key names then only_names path names ms else refused_at path key faults.UnknownKey

-- it is a table, and has no key but these
abbrev pub only_keys : List (List ℕ) → List ℕ → Data → ProfileRead (Unit {0})
only_keys names path d = do
  members ← or_refuse (as_table d) (Refused path faults.NotTable)
  only_names path names members

abbrev pub text_read : Reader (List ℕ)
text_read path d = or_refuse (as_str d) (Refused path faults.NotText)

abbrev pub truth_read : Reader Bool
truth_read path d = or_refuse (as_bool d) (Refused path faults.NotTruth)

-- a whole number that isn't negative
abbrev pub whole : ℤ → Option ℕ
whole (pos n) = Some n
whole (negsuc n) = None

-- a whole number from the least to the most that may stand here
abbrev pub within : ℕ → ℕ → ℤ → Option ℕ
within least most z = option_and_then (λ n. if nat_le least n && nat_le n most then Some n else None) (whole z)

abbrev pub number_read : ℕ → ℕ → Reader ℕ
number_read least most path d = do
  z ← or_refuse (as_integer d) (Refused path faults.NotNumber)
  or_refuse (within least most z) (Refused path faults.OutOfRange)

-- a time in nanoseconds
abbrev pub timed : List ℕ → Result ℕ TimeFault → ProfileRead ℕ
timed path (Ok n) = Ok n
timed path (Err fault) = refused path (faults.Time fault)

abbrev pub time_read : Reader ℕ
time_read path d = do
  text ← text_read path d
  timed path (time_said text)

-- the texts of a list, counted from its front
abbrev pub item_texts : List ℕ → ℕ → Items → ProfileRead (List (List ℕ))
item_texts path number no_items = Ok []
item_texts path number (item d ds) = do
  text ← text_read (item_path path number) d
  texts ← item_texts path (number + 1) ds
  Ok (text ∷ texts)

abbrev pub texts_read : Reader (List (List ℕ))
texts_read path d = do
  items ← or_refuse (as_array d) (Refused path faults.NotList)
  item_texts path 0 items

-- a list, before the one that was read
abbrev pub before : {A : Type 0} → List A → ProfileRead (List A) → ProfileRead (List A)
before front read = read >>= (λ rest. Ok (front ++ rest))

-- none or one, as a list
abbrev pub those : {A : Type 0} → Option A → List A
those None = []
those (Some a) = a ∷ []

-- a list that may be missing, and is then empty
abbrev pub nothing_or : {A : Type 0} → Reader (List A) → List ℕ → Option Data → ProfileRead (List A)
nothing_or read path None = Ok []
nothing_or read path (Some d) = read path d

abbrev pub or_nothing : {A : Type 0} → Reader (List A) → List ℕ → List ℕ → Data → ProfileRead (List A)
or_nothing read path key d = nothing_or read (dotted path key) (get key d)
