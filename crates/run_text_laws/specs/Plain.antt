-- Plain data: whole numbers of 64 bits, texts that are UTF-8, and each key once, in the order of their bytes.
use Rattle.std.specs.Prelude.{ℕ, ◌≡◌, ◌+◌, ◌<◌, ◌≤◌, ◌^◌, List, ⊤, pos, negsuc, false, true, Some, IsUtf8}
use Rattle.std.specs.Str.{is_utf8}
use Rattle.std.specs.Ordering.{nat_cmp}
use Rattle.std.specs.Cmp.Lexicographic.{slice_cmp}
use Rattle.std.specs.declared.cmp.Ordering.TheVariants.{Less}
use Rattle.serde_json.specs.Data.{Num, unsigned, negative, float, Data, null, boolean, number, string, array, object}
use Rattle.serde_json.specs.Data.{Items, no_items, item, Members, no_members, member, depth}
use Rattle.serde_json.specs.Read.{read, max_depth}
use Rattle.serde_json.specs.Written.{compact_text, has_float}

-- a whole number of 64 bits; one that has a sign is below 0
abbrev pub IsWholeNumber : Num → Type 0
IsWholeNumber (unsigned n) = n < 2 ^ 64
IsWholeNumber (negative (negsuc n)) = n + 1 < 2 ^ 63
IsWholeNumber (negative (pos n)) = ⊥
IsWholeNumber (float x) = ⊥

-- a key stands before each key of some members
abbrev pub IsBelowAll : List ℕ → Members → Type 0
IsBelowAll k no_members = ⊤
IsBelowAll k (member l d ms) = (slice_cmp nat_cmp k l ≡ Less) × IsBelowAll k ms

-- a value, items and members that are plain
abbrev mutual
  pub IsPlain : Data → Type 0
  IsPlain null = ⊤
  IsPlain (boolean b) = ⊤
  IsPlain (number n) = IsWholeNumber n
  IsPlain (string s) = IsUtf8 s
  IsPlain (array ds) = ArePlain ds
  IsPlain (object ms) = MembersArePlain ms

  pub ArePlain : Items → Type 0
  ArePlain no_items = ⊤
  ArePlain (item d ds) = IsPlain d × ArePlain ds

  pub MembersArePlain : Members → Type 0
  MembersArePlain no_members = ⊤
  MembersArePlain (member k d ms) = IsUtf8 k × IsPlain d × IsBelowAll k ms × MembersArePlain ms

-- the text of a value is UTF-8, and is read as that value, which has no float
pub record IsRead (d : Data) : Type 0 where
  pub utf8 : is_utf8 (compact_text d) ≡ true
  pub read : read (compact_text d) ≡ Some d
  pub whole : has_float d ≡ false

-- the text of each plain value is read back, if the value is no deeper than a reader goes
abbrev pub TextsAreRead : Type 0
TextsAreRead = (d : Data) → IsPlain d → depth d ≤ max_depth → IsRead d
