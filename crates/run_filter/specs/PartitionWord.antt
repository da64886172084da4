-- The word that names a part of a partition: `hash:M/N`, `count:M/N` or `slice:M/N`.
use Rattle.std.specs.Prelude.{ℕ, ◌+◌, ◌-◌, ◌*◌, ◌^◌, ◌&&◌, ◌||◌, List, [], ◌∷◌, Option, Some, None}
use Rattle.std.specs.Prelude.{Result, Ok, Err, nat_eq, nat_lt, take, drop, position, codes, ◌==◌, if◌then◌else◌}
use Rattle.std.specs.Char.{is_ascii_digit}
use Rattle.std.specs.List.{starts_with}
use Rattle.run_filter.specs.declared.partition.PartitionKind.{PartitionKind}
use Rattle.run_filter.specs.declared.partition.PartitionKind.TheVariants.{Hash, Count, Slice}
use Rattle.run_filter.specs.declared.partition.PartitionError.{PartitionError}
use Rattle.run_filter.specs.declared.partition.PartitionError.TheVariants as errors

-- the number that digits stand for, after the digits of another, where it is below 2 ^ 64
abbrev pub read_on : ℕ → List ℕ → Option ℕ
read_on n [] = Some n
read_on n (b ∷ bs) =
    if is_ascii_digit b && nat_lt (n * 10 + (b - 48)) (2 ^ 64) then read_on (n * 10 + (b - 48)) bs else None

-- the number that one or more digits stand for
abbrev pub digits_number : List ℕ → Option ℕ
digits_number [] = None
digits_number (b ∷ bs) = read_on 0 (b ∷ bs)

-- the kind, and what follows it
abbrev pub kind_of : List ℕ → Option (PartitionKind × List ℕ)
kind_of word =
    if starts_with nat_eq word (codes "hash:") then Some (Hash, drop 5 word)
    else if starts_with nat_eq word (codes "count:") then Some (Count, drop 6 word)
    else if starts_with nat_eq word (codes "slice:") then Some (Slice, drop 6 word)
    else None

-- a kind, a part and a number of parts, or why a word names none
abbrev pub PartRead : Type 0
PartRead = Result (PartitionKind × ℕ × ℕ) PartitionError

-- a part is from 1 to the number of parts
abbrev pub in_range : PartitionKind → ℕ → ℕ → PartRead
in_range kind part parts = if nat_eq part 0 || nat_lt parts part then Err errors.Range else Ok (kind, part, parts)

abbrev pub with_numbers : PartitionKind → Option ℕ → Option ℕ → PartRead
with_numbers kind None parts = Err errors.Part
with_numbers kind (Some part) None = Err errors.Parts
with_numbers kind (Some part) (Some parts) = in_range kind part parts

abbrev pub part_of : PartitionKind → List ℕ → List ℕ → PartRead
part_of kind part parts = with_numbers kind (digits_number part) (digits_number parts)

-- the numbers stand before and after the first `/`
abbrev pub at_slash : PartitionKind → List ℕ → Option ℕ → PartRead
at_slash kind numbers None = Err errors.Slash
at_slash kind numbers (Some slash) = part_of kind (take slash numbers) (drop (slash + 1) numbers)

abbrev pub after_kind : Option (PartitionKind × List ℕ) → PartRead
after_kind None = Err errors.Kind
after_kind (Some found) = at_slash found.0 found.1 (position (λ b. b == 47) found.1)

-- what a word names
unfoldable pub partition_of : List ℕ → PartRead
partition_of word = after_kind (kind_of word)
