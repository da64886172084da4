-- Runs of bytes of a kind.
use Rattle.std.specs.Prelude.{ℕ, ◌+◌, ◌==◌, ◌||◌, ◌&&◌, not, Bool, List, drop, length, nat_le, nat_lt, slice_index}
use Rattle.std.specs.Char.{is_ascii_alphabetic, is_ascii_digit}
use Rattle.std.specs.List.{prefix_len}
use Rattle.run_profile.specs.declared.scan.ByteKind.{ByteKind}
use Rattle.run_profile.specs.declared.scan.ByteKind.TheVariants.{Space, Digit, Letter, Name, Quoted}

-- a space, a tab or an end of line
abbrev pub is_blank : ℕ → Bool
is_blank byte = byte == 32 || (nat_le 9 byte && nat_le byte 13)

-- whether a byte is of a kind
abbrev pub is_kind : ByteKind → ℕ → Bool
is_kind Space byte = is_blank byte
is_kind Digit byte = is_ascii_digit byte
is_kind Letter byte = is_ascii_alphabetic byte || nat_le 128 byte
is_kind Name byte = is_ascii_alphabetic byte || is_ascii_digit byte || byte == 95
is_kind Quoted byte = not (byte == 34)

-- the place after the bytes of a kind that stand from a place on
abbrev pub after_bytes : ByteKind → List ℕ → ℕ → ℕ
after_bytes kind text at = at + prefix_len (is_kind kind) (drop at text)

-- whether this byte stands at a place
abbrev pub is_at : List ℕ → ℕ → ℕ → Bool
is_at text place byte = nat_lt place (length text) && (slice_index text place == byte)
