-- The hash XXH64 with seed 0, over words: numbers modulo 2 ^ 64.
use Rattle.std.specs.Prelude.{ℕ, zero, suc, ◌+◌, ◌-◌, ◌*◌, ◌/◌, ◌%◌, ◌^◌, nat_lt, nat_eq, List, [], ◌∷◌, length, drop}
use Rattle.std.specs.Prelude.{fold, bit_xor, slice_index, if◌then◌else◌}
use Rattle.std.specs.Int.{w32, w64, rotate_left, from_le_bytes}

-- sums and products of words
abbrev pub add : ℕ → ℕ → ℕ
add x y = (x + y) % 2 ^ 64

abbrev pub mul : ℕ → ℕ → ℕ
mul x y = (x * y) % 2 ^ 64

-- the five primes
abbrev pub p1 : ℕ
p1 = 0x9E37_79B1_85EB_CA87

abbrev pub p2 : ℕ
p2 = 0xC2B2_AE3D_27D4_EB4F

abbrev pub p3 : ℕ
p3 = 0x1656_67B1_9E37_79F9

abbrev pub p4 : ℕ
p4 = 0x85EB_CA77_C2B2_AE63

abbrev pub p5 : ℕ
p5 = 0x27D4_EB2F_1656_67C5

-- the four bytes from a place on, and the eight, low byte first
abbrev pub word32 : List ℕ → ℕ → ℕ
word32 bytes at = from_le_bytes w32
    (slice_index bytes at ∷ slice_index bytes (at + 1) ∷ slice_index bytes (at + 2) ∷ slice_index bytes (at + 3) ∷ [])

abbrev pub word64 : List ℕ → ℕ → ℕ
word64 bytes at = word32 bytes at + word32 bytes (at + 4) * 2 ^ 32

-- a sum with one more word
abbrev pub round : ℕ → ℕ → ℕ
round sum word = mul (rotate_left w64 (add sum (mul word p2)) 31) p1

-- a lane takes eight bytes of each stripe of 32, from this one of the stripe on: its sum after so many stripes
abbrev pub lane : List ℕ → ℕ → ℕ → ℕ → ℕ
lane bytes first start zero = start
lane bytes first start (suc n) = round (lane bytes first start n) (word64 bytes (32 * n + first))

-- the four lanes
abbrev pub lanes : List ℕ → ℕ → List ℕ
lanes bytes n =
    lane bytes 0 (add p1 p2) n ∷ lane bytes 8 p2 n ∷ lane bytes 16 0 n ∷ lane bytes 24 (2 ^ 64 - p1) n ∷ []

-- a sum goes into the hash
abbrev pub merge : ℕ → ℕ → ℕ
merge hash sum = add (mul (bit_xor hash (round 0 sum)) p1) p4

-- the four sums make a hash
abbrev pub gathered : List ℕ → ℕ
gathered sums =
    fold merge
    (add (add (add
    (rotate_left w64 (slice_index sums 0) 1)
    (rotate_left w64 (slice_index sums 1) 7))
    (rotate_left w64 (slice_index sums 2) 12))
    (rotate_left w64 (slice_index sums 3) 18))
    sums

-- eight bytes go into the hash, four, and one
abbrev pub mix8 : ℕ → ℕ → ℕ
mix8 hash word = add (mul (rotate_left w64 (bit_xor hash (round 0 word)) 27) p1) p4

abbrev pub mix4 : ℕ → ℕ → ℕ
mix4 hash word = add (mul (rotate_left w64 (bit_xor hash (mul word p1)) 23) p2) p3

abbrev pub mix1 : ℕ → ℕ → ℕ
mix1 hash byte = mul (rotate_left w64 (bit_xor hash (mul byte p5)) 11) p1

-- the hash with the first so many words of eight bytes
abbrev pub with_eights : ℕ → List ℕ → ℕ → ℕ
with_eights hash bytes zero = hash
with_eights hash bytes (suc n) = mix8 (with_eights hash bytes n) (word64 bytes (8 * n))

-- the hash with fewer than eight bytes: four, if there are, and each of the others
abbrev pub with_four : ℕ → List ℕ → ℕ
with_four hash bytes =
    if nat_lt (length bytes) 4 then fold mix1 hash bytes
    else fold mix1 (mix4 hash (word32 bytes 0)) (drop 4 bytes)

-- the hash with fewer than 32 bytes
abbrev pub mixed : ℕ → List ℕ → ℕ
mixed hash bytes =
    with_four (with_eights hash bytes (length bytes / 8)) (drop (8 * (length bytes / 8)) bytes)

-- each bit of the hash depends on each
abbrev pub avalanche : ℕ → ℕ
avalanche h =
    let a = mul (bit_xor h (h / 2 ^ 33)) p2 in
    let b = mul (bit_xor a (a / 2 ^ 29)) p3 in
    bit_xor b (b / 2 ^ 32)

-- the hash of the whole stripes
abbrev pub stripes_hash : List ℕ → ℕ → ℕ
stripes_hash bytes n = if nat_eq n 0 then p5 else gathered (lanes bytes n)

-- the hash of some bytes: the stripes, the length, and the bytes after the last stripe
unfoldable pub xxh64 : List ℕ → ℕ
xxh64 bytes =
    avalanche (mixed
    (add (stripes_hash bytes (length bytes / 32)) (length bytes))
    (drop (32 * (length bytes / 32)) bytes))
