-- Tests that wait in lines, one for each group, and the first of each line that there is room for.
use Rattle.std.specs.Prelude.{ℕ, ◌+◌, ◌-◌, ◌≡◌, ◌≢◌, ◌<◌, ◌≤◌, ◌⊎◌, List, [], ◌∷◌, ◌++◌, length, true, if◌then◌else◌}
use Rattle.std.specs.Prelude.{slice_get, slice_set, slice_index, slice_index_or, min, map, replicate}
use Rattle.std.specs.Option.{option_map_or}
use Rattle.run_admission.specs.declared.seat.Claim.{Claim}
use Rattle.run_admission.specs.declared.seat.Seat.{Seat}
use Rattle.run_admission.specs.declared.seat.Seat.TheVariants.{Waiting, Gone}
use Rattle.run_admission.specs.InUse.{is_waiting}
use Rattle.run_admission.specs.Kept.{Use, IsWhole, nobody, comes}
use Rattle.run_admission.specs.Least.{none}
use Rattle.run_admission.specs.Ordered.{IsOrder, at_places}

-- a line: its tests in order, and what each takes of the line's limit, or none once it has left
pub record Queue : Type 0 where
  pub tests : List ℕ
  pub weights : List ℕ

-- the tests of a line stand in order, each with its weight
pub record IsInOrder (tests weights : List ℕ) : Type 0 where
  pub many : length weights ≡ length tests
  pub rising : (p q : ℕ) → p < q → q < length tests → slice_index tests p < slice_index tests q

-- the first test of a line that hasn't left and that so much room is enough for, or none
pub record IsFirst (line : Queue) (room first : ℕ) : Type 0 where
  pub below : (p : ℕ) → p < length line.tests → slice_index line.weights p ≤ room → first ≤ slice_index line.tests p
  pub there : (first ≡ none)
      ⊎ ((p : ℕ) × (p < length line.tests) × (slice_index line.weights p ≢ none) × (slice_index line.weights p ≤ room)
      × (slice_index line.tests p ≡ first))

-- a line after the test at a place left
abbrev pub without : Queue → ℕ → Queue
without line place = record line { weights = slice_set line.weights place none }

-- the lines, the place of each test in its own, and the first test of each that there is room for
pub record Queues : Type 0 where
  pub lines : List Queue
  pub places : List ℕ
  pub firsts : List ℕ

-- a line without tests, for numbers past the end
abbrev pub empty : Queue
empty = record { tests = []; weights = [] }

-- the line of a test: that of its group, or the last, which always has room
abbrev pub line_of : List ℕ → Claim → ℕ
line_of limits claim = if claim.matched then option_map_or (λ g. g) claim.group (length limits) else length limits

-- what a test takes of its line's limit, and how much of that limit is left
abbrev pub weight_of : List ℕ → Claim → ℕ
weight_of limits claim =
    if claim.matched then option_map_or (λ g. min claim.weight (slice_index limits g)) claim.group 0 else 0

abbrev pub room_of : List Use → ℕ → ℕ
room_of us line = option_map_or (λ u. u.limit - u.used) (slice_get us line) 0

-- what stands of a test in its line
abbrev pub weight_at : List ℕ → Claim → Seat → ℕ
weight_at limits claim seat = if is_waiting seat then weight_of limits claim else none

-- a test at a place of a line: it is one of the tests, of this line, and stands there with its weight
pub record IsMember (limits : List ℕ) (claims : List Claim) (seats : List Seat) (places : List ℕ)
    (line place test weight : ℕ) : Type 0 where
  pub known : test < length claims
  pub own : line_of limits (slice_index_or claims test nobody.0) ≡ line
  pub there : slice_index places test ≡ place
  pub weighs : weight ≡ weight_at limits (slice_index_or claims test nobody.0) (slice_index_or seats test Gone)

-- each test stands at its place of its line, and each line has its own tests alone
pub record IsLined (limits : List ℕ) (claims : List Claim) (seats : List Seat) (lines : List Queue) (places : List ℕ)
    : Type 0 where
  pub count : length lines ≡ length limits + 1
  pub all : length places ≡ length claims
  pub even : (l : ℕ) → l < length lines
      → length (slice_index_or lines l empty).weights ≡ length (slice_index_or lines l empty).tests
  pub inside : (k : ℕ) → k < length claims
      → slice_index places k < length
      (slice_index_or lines (line_of limits (slice_index_or claims k nobody.0)) empty).tests
  pub placed : (k : ℕ) → k < length claims
      → slice_index (slice_index_or lines (line_of limits (slice_index_or claims k nobody.0)) empty).tests
      (slice_index places k) ≡ k
  pub members : (l p : ℕ) → l < length lines → p < length (slice_index_or lines l empty).tests
      → IsMember limits claims seats places l p (slice_index (slice_index_or lines l empty).tests p)
      (slice_index (slice_index_or lines l empty).weights p)

-- the first of a line: no test of the line that may come is before it, and it is such a test, or none
pub record IsHead (us : List Use) (limits : List ℕ) (claims : List Claim) (seats : List Seat) (line first : ℕ) : Type 0
  where
    pub before : (k : ℕ) → k < length claims → line_of limits (slice_index_or claims k nobody.0) ≡ line
        → comes us (slice_index_or claims k nobody.0, slice_index_or seats k Gone) ≡ true → first ≤ k
    pub there : (first ≡ none)
        ⊎ ((first < length claims) × (line_of limits (slice_index_or claims first nobody.0) ≡ line)
        × (comes us (slice_index_or claims first nobody.0, slice_index_or seats first Gone) ≡ true))

-- the lines are those of these tests, and the first of each is known
pub record IsQueued (us : List Use) (claims : List Claim) (seats : List Seat) (queues : Queues) : Type 0 where
  pub lined : IsLined (map (λ u. u.limit) us) claims seats queues.lines queues.places
  pub all : length queues.firsts ≡ length queues.lines
  pub heads : (l : ℕ) → l < length queues.lines
      → IsHead us (map (λ u. u.limit) us) claims seats l (slice_index queues.firsts l)

-- the limits are those of these tests, and the lines are those of the same tests in the order in which they come
pub record IsReady (waiting : ℕ) (whole : Use) (parts : List Use) (queues : Queues) (order : List ℕ)
    (claims : List Claim) (seats : List Seat) : Type 0 where
  pub kept : IsWhole waiting whole parts claims seats
  pub ordered : IsOrder claims order
  pub queued : IsQueued parts (at_places nobody.0 claims order) (at_places Gone seats order) queues

-- the tests in the order in which they come, and their lines, where all wait
pub record IsLineup (us : List Use) (claims : List Claim) (order : List ℕ) (queues : Queues) : Type 0 where
  pub ordered : IsOrder claims order
  pub queued : IsQueued us (at_places nobody.0 claims order) (replicate (length order) Waiting) queues

-- a line after a test joined it, at its end
abbrev pub joined : Queue → ℕ → ℕ → Queue
joined line test weight = record {
  tests = line.tests ++ test ∷ [];
  weights = line.weights ++ weight ∷ [];
}

-- a test at a place of a line that is being built
pub record IsJoined (limits : List ℕ) (claims : List Claim) (joins : ℕ) (places : List ℕ) (line place test weight : ℕ)
    : Type 0 where
  pub known : test < joins
  pub own : line_of limits (slice_index_or claims test nobody.0) ≡ line
  pub there : slice_index places test ≡ place
  pub weighs : weight ≡ weight_of limits (slice_index_or claims test nobody.0)

-- lines that are being built: the first tests have joined
pub record IsDrafted (limits : List ℕ) (claims : List Claim) (joins : ℕ) (lines : List Queue) (places : List ℕ) : Type 0
  where
    pub count : length lines ≡ length limits + 1
    pub all : length places ≡ joins
    pub within : joins ≤ length claims
    pub order : (l : ℕ) → l < length lines
        → IsInOrder (slice_index_or lines l empty).tests (slice_index_or lines l empty).weights
    pub inside : (k : ℕ) → k < joins
        → slice_index places k < length (slice_index_or lines
        (line_of limits (slice_index_or claims k nobody.0)) empty).tests
    pub placed : (k : ℕ) → k < joins
        → slice_index (slice_index_or lines (line_of limits (slice_index_or claims k nobody.0)) empty).tests
        (slice_index places k) ≡ k
    pub members : (l p : ℕ) → l < length lines → p < length (slice_index_or lines l empty).tests
        → IsJoined limits claims joins places l p (slice_index (slice_index_or lines l empty).tests p)
        (slice_index (slice_index_or lines l empty).weights p)

-- the firsts of the first lines, as they are found
pub record HasFirsts (us : List Use) (lines : List Queue) (many : ℕ) (firsts : List ℕ) : Type 0 where
  pub all : length firsts ≡ many
  pub each : (l : ℕ) → l < many → IsFirst (slice_index_or lines l empty) (room_of us l) (slice_index firsts l)
