-- What a line may be.
use Rattle.std.specs.Prelude.{ℕ, ◌≢◌, ◌≤◌, List, length}
use Rattle.std.specs.List.{All}

-- bytes of which none is a line feed
abbrev pub HasNoFeed : List ℕ → Type 0
HasNoFeed bytes = All (λ b. b ≢ 10) bytes

-- one line without its line feed, within the limit
abbrev pub IsLine : List ℕ → Type 0
IsLine bytes = HasNoFeed bytes × (length bytes ≤ 16777216)
