-- What a ledger of finished tests has heard.
use Rattle.std.specs.Prelude.{ℕ, ◌≡◌, List, [], ◌∷◌, Bool, false, ◌&&◌, Option, Some, None, unwrap_or}
use Rattle.std.specs.List.{list_all}
use Rattle.std.specs.BTreeMap.{get}
use Rattle.std.specs.Ordering.{nat_cmp}
use Rattle.run_events.specs.declared.events.ReporterEvent.{ReporterEvent}
use Rattle.run_events.specs.declared.message.TestFinish.{TestFinish}
use Rattle.run_rerun.specs.declared.ledger.Ledger.{Ledger}
use Rattle.run_rerun.specs.Outstanding.{adds_pass, finishes_of}

-- what the finishes of a test come to: whether each is a pass, if there is one
abbrev pub mark_of : List TestFinish → Option Bool
mark_of [] = None
mark_of (finish ∷ finishes) = Some (list_all adds_pass (finish ∷ finishes))

-- the same after one more finish
abbrev pub next_mark : Option Bool → Bool → Option Bool
next_mark None passes = Some passes
next_mark (Some all) passes = Some (all && passes)

-- a ledger has of each unit what the finishes told of it come to
abbrev pub IsLedgerOf : Ledger → List ReporterEvent → Type 0
IsLedgerOf ledger events = (unit : ℕ) → get nat_cmp ledger.marks unit ≡ mark_of (finishes_of unit events)

-- whether a ledger has that a unit finished, each time as a pass
abbrev pub is_marked : Ledger → ℕ → Bool
is_marked ledger unit = unwrap_or (get nat_cmp ledger.marks unit) false
