-- What is wrong with what a run's threads left.
use Rattle.std.specs.Prelude.{ℕ, ◌≡◌, ◌≤◌, Bool, true, false, List, ◌++◌, count_by, Option, Some, None}
use Rattle.run_events.specs.declared.signal.Signal.TheVariants.{Int, Hup, Term, Quit}
use Rattle.run_events.specs.declared.turn.Turn.{Turn}
use Rattle.run_events.specs.declared.turn.Turn.TheVariants.{Signal as SignalCame}
use Rattle.run_model.specs.declared.entry.Entry.{Entry}
use Rattle.run_shared.specs.declared.closing.CloseError.{CloseError}
use Rattle.run_shared.specs.declared.order_check.OrderFault.{OrderFault}
use Rattle.run_shared.specs.declared.offered.Refusal.{Refusal}
use Rattle.run_shared.specs.declared.offered.RefusalKind.TheVariants.{ThirdSignal}
use Rattle.run_shared.specs.declared.orders.Errand.{Errand}
use Rattle.run_shared.specs.declared.orders.Order.{Order}
use Rattle.run_shared.specs.declared.orders.Halt.{Halt}
use Rattle.run_shared.specs.Receipts.{concatenated}
use Rattle.run_shared.specs.Orders.{halted, ordered}
use Rattle.run_whole.specs.declared.left.WholeError.{WholeError}
use Rattle.run_whole.specs.declared.left.WholeError.TheVariants.{Receipts, Orders}

-- why the receipts were refused, if they were
abbrev pub receipts_error : Option WholeError → Option CloseError
receipts_error None = None
receipts_error (Some (Receipts error)) = Some error
receipts_error (Some (Orders fault)) = None

-- what is wrong with what was handed on, if something is
abbrev pub order_fault : Option WholeError → Option OrderFault
order_fault None = None
order_fault (Some (Receipts error)) = None
order_fault (Some (Orders fault)) = Some fault

-- a turn was refused as a third shutdown signal
abbrev pub IsThird : Refusal → Type 0
IsThird refusal = refusal.kind ≡ ThirdSignal

-- a turn is a signal by which a run is shut down
abbrev pub is_shutdown_turn : Turn → Bool
is_shutdown_turn (SignalCame Int) = true
is_shutdown_turn (SignalCame Hup) = true
is_shutdown_turn (SignalCame Term) = true
is_shutdown_turn (SignalCame Quit) = true
is_shutdown_turn turn = false

-- whether the turn of an entry is one
unfoldable pub takes_shutdown : Entry → Bool
takes_shutdown entry = is_shutdown_turn entry.turn

-- a shutdown signal was refused as a third one, and two at least were taken
pub record ComesThird (journal : List Entry) (refusal : Refusal) : Type 0 where
  pub refused : IsThird refusal
  pub signal : is_shutdown_turn refusal.turn ≡ true
  pub two : 2 ≤ count_by takes_shutdown journal

-- what workers and who stops the program handed on, each with its place
abbrev pub handed : List (List Order) → List Halt → List (ℕ × Errand)
handed orders halts = ordered (concatenated orders) ++ halted halts
