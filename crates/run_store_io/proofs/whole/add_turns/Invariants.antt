use Rattle.std.proofs.Common.{◌≡◌, ℕ, List, [], Option, take, false}
use Rattle.run_store_io.specs.Written.{IsOpen, is_closed, sink_of}
use Rattle.run_store_io.proofs.whole.add_turns.Given as goal

abbrev pub invariant-loop-turn : goal.invariant-loop-turn
invariant-loop-turn g l = record {
  open_so_far : (start : Option (List ℕ)) (plan : List ℕ) → IsOpen g.K.Sink start plan [] l.initial.writer
      → IsOpen g.K.Sink start plan (take l.turn-index l.turns) l.writer;
  unclosed : is_closed l.writer ≡ false;
  faults : g.K.Sink.faults (sink_of l.writer) ≡ g.K.Sink.faults (sink_of l.initial.writer);
}
