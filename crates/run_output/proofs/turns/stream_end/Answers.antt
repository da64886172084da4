use Rattle.std.proofs.Common.{List, ◌∷◌, ℕ, codes, subst}
use Rattle.run_output.specs.Fields.{object_of}
use Rattle.run_output.specs.Printer.{Prints, data_tokens}
use Rattle.run_output.specs.Turns.{word_at, unit_fields}
use Rattle.run_output.proofs.turns.stream_end.Goals as goal

pub returns : goal.returns
returns c = subst
    (λ (word : List ℕ). Prints c.print_of.result c.args.out.now c.print_of.new.out (data_tokens (object_of
    (word_at (codes "stream") word ∷ unit_fields (codes "stream-end") c.args.unit))))
    c.stream_name.ensures c.print_of.ensures
