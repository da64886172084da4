use Rattle.std.proofs.Common.{List, ◌∷◌, ℕ, Some, codes, subst}
use Rattle.run_output.specs.Fields.{object_of}
use Rattle.run_output.specs.Printer.{Prints, data_tokens}
use Rattle.run_output.specs.Texts.{bytes_data}
use Rattle.run_output.specs.Turns.{word_at, unit_fields}
use Rattle.run_output.proofs.turns.piece.Goals as goal

pub returns : goal.returns
returns c = subst
    (λ (word : List ℕ). Prints c.print_of.result c.args.out.now c.print_of.new.out (data_tokens (object_of
    ((codes "hex", Some (bytes_data c.args.bytes.now)) ∷ word_at (codes "stream") word
    ∷ unit_fields (codes "piece") c.args.unit))))
    c.stream_name.ensures c.print_of.ensures
