use Rattle.std.proofs.Common.{◌∙◌, ap, ◌++◌, ◌∷◌, [], take, slice_index_or}
use Rattle.run_report.specs.Indent.{indented_after, last_byte}
use Rattle.run_report.proofs.IndentLemmas.{indented_more, last_byte_more}
use Rattle.run_report.proofs.indent.push_indented.Goals as goal

pub loop-byte-preserved : goal.loop-byte-preserved
loop-byte-preserved c =
    let at = slice_index_or c.args.bytes.now c.loop-byte.byte-index 0 in
    let before = last_byte c.args.before (take c.loop-byte.byte-index c.args.bytes.now) in
    record {
      items =
          c.in_ok-push_byte.ensures
          ∙ ap (λ last. c.loop-byte.buffer.items ++ indented_after last (at ∷ [])) c.loop-byte.invariant.last
          ∙ ap (λ items. items ++ indented_after before (at ∷ [])) c.loop-byte.invariant.items
          ∙ indented_more c.args.before c.args.bytes.now c.args.buffer.now.items c.loop-byte.byte-index
          c.loop-byte-test.true;
      last = last_byte_more c.args.before c.args.bytes.now c.loop-byte.byte-index c.loop-byte-test.true;
    }
