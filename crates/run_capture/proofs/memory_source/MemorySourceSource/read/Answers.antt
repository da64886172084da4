use Rattle.std.proofs.Common.{Some, ap, sym, ◌∙◌}
use Rattle.run_capture.proofs.BytesLemmas.{drop-given}
use Rattle.run_capture.proofs.memory_source.MemorySourceSource.read.Goals as goal

pub returns-clause-given : goal.returns-clause-given
returns-clause-given c =
    ap (λ v. Some v.left) (sym c.self.view_is)
    ∙ ap Some (drop-given c.self.inside.at c.copy_front-n.result c.self.inside.bytes _
    (rw c.as_slice-2.ensures at c.copy_front-n.ensures.copied))
