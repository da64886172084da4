use Rattle.std.proofs.Common.{◌≡◌, rules}
use Rattle.run_shared.proofs.SettledLemmas.{settled_kind}
use Rattle.run_shared.proofs.shared.SharedRun.settle.Goals as goal

pub returns-in-Ok-Some-clause-kind : goal.returns-in-Ok-Some-clause-kind
returns-in-Ok-Some-clause-kind g c =
    let kind =
    settled_kind c.deref_mut.result.now c.args.word c.in-Ok-Some.field-0 c.in-Ok-Some.ensures.first in
    let own = rw c.in-Ok-Some.field-0-is at kind in
    search rules
