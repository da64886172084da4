use Rattle.std.proofs.Common.{sym}
use Rattle.uuid.specs.Text.{parsed}
use Rattle.run_input.proofs.ValueLemmas.{none_where}
use Rattle.run_input.proofs.plan_head.parse_uuid.Goals as goal

pub returns-in-Err : goal.returns-in-Err
returns-in-Err c = sym (none_where (parsed c.args.text.now) (λ u e. let f = c.in-Err.ensures.ok.1 (u, e) in cc))
