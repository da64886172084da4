use Rattle.std.proofs.Common.{◌≡◌, rules}
use Rattle.run_events.proofs.MomentLemmas.{moment_same}
use Rattle.run_shared.proofs.same.TimestampSame.same.Goals as goal

pub returns : goal.returns
returns c = (λ same. moment_same c.args.self.now c.args.other.now (search rules), λ e. search rules)
