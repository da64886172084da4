use Rattle.std.proofs.Common.{◌∙◌, ap, subst}
use Rattle.run_rerun.specs.Found.{SaysHad}
use Rattle.run_rerun.specs.Shards.{wanted_of}
use Rattle.run_rerun.proofs.ShardLemmas.{says_all}
use Rattle.run_rerun.proofs.shards.wanted_in.Goals as goal

pub returns : goal.returns
returns c =
    let shards = c.args.shards.now in
    let verdict = c.in_ok-verdict.verdict in
    says_all shards verdict c.requires.complete c.requires.one_plan
    (subst (λ ids. SaysHad shards ids verdict)
    (c.as_slice-2.ensures ∙ c.in_ok-ids.ensures ∙ ap wanted_of (c.as_slice.ensures ∙ c.requires.tests))
    c.in_ok-verdict.ensures)
