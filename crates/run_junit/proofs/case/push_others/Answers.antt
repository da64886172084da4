use Rattle.std.proofs.Common.{◌∙◌, ap, ◌++◌}
use Rattle.run_junit.specs.Cases.{other_tokens, others_tokens}
use Rattle.run_junit.specs.Tokens.{tokens_bytes}
use Rattle.run_junit.proofs.TokenLemmas.{flat_tokens_more, no_tokens}
use Rattle.run_junit.proofs.case.push_others.Goals as goal

pub loop-status-init : goal.loop-status-init
unfolding others_tokens
loop-status-init c = no_tokens c.args.page.now

pub loop-status-preserved : goal.loop-status-preserved
unfolding others_tokens
loop-status-preserved c =
    c.in_ok-push_other.ensures
    ∙ ap (λ bytes. bytes ++ tokens_bytes (other_tokens c.args.started c.args.ended c.status-item.result))
    c.loop-status.invariant
    ∙ flat_tokens_more (other_tokens c.args.started c.args.ended) c.args.page.now c.args.others.now
    c.loop-status.status-index c.status-item.result c.loop-status-test.true c.status-item.is
