use Rattle.std.proofs.Common.{◌∙◌, ap}
use Rattle.run_junit.specs.declared.heard.Heard.{Heard}
use Rattle.run_junit.specs.Heard.{kept_after_event}
use Rattle.run_junit.proofs.HeardLemmas.{heard_more}
use Rattle.run_junit.proofs.report.hear_more.Goals as goal

pub returns : goal.returns
returns c events so_far =
    let before = rw c.in_ok-heard.was at so_far in
    c.in_ok-hear.ensures
    ∙ ap (λ (h : Heard). kept_after_event c.args.started h c.args.event.now) before
    ∙ heard_more c.args.started events c.args.event.now
