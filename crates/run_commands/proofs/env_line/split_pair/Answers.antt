use Rattle.std.proofs.Common.{ap, sym, ◌∙◌}
use Rattle.run_commands.specs.EnvLine.{is_key}
use Rattle.run_commands.proofs.EnvLineLemmas.{pair-not_utf8, pair-no_equals, pair-no_key, pair-sets}
use Rattle.run_commands.proofs.env_line.split_pair.Goals as goal

pub returns-in-Err : goal.returns-in-Err
returns-in-Err c = pair-not_utf8 c.args.line.now c.in-Err.ensures.cases.0

pub returns-in-None : goal.returns-in-None
returns-in-None c =
    pair-no_equals c.args.line.now c.in-Ok.ensures.cases.1 (rw c.in-Ok.ensures.cases.0 at c.in-None.ensures)

pub returns-then-not-may_be_set : goal.returns-then-not-may_be_set
returns-then-not-may_be_set c =
    let cut = rw c.in-Ok.ensures.cases.0 at c.in-Some.ensures in
    pair-no_key c.args.line.now _ _ c.in-Ok.ensures.cases.1 cut.0 cut.1
    (ap is_key (sym c.as_bytes.ensures.value) ∙ sym c.may_be_set.ensures ∙ c.if-not-may_be_set.true)

pub returns : goal.returns
returns c =
    let cut = rw c.in-Ok.ensures.cases.0 at c.in-Some.ensures in
    pair-sets c.args.line.now _ _ c.in-Ok.ensures.cases.1 cut.0 cut.1
    (ap is_key (sym c.as_bytes.ensures.value) ∙ sym c.may_be_set.ensures ∙ c.if-not-may_be_set.false)
