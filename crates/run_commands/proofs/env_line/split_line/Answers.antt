use Rattle.std.proofs.Common.{sym, ◌∙◌}
use Rattle.run_commands.proofs.EnvLineLemmas.{lines-first, lines-last}
use Rattle.run_commands.proofs.env_line.split_line.Goals as goal

pub returns-in-Some-clause-lines : goal.returns-in-Some-clause-lines
returns-in-Some-clause-lines c =
    rw c.without_return.ensures
    (lines-first c.args.bytes.now c.in-Some.end (sym c.end_of_line.ensures ∙ c.in-Some.is))

pub returns-in-None-clause-lines : goal.returns-in-None-clause-lines
returns-in-None-clause-lines c = lines-last c.args.bytes.now c.requires (sym c.end_of_line.ensures ∙ c.in-None.is)
