use Rattle.run_commands.proofs.EnvTextLemmas.{nothing_left, read_nothing, read_more, read_all_lines}
use Rattle.run_commands.proofs.script_helpers.parse_env_text.Goals as goal

pub lines-init : goal.lines-init
lines-init c = read_nothing c.args.bytes.now c.new-map.result c.new-map.ensures.empty c.new-map.ensures.ordered

pub lines-preserved : goal.lines-preserved
lines-preserved c =
    read_more _ c.lines.rest.now _ c.split_line.result.0.now _ _ _ _ _ c.lines.invariant c.split_line.ensures.lines
    c.split_line.ensures.shorter c.in-Ok.ensures c.in_ok-put-in-Ok.ensures.ok c.in_ok-put-in-Ok.ensures.pairs

pub returns-clause-ok : goal.returns-clause-ok
returns-clause-ok c =
    rw c.in_ok-from_entries.ensures (read_all_lines _ c.lines.rest.now _ _ c.lines.invariant
    (nothing_left _ _ c.is_empty.ensures c.lines-test.false))
