use Rattle.run_commands.proofs.EnvMapLemmas.{sets_pair}
use Rattle.run_commands.proofs.EnvTextLemmas.{sets_variable}
use Rattle.run_commands.proofs.script_helpers.put.Goals as goal

pub returns : goal.returns
returns c = record {
  ok = sets_variable c.in_ok-from_str.field-0 _ _ _ _ _ c.in_ok-from_str.ensures.ok c.in_ok-from_str-2.ensures
      c.in_ok-insert.ensures.updates c.insert.ensures.ordered;
  pairs = sets_pair c.in_ok-from_str.field-0 _ _ _ _ _ c.in_ok-from_str.ensures.ok c.in_ok-from_str-2.ensures
      c.in_ok-insert.ensures.entries;
}
