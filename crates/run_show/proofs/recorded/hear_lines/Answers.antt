-- How reading ends.
use Rattle.std.proofs.Common.{refl, rules, ◌∙◌}
use Rattle.run_show.proofs.ShownLemmas.{ends_many, nothing_read, rose_after}
use Rattle.run_show.proofs.recorded.hear_lines.Goals as goal

pub lines-init : goal.lines-init
lines-init g c = record {
  read = nothing_read _ _ c.requires;
  faults = refl;
  settings = refl;
  start = refl;
}

pub lines-preserved : goal.lines-preserved
lines-preserved g c = record {
  read = (rw c.in-Ok-On.field-0-is at c.in-Ok-On.ensures.goes) _ c.lines.invariant.read;
  faults = c.in-Ok-On.ensures.fault ∙ c.lines.invariant.faults;
  settings = c.hear_next.ensures.settings ∙ c.lines.invariant.settings;
  start = c.hear_next.ensures.start ∙ c.lines.invariant.start;
}

pub returns-in-Ok-Last-clause-ended : goal.returns-in-Ok-Last-clause-ended
returns-in-Ok-Last-clause-ended g c = (rw c.in-Ok-Last.field-0-is at c.in-Ok-Last.ensures.goes) _ c.lines.invariant.read

pub returns-in-Err-clause-fault : goal.returns-in-Err-clause-fault
returns-in-Err-clause-fault g c = rose_after _ _ _ c.in-Err.fault c.lines.invariant.faults c.in-Err.ensures.fault

pub returns-clause-ended : goal.returns-clause-ended
returns-clause-ended g c = ends_many _ _ _ _ _ (search rules) c.lines.invariant.read
