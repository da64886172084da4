use Rattle.std.proofs.Common.{◌≡◌, map, take}
use Rattle.regex.specs.Strings.{regex_pattern, matcher_pattern}
use Rattle.run_filter.specs.Holds.{fact_of, is_found}
use Rattle.run_filter.proofs.regexes.regex_held.Given as goal

abbrev pub invariant-loop-facts : goal.invariant-loop-facts
invariant-loop-facts l = record {
  held : l.held.items ≡ map (λ facts. is_found l.regex (fact_of l.subject facts)) (take l.facts-index l.tests);
  pattern : matcher_pattern l.matcher ≡ regex_pattern l.regex;
}
