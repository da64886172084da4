use Rattle.std.proofs.Common.{◌≡◌, ◌++◌, string_bytes}
use Rattle.run_junit.specs.declared.escape.Place.TheVariants.{Attribute}
use Rattle.run_junit.specs.declared.escape.Sequence.TheVariants.{Outside}
use Rattle.run_junit.specs.Escape.{after_all, shown_chars}
use Rattle.run_junit.proofs.escape.push_attribute_text.Given as goal

abbrev pub invariant-loop-c : goal.invariant-loop-c
invariant-loop-c l = record {
  text : string_bytes l.out ≡ string_bytes l.initial.out ++ shown_chars Attribute Outside l.yielded;
  at : l.at ≡ after_all Outside l.yielded;
}
