use Rattle.std.proofs.Common.{◌≡◌, ◌++◌, string_bytes}
use Rattle.run_report.specs.Texts.{dashes}
use Rattle.run_report.proofs.texts.push_dashes.Given as goal

abbrev pub invariant-loop-dash : goal.invariant-loop-dash
invariant-loop-dash l = string_bytes l.out ≡ string_bytes l.initial.out ++ dashes l._dash
