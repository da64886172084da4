use Rattle.std.proofs.Common.{◌≡◌, string_bytes, take}
use Rattle.run_report.specs.Scripts.{command_said}
use Rattle.run_report.proofs.scripts.command_said.Given as goal

abbrev pub invariant-loop-word : goal.invariant-loop-word
invariant-loop-word l = string_bytes l.said ≡ command_said (take l.word-index l.command)
