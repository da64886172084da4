use Rattle.std.proofs.Common.{◌≡◌, ◌++◌, take}
use Rattle.run_junit.specs.Cases.{others_tokens}
use Rattle.run_junit.specs.Tokens.{tokens_bytes}
use Rattle.run_junit.proofs.case.push_others.Given as goal

abbrev pub invariant-loop-status : goal.invariant-loop-status
invariant-loop-status l = l.page ≡ l.initial.page
    ++ tokens_bytes (others_tokens l.started l.ended (take l.status-index l.others))
