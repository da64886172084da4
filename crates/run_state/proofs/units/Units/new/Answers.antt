use Rattle.std.proofs.Common.{◌≡◌, length, sym, ◌∙◌, arith}
use Rattle.run_state.proofs.CountedLemmas.{absent_left}
use Rattle.run_state.proofs.HoldersLemmas.{absent_live}
use Rattle.run_state.proofs.WorkingLemmas.{absent_working}
use Rattle.run_state.proofs.units.Units.new.Goals as goal

pub invariant_of-result : goal.invariant_of-result
invariant_of-result c =
    let us = c.args.items.items in
    let all : c.len-left.result ≡ length us = omega arith in (
      all ∙ sym (absent_left us c.requires.none),
      c.new.ensures.items ∙ absent_working us c.requires.none,
      absent_live us c.requires.none,
      c.requires.few,
    )
