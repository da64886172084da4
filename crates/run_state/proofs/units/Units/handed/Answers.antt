use Rattle.std.proofs.Common.{◌≡◌, length, take, ◌∙◌, arith}
use Rattle.run_state.proofs.ScriptLemmas.{handed-none}
use Rattle.run_state.proofs.units.Units.handed.Goals as goal

pub returns-then-is_empty : goal.returns-then-is_empty
returns-then-is_empty c =
    let none : length c.args.numbers.now ≡ 0 = grind arith in
    c.new.ensures ∙ handed-none c.args.numbers.now 0 (take c.args.count c.args.self.now) none
