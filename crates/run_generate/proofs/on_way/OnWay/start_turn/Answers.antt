-- The number of a unit has room for one more.
use Rattle.std.proofs.Common.{◌∙◌, sym, arith}
use Rattle.run_generate.specs.declared.child.Child.TheVariants.{Asked}
use Rattle.run_generate.proofs.ChildLemmas.{first_few}
use Rattle.run_generate.proofs.on_way.OnWay.start_turn.Goals as goal

pub overflow_add-pid : goal.overflow_add-pid
overflow_add-pid c = omega (
  arith,
  first_few c.args.self.now c.requires.0 Asked c.in_ok-unit.unit c.requires.1.stands
      (sym c.in_ok-unit.was ∙ c.first_with.ensures),
)
