-- What a step of a unit gives to the run.
use Rattle.std.specs.Prelude.{◌≡◌}
use Rattle.run_model.specs.declared.unit_view.UnitView.{UnitView}
use Rattle.run_model.specs.Row.{Row}
use Rattle.run_model.specs.Admission.{is_last}
use Rattle.run_unit.specs.declared.effects.UnitEffects.{UnitEffects}

-- a unit and what it gave to the run are those of a row of the unit table
pub record IsRow (row : Row) (unit : UnitView) (effects : UnitEffects) : Type 0 where
  pub next : unit ≡ row.next
  pub sent : effects.sent ≡ row.sent
  pub asked : effects.asked ≡ row.asked
  pub info : effects.info ≡ row.info
  pub acks : effects.acks ≡ row.acks
  pub over : effects.over ≡ is_last unit.phase
