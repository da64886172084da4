use Rattle.std.proofs.Common.{◌≡◌, ◌<◌, ℕ, List, Option, None, map, take}
use Rattle.std.proofs.Common.{drop, length, get_or, ap, sym, ◌++◌, ◌∙◌, arith}
use Rattle.std.proofs.lemmas.List.{length-map, take_all, take-append-le}
use Rattle.run_model.specs.declared.unit_view.UnitView.{UnitView}
use Rattle.run_state.proofs.CountedLemmas.{absent_left}
use Rattle.run_state.proofs.HoldersLemmas.{absent_live}
use Rattle.run_state.proofs.StartLemmas.{forgotten}
use Rattle.run_state.proofs.WorkingLemmas.{absent_working}
use Rattle.run_state.proofs.units.Units.forget.Goals as goal

-- the units as they are written back
abbrev now : goal.After-truncate → List (Option UnitView)
now c =
    take c.self.inside.items.len
    (c.forget_each.new.units ++ drop (length c.forget_each.new.units) c.self.inside.items.items)

are : (c : goal.After-truncate) → now c ≡ map (λ _. None) c.self.inside.items.items
are c =
    let new = c.forget_each.new.units in
    let long : length new ≡ length c.self.inside.items.items =
    ap length c.forget_each.ensures ∙ length-map _ _ ∙ ap length c.as_mut_slice.ensures.value in
    take-append-le c.self.inside.items.len new _ (omega arith)
    ∙ take_all c.self.inside.items.len new (omega arith)
    ∙ c.forget_each.ensures ∙ ap (map (λ _. None)) c.as_mut_slice.ensures.value

pub returns-clause-none : goal.returns-clause-none
returns-clause-none c k =
    ap (λ us. get_or us k None) (are c) ∙ forgotten c.self.inside.items.items k

pub invariant_of-self : goal.invariant_of-self
invariant_of-self c =
    let none : (k : ℕ) → get_or (now c) k None ≡ None = returns-clause-none c in
    let long : length (now c) ≡ length c.self.inside.items.items = ap length (are c) ∙ length-map _ _ in
    let few : length c.self.inside.items.items < 4294967296 = c.self.invariant.3 in (
      omega arith ∙ sym (absent_left (now c) none),
      c.truncate.ensures.items ∙ absent_working (now c) none,
      absent_live (now c) none,
      omega arith,
    )
