use Rattle.std.proofs.Common.{◌∙◌, map, refl, sym, ap, subst}
use Rattle.std.specs.BTreeMap as tree
use Rattle.std.specs.HashMap.{get}
use Rattle.std.specs.Map.{values_of}
use Rattle.std.specs.Ordering.{nat_cmp}
use Rattle.run_progress.specs.Deeds.{is_same}
use Rattle.run_progress.specs.Edits.{slowed}
use Rattle.run_progress.specs.Starts.{FindsEach}
use Rattle.run_progress.proofs.StartLemmas.{Numbered}
use Rattle.run_progress.proofs.StartedLemmas.{slow_finds, slow_unknown, slow_values}
use Rattle.run_progress.proofs.tests_by_start.Started.slow.Goals as goal

pub invariant_of-self : goal.invariant_of-self
invariant_of-self c =
    let starts = get is_same c.self.inside.starts in
    let number = c.in-Some.number.now in
    subst (λ (es : Numbered). FindsEach starts c.self.inside.next es) (sym c.slow_at.ensures)
    (slow_finds starts c.self.inside.next c.self.inside.tests.entries c.self.invariant number
    (tree.get nat_cmp c.self.inside.tests number) refl)

pub returns-in-Some : goal.returns-in-Some
returns-in-Some c =
    let number = c.in-Some.number.now in
    ap values_of c.slow_at.ensures
    ∙ slow_values (get is_same c.self.inside.starts) c.self.inside.next c.self.inside.tests.entries c.self.invariant
    c.args.id.now number (tree.get nat_cmp c.self.inside.tests number) (sym c.in-Some.ensures.value) refl
    ∙ ap (map (slowed c.args.id.now)) c.self.view_is

pub returns-in_default : goal.returns-in_default
returns-in_default c =
    sym c.self.view_is
    ∙ slow_unknown (get is_same c.self.inside.starts) c.self.inside.next c.self.inside.tests.entries c.self.invariant
    c.args.id.now (sym c.in_default.ensures.value)
    ∙ ap (map (slowed c.args.id.now)) c.self.view_is
