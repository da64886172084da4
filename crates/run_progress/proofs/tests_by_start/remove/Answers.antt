use Rattle.std.proofs.Common.{◌∙◌, sym, ap, subst}
use Rattle.std.specs.HashMap.{get}
use Rattle.std.specs.List.Sorted.{IsStrictlySortedBy}
use Rattle.std.specs.Map.{keys_of, values_of}
use Rattle.std.specs.Ordering.{nat_cmp}
use Rattle.run_progress.specs.Deeds.{is_same}
use Rattle.run_progress.specs.Starts.{FindsEach}
use Rattle.run_progress.proofs.StartLemmas.{Numbered}
use Rattle.run_progress.proofs.StartedLemmas.{finish_finds, values_left}
use Rattle.run_progress.proofs.tests_by_start.remove.Goals as goal

pub returns-clause-finds : goal.returns-clause-finds
returns-clause-finds c = λ next finds.
    let left = c.leave.ensures.tests in
    subst (λ (es : Numbered). FindsEach (get is_same c.remove-start.new.self) next es) (sym left)
    (finish_finds (get is_same c.args.starts.now) next c.args.tests.now.entries c.args.id.now finds
    (get is_same c.remove-start.new.self) c.remove-start.result (sym c.remove-start.ensures.value)
    c.remove-start.ensures.updates.0
    (subst (λ (es : Numbered). IsStrictlySortedBy nat_cmp (keys_of es)) left (c.leave.ensures.ordered finds.ordered)))

pub returns-clause-tests : goal.returns-clause-tests
returns-clause-tests c = λ next finds.
    ap values_of c.leave.ensures.tests
    ∙ values_left (get is_same c.args.starts.now) next c.args.tests.now.entries c.args.id.now finds
    c.remove-start.result (sym c.remove-start.ensures.value)
