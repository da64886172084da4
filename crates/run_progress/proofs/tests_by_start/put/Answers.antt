use Rattle.std.proofs.Common.{◌≡◌, ◌+◌, ◌++◌, ◌∷◌, [], cond, Some, ◌∙◌, sym, ap, subst}
use Rattle.std.specs.HashMap.{get}
use Rattle.std.specs.List.Sorted.{IsStrictlySortedBy}
use Rattle.std.specs.Map.{keys_of, values_of}
use Rattle.std.specs.Ordering.{nat_cmp}
use Rattle.run_events.specs.declared.plan.TestInstanceId.{TestInstanceId}
use Rattle.run_progress.specs.Deeds.{is_same}
use Rattle.run_progress.specs.Edits.{without}
use Rattle.run_progress.specs.Starts.{FindsEach, without_start}
use Rattle.run_progress.proofs.StartLemmas.{Numbered}
use Rattle.run_progress.proofs.StartedLemmas.{start_finds, start_undone, start_values}
use Rattle.run_progress.proofs.tests_by_start.put.Goals as goal

pub returns-in-Err-clause-err : goal.returns-in-Err-clause-err
returns-in-Err-clause-err c = λ finds. (
  c.leave.ensures.tests ∙ ap (without_start (Some c.args.number)) c.in_ok-insert.ensures.entries
      ∙ start_undone (get is_same c.args.starts.now) c.args.number c.args.tests.now.entries c.args.running finds,
  c.in-Err.ensures.err,
)

pub returns-clause-finds : goal.returns-clause-finds
returns-clause-finds c = λ finds.
    let left = c.leave-2.ensures.tests ∙ ap (without_start c.in-Ok.before) c.in_ok-insert.ensures.entries in
    let old = get is_same c.args.starts.now in
    let new = get is_same c.insert-2.new.self in
    subst (λ (es : Numbered). FindsEach new (c.args.number + 1) es) (sym left)
    (start_finds old c.args.number c.args.tests.now.entries c.args.running finds new c.in-Ok.before
    (ap old c.requires ∙ sym c.in-Ok.ensures.old)
    (λ q. subst (λ (id : TestInstanceId). new q ≡ cond (is_same id q) (Some c.args.number) (old q)) (sym c.requires)
    (c.in-Ok.ensures.updates.0 q))
    (subst (λ (es : Numbered). IsStrictlySortedBy nat_cmp (keys_of es)) left
    (c.leave-2.ensures.ordered c.insert.ensures.ordered)))

pub returns-clause-tests : goal.returns-clause-tests
returns-clause-tests c = λ finds.
    let old = get is_same c.args.starts.now in
    let tests = c.args.tests.now.entries in
    ap values_of (c.leave-2.ensures.tests ∙ ap (without_start c.in-Ok.before) c.in_ok-insert.ensures.entries)
    ∙ start_values old c.args.number tests c.args.running finds c.in-Ok.before
    (ap old c.requires ∙ sym c.in-Ok.ensures.old)
    ∙ ap (λ (id : TestInstanceId). without id (values_of tests) ++ c.args.running ∷ []) c.requires
