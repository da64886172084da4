use Rattle.std.proofs.Common.{true, false, ◌≡◌, ◌∙◌, ◌+◌, length, drop, ◌∷◌, [], Some, None, sym, ap, subst, arith}
use Rattle.std.proofs.lemmas.List.{drop_more, drop_all}
use Rattle.run_audit_model.specs.Places.{IsStopOf}
use Rattle.run_audit_model.proofs.PlaceLemmas.{continues_first, continues_more, stop_here, stop_at_end}
use Rattle.run_audit_model.proofs.law.first_stop.Goals as goal

pub loop-place-init : goal.loop-place-init
loop-place-init g c = record {
  held = c.requires;
  rest = continues_first g.L.Law.machine c.args.law.now c.args.events.now;
}

pub returns-then-not-branch : goal.returns-then-not-branch
returns-then-not-branch g c =
    let m = g.L.Law.machine in
    let l = c.loop-place in
    let e = c.index-events-place.result in
    let xs = c.args.events.now in
    let next = drop_more xs l.place e (omega arith)
    ∙ ap (λ y. y ∷ drop (l.place + 1) xs) (sym c.index-events-place.is) in
    let stop = stop_here m g.L.Law.holds g.met.L.Law.completes l.law l.invariant.held e (drop (l.place + 1) xs)
    (c.in_ok-take.ensures.stopped c.if-not-branch.true) in
    let there : l.place + 0 ≡ l.place = omega arith in record {
      ok = subst (λ n. IsStopOf m c.args.law.now xs (Some n)) there
          (l.invariant.rest (Some 0) (subst (λ es. IsStopOf m l.law es (Some 0)) (sym next) stop));
    }

pub loop-place-preserved : goal.loop-place-preserved
loop-place-preserved g c =
    let m = g.L.Law.machine in
    let l = c.loop-place in
    let e = c.index-events-place.result in
    let xs = c.args.events.now in
    let next = drop_more xs l.place e (omega arith)
    ∙ ap (λ y. y ∷ drop (l.place + 1) xs) (sym c.index-events-place.is) in
    let taken = c.in_ok-take.ensures.taken c.if-not-branch.false in record {
      held = g.met.L.Law.completes.kept l.law e c.take.new.self l.invariant.held taken;
      rest = continues_more m c.args.law.now xs l.law c.take.new.self e (drop (l.place + 1) xs) l.place taken
          (λ o stop. l.invariant.rest o (subst (λ es. IsStopOf m l.law es o) (sym next) stop));
    }

pub returns-then-is_done : goal.returns-then-is_done
returns-then-is_done g c =
    let m = g.L.Law.machine in
    let l = c.loop-place in
    let none : drop l.place c.args.events.now ≡ [] = drop_all l.place c.args.events.now (omega arith) in
    record {
      ok = l.invariant.rest None (subst (λ es. IsStopOf m l.law es None) (sym none)
          (stop_at_end m g.L.Law.holds g.met.L.Law.completes l.law l.invariant.held true
          (sym c.is_done.ensures ∙ c.if-is_done.true)));
    }

pub returns-else-is_done : goal.returns-else-is_done
returns-else-is_done g c =
    let m = g.L.Law.machine in
    let l = c.loop-place in
    let xs = c.args.events.now in
    let none : drop l.place xs ≡ [] = drop_all l.place xs (omega arith) in
    let there : l.place + 0 ≡ length xs = omega arith in record {
      ok = subst (λ n. IsStopOf m c.args.law.now xs (Some n)) there
          (l.invariant.rest (Some 0) (subst (λ es. IsStopOf m l.law es (Some 0)) (sym none)
          (stop_at_end m g.L.Law.holds g.met.L.Law.completes l.law l.invariant.held false
          (sym c.is_done.ensures ∙ c.if-is_done.false))));
    }
