use Rattle.std.proofs.Common.{rules, ◌≡◌, slice_get, Some, None, sym, subst, arith}
use Rattle.run_engine.specs.World.{World}
use Rattle.run_engine.specs.Starts.{starts_of}
use Rattle.run_engine.proofs.StartsLemmas.{empty_of, claims-take, claims-none, starts-fit}
use Rattle.run_engine.proofs.run.Run.claim.Goals as goal

pub overflow_add-self : goal.overflow_add-self
overflow_add-self c =
    let inside = c.self.inside in
    let claims = claims-take (starts_of inside.settings inside.journal.items) inside.starts.items
    c.pop_front.new.self.items c.in-Some.start inside.claimed c.self.invariant.claims c.in-Some.ensures.items in
    omega (arith, claims.within, starts-fit inside.settings inside.journal.items, c.self.invariant.runnable.short)

pub returns-in-Some-clause-start : goal.returns-in-Some-clause-start
returns-in-Some-clause-start c =
    let inside = c.self.inside in
    let claims = claims-take (starts_of inside.settings inside.journal.items) inside.starts.items
    c.pop_front.new.self.items c.in-Some.start inside.claimed c.self.invariant.claims c.in-Some.ensures.items in
    subst (λ (w : World). Some c.in-Some.start ≡ slice_get (starts_of w.settings w.journal) w.claimed) c.self.view_is
    (sym claims.is)

pub returns-in-None-clause-start : goal.returns-in-None-clause-start
returns-in-None-clause-start c =
    let inside = c.self.inside in
    subst (λ (w : World). None ≡ slice_get (starts_of w.settings w.journal) w.claimed) c.self.view_is
    (sym (claims-none (starts_of inside.settings inside.journal.items) inside.starts.items inside.claimed
    c.self.invariant.claims (empty_of inside.starts.items (search rules))))
