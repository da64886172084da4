use Rattle.std.proofs.Common.{rules, ◌≡◌, true, false, is_some, slice_get, sym, subst, ap}
use Rattle.run_engine.specs.World.{World}
use Rattle.run_engine.specs.Starts.{starts_of}
use Rattle.run_engine.proofs.StartsLemmas.{empty_of, claims-none, claims-some}
use Rattle.run_engine.proofs.run.Run.has_start.Goals as goal

pub returns-then-is_empty : goal.returns-then-is_empty
returns-then-is_empty c =
    let inside = c.self.inside in
    subst (λ (w : World). false ≡ is_some (slice_get (starts_of w.settings w.journal) w.claimed)) c.self.view_is
    (sym (ap is_some (claims-none (starts_of inside.settings inside.journal.items) inside.starts.items inside.claimed
    c.self.invariant.claims (empty_of inside.starts.items (search rules)))))

pub returns : goal.returns
returns c =
    let inside = c.self.inside in
    subst (λ (w : World). true ≡ is_some (slice_get (starts_of w.settings w.journal) w.claimed)) c.self.view_is
    (sym (claims-some (starts_of inside.settings inside.journal.items) inside.starts.items inside.claimed
    c.self.invariant.claims (search rules)))
