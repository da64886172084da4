use Rattle.std.proofs.Common.{◌≡◌, ◌++◌, drop, map}
use Rattle.toml.specs.View.{view}
use Rattle.run_profile.specs.Notes.{noted}
use Rattle.run_profile.proofs.notes.noted.Given as goal

abbrev pub invariant-loop-name : goal.invariant-loop-name
invariant-loop-name l =
    l.notes ++ noted (map (λ n. n.now) (drop l.name-index l.names)) l.path (view l.table)
    ≡ l.fn.notes ++ noted (map (λ n. n.now) l.names) l.path (view l.table)
