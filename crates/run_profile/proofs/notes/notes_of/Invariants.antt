use Rattle.std.proofs.Common.{◌≡◌, ◌++◌, drop, option_map}
use Rattle.toml.specs.View.{view}
use Rattle.run_profile.specs.Notes.{notes_from}
use Rattle.run_profile.proofs.notes.notes_of.Given as goal

abbrev pub invariant-loop-name : goal.invariant-loop-name
invariant-loop-name l =
    l.notes ++ notes_from (option_map (λ v. view v.now) l.profiles) (drop l.name-index l.names)
    ≡ notes_from (option_map (λ v. view v.now) l.profiles) l.names
