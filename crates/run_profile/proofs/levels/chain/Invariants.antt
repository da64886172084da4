use Rattle.std.proofs.Common.{◌≡◌, option_map}
use Rattle.toml.specs.View.{view}
use Rattle.run_profile.specs.Fields.{before}
use Rattle.run_profile.specs.Levels.{chain}
use Rattle.run_profile.proofs.levels.chain.Given as goal

abbrev pub invariant-loop-room : goal.invariant-loop-room
invariant-loop-room l =
    before l.names (chain l.room (option_map (λ v. view v.now) l.profiles) l.name)
    ≡ chain l.most (option_map (λ v. view v.now) l.profiles) l.chosen

abbrev pub decreases-loop-room : goal.decreases-loop-room
decreases-loop-room l = l.room
