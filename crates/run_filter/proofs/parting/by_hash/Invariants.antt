use Rattle.std.proofs.Common.{◌≡◌, ◌++◌, [], take, drop}
use Rattle.run_filter.specs.Partition.{parted}
use Rattle.run_filter.proofs.parting.by_hash.Given as goal

abbrev pub invariant-loop-candidate : goal.invariant-loop-candidate
invariant-loop-candidate l =
    let p = l.partition in
    l.kept.items ++ parted p.kind p.part p.parts (take l.candidate-index l.candidates)
    (drop l.candidate-index l.candidates)
    ≡ parted p.kind p.part p.parts [] l.candidates
