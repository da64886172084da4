use Rattle.std.proofs.Common.{◌≡◌, ◌++◌, ℕ, [], take, drop, get_or}
use Rattle.run_filter.specs.Partition.{parted, turns}
use Rattle.run_filter.proofs.parting.by_turn.Given as goal

abbrev pub invariant-loop-candidate : goal.invariant-loop-candidate
invariant-loop-candidate l =
    let p = l.partition in
    let before = take l.candidate-index l.candidates in
    record {
      kept : l.kept.items ++ parted p.kind p.part p.parts before (drop l.candidate-index l.candidates)
          ≡ parted p.kind p.part p.parts [] l.candidates;
      counts : (k : ℕ) → get_or l.counts.items k 0 ≡ turns p.kind before k;
    }
