use Rattle.std.proofs.Common.{[], false}
use Rattle.run_filter.specs.declared.partition.Candidate.{Candidate}
use Rattle.run_filter.proofs.PartitionLemmas.{by_turn_kept, by_turn_counts}
use Rattle.run_filter.proofs.parting.by_turn.Goals as goal

pub loop-candidate-preserved : goal.loop-candidate-preserved
loop-candidate-preserved c =
    let p = c.args.partition.now in
    let cs = c.args.candidates.now in
    let i = c.loop-candidate.candidate-index in
    let d : Candidate = record {
      binary = 0;
      name = record {
        ref_ptr =
            (0, 0);
        now = [];
      };
      is_ignored = false;
      passes = false;
    } in
    record {
      kept =
          by_turn_kept p.kind p.part p.parts cs i d c.loop-candidate.counts.items c.loop-candidate.kept.items
          c.push.new.self.items _ c.in_ok-is_in.is_in c.requires c.loop-candidate-test.true c.in_ok-is_in.ensures.is_in
          c.loop-candidate.invariant.counts c.in_ok-push.ensures.items c.loop-candidate.invariant.kept;
      counts =
          by_turn_counts p.kind cs i d c.loop-candidate.counts.items c.is_turn.new.counts.items
          c.loop-candidate-test.true c.in_ok-is_in.ensures.counts c.loop-candidate.invariant.counts;
    }
