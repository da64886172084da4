use Rattle.std.proofs.Common.{◌∙◌, [], ℕ, ap, map}
use Rattle.run_filter.specs.Partition.{parted}
use Rattle.run_filter.specs.declared.partition.PartitionKind.{PartitionKind}
use Rattle.run_plan.specs.Planned.{candidate_of}
use Rattle.run_plan.specs.Rows.{asked_row}
use Rattle.run_plan.proofs.PartLemmas.{parted_same}
use Rattle.run_plan.proofs.kept.kept_in.Goals as goal

pub returns : goal.returns
returns c =
    let part = c.part.inside.partition in
    let tests = map (candidate_of c.args.picks.now) (map asked_row c.args.rows.now) in
    c.in_ok-kept.ensures
    ∙ ap (parted part.kind part.part part.parts []) c.deref.ensures.value
    ∙ parted_same part.kind part.part part.parts c.in_ok-candidates.candidates.items tests c.in_ok-candidates.ensures
    ∙ ap (λ (p : PartitionKind × ℕ × ℕ). parted p.0 p.1 p.2 [] tests) c.part.view_is
