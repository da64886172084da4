use Rattle.std.proofs.Common.{◌≡◌, ◌++◌, codes, string_bytes, take}
use Rattle.std.specs.List.{flat_map}
use Rattle.run_progress.specs.Lines.{name_text}
use Rattle.run_report.proofs.ends.push_others.Given as goal

abbrev pub invariant-loop-id : goal.invariant-loop-id
invariant-loop-id l =
    string_bytes l.out
    ≡ string_bytes l.initial.out ++ flat_map (λ other. codes ", " ++ name_text other) (take l.id-index l.ids)
