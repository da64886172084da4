use Rattle.std.proofs.Common.{◌≡◌, drop}
use Rattle.run_output.specs.Fields.{put_all, rows}
use Rattle.run_output.specs.Object.{members_of}
use Rattle.run_output.proofs.object.Object.with.Given as goal

abbrev pub invariant-loop-key : goal.invariant-loop-key
invariant-loop-key g l =
    put_all (rows g.F.Printed.printed (drop l.key-index l.fields)) (members_of g.F.Printed.printed l.object)
    ≡ put_all (rows g.F.Printed.printed l.fields) (members_of g.F.Printed.printed l.initial.object)
