use Rattle.std.proofs.Common.{◌≡◌, ◌+◌, ◌≤◌, [], drop, length}
use Rattle.run_laws_audit.specs.Split.{news_by_part}
use Rattle.run_audit.specs.Told.{no_news}
use Rattle.run_audit.proofs.due.count_parts.Given as goal

abbrev pub invariant-loop-event : goal.invariant-loop-event
invariant-loop-event l = (l.parts + length (news_by_part l.stress no_news [] (drop l.event-index l.told))
    ≡ length (news_by_part l.stress no_news [] l.told)) × (l.parts ≤ l.event-index)
