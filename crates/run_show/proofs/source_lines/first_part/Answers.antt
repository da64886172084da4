-- The part of a line.
use Rattle.std.proofs.Common.{eqb-true}
use Rattle.run_show.proofs.LineLemmas.{split_at_feed}
use Rattle.run_show.proofs.source_lines.first_part.Goals as goal

pub returns-in-Some-clause-part : goal.returns-in-Some-clause-part
returns-in-Some-clause-part c =
    split_at_feed c.in-Some.end c.args.ready.now c.in-Some.ensures.0.high (eqb-true _ _ c.in-Some.ensures.1)
