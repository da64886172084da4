use Rattle.run_report.proofs.runs.cancel_text.Goals as goal

pub returns : goal.returns
returns c = cc (c.in_ok-format.ensures.ok, c.why_text-why.ensures, c.in_ok-still.ensures)
