use Rattle.run_report.proofs.EscapeLemmas.{shown_text-plain, piece-colored, piece-plain}
use Rattle.run_report.proofs.laws.no_line_is_forged.Goals as goal

pub returns : goal.returns
returns c = record { texts = shown_text-plain; colored = piece-colored; plain = piece-plain }
