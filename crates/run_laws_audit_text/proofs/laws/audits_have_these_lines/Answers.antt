use Rattle.std.proofs.Common.{◌∙◌, ◌++◌, ap}
use Rattle.run_input.specs.Lines.{lines_of}
use Rattle.run_output.specs.Fields.{line_bytes}
use Rattle.run_laws_audit_text.specs.Replayed.{mark_text}
use Rattle.run_laws_audit_text.proofs.LineLemmas.{line_first, lines_joined}
use Rattle.run_laws_audit_text.proofs.SeenLemmas.{mark_feedless}
use Rattle.run_laws_audit_text.proofs.laws.audits_have_these_lines.Goals as goal

pub returns : goal.returns
returns c = λ input text.
    lines_joined input (line_bytes mark_text ++ text)
    ∙ ap (λ lines. lines_of (line_bytes input) ++ lines) (line_first mark_text text mark_feedless)
