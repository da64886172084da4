use Rattle.std.proofs.Common.{Ok, map}
use Rattle.run_model.specs.Journal.{past_of}
use Rattle.run_model.specs.Words.{told}
use Rattle.run_audit_model.specs.Seen.{as_audited}
use Rattle.run_cli.specs.Plans.{settings_for}
use Rattle.run_cli.specs.Text.{history_text, whole_form}
use Rattle.run_laws_audit_text.proofs.TextLemmas.{input_read, text_said}
use Rattle.run_laws_audit_text.proofs.laws.replayed_text_is_read.Goals as goal

pub returns : goal.returns
returns c = λ input keys plan turns journal o says legal plain.
    input_read input keys plan turns (history_text whole_form (past_of (settings_for keys plan) journal) (Ok o))
    (map as_audited (told (past_of (settings_for keys plan) journal))) says
    (text_said (settings_for keys plan) journal o legal plain)
