-- The text of a verdict, piece by piece.
use Rattle.std.proofs.Common.{◌≡◌, ◌∙◌, ℕ, ◌++◌, codes, sym}
use Rattle.std.specs.Prelude.{decimal}
use Rattle.std.specs.Fmt.{digits}
use Rattle.std.proofs.lemmas.List.{append_assoc}
use Rattle.json.specs.Print.{escape_byte}
use Rattle.run_audit_model.specs.declared.audit_event.Verdict.TheVariants.{No}
use Rattle.run_audit_cli.specs.Verdicts.{verdict_line_text}

pub broken_text : (law place : ℕ) → verdict_line_text (No law place)
    ≡ codes "{\"law\":" ++ decimal law ++ codes ",\"place\":" ++ decimal place ++ codes ",\"verdict\":\"no\"}"
unfolding digits escape_byte
broken_text law place =
    let head = codes "{\"law\":" in
    let middle = codes ",\"place\":" in
    let tail = codes ",\"verdict\":\"no\"}" in
    sym (append_assoc (head ++ decimal law ++ middle) (decimal place) tail
    ∙ append_assoc (head ++ decimal law) middle (decimal place ++ tail)
    ∙ append_assoc head (decimal law) (middle ++ (decimal place ++ tail)))
