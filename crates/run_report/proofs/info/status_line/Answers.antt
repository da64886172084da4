use Rattle.std.proofs.Common.{◌≡◌, ℕ, List, [], ◌∷◌, IfOk, codes, string_bytes, subst, ◌∙◌}
use Rattle.run_report.specs.declared.style.Style.TheVariants.{Plain}
use Rattle.run_report.specs.Info.{attempt_said}
use Rattle.run_report.specs.Style.{line_shown}
use Rattle.run_report.proofs.info.status_line.Goals as goal

pub returns : goal.returns
returns c =
    subst (λ (said : List ℕ). IfOk c.plain_line.result (λ s. string_bytes s ≡ line_shown c.args.color
    ((Plain, codes "    status: ") ∷ (Plain, attempt_said c.args.response.now.subject) ∷ (Plain, said) ∷ [])))
    (c.as_str-2.ensures.value ∙ c.in_ok-said.ensures)
    (subst (λ (attempt : List ℕ). IfOk c.plain_line.result (λ s. string_bytes s ≡ line_shown c.args.color
    ((Plain, codes "    status: ") ∷ (Plain, attempt) ∷ (Plain, c.as_str-2.result.now) ∷ [])))
    (c.as_str.ensures.value ∙ c.in_ok-attempt.ensures) c.plain_line.ensures)
