use Rattle.std.proofs.Common.{◌≡◌, ℕ, List, [], ◌∷◌, IfOk, codes, string_bytes, subst, ◌∙◌}
use Rattle.run_report.specs.declared.style.Style.TheVariants.{Plain}
use Rattle.run_report.specs.Style.{line_shown}
use Rattle.run_report.proofs.info.missing_line.Goals as goal

pub returns : goal.returns
returns c =
    subst (λ (units : List ℕ). IfOk c.plain_line.result (λ s. string_bytes s ≡ line_shown c.args.color
    ((Plain, codes "  missing: ") ∷ (Plain, units) ∷ (Plain, codes " gave no answer") ∷ [])))
    (c.as_str.ensures.value ∙ c.in_ok-units.ensures) c.plain_line.ensures
