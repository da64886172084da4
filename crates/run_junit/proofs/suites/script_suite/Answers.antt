use Rattle.std.proofs.Common.{◌∙◌, ◌++◌, List, ap, codes, string_bytes, ℕ}
use Rattle.run_junit.specs.Suites.{suite_of}
use Rattle.run_junit.proofs.suites.script_suite.Goals as goal

pub returns : goal.returns
unfolding suite_of
returns c =
    c.from_string.ensures ∙ c.in_ok-push_str.ensures.bytes
    ∙ ap (λ (bytes : List ℕ). string_bytes c.in_ok-name.name ++ bytes) (c.as_str.ensures.value
    ∙ c.in_ok-script.ensures.ok ∙ ap (λ (id : List ℕ). codes "@setup-script:" ++ id) c.as_str-id.ensures)
    ∙ ap (λ (bytes : List ℕ). bytes ++ (codes "@setup-script:" ++ c.args.finish.now.script.id)) c.in_ok-name.ensures
