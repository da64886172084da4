use Rattle.std.proofs.Common.{◌∙◌, ◌∷◌, [], ap}
use Rattle.run_junit.specs.declared.tag.Tag.{Tag}
use Rattle.run_junit.specs.Reasons.{reason_said}
use Rattle.run_junit.specs.Tokens.{end, line, start, tokens_bytes}
use Rattle.run_junit.proofs.TokenLemmas.{line_start_end_from}
use Rattle.run_junit.proofs.elements.reason_line.Goals as goal

pub returns : goal.returns
returns c =
    line_start_end_from 3 c.tag-tag.result (reason_said c.args.message.now c.args.kind.now) _ _ _ _ _ _
    c.new-out.ensures.bytes c.in_ok-push_line.ensures c.in_ok-push_start.ensures c.in_ok-push_reason_said.ensures
    c.in_ok-push_str.ensures.bytes c.in_ok-push_end.ensures
    ∙ ap (λ (tag : Tag). tokens_bytes (line 3 ∷ start tag (reason_said c.args.message.now c.args.kind.now)
    ∷ end tag ∷ [])) c.tag-tag.ensures
