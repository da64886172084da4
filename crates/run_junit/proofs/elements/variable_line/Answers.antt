use Rattle.std.proofs.Common.{◌∷◌, ◌++◌, [], codes}
use Rattle.run_junit.specs.declared.tag.Key.TheVariants as keys
use Rattle.run_junit.specs.declared.tag.Tag.TheVariants as tags
use Rattle.run_junit.proofs.TokenLemmas.{line_start_end_from}
use Rattle.run_junit.proofs.elements.variable_line.Goals as goal

pub returns : goal.returns
returns c =
    let said = rw (c.as_str.ensures, c.as_str-2.ensures) at c.in_ok-push_variable_said.ensures in
    line_start_end_from 4 tags.Property ((keys.Name, codes "output:" ++ c.args.variable.now.0)
    ∷ (keys.Value, c.args.variable.now.1) ∷ []) _ _ _ _ _ _
    c.new-out.ensures.bytes c.in_ok-push_line.ensures c.in_ok-push_start.ensures said
    c.in_ok-push_str.ensures.bytes c.in_ok-push_end.ensures
