use Rattle.std.proofs.Common.{◌∙◌, ap, ◌++◌, string_bytes, sym}
use Rattle.std.proofs.lemmas.Iterator.{YieldsList-from_chars}
use Rattle.std.proofs.lemmas.Iterator.Consumers.{YieldsList-end}
use Rattle.std.proofs.lemmas.List.{map-id}
use Rattle.run_junit.specs.declared.escape.Place.TheVariants.{Attribute}
use Rattle.run_junit.specs.declared.escape.Sequence.TheVariants.{Outside}
use Rattle.run_junit.specs.Escape.{attribute_text, shown_chars}
use Rattle.run_junit.proofs.EscapeLemmas.{after_more, shown_more}
use Rattle.run_junit.proofs.escape.push_attribute_text.Goals as goal

pub loop-c-preserved : goal.loop-c-preserved
loop-c-preserved c = record {
  text = shown_more Attribute Outside c.loop-c.yielded c.in-Some.c c.loop-c.at _ _ _
      c.loop-c.invariant.text c.loop-c.invariant.at c.in_ok-push_char.ensures;
  at = after_more Outside c.loop-c.yielded c.in-Some.c c.loop-c.at _ c.loop-c.invariant.at c.after-at.ensures;
}

pub returns : goal.returns
unfolding attribute_text
returns c =
    let all = YieldsList-end (YieldsList-from_chars c.args.text.now c.utf8.text cc) c.loop-c.yielded _
    c.loop-c.yielded_by _ _ c.in-None.is c.next.ensures.steps in
    c.loop-c.invariant.text
    ∙ ap (λ cs. string_bytes c.args.out.now ++ shown_chars Attribute Outside cs)
    (sym (map-id c.loop-c.yielded) ∙ all.0)
