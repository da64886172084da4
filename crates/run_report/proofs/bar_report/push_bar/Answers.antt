use Rattle.std.proofs.Common.{◌∙◌, ap, ◌++◌, string_bytes, sym}
use Rattle.std.proofs.lemmas.Iterator.{YieldsList-from_chars}
use Rattle.std.proofs.lemmas.Iterator.Consumers.{YieldsList-end}
use Rattle.std.proofs.lemmas.List.{map-id}
use Rattle.std.specs.List.{flat_map}
use Rattle.run_report.specs.Bar.{bar_char, bar_shown}
use Rattle.run_report.proofs.bar_report.push_bar.Goals as goal

pub returns : goal.returns
unfolding bar_shown
returns c =
    let all = YieldsList-end (YieldsList-from_chars c.args.text.now c.utf8.text cc) c.loop-c.yielded _
    c.loop-c.yielded_by _ _ c.in-None.is c.next.ensures.steps in
    c.loop-c.invariant
    ∙ ap (λ cs. string_bytes c.args.out.now ++ flat_map bar_char cs) (sym (map-id c.loop-c.yielded) ∙ all.0)
