use Rattle.std.proofs.Common.{◌∙◌, map, sym, ap, subst}
use Rattle.std.specs.HashMap.{get}
use Rattle.std.specs.Map.{values_of}
use Rattle.run_progress.specs.Deeds.{is_same}
use Rattle.run_progress.specs.Edits.{paused_more}
use Rattle.run_progress.specs.Starts.{FindsEach}
use Rattle.run_progress.proofs.StartLemmas.{Numbered, paused_each_values}
use Rattle.run_progress.proofs.StartedLemmas.{paused_each_finds}
use Rattle.run_progress.proofs.tests_by_start.Started.delay.Goals as goal

pub invariant_of-self : goal.invariant_of-self
invariant_of-self c =
    let starts = get is_same c.self.inside.starts in
    subst (λ (es : Numbered). FindsEach starts c.self.inside.next es) (sym c.delay_each.ensures)
    (paused_each_finds starts c.self.inside.next c.self.inside.tests.entries c.self.invariant c.args.pause)

pub returns : goal.returns
returns c =
    ap values_of c.delay_each.ensures ∙ paused_each_values c.args.pause c.self.inside.tests.entries
    ∙ ap (map (paused_more c.args.pause)) c.self.view_is
