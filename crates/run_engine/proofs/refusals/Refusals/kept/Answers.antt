use Rattle.std.proofs.Common.{◌∙◌, ap}
use Rattle.std.specs.List.{list_any}
use Rattle.run_engine.proofs.RefusalLemmas.{kept_any}
use Rattle.run_engine.proofs.refusals.Refusals.kept.Goals as goal

pub returns : goal.returns
returns c =
    ap (list_any (λ refused. refused)) c.as_slice.ensures ∙ kept_any c.self.inside.accepted c.self.inside.kept
    ∙ ap (list_any (λ refused. refused)) c.self.view_is
