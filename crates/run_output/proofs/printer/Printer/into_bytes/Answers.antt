use Rattle.std.proofs.Common.{rules, ◌≡◌, ◌∙◌, ap, subst, sym, IsUtf8}
use Rattle.std.proofs.lemmas.Result.{IfOk-weaker}
use Rattle.json.specs.Print.{print}
use Rattle.run_output.proofs.FrontsLemmas.{line_whole}
use Rattle.run_output.proofs.printer.Printer.into_bytes.Goals as goal

pub invariant_of-into_bytes : goal.invariant_of-into_bytes
invariant_of-into_bytes c =
    let p = c.self.inside in
    let bytes : c.into_inner-last.result.items ≡ print p.out.tokens = search rules in
    (line_whole p.fronts.items p.out.tokens _ c.self.invariant.1 bytes c.into_inner-last.ensures.utf8).0

pub returns-clause-bytes : goal.returns-clause-bytes
returns-clause-bytes c =
    let p = c.self.inside in
    let bytes : c.into_inner-last.result.items ≡ print p.out.tokens = search rules in
    let whole = line_whole p.fronts.items p.out.tokens _ c.self.invariant.1 bytes c.into_inner-last.ensures.utf8 in
    IfOk-weaker c.into_bytes.result _ _ (λ v e. e ∙ whole.1 ∙ ap print c.self.view_is) c.into_bytes.ensures

pub returns-clause-utf8 : goal.returns-clause-utf8
returns-clause-utf8 c =
    let p = c.self.inside in
    let bytes : c.into_inner-last.result.items ≡ print p.out.tokens = search rules in
    let whole = line_whole p.fronts.items p.out.tokens _ c.self.invariant.1 bytes c.into_inner-last.ensures.utf8 in
    IfOk-weaker c.into_bytes.result _ _ (λ v e. subst IsUtf8 (sym e) whole.2) c.into_bytes.ensures
