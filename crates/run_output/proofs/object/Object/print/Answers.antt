use Rattle.std.proofs.Common.{rules, ◌≡◌, [], ◌∷◌, ◌++◌, ◌∙◌, subst}
use Rattle.std.proofs.lemmas.Result.{on_ok_weaker}
use Rattle.json.specs.Token as token
use Rattle.run_output.specs.Printer.{data_tokens, or_null}
use Rattle.run_output.specs.Rows.{members_from}
use Rattle.serde_json.specs.Data.{object}
use Rattle.run_output.proofs.PrintLemmas.{row_printed, object_printed}
use Rattle.run_output.proofs.object.Object.print.Goals as goal

pub loop-key-preserved : goal.loop-key-preserved
loop-key-preserved g c =
    let l = c.loop-key in
    let row = c.loop-key-item.result in
    let named : c.key.new.self ≡ l.out ++ token.key row.0.now ∷ [] = search rules in
    let valued : c.print.new.out ≡ c.key.new.self ++ data_tokens (or_null (g.F.Printed.printed row.1))
    = search rules in
    row_printed g.F.Printed.printed c.deref-key-items.result.now l.key-index row l.out c.key.new.self c.print.new.out
    c.loop-key-item.is (search rules) named valued ∙ l.invariant

pub returns : goal.returns
returns g c =
    let l = c.loop-key in
    let rows = c.deref-key-items.result.now in
    let begun : c.begin_object.new.self ≡ c.args.out.now ++ token.begin_object ∷ [] = search rules in
    on_ok_weaker c.end_object.result (λ e.
    subst
    (λ rows. c.end_object.new.self ≡ c.args.out.now ++ data_tokens (object (members_from g.F.Printed.printed rows)))
    c.deref-key-items.ensures.value
    (object_printed g.F.Printed.printed rows l.key-index c.args.out.now c.begin_object.new.self l.out
    c.end_object.new.self begun l.invariant (search rules) e)) c.end_object.ensures
