use Rattle.std.proofs.Common.{◌∙◌, ◌+◌, Bool, true, false, ap, map, sym}
use Rattle.std.proofs.lemmas.List.{append-nil}
use Rattle.run_plan.specs.Listed.{AskedTest}
use Rattle.run_plan.specs.Rows.{asked_row}
use Rattle.run_plan.specs.Scripted.{script_numbers}
use Rattle.run_plan.proofs.ScriptLemmas.{number_more, seen_at, seen_within}
use Rattle.run_plan.proofs.scripted.numbers_of.Goals as goal
use Rattle.run_plan.proofs.scripted.numbers_of.Goals.{then-wants+in_ok-push, else-wants}

pub loop-script-preserved : goal.loop-script-preserved
loop-script-preserved c =
    let l = c.loop-script in
    let p = c.args.profile.now in
    let picks = c.args.picks.now in
    let row : AskedTest × Bool = (asked_row c.args.row.now, c.args.is_in) in
    let scripts = map (λ s. s.now) c.args.scripts.now in
    let script = c.script-item.result in
    let whole = script_numbers p picks row 0 scripts in
    let within = seen_within c.args.scripts.now l.script-index c.loop-script-test.true in
    let is = seen_at c.args.scripts.now l.script-index script c.loop-script-test.true c.script-item.is in record {
      number = ap (λ n. n + 1) l.invariant.number;
      is = elim c.if-wants.branch [
        | then-wants+in_ok-push w ↦
            rw w.numbers-is
            (number_more p picks row scripts l.numbers w.push.new.self whole l.number l.script-index script.now true
            within is (sym c.wants.ensures ∙ w.if-wants.true) w.in_ok-push.ensures.ok l.invariant.is)
        | else-wants w ↦
            rw w.numbers-is
            (number_more p picks row scripts l.numbers l.numbers whole l.number l.script-index script.now false
            within is (sym c.wants.ensures ∙ w.if-wants.false) (sym (append-nil l.numbers)) l.invariant.is)
      ];
    }
