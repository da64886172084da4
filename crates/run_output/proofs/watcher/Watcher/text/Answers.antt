use Rattle.std.proofs.Common.{rules, ◌≡◌, ◌∙◌, ap, sym, true, false, []}
use Rattle.run_progress.specs.Progress.{Progress}
use Rattle.run_output.proofs.ShownLemmas.{text_hidden, text_shown}
use Rattle.run_output.proofs.watcher.Watcher.text.Goals as goal

pub returns-then-hidden-clause-ok : goal.returns-then-hidden-clause-ok
returns-then-hidden-clause-ok c = λ w is.
    let hidden : c.hidden.result ≡ true = search rules in
    let empty : c.from_string.result ≡ [] = search rules in
    let text = text_hidden c.args.self.now w is (sym (c.hidden.ensures.told w.told is.stands) ∙ hidden) in
    (empty ∙ text.0, text.1)

pub returns-clause-ok : goal.returns-clause-ok
returns-clause-ok c = λ w is.
    let shown : c.hidden.result ≡ false = search rules in
    let r = c.args.self.now in
    text_shown r _ w c.now-now.result c.in_ok-line.line is (sym (c.hidden.ensures.told w.told is.stands) ∙ shown)
    c.now-now.ensures c.in_ok-line.ensures.text
    (ap (λ (state : Progress). record r { state = state }) c.in_ok-line.ensures.ok)
