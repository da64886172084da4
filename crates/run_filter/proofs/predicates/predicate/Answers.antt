use Rattle.std.proofs.Common.{sym, ◌∙◌}
use Rattle.std.proofs.lemmas.List.{take_rest}
use Rattle.run_filter.proofs.GrammarLemmas.{same_read}
use Rattle.run_filter.proofs.PredicateLemmas.{predicate-no_name, predicate-not_open, predicate-named}
use Rattle.run_filter.proofs.predicates.predicate.Goals as goal

pub returns-then-count-eq0 : goal.returns-then-count-eq0
returns-then-count-eq0 c =
    let n = rw (take_rest c.args.text.now c.args.next) at c.name_len-count.ensures.name in
    (predicate-no_name c.args.text.now c.args.next (sym n ∙ c.if-count-eq0.true), c.requires)

pub returns-then-opens : goal.returns-then-opens
returns-then-opens c =
    let text = c.args.text.now in
    let rest = take_rest text c.args.next in
    let n = rw rest at c.name_len-count.ensures.name in
    let m = rw rest at c.meaning_of-meaning.ensures in
    let h = rw (take_rest text c.skip-open.result) at c.if-opens.ensures in
    same_read c.named.result text _ _
    (predicate-named text c.args.next c.name_len-count.result c.meaning_of-meaning.result c.past-after.result
    c.skip-open.result c.past-inside.result c.skip-at.result n c.if-count-eq0.false m c.past-after.ensures.rest
    c.skip-open.ensures.rest (sym h) c.past-inside.ensures.rest c.skip-at.ensures.rest) c.named.ensures

pub returns : goal.returns
returns c =
    let text = c.args.text.now in
    let n = rw (take_rest text c.args.next) at c.name_len-count.ensures.name in
    let h = rw (take_rest text c.skip-open.result) at c.if-opens.ensures in (
      predicate-not_open text c.args.next c.name_len-count.result c.past-after.result c.skip-open.result n
          c.if-count-eq0.false c.past-after.ensures.rest c.skip-open.ensures.rest (sym h),
      c.skip-open.ensures.end,
    )
