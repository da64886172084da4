use Rattle.std.proofs.Common.{sym, ◌∙◌, Err, refl, arith}
use Rattle.std.proofs.lemmas.List.{take_rest}
use Rattle.run_filter.specs.Tree.{tree_of}
use Rattle.run_filter.specs.Grammar.{operand, and_chain, or_chain}
use Rattle.run_filter.specs.Reads.{left_at}
use Rattle.run_filter.proofs.GrammarLemmas.{fails_along, same_read, operand-none, operand-wrong, operand-not}
use Rattle.run_filter.proofs.GrammarLemmas.{operand-negated, operand-unsigned, unsigned-opens, unsigned-predicate}
use Rattle.run_filter.proofs.GrammarLemmas.{and_chain-none, and_chain-wrong, and_chain-end, and_chain-more}
use Rattle.run_filter.proofs.GrammarLemmas.{and_chain-fails, term-starts, term-fails}
use Rattle.run_filter.proofs.GrammarLemmas.{or_chain-none, or_chain-wrong, or_chain-end, or_chain-more}
use Rattle.run_filter.proofs.GrammarLemmas.{or_chain-fails, filter-starts, filter-fails}
use Rattle.run_filter.proofs.GrammarLemmas.{step_fails, chain_goes_on, chain_ends, chain_fails}
use Rattle.run_filter.proofs.operators.+grammar.Goals as goal

-- ---- operands

pub operand-returns-then-room-eq0 : goal.operand-returns-then-room-eq0
operand-returns-then-room-eq0 t c = (operand-none c.args.room _ c.if-room-eq0.true, c.requires)

pub operand-returns-in-Err : goal.operand-returns-in-Err
operand-returns-in-Err t c =
    let text = c.args.text.now in
    let h = rw (take_rest text c.skip-at.result) at c.in-Err.ensures in (
      operand-wrong c.args.room text c.args.next c.skip-at.result c.in-Err.fault (omega arith) c.skip-at.ensures.rest
          (sym h),
      c.skip-at.ensures.end,
    )

pub operand-returns-in_ok-negated-in-Ok : goal.operand-returns-in_ok-negated-in-Ok
operand-returns-in_ok-negated-in-Ok t c =
    let text = c.args.text.now in
    let h = rw (take_rest text c.skip-at.result) at (rw c.in-Ok-Some.field-0-is at c.in-Ok-Some.ensures) in (
      operand-negated c.args.room text c.args.next c.skip-at.result c.in-Ok-Some.count c.past-place.result _ _ _
          (omega arith)
          c.skip-at.ensures.rest (sym h) c.past-place.ensures.rest c.in-Ok.ensures.0 c.in_ok-negated-in-Ok.ensures,
      c.in-Ok.ensures.1,
    )

pub operand-returns-in-Err-operand : goal.operand-returns-in-Err-operand
operand-returns-in-Err-operand t c =
    let text = c.args.text.now in
    let h = rw (take_rest text c.skip-at.result) at (rw c.in-Ok-Some.field-0-is at c.in-Ok-Some.ensures) in
    fails_along c.in-Err-operand.error text _ _ c.in-Err-operand.ensures
    (λ w q. operand-not c.args.room text c.args.next c.skip-at.result c.in-Ok-Some.count c.past-place.result (Err w)
    (omega arith) c.skip-at.ensures.rest (sym h) c.past-place.ensures.rest q)

pub operand-returns-in-Ok-None : goal.operand-returns-in-Ok-None
operand-returns-in-Ok-None t c =
    let text = c.args.text.now in
    let h = rw (take_rest text c.skip-at.result) at (rw c.in-Ok-None.field-0-is at c.in-Ok-None.ensures) in
    same_read c.unsigned.result text _ _
    (operand-unsigned c.args.room text c.args.next c.skip-at.result (omega arith) c.skip-at.ensures.rest (sym h))
    c.unsigned.ensures

pub unsigned-returns-in-Ok : goal.unsigned-returns-in-Ok
unsigned-returns-in-Ok t c =
    let text = c.args.text.now in
    let h = rw (take_rest text c.args.next) at c.if-opens.ensures in
    same_read c.closed.result text _ _
    (unsigned-opens (operand c.args.room) text c.args.next c.past-place.result _
    (sym h) c.past-place.ensures.rest c.in-Ok.ensures.0)
    c.closed.ensures

pub unsigned-returns-in-Err : goal.unsigned-returns-in-Err
unsigned-returns-in-Err t c =
    let text = c.args.text.now in
    let h = rw (take_rest text c.args.next) at c.if-opens.ensures in
    fails_along c.in-Err.error text _ _ c.in-Err.ensures
    (λ w q. unsigned-opens (operand c.args.room) text c.args.next c.past-place.result (Err w)
    (sym h) c.past-place.ensures.rest q)

pub unsigned-returns : goal.unsigned-returns
unsigned-returns t c =
    let text = c.args.text.now in
    let h = rw (take_rest text c.args.next) at c.if-opens.ensures in
    same_read c.predicate.result text _ _
    (unsigned-predicate (operand c.args.room) text c.args.next (sym h)) c.predicate.ensures

-- ---- the operands of `and`

pub and_step-returns-in-Err : goal.and_step-returns-in-Err
and_step-returns-in-Err t c =
    let text = c.args.text.now in
    let h = rw (take_rest text c.skip-at.result) at c.in-Err.ensures in (
      and_chain-wrong (operand c.args.room) (tree_of c.args.first) text c.args.next c.skip-at.result c.in-Err.fault
          c.skip-at.ensures.rest (sym h),
      c.skip-at.ensures.end,
    )

pub and_step-returns-in-Ok-None : goal.and_step-returns-in-Ok-None
and_step-returns-in-Ok-None t c =
    let text = c.args.text.now in
    let h = rw (take_rest text c.skip-at.result) at (rw c.in-Ok-None.field-0-is at c.in-Ok-None.ensures) in (
      and_chain-end (operand c.args.room) (tree_of c.args.first) text c.args.next c.skip-at.result
          c.skip-at.ensures.rest (sym h),
      c.skip-at.ensures.end,
    )

pub and_step-returns-in_ok-joined-in-Ok : goal.and_step-returns-in_ok-joined-in-Ok
and_step-returns-in_ok-joined-in-Ok t c =
    let text = c.args.text.now in
    let h = rw (take_rest text c.skip-at.result) at (rw c.in-Ok-Some.field-0-is at c.in-Ok-Some.ensures) in (
      and_chain-more (operand c.args.room) (tree_of c.args.first) text c.args.next c.skip-at.result c.in-Ok-Some.count
          c.in-Ok-Some.is_minus c.past-place.result _ _ _ c.skip-at.ensures.rest (sym h) c.past-place.ensures.rest
          c.in-Ok.ensures.0 c.in_ok-joined-in-Ok.ensures,
      c.in-Ok.ensures.1,
    )

pub and_step-returns-in-Err-operand : goal.and_step-returns-in-Err-operand
and_step-returns-in-Err-operand t c =
    let text = c.args.text.now in
    let h = rw (take_rest text c.skip-at.result) at (rw c.in-Ok-Some.field-0-is at c.in-Ok-Some.ensures) in
    step_fails c.in-Err-operand.error text _ (and_chain (operand c.args.room)) (tree_of c.args.first)
    (left_at text c.args.next) c.in-Err-operand.ensures
    (λ w q. and_chain-fails (operand c.args.room)
    (tree_of c.args.first) text c.args.next c.skip-at.result c.in-Ok-Some.count
    c.in-Ok-Some.is_minus c.past-place.result w c.skip-at.ensures.rest (sym h) c.past-place.ensures.rest q)

pub and_chain-loop-fuel-init : goal.and_chain-loop-fuel-init
and_chain-loop-fuel-init t c = record { read = refl; end = c.requires }

pub and_chain-returns-in-Err : goal.and_chain-returns-in-Err
and_chain-returns-in-Err t c =
    chain_fails c.in-Err.error c.args.text.now (and_chain (operand c.args.room)) _ c.loop-fuel.fuel
    (tree_of c.loop-fuel.first)
    (left_at c.args.text.now c.loop-fuel.after) c.loop-fuel-test.true c.loop-fuel.invariant.read c.in-Err.ensures

pub and_chain-returns-in-Ok-Ends : goal.and_chain-returns-in-Ok-Ends
and_chain-returns-in-Ok-Ends t c =
    let h = rw c.in-Ok-Ends.field-0-is at c.in-Ok-Ends.ensures in (
      chain_ends (and_chain (operand c.args.room)) _ c.loop-fuel.fuel (tree_of c.loop-fuel.first)
          (left_at c.args.text.now c.loop-fuel.after) _ c.loop-fuel-test.true c.loop-fuel.invariant.read h.0,
      h.1,
    )

pub and_chain-loop-fuel-preserved : goal.and_chain-loop-fuel-preserved
and_chain-loop-fuel-preserved t c =
    let h = rw c.in-Ok-GoesOn.field-0-is at c.in-Ok-GoesOn.ensures in
    record {
      read = chain_goes_on (and_chain (operand c.args.room)) _ c.loop-fuel.fuel (tree_of c.loop-fuel.first) _
          (left_at c.args.text.now c.loop-fuel.after) _ c.loop-fuel-test.true c.loop-fuel.invariant.read h.0;
      end = h.1;
    }

pub and_chain-returns : goal.and_chain-returns
and_chain-returns t c = (
  c.loop-fuel.invariant.read
      ∙ and_chain-none (operand c.args.room) c.loop-fuel.fuel (tree_of c.loop-fuel.first)
      (left_at c.args.text.now c.loop-fuel.after) (omega arith),
  c.loop-fuel.invariant.end,
)

pub term-returns-in-Ok : goal.term-returns-in-Ok
term-returns-in-Ok t c =
    same_read c.and_chain.result c.args.text.now _ _
    (term-starts (operand c.args.room)
    (left_at c.args.text.now c.args.next) _ c.args.text.now c.in-Ok.end c.in-Ok.ensures.0)
    c.and_chain.ensures

pub term-returns-in-Err : goal.term-returns-in-Err
term-returns-in-Err t c =
    fails_along c.in-Err.error c.args.text.now _ _ c.in-Err.ensures
    (λ w q. term-fails (operand c.args.room) (left_at c.args.text.now c.args.next) w q)

-- ---- the operands of `or`

pub or_step-returns-in-Err : goal.or_step-returns-in-Err
or_step-returns-in-Err t c =
    let text = c.args.text.now in
    let h = rw (take_rest text c.skip-at.result) at c.in-Err.ensures in (
      or_chain-wrong (operand c.args.room) (tree_of c.args.first) text c.args.next c.skip-at.result c.in-Err.fault
          c.skip-at.ensures.rest (sym h),
      c.skip-at.ensures.end,
    )

pub or_step-returns-in-Ok-None : goal.or_step-returns-in-Ok-None
or_step-returns-in-Ok-None t c =
    let text = c.args.text.now in
    let h = rw (take_rest text c.skip-at.result) at (rw c.in-Ok-None.field-0-is at c.in-Ok-None.ensures) in (
      or_chain-end (operand c.args.room) (tree_of c.args.first) text c.args.next c.skip-at.result
          c.skip-at.ensures.rest (sym h),
      c.skip-at.ensures.end,
    )

pub or_step-returns-in_ok-either-in-Ok : goal.or_step-returns-in_ok-either-in-Ok
or_step-returns-in_ok-either-in-Ok t c =
    let text = c.args.text.now in
    let h = rw (take_rest text c.skip-at.result) at (rw c.in-Ok-Some.field-0-is at c.in-Ok-Some.ensures) in (
      or_chain-more (operand c.args.room) (tree_of c.args.first) text c.args.next c.skip-at.result c.in-Ok-Some.count
          c.past-place.result _ _ _ c.skip-at.ensures.rest (sym h) c.past-place.ensures.rest
          c.in-Ok.ensures.0 c.in_ok-either-in-Ok.ensures,
      c.in-Ok.ensures.1,
    )

pub or_step-returns-in-Err-term : goal.or_step-returns-in-Err-term
or_step-returns-in-Err-term t c =
    let text = c.args.text.now in
    let h = rw (take_rest text c.skip-at.result) at (rw c.in-Ok-Some.field-0-is at c.in-Ok-Some.ensures) in
    step_fails c.in-Err-term.error text _ (or_chain (operand c.args.room)) (tree_of c.args.first)
    (left_at text c.args.next) c.in-Err-term.ensures
    (λ w q. or_chain-fails (operand c.args.room)
    (tree_of c.args.first) text c.args.next c.skip-at.result c.in-Ok-Some.count
    c.past-place.result w c.skip-at.ensures.rest (sym h) c.past-place.ensures.rest q)

pub or_chain-loop-fuel-init : goal.or_chain-loop-fuel-init
or_chain-loop-fuel-init t c = record { read = refl; end = c.requires }

pub or_chain-returns-in-Err : goal.or_chain-returns-in-Err
or_chain-returns-in-Err t c =
    chain_fails c.in-Err.error c.args.text.now (or_chain (operand c.args.room)) _ c.loop-fuel.fuel
    (tree_of c.loop-fuel.first)
    (left_at c.args.text.now c.loop-fuel.after) c.loop-fuel-test.true c.loop-fuel.invariant.read c.in-Err.ensures

pub or_chain-returns-in-Ok-Ends : goal.or_chain-returns-in-Ok-Ends
or_chain-returns-in-Ok-Ends t c =
    let h = rw c.in-Ok-Ends.field-0-is at c.in-Ok-Ends.ensures in (
      chain_ends (or_chain (operand c.args.room)) _ c.loop-fuel.fuel (tree_of c.loop-fuel.first)
          (left_at c.args.text.now c.loop-fuel.after) _ c.loop-fuel-test.true c.loop-fuel.invariant.read h.0,
      h.1,
    )

pub or_chain-loop-fuel-preserved : goal.or_chain-loop-fuel-preserved
or_chain-loop-fuel-preserved t c =
    let h = rw c.in-Ok-GoesOn.field-0-is at c.in-Ok-GoesOn.ensures in
    record {
      read = chain_goes_on (or_chain (operand c.args.room)) _ c.loop-fuel.fuel (tree_of c.loop-fuel.first) _
          (left_at c.args.text.now c.loop-fuel.after) _ c.loop-fuel-test.true c.loop-fuel.invariant.read h.0;
      end = h.1;
    }

pub or_chain-returns : goal.or_chain-returns
or_chain-returns t c = (
  c.loop-fuel.invariant.read
      ∙ or_chain-none (operand c.args.room) c.loop-fuel.fuel (tree_of c.loop-fuel.first)
      (left_at c.args.text.now c.loop-fuel.after) (omega arith),
  c.loop-fuel.invariant.end,
)

pub filter-returns-in-Ok : goal.filter-returns-in-Ok
filter-returns-in-Ok t c =
    same_read c.or_chain.result c.args.text.now _ _
    (filter-starts (operand c.args.room)
    (left_at c.args.text.now c.args.next) _ c.args.text.now c.in-Ok.end c.in-Ok.ensures.0)
    c.or_chain.ensures

pub filter-returns-in-Err : goal.filter-returns-in-Err
filter-returns-in-Err t c =
    fails_along c.in-Err.error c.args.text.now _ _ c.in-Err.ensures
    (λ w q. filter-fails (operand c.args.room) (left_at c.args.text.now c.args.next) w q)
