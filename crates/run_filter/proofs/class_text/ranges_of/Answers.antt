use Rattle.std.proofs.Common.{sym, length, arith}
use Rattle.run_filter.specs.GlobText.{first_range, items_of}
use Rattle.run_filter.proofs.GlobTextLemmas.{begins_empty, ends_none, ends_empty, ends_wrong, goes_on, no_length}
use Rattle.run_filter.proofs.GlobTextLemmas.{has_length}
use Rattle.run_filter.proofs.class_text.ranges_of.Goals as goal

pub loop-fuel-init : goal.loop-fuel-init
loop-fuel-init c =
    begins_empty c.new-ranges.result (items_of first_range (length c.args.text.now) c.args.text.now)
    c.new-ranges.ensures

pub returns-then-is_empty : goal.returns-then-is_empty
returns-then-is_empty c =
    ends_empty first_range c.loop-fuel.ranges c.loop-fuel.fuel c.loop-fuel.rest.now
    (items_of first_range (length c.args.text.now) c.args.text.now)
    (no_length c.loop-fuel.rest.now c.if-is_empty.ensures) c.loop-fuel.invariant

pub returns-in_default : goal.returns-in_default
returns-in_default c =
    ends_wrong first_range c.loop-fuel.ranges c.loop-fuel.fuel c.loop-fuel.rest.now
    (items_of first_range (length c.args.text.now) c.args.text.now)
    c.loop-fuel-test.true (has_length c.loop-fuel.rest.now c.if-is_empty.ensures)
    (sym c.in_default.ensures) c.loop-fuel.invariant

pub loop-fuel-preserved : goal.loop-fuel-preserved
loop-fuel-preserved c =
    goes_on first_range c.loop-fuel.ranges c.push.new.self c.loop-fuel.fuel c.loop-fuel.rest.now
    c.beyond-rest.result.now
    c.in-Some.range c.in-Some.count (items_of first_range (length c.args.text.now) c.args.text.now)
    c.loop-fuel-test.true
    (has_length c.loop-fuel.rest.now c.if-is_empty.ensures) (sym c.in-Some.ensures) c.in_ok-push.ensures.ok
    c.beyond-rest.ensures c.loop-fuel.invariant

pub returns : goal.returns
returns c =
    ends_none first_range c.loop-fuel.ranges c.loop-fuel.fuel c.loop-fuel.rest.now
    (items_of first_range (length c.args.text.now) c.args.text.now)
    (omega arith) c.loop-fuel.invariant
