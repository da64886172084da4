use Rattle.std.proofs.Common.{sym, arith}
use Rattle.std.proofs.lemmas.List.{take_rest}
use Rattle.run_filter.proofs.GrammarLemmas.{text_begins, text_wrong, text_ends, text_goes_on, text_runs_out}
use Rattle.run_filter.proofs.predicates.text_of.Goals as goal

pub loop-fuel-init : goal.loop-fuel-init
loop-fuel-init c = record { read = text_begins c.new-bytes.result _ c.new-bytes.ensures; end = c.requires }

pub returns-in-Err : goal.returns-in-Err
returns-in-Err c =
    let text = c.args.text.now in
    let h = rw (take_rest text c.loop-fuel.place) at c.in-Err.ensures in (
      text_wrong c.loop-fuel.bytes c.loop-fuel.fuel c.args.sign _ _ c.in-Err.fault c.loop-fuel-test.true (sym h)
          c.loop-fuel.invariant.read,
      c.loop-fuel.invariant.end,
    )

pub returns-in-Ok-None : goal.returns-in-Ok-None
returns-in-Ok-None c =
    let text = c.args.text.now in
    let h = rw (take_rest text c.loop-fuel.place) at (rw c.in-Ok-None.field-0-is at c.in-Ok-None.ensures) in (
      text_ends c.loop-fuel.bytes c.loop-fuel.fuel c.args.sign _ _ c.loop-fuel-test.true (sym h)
          c.loop-fuel.invariant.read,
      c.loop-fuel.invariant.end,
    )

pub loop-fuel-preserved : goal.loop-fuel-preserved
loop-fuel-preserved c =
    let text = c.args.text.now in
    let h = rw (take_rest text c.loop-fuel.place) at (rw c.in-Ok-Some.field-0-is at c.in-Ok-Some.ensures) in
    record {
      read = text_goes_on c.loop-fuel.bytes c.push_bit.new.bytes c.loop-fuel.fuel c.args.sign _ _ c.in-Ok-Some.bit _
          c.loop-fuel-test.true
          (sym h) c.in_ok-push_bit-in-Ok-Some.ensures c.past-place.ensures.rest c.loop-fuel.invariant.read;
      end = c.past-place.ensures.end;
    }

pub returns : goal.returns
returns c = (
  rw c.unended_fault-fault.ensures
      (text_runs_out c.loop-fuel.bytes c.loop-fuel.fuel c.args.sign _ _ (omega arith) c.loop-fuel.invariant.read),
  c.loop-fuel.invariant.end,
)
