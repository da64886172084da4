use Rattle.std.proofs.Common.{List, length, length-append, ap, arith}
use Rattle.run_shared.specs.declared.shared.Receipt.{Receipt}
use Rattle.run_keep.proofs.EnterLemmas.{settles_these}
use Rattle.run_keep.proofs.access.settle.Goals as goal

pub returns-clause-settles : goal.returns-clause-settles
returns-clause-settles g c =
    settles_these c.args.receipts.now c.append.new.receipts c.in_ok-settled.settled c.in_ok-append.ensures
    c.in_ok-settled.ensures.settled

pub returns-clause-counted : goal.returns-clause-counted
returns-clause-counted g c = omega (
  arith,
  c.in_ok-settled.ensures.counted,
  ap (λ (rs : List Receipt). length rs) c.in_ok-append.ensures,
  length-append c.args.receipts.now c.in_ok-settled.settled,
)
