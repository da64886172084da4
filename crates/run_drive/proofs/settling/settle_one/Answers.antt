use Rattle.std.proofs.Common.{List, [], ◌∷◌, length, length-append, sym, subst, ap, arith}
use Rattle.run_shared.specs.declared.shared.Receipt.{Receipt}
use Rattle.run_drive.specs.Added.{SettlesSome}
use Rattle.run_drive.proofs.AddedLemmas.{settles_one}
use Rattle.run_drive.proofs.settling.settle_one.Goals as goal

pub returns-in_ok-push-in-Ok-Some-clause-settles : goal.returns-in_ok-push-in-Ok-Some-clause-settles
returns-in_ok-push-in-Ok-Some-clause-settles g c =
    let old = c.args.receipts.now in
    let kind = rw c.in-Ok-Some.field-0-is at c.in-Ok-Some.ensures.kind in
    subst (SettlesSome old) (sym c.in_ok-push-in-Ok-Some.ensures.ok) (settles_one old c.in-Ok-Some.receipt kind)

pub returns-in_ok-push-in-Ok-Some-clause-counted : goal.returns-in_ok-push-in-Ok-Some-clause-counted
returns-in_ok-push-in-Ok-Some-clause-counted g c =
    let counted = rw c.in-Ok-Some.field-0-is at c.in-Ok-Some.ensures.counted in
    omega (
      arith,
      counted,
      ap (λ (rs : List Receipt). length rs) c.in_ok-push-in-Ok-Some.ensures.ok,
      length-append c.args.receipts.now (c.in-Ok-Some.receipt ∷ []),
    )
