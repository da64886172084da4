-- A run that has no next turn stops short.
use Rattle.std.proofs.Common.{◌≡◌, ◌<◌, ◌^◌, arith, length, subst, Option, Some, None, IsNone, refl}
use Rattle.run_generate.specs.Generated.{StopsShort}
use Rattle.run_generate.specs.OnWay.{Advances}
use Rattle.run_generate.proofs.ShortLemmas.{end_short}
use Rattle.run_generate.proofs.generated.carry_out.Goals as goal

none_of : {X : Type 0} (o : Option X) → ((x : X) → o ≡ Some x → ⊥) → IsNone o
none_of None none = refl
none_of (Some x) none = absurd (none x refl)

pub returns-then-not-branch-clause-short : goal.returns-then-not-branch-clause-short
returns-then-not-branch-clause-short c = λ e.
    let none = subst (Advances c.loop.run c.advance.new.self) c.if-not-branch.true
    c.in_ok-advance.ensures.advances in
    subst StopsShort c.loop.invariant.settings
    (end_short c.loop.run c.loop.invariant.way
    (c.summary.ensures.none (none_of c.summary.result c.in_default.not-Some)) none.1)

pub returns-clause-short : goal.returns-clause-short
returns-clause-short c = λ e.
    let stands = c.loop.invariant.way.1.stands in
    let short : length c.loop.invariant.way.0 < 2 ^ 32 = stands.runnable.short in
    absurd (omega (arith, stands.many, short, c.loop.invariant.long))
