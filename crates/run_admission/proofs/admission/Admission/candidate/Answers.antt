use Rattle.std.proofs.Common.{length, ap, sym, ◌∙◌, arith, Some, refl}
use Rattle.std.proofs.lemmas.List.{get_or_read}
use Rattle.std.proofs.lemmas.Option.{slice_get_read}
use Rattle.run_admission.specs.InUse.{candidate}
use Rattle.run_admission.proofs.FirstLemmas.{first_none, first_inside, first_next}
use Rattle.run_admission.proofs.RuleLemmas.{candidate_is}
use Rattle.run_admission.proofs.admission.Admission.candidate.Goals as goal

pub returns-then-first : goal.returns-then-first
returns-then-first c =
    let v = c.self.inside in
    sym (first_none v.waiting v.whole v.groups.items v.lines v.order.items v.claims.items v.seats.items
    c.first-first.result c.self.invariant c.first-first.ensures c.if-first.true)
    ∙ ap candidate c.self.view_is

pub index-test-requires : goal.index-test-requires
index-test-requires c =
    let v = c.self.inside in
    omega (
      arith,
      first_inside v.waiting v.whole v.groups.items v.lines v.order.items v.claims.items v.seats.items
          c.first-first.result c.self.invariant c.first-first.ensures c.if-first.false,
    )

pub index-claim-requires : goal.index-claim-requires
index-claim-requires c =
    let v = c.self.inside in
    let inside = first_inside v.waiting v.whole v.groups.items v.lines v.order.items v.claims.items v.seats.items
    c.first-first.result c.self.invariant c.first-first.ensures c.if-first.false in
    omega (
      arith,
      get_or_read v.order.items c.first-first.result c.index-test.result.now inside c.index-test.ensures 0,
      c.self.invariant.ordered.known c.first-first.result inside,
    )

pub returns : goal.returns
returns c =
    let v = c.self.inside in
    let w = c.self.invariant in
    let r = c.first-first.result in
    let test = c.index-test.result.now in
    let inside = first_inside v.waiting v.whole v.groups.items v.lines v.order.items v.claims.items v.seats.items r w
    c.first-first.ensures c.if-first.false in
    let is = get_or_read v.order.items r test inside c.index-test.ensures 0 in
    ap (λ x. Some x) c.candidate_at.ensures
    ∙ sym (candidate_is v.waiting v.whole v.groups.items v.claims.items v.seats.items test c.index-claim.result.now
    w.kept (first_next v.waiting v.whole v.groups.items v.lines v.order.items v.claims.items v.seats.items r w
    c.first-first.ensures c.if-first.false ∙ ap (λ k. Some k) (sym is))
    (slice_get_read v.claims.items (length v.claims.items) test c.index-claim.result.now refl
    (omega (arith, is, w.ordered.known r inside)) c.index-claim.ensures))
    ∙ ap candidate c.self.view_is
