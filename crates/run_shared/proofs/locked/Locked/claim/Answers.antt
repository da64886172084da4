use Rattle.std.proofs.Common.{◌≡◌, List, subst}
use Rattle.run_model.specs.declared.entry.Entry.{Entry}
use Rattle.run_laws.specs.Course.{turns_of}
use Rattle.run_shared.proofs.LockedLemmas.{claim_same, claim_stays}
use Rattle.run_shared.proofs.locked.Locked.claim.Goals as goal

pub invariant_of-self : goal.invariant_of-self
invariant_of-self g c =
    let was = c.self.invariant in
    let stays = claim_stays g.R.Reporter.told (λ list xs. list ≡ xs) c.self.inside.report c.self.inside.asks
    c.self.inside.book.total c.self.inside.run c.claim.new.self c.claim.result was.0 was.2 c.claim.ensures.claimed
    c.claim.ensures.none in
    let same = claim_same c.self.inside.run c.claim.new.self c.claim.result c.claim.ensures.claimed
    c.claim.ensures.none in
    let turns = subst (λ (es : List Entry). g.R.Reporter.taken c.self.inside.report (turns_of es)) same was.3 in
    (stays.counted, was.1, stays.heard, turns)
