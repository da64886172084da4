use Rattle.std.proofs.Common.{Ok, subst}
use Rattle.run_record.specs.Kept.{IsUnderway}
use Rattle.run_record.proofs.KeptLemmas.{given_up_here}
use Rattle.run_record.proofs.keeping.Keeping.finish.Goals as goal

pub returns-in-Err : goal.returns-in-Err
returns-in-Err g c = λ turns kept.
    let o = g.G.RecordOrigin in
    (subst (λ begun. IsUnderway g.F.Sink o.taken_before o.faults_before o.plan_line begun turns c.args.self.given_up)
    c.in-Err.is kept) c.args.over turns

pub returns-in-Some : goal.returns-in-Some
returns-in-Some g c = λ turns kept.
    let o = g.G.RecordOrigin in
    let w = c.in-Ok.writer in
    let given_up = subst (IsUnderway g.F.Sink o.taken_before o.faults_before o.plan_line (Ok w) turns) c.in-Some.is
    (subst (λ begun. IsUnderway g.F.Sink o.taken_before o.faults_before o.plan_line begun turns c.args.self.given_up)
    c.in-Ok.is kept) in
    rw c.into_sink.ensures
    (given_up_here g.F.Sink o.taken_before o.faults_before o.plan_line turns w c.in-Some.outcome c.args.over given_up)

pub end-requires : goal.end-requires
end-requires g c =
    let o = g.G.RecordOrigin in
    let w = c.in-Ok.writer in
    let kept = c.requires.underway in
    let opened = subst (IsUnderway g.F.Sink o.taken_before o.faults_before o.plan_line (Ok w) kept.0) c.in-None.is
    (subst (λ begun. IsUnderway g.F.Sink o.taken_before o.faults_before o.plan_line begun kept.0 c.args.self.given_up)
    c.in-Ok.is kept.1) in
    opened.0.unclosed

pub returns-in-None : goal.returns-in-None
returns-in-None g c = λ turns kept.
    let o = g.G.RecordOrigin in
    let w = c.in-Ok.writer in
    let opened = subst (IsUnderway g.F.Sink o.taken_before o.faults_before o.plan_line (Ok w) turns) c.in-None.is
    (subst (λ begun. IsUnderway g.F.Sink o.taken_before o.faults_before o.plan_line begun turns c.args.self.given_up)
    c.in-Ok.is kept) in
    c.end.ensures o.taken_before o.faults_before o.plan_line turns opened.0 opened.1
