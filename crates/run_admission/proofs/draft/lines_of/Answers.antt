use Rattle.std.proofs.Common.{◌≡◌, ◌+◌, length, map, replicate, ap, sym, subst, ◌∙◌, arith}
use Rattle.std.proofs.lemmas.List.{length-map}
use Rattle.run_admission.specs.Kept.{Use}
use Rattle.run_admission.specs.Lined.{HasFirsts, IsDrafted, empty}
use Rattle.run_admission.proofs.DraftLemmas.{drafted_first, drafted_step, queued_first}
use Rattle.run_admission.proofs.draft.lines_of.Goals as goal

pub loop-test-init : goal.loop-test-init
loop-test-init c =
    let rooms = c.args.rooms.now in
    let claims = c.args.claims.now in
    let limits = map (λ (u : Use). u.limit) rooms in
    let all : c.in_ok-drafts.drafts.items ≡ replicate (length (map (λ (u : Use). u.limit) rooms) + 1) empty =
    c.in_ok-drafts.ensures ∙ ap (λ n. replicate (n + 1) empty) (sym (length-map rooms (λ (u : Use). u.limit))) in
    subst (λ d. IsDrafted limits claims 0 d c.new-places.result.items) (sym all)
    (subst (IsDrafted limits claims 0 (replicate (length limits + 1) empty)) (sym c.new-places.ensures.items)
    (drafted_first limits claims))

pub loop-test-preserved : goal.loop-test-preserved
loop-test-preserved c =
    let l = c.loop-test in
    drafted_step (map (λ (u : Use). u.limit) c.args.rooms.now) c.args.claims.now l.test c.line_of-line.result
    c.weight_of-weight.result c.in_ok-place.place l.drafts.items l.places.items _ _ _ c.index_mut.result.now
    c.join.new.self l.invariant (omega arith)
    (λ g e. omega (arith, c.requires.there l.test g e, length-map c.args.rooms.now (λ (u : Use). u.limit)))
    c.line_of-line.ensures c.weight_of-weight.ensures
    c.index_mut.ensures.value c.in_ok-place.ensures.after c.in_ok-place.ensures.place c.in_ok-push.ensures.items

pub returns : goal.returns
returns c =
    let l = c.loop-test in
    let rooms = c.args.rooms.now in
    let lines : c.deref.result.now ≡ l.drafts.items = c.deref.ensures.value ∙ c.in_ok-lines.ensures in
    let h : HasFirsts rooms l.drafts.items (length l.drafts.items) c.in_ok-firsts.firsts.items =
    subst (λ ls. HasFirsts rooms ls (length ls) c.in_ok-firsts.firsts.items) lines c.in_ok-firsts.ensures in
    rw (c.in_ok-queues.ensures, c.deref-2.ensures.value, c.in_ok-lines.ensures)
    (queued_first rooms c.args.claims.now l.test l.drafts.items l.places.items c.in_ok-firsts.firsts.items
    (omega arith) c.requires.within c.requires.there l.invariant h.all h.each)
