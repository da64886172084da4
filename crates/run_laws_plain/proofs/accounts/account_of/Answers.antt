use Rattle.std.proofs.Common.{◌∙◌, ap, sym, take, option_to_list, option_map, ◌++◌, ◌∷◌, []}
use Rattle.std.proofs.lemmas.List.{take_more}
use Rattle.run_model.specs.Accounts.{account_of}
use Rattle.run_laws_plain.specs.News.{defined}
use Rattle.run_laws_plain.proofs.Told.{account_more}
use Rattle.run_laws_plain.proofs.accounts.account_of.Goals as goal

pub loop-event-preserved : goal.loop-event-preserved
loop-event-preserved c =
    let k = c.args.k in
    let events = take c.loop-event.event-index c.args.events.now in
    let next = take_more c.args.events.now c.loop-event.event-index c.event-item.result c.loop-event-test.true in
    c.in_ok-account.ensures
    ∙ ap (λ l. l ++ option_to_list (option_map defined c.in_ok-news.news)) c.loop-event.invariant
    ∙ ap (λ o. account_of k events ++ option_to_list o) c.in_ok-news.ensures
    ∙ sym (account_more k events c.event-item.result)
    ∙ ap (λ e. account_of k (events ++ e ∷ [])) c.event-item.is
    ∙ sym (ap (account_of k) next)
