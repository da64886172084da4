-- A longer journal tells what a shorter one does, and more.
use Rattle.std.proofs.Common.{List, [], ◌∷◌, ◌++◌, reverse, ap, sym, ◌∙◌, append_assoc}
use Rattle.std.proofs.lemmas.List.{append-nil, reverse-append}
use Rattle.run_events.specs.declared.settings.Settings.{Settings}
use Rattle.run_events.specs.declared.events.ReporterEvent.{ReporterEvent}
use Rattle.run_model.specs.declared.entry.Entry.{Entry}
use Rattle.run_model.specs.Words.{events_in, told}
use Rattle.run_model.specs.Turns.{happening}
use Rattle.run_model.specs.Journal.{history, past_of}
use Rattle.run_laws.specs.Laws.{Extends}

-- the newest entries add to what was told
adds : (p : Settings) (newer older : List Entry) → Extends (told (history p older)) (told (history p (newer ++ older)))
adds p [] older = ([], sym (append-nil (told (history p older))))
adds p (e ∷ newer) older =
    let so_far = adds p newer older in
    let now : List ReporterEvent = events_in (happening p (history p (newer ++ older)) e) in
    (so_far.0 ++ now, ap (λ es. es ++ now) so_far.1 ∙ append_assoc (told (history p older)) so_far.0 now)

pub extends : (p : Settings) (journal more : List Entry)
    → Extends (told (past_of p journal)) (told (past_of p (journal ++ more)))
extends p journal more =
    let longer = adds p (reverse more) (reverse journal) in
    (longer.0, ap (λ entries. told (history p entries)) (reverse-append journal more) ∙ longer.1)
