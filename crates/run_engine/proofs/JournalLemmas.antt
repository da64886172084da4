-- Histories of journals that grow at their ends.
use Rattle.std.proofs.Common.{◌≡◌, List, [], ◌∷◌, ◌++◌, length, reverse, true, ap, sym, subst}
use Rattle.std.proofs.lemmas.List.{reverse-append}
use Rattle.run_events.specs.declared.settings.Settings.{Settings}
use Rattle.run_model.specs.declared.entry.Entry.{Entry}
use Rattle.run_model.specs.Words.{events_in}
use Rattle.run_model.specs.Turns.{enabled, happening}
use Rattle.run_model.specs.Journal.{history, IsLegalBackward, past_of, IsLegal}

-- the newest entry stands first
pub reverse-push : {X : Type 0} (xs : List X) (x : X) → reverse (xs ++ x ∷ []) ≡ x ∷ reverse xs
reverse-push xs x = reverse-append xs (x ∷ [])

-- one more entry is one more happening
pub past_of-push : (p : Settings) (journal : List Entry) (e : Entry)
    → past_of p (journal ++ e ∷ []) ≡ happening p (past_of p journal) e ∷ past_of p journal
past_of-push p journal e = ap (history p) (reverse-push journal e)

-- a legal journal with one more legal entry is legal
pub legal-push : (p : Settings) (journal : List Entry) (e : Entry) → IsLegal p journal
    → enabled p (past_of p journal) e.turn ≡ true
    → length e.refused ≡ length (events_in (happening p (past_of p journal) e))
    → IsLegal p (journal ++ e ∷ [])
legal-push p journal e legal en answered =
    subst (IsLegalBackward p) (sym (reverse-push journal e)) (en, answered, legal)
