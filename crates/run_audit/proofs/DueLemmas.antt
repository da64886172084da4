-- What is due of the cancels of each part, event by event.
use Rattle.std.proofs.Common.{◌≡◌, ◌∙◌, List, [], ◌∷◌, ◌++◌, map, Bool, true, false, if◌then◌else◌, None}
use Rattle.std.proofs.Common.{option_to_list, sym, ap, append_assoc}
use Rattle.std.proofs.lemmas.List.{append-nil}
use Rattle.run_events.specs.declared.events.ReporterEvent.{ReporterEvent}
use Rattle.run_audit_model.specs.Parts.{closes_part}
use Rattle.run_audit_model.specs.Seen.{as_audited}
use Rattle.run_audit_machines.specs.Cancels.{CancelPart, Cancelled}
use Rattle.run_laws_audit.specs.Due.{cancel_news}
use Rattle.run_laws_audit.specs.Split.{news_by_part}
use Rattle.run_audit.specs.Told.{cancels_all, before_cancels}

-- an event closes a part, or tells what it tells
pub part_closed : (stress : Bool) (parts : List CancelPart) (due : List Cancelled) (e : ReporterEvent)
    (rest : List ReporterEvent) → closes_part stress (as_audited e) ≡ true
    → cancels_all stress (parts ++ before_cancels due ∷ []) [] rest ≡ cancels_all stress parts due (e ∷ rest)
part_closed stress parts due e rest is =
    append_assoc parts (before_cancels due ∷ []) (map before_cancels (news_by_part stress cancel_news [] rest))
    ∙ sym (ap (λ b. parts ++ map before_cancels (if b then due ∷ news_by_part stress cancel_news [] rest
    else news_by_part stress cancel_news (due ++ option_to_list (cancel_news e)) rest)) is)

pub part_told : (stress : Bool) (parts : List CancelPart) (due : List Cancelled) (e : ReporterEvent)
    (rest : List ReporterEvent) → closes_part stress (as_audited e) ≡ false
    → cancels_all stress parts (due ++ option_to_list (cancel_news e)) rest ≡ cancels_all stress parts due (e ∷ rest)
part_told stress parts due e rest is =
    sym (ap (λ b. parts ++ map before_cancels (if b then due ∷ news_by_part stress cancel_news [] rest
    else news_by_part stress cancel_news (due ++ option_to_list (cancel_news e)) rest)) is)

pub part_silent : (stress : Bool) (parts : List CancelPart) (due : List Cancelled) (e : ReporterEvent)
    (rest : List ReporterEvent) → closes_part stress (as_audited e) ≡ false → cancel_news e ≡ None
    → cancels_all stress parts due rest ≡ cancels_all stress parts due (e ∷ rest)
part_silent stress parts due e rest is none =
    ap (λ due. cancels_all stress parts due rest) (sym (ap (λ o. due ++ option_to_list o) none ∙ append-nil due))
    ∙ part_told stress parts due e rest is
