-- What is due of the setup scripts of each part, event by event.
use Rattle.std.proofs.Common.{◌≡◌, ◌∙◌, List, [], ◌∷◌, ◌++◌, map, Bool, true, false, if◌then◌else◌, Some, None}
use Rattle.std.proofs.Common.{option_map, option_to_list, sym, ap, append_assoc}
use Rattle.std.proofs.lemmas.List.{append-nil, map-append}
use Rattle.run_events.specs.declared.events.ReporterEvent.{ReporterEvent}
use Rattle.run_audit_model.specs.Parts.{closes_part}
use Rattle.run_audit_model.specs.Seen.{as_audited}
use Rattle.run_audit_machines.specs.Scripts.{ScriptPart, before_scripts}
use Rattle.run_audit_passes.specs.declared.due_script.DueScript.{DueScript}
use Rattle.run_laws_audit.specs.Due.{script_news}
use Rattle.run_laws_audit.specs.Split.{news_by_part}
use Rattle.run_audit.specs.Told.{Known, script_known, script_part_known, scripts_all}

-- an event closes a part, or tells what it tells
pub script_closed : (stress : Bool) (parts : List (ScriptPart (DueScript Known))) (due : List (DueScript Known))
    (e : ReporterEvent) (rest : List ReporterEvent) → closes_part stress (as_audited e) ≡ true
    → scripts_all stress (parts ++ (due, (0, 0)) ∷ []) [] rest ≡ scripts_all stress parts due (e ∷ rest)
script_closed stress parts due e rest is =
    ap (λ l. l ++ map before_scripts (news_by_part stress script_news [] rest))
    (map-append script_part_known parts ((due, (0, 0)) ∷ []))
    ∙ append_assoc (map script_part_known parts) (before_scripts (map script_known due) ∷ [])
    (map before_scripts (news_by_part stress script_news [] rest))
    ∙ sym (ap (λ b. map script_part_known parts ++ map before_scripts (if b
    then map script_known due ∷ news_by_part stress script_news [] rest
    else news_by_part stress script_news (map script_known due ++ option_to_list (script_news e)) rest)) is)

pub script_told : (stress : Bool) (parts : List (ScriptPart (DueScript Known))) (due : List (DueScript Known))
    (next : DueScript Known) (e : ReporterEvent) (rest : List ReporterEvent) → closes_part stress (as_audited e) ≡ false
    → option_map script_known (Some next) ≡ script_news e
    → scripts_all stress parts (due ++ next ∷ []) rest ≡ scripts_all stress parts due (e ∷ rest)
script_told stress parts due next e rest is tells =
    ap (λ d. map script_part_known parts ++ map before_scripts (news_by_part stress script_news d rest))
    (map-append script_known due (next ∷ []) ∙ ap (λ o. map script_known due ++ option_to_list o) tells)
    ∙ sym (ap (λ b. map script_part_known parts ++ map before_scripts (if b
    then map script_known due ∷ news_by_part stress script_news [] rest
    else news_by_part stress script_news (map script_known due ++ option_to_list (script_news e)) rest)) is)

pub script_silent : (stress : Bool) (parts : List (ScriptPart (DueScript Known))) (due : List (DueScript Known))
    (e : ReporterEvent) (rest : List ReporterEvent) → closes_part stress (as_audited e) ≡ false
    → option_map script_known None ≡ script_news e
    → scripts_all stress parts due rest ≡ scripts_all stress parts due (e ∷ rest)
script_silent stress parts due e rest is tells =
    ap (λ d. map script_part_known parts ++ map before_scripts (news_by_part stress script_news d rest))
    (sym (append-nil (map script_known due)) ∙ ap (λ o. map script_known due ++ option_to_list o) tells)
    ∙ sym (ap (λ b. map script_part_known parts ++ map before_scripts (if b
    then map script_known due ∷ news_by_part stress script_news [] rest
    else news_by_part stress script_news (map script_known due ++ option_to_list (script_news e)) rest)) is)
