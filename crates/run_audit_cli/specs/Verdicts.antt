-- The line of a verdict, and its status.
use Rattle.std.specs.Prelude.{ℕ, List, [], ◌∷◌, Some, codes}
use Rattle.serde_json.specs.Data.{string}
use Rattle.run_output.specs.Fields.{count, object_text}
use Rattle.run_audit_model.specs.declared.audit_event.Verdict.{Verdict}
use Rattle.run_audit_model.specs.declared.audit_event.Verdict.TheVariants.{Yes, No}

-- the line of a verdict, without its line feed
abbrev pub verdict_line_text : Verdict → List ℕ
verdict_line_text Yes = object_text ((codes "verdict", Some (string (codes "yes"))) ∷ [])
verdict_line_text (No law place) =
    object_text ((codes "law", Some (count law)) ∷ (codes "place", Some (count place))
    ∷ (codes "verdict", Some (string (codes "no"))) ∷ [])

-- its status
abbrev pub audit_status : Verdict → ℕ
audit_status Yes = 0
audit_status (No law place) = 1
