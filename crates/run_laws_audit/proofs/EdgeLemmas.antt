-- Events that tell the begin or the end of a run or a sub-run, and laws that look at none of them.
use Rattle.std.proofs.Common.{◌≡◌, List, [], ◌∷◌, ◌++◌, Option, None, filter_map, ap, ◌∙◌, refl}
use Rattle.std.specs.List.{All, cons_option}
use Rattle.std.proofs.lemmas.List.{append-nil}
use Rattle.std.proofs.lemmas.List.Elements.{All-head, All-tail, filter_map-append}
use Rattle.run_audit_model.specs.declared.audit_event.AuditEvent.{AuditEvent}
use Rattle.run_audit_model.specs.declared.audit_event.AuditEvent.TheVariants as seen

-- an edge: such an event
abbrev pub IsEdge : AuditEvent → Type 0
IsEdge seen.RunStarted = Unit {0}
IsEdge seen.RunFinished = Unit {0}
IsEdge seen.SubRunStarted = Unit {0}
IsEdge seen.SubRunFinished = Unit {0}
IsEdge _ = ⊥

-- a law of lists of events that looks at no edge
pub record Ignores (Keeps : List AuditEvent → Type 0) : Type 0 where
  pub between : (before part after : List AuditEvent) → All IsEdge before → All IsEdge after
      → Keeps (before ++ (part ++ after)) → Keeps part
  pub start : (part : List AuditEvent) → Keeps part → Keeps (seen.RunStarted ∷ part)

-- what a list keeps of edges is nothing, where it keeps none of each
pub edges_none : {Y : Type 0} (f : AuditEvent → Option Y) → ((e : AuditEvent) → IsEdge e → f e ≡ None)
    → (events : List AuditEvent) → All IsEdge events → filter_map f events ≡ []
edges_none f none [] all = refl
edges_none f none (e ∷ events) all =
    ap (λ o. cons_option o (filter_map f events)) (none e (All-head IsEdge e events all))
    ∙ edges_none f none events (All-tail IsEdge e events all)

pub between_edges : {Y : Type 0} (f : AuditEvent → Option Y) → ((e : AuditEvent) → IsEdge e → f e ≡ None)
    → (before part after : List AuditEvent) → All IsEdge before → All IsEdge after
    → filter_map f (before ++ (part ++ after)) ≡ filter_map f part
between_edges f none before part after opens closes =
    filter_map-append f before (part ++ after)
    ∙ ap (λ ys. ys ++ filter_map f (part ++ after)) (edges_none f none before opens)
    ∙ filter_map-append f part after ∙ ap (λ ys. filter_map f part ++ ys) (edges_none f none after closes)
    ∙ append-nil (filter_map f part)
