-- A machine of one part, over all parts: what it accepts, and that it can be continued to an end.
use Rattle.std.proofs.Common.{◌≡◌, ◌∙◌, List, [], ◌∷◌, ◌++◌, Option, Some, None, option_map, is_some}
use Rattle.std.proofs.Common.{Bool, true, false, if◌then◌else◌, refl, sym, ap, subst, true≢false}
use Rattle.std.proofs.Common.{append_assoc, append-nil}
use Rattle.std.proofs.lemmas.Bool.{and_parts, and_from}
use Rattle.std.proofs.lemmas.Option.{same_Some, cond_some}
use Rattle.run_audit_model.specs.Parts.{closes_part, opens_part, parts_from}
use Rattle.run_audit_model.specs.Places.{Machine, Accepts}
use Rattle.run_audit_model.specs.declared.audit_event.AuditEvent.{AuditEvent}
use Rattle.run_audit_machines.specs.Machines.{AreAccepted, InParts, Supply, over_parts, part_state, takes_between}
use Rattle.run_audit_machines.specs.Machines.{takes_within}
use Rattle.run_audit_machines.proofs.MachineLemmas.{end_from, end_of, step_from, step_of}

-- what is left of the open part, and the parts after it
abbrev pub rest_by : Bool → AuditEvent → List (List AuditEvent) → List AuditEvent × List (List AuditEvent)
    → List AuditEvent × List (List AuditEvent)
rest_by true e next rest = ([], next)
rest_by false e next rest = (e ∷ rest.0, rest.1)

abbrev pub rest_of : Bool → List AuditEvent → List AuditEvent × List (List AuditEvent)
rest_of stress [] = ([], [])
rest_of stress (e ∷ es) = rest_by (closes_part stress e) e (parts_from stress None es) (rest_of stress es)

-- one event more: it closes the part, or belongs to it
rest_more : (stress : Bool) (part : List AuditEvent) (e : AuditEvent) (es : List AuditEvent) (b : Bool)
    → parts_from stress (Some (part ++ e ∷ [])) es
    ≡ ((part ++ e ∷ []) ++ (rest_of stress es).0) ∷ (rest_of stress es).1
    → (if b then part ∷ parts_from stress None es else parts_from stress (Some (part ++ e ∷ [])) es)
    ≡ (part ++ (rest_by b e (parts_from stress None es) (rest_of stress es)).0)
    ∷ (rest_by b e (parts_from stress None es) (rest_of stress es)).1
rest_more stress part e es true more = ap (λ l. l ∷ parts_from stress None es) (sym (append-nil part))
rest_more stress part e es false more =
    more ∙ ap (λ l. l ∷ (rest_of stress es).1) (append_assoc part (e ∷ []) (rest_of stress es).0)

pub parts_rest : (stress : Bool) (part events : List AuditEvent)
    → parts_from stress (Some part) events ≡ (part ++ (rest_of stress events).0) ∷ (rest_of stress events).1
parts_rest stress part [] = ap (λ l. l ∷ []) (sym (append-nil part))
parts_rest stress part (e ∷ es) =
    rest_more stress part e es (closes_part stress e) (parts_rest stress (part ++ e ∷ []) es)

-- what it means that the events are taken from a state: within a part, its rest is; and the parts to come are
abbrev pub IsTakenAt : {S C : Type 0} → Machine S AuditEvent → Supply S C → Bool → C → Option S → List AuditEvent
    → Type 0
IsTakenAt m supply stress c None es = AreAccepted m supply c (parts_from stress None es)
IsTakenAt m supply stress c (Some s) es = Accepts m s (rest_of stress es).0
    × AreAccepted m supply c (rest_of stress es).1

-- a part opens
opened_to : {S C : Type 0} (m : Machine S AuditEvent) (supply : Supply S C) (stress : Bool) (c : C)
    (es : List AuditEvent) (u : InParts S C) (n : Option (S × C)) → supply.next c ≡ n
    → option_map (λ n. part_state stress n.1 (Some n.0)) n ≡ Some u
    → IsTakenAt m supply u.stress u.coming u.within es → AreAccepted m supply c (parts_from stress (Some []) es)
opened_to m supply stress c es u None next is h = absurd (true≢false (ap is_some (sym is)))
opened_to m supply stress c es u (Some n) next is h =
    let now = subst (λ v. IsTakenAt m supply v.stress v.coming v.within es) (sym (same_Some _ u is)) h in
    subst (AreAccepted m supply c) (sym (parts_rest stress [] es)) (n.0, n.1, next, now.0, now.1)

between_to : {S C : Type 0} (m : Machine S AuditEvent) (supply : Supply S C) (stress : Bool) (c : C)
    (es : List AuditEvent) (u : InParts S C) (b : Bool) → takes_between supply stress c b ≡ Some u
    → IsTakenAt m supply u.stress u.coming u.within es
    → AreAccepted m supply c (if b then parts_from stress (Some []) es else parts_from stress None es)
between_to m supply stress c es u true is h = opened_to m supply stress c es u (supply.next c) refl is h
between_to m supply stress c es u false is h =
    subst (λ v. IsTakenAt m supply v.stress v.coming v.within es) (sym (same_Some _ u is)) h

-- an event within a part
taken_to : {S C : Type 0} (m : Machine S AuditEvent) (supply : Supply S C) (stress : Bool) (c : C) (s : S)
    (e : AuditEvent) (es : List AuditEvent) (u : InParts S C) (o : Option S) → m.takes s e ≡ o
    → option_map (λ t. part_state stress c (Some t)) o ≡ Some u
    → IsTakenAt m supply u.stress u.coming u.within es
    → Accepts m s (e ∷ (rest_of stress es).0) × AreAccepted m supply c (rest_of stress es).1
taken_to m supply stress c s e es u None taken is h = absurd (true≢false (ap is_some (sym is)))
taken_to m supply stress c s e es u (Some t) taken is h =
    let now = subst (λ v. IsTakenAt m supply v.stress v.coming v.within es) (sym (same_Some _ u is)) h in
    (step_from m s t e (rest_of stress es).0 taken now.0, now.1)

within_to : {S C : Type 0} (m : Machine S AuditEvent) (supply : Supply S C) (stress : Bool) (c : C) (s : S)
    (e : AuditEvent) (es : List AuditEvent) (u : InParts S C) (b : Bool)
    → takes_within m stress c s e b ≡ Some u → IsTakenAt m supply u.stress u.coming u.within es
    → Accepts m s (rest_by b e (parts_from stress None es) (rest_of stress es)).0
    × AreAccepted m supply c (rest_by b e (parts_from stress None es) (rest_of stress es)).1
within_to m supply stress c s e es u true is h =
    let parts = cond_some (m.is_done s) _ u is in
    (end_from m s parts.0, subst (λ v. IsTakenAt m supply v.stress v.coming v.within es) (sym parts.1) h)
within_to m supply stress c s e es u false is h = taken_to m supply stress c s e es u (m.takes s e) refl is h

pub accepted_to : {S C : Type 0} (m : Machine S AuditEvent) (supply : Supply S C) (stress : Bool) (c : C)
    (o : Option S) (es : List AuditEvent)
    → Accepts (over_parts m supply) (part_state stress c o) es
    → IsTakenAt m supply stress c o es
accepted_to m supply stress c None [] a = end_of (over_parts m supply) _ a
accepted_to m supply stress c (Some s) [] a =
    let done = and_parts (m.is_done s) (supply.is_over c) (end_of (over_parts m supply) _ a) in
    (end_from m s done.0, done.1)
accepted_to m supply stress c None (e ∷ es) a =
    let x = step_of (over_parts m supply) (part_state stress c None) e es a in
    between_to m supply stress c es x.0 (opens_part e) x.1
    (accepted_to m supply x.0.stress x.0.coming x.0.within es x.2)
accepted_to m supply stress c (Some s) (e ∷ es) a =
    let x = step_of (over_parts m supply) (part_state stress c (Some s)) e es a in
    within_to m supply stress c s e es x.0 (closes_part stress e) x.1
    (accepted_to m supply x.0.stress x.0.coming x.0.within es x.2)

-- and back
abbrev Takes : {S C : Type 0} → Machine S AuditEvent → Supply S C → Bool → List AuditEvent → Type 0
Takes {S} {C} m supply stress es = (c : C) (o : Option S) → IsTakenAt m supply stress c o es
    → Accepts (over_parts m supply) (part_state stress c o) es

between_from : {S C : Type 0} (m : Machine S AuditEvent) (supply : Supply S C) (stress : Bool) (c : C)
    (e : AuditEvent) (es : List AuditEvent) → Takes m supply stress es → (b : Bool) → opens_part e ≡ b
    → AreAccepted m supply c (if b then parts_from stress (Some []) es else parts_from stress None es)
    → Accepts (over_parts m supply) (part_state stress c None) (e ∷ es)
between_from m supply stress c e es more true is h =
    let x = subst (AreAccepted m supply c) (parts_rest stress [] es) h in
    step_from (over_parts m supply) (part_state stress c None) (part_state stress x.1 (Some x.0)) e es
    (ap (takes_between supply stress c) is
    ∙ ap (option_map (λ n. part_state stress n.1 (Some n.0))) x.2)
    (more x.1 (Some x.0) (x.3, x.4))
between_from m supply stress c e es more false is h =
    step_from (over_parts m supply) (part_state stress c None) (part_state stress c None) e es
    (ap (takes_between supply stress c) is) (more c None h)

within_from : {S C : Type 0} (m : Machine S AuditEvent) (supply : Supply S C) (stress : Bool) (c : C) (s : S)
    (e : AuditEvent) (es : List AuditEvent) → Takes m supply stress es → (b : Bool) → closes_part stress e ≡ b
    → Accepts m s (rest_by b e (parts_from stress None es) (rest_of stress es)).0
    × AreAccepted m supply c (rest_by b e (parts_from stress None es) (rest_of stress es)).1
    → Accepts (over_parts m supply) (part_state stress c (Some s)) (e ∷ es)
within_from m supply stress c s e es more true is h =
    step_from (over_parts m supply) (part_state stress c (Some s)) (part_state stress c None) e es
    (ap (takes_within m stress c s e) is
    ∙ ap (λ b. if b then Some (part_state stress c None) else None) (end_of m s h.0))
    (more c None h.1)
within_from m supply stress c s e es more false is h =
    let x = step_of m s e (rest_of stress es).0 h.0 in
    step_from (over_parts m supply) (part_state stress c (Some s)) (part_state stress c (Some x.0)) e es
    (ap (takes_within m stress c s e) is
    ∙ ap (option_map (λ t. part_state stress c (Some t))) x.1)
    (more c (Some x.0) (x.2, h.1))

pub accepted_from : {S C : Type 0} (m : Machine S AuditEvent) (supply : Supply S C) (stress : Bool)
    (es : List AuditEvent) → Takes m supply stress es
accepted_from m supply stress [] c None h = end_from (over_parts m supply) _ h
accepted_from m supply stress [] c (Some s) h =
    end_from (over_parts m supply) _ (and_from (m.is_done s) (supply.is_over c) (end_of m s h.0) h.1)
accepted_from m supply stress (e ∷ es) c None h =
    between_from m supply stress c e es (accepted_from m supply stress es) (opens_part e) refl h
accepted_from m supply stress (e ∷ es) c (Some s) h =
    within_from m supply stress c s e es (accepted_from m supply stress es) (closes_part stress e) refl h
