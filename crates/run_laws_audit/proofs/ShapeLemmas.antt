-- The parts, and the shape, of the events of sub-runs that are joined.
use Rattle.std.proofs.Common.{◌≡◌, zero, suc, List, [], ◌∷◌, ◌++◌, map, length, Bool, true, false, Some, None}
use Rattle.std.proofs.Common.{refl, ap, sym, ◌∙◌, if◌then◌else◌, append_assoc}
use Rattle.std.specs.List.{All}
use Rattle.std.proofs.lemmas.List.{append-nil, map-id}
use Rattle.std.proofs.lemmas.List.Elements.{All-nil, All-head, All-tail, All-append}
use Rattle.run_events.specs.declared.settings.Settings.{Settings}
use Rattle.run_audit_model.specs.Parts.{AreSubRuns, HasShape, IsInner, IsInside, closes_part, is_stress, first_part}
use Rattle.run_audit_model.specs.Parts.{parts_from}
use Rattle.run_audit_model.specs.declared.audit_event.AuditEvent.{AuditEvent}
use Rattle.run_audit_model.specs.declared.audit_event.AuditEvent.TheVariants as seen

-- what opens the part of a sub-run, and what closes it: in a stress run alone
abbrev pub front : Bool → List AuditEvent
front true = seen.SubRunStarted ∷ []
front false = []

abbrev pub back : Bool → List AuditEvent
back true = seen.SubRunFinished ∷ []
back false = []

-- what stands in sub-runs, each with what opens and closes it
abbrev pub joined : Bool → List (List AuditEvent) → List AuditEvent
joined stress [] = []
joined stress (part ∷ later) = front stress ++ (part ++ (back stress ++ joined stress later))

pub joined-push : (stress : Bool) (earlier : List (List AuditEvent)) (part : List AuditEvent)
    → joined stress (earlier ++ part ∷ []) ≡ joined stress earlier ++ (front stress ++ (part ++ back stress))
joined-push stress [] part = ap (λ es. front stress ++ (part ++ es)) (append-nil (back stress))
joined-push stress (first ∷ earlier) part =
    ap (λ es. front stress ++ (first ++ (back stress ++ es))) (joined-push stress earlier part)
    ∙ ap (λ es. front stress ++ (first ++ es)) (sym (append_assoc (back stress) (joined stress earlier) last))
    ∙ ap (λ es. front stress ++ es) (sym (append_assoc first (back stress ++ joined stress earlier) last))
    ∙ sym (append_assoc (front stress) (first ++ (back stress ++ joined stress earlier)) last)
  where
    last : List AuditEvent
    last = front stress ++ (part ++ back stress)

-- an inner event closes nothing
pub inner_open : (stress : Bool) (e : AuditEvent) → IsInner e → closes_part stress e ≡ false
inner_open true seen.SubRunFinished inner = absurd inner
inner_open true e inner = refl
inner_open false seen.RunFinished inner = absurd inner
inner_open false e inner = refl

-- so a part goes on while inner events come
parts-inner : (stress : Bool) (part events later : List AuditEvent) → All IsInner events
    → parts_from stress (Some part) (events ++ later) ≡ parts_from stress (Some (part ++ events)) later
parts-inner stress part [] later all = ap (λ es. parts_from stress (Some es) later) (sym (append-nil part))
parts-inner stress part (e ∷ events) later all =
    ap (λ b. if b then part ∷ parts_from stress None (events ++ later)
    else parts_from stress (Some (part ++ e ∷ [])) (events ++ later))
    (inner_open stress e (All-head IsInner e events all))
    ∙ parts-inner stress (part ++ e ∷ []) events later (All-tail IsInner e events all)
    ∙ ap (λ es. parts_from stress (Some es) later) (append_assoc part (e ∷ []) events)

-- the parts of a stress run
parts-joined : (inside : List (List AuditEvent)) → All (All IsInner) inside
    → parts_from true None (joined true inside ++ seen.RunFinished ∷ []) ≡ inside
parts-joined [] all = refl
parts-joined (part ∷ later) all =
    ap (parts_from true (Some [])) (append_assoc part (seen.SubRunFinished ∷ joined true later)
    (seen.RunFinished ∷ []))
    ∙ parts-inner true [] part _ (All-head (All IsInner) part later all)
    ∙ ap (λ ps. part ∷ ps) (parts-joined later (All-tail (All IsInner) part later all))

-- and the one part of any other run
parts-one : (part : List AuditEvent) → All IsInner part
    → parts_from false (Some []) (seen.RunStarted ∷ part ++ seen.RunFinished ∷ []) ≡ (seen.RunStarted ∷ part) ∷ []
parts-one part all = parts-inner false (seen.RunStarted ∷ []) part (seen.RunFinished ∷ []) all

-- the shape of sub-runs that are joined
sub_runs : (inside : List (List AuditEvent)) → All (All IsInner) inside
    → AreSubRuns (length inside) (joined true inside)
sub_runs [] all = All-nil (λ e. e ≡ seen.Other)
sub_runs (part ∷ later) all = (
  [],
  part,
  joined true later,
  refl,
  All-nil (λ e. e ≡ seen.Other),
  All-head (All IsInner) part later all,
  sub_runs later (All-tail (All IsInner) part later all),
)

inside_one : (inside : List (List AuditEvent)) → All (All IsInner) inside → All IsInner (joined false inside)
inside_one [] all = All-nil IsInner
inside_one (part ∷ later) all =
    All-append IsInner part (joined false later) (All-head (All IsInner) part later all)
    (inside_one later (All-tail (All IsInner) part later all))

pub shape-joined : (p : Settings) (inside : List (List AuditEvent)) → All (All IsInner) inside
    → HasShape p (length inside) (seen.RunStarted ∷ joined (is_stress p) inside ++ seen.RunFinished ∷ [])
shape-joined p inside all = (joined (is_stress p) inside, refl, by_stress (is_stress p))
  where
    by_stress : (stress : Bool) → IsInside stress (length inside) (joined stress inside)
    by_stress true = sub_runs inside all
    by_stress false = inside_one inside all

-- the parts, where a run that is no stress run has one sub-run
pub parts-whole : (stress : Bool) (inside : List (List AuditEvent)) → All (All IsInner) inside
    → (stress ≡ false → length inside ≡ 1)
    → parts_from stress (first_part stress) (seen.RunStarted ∷ joined stress inside ++ seen.RunFinished ∷ [])
    ≡ map (λ part. (if stress then [] else seen.RunStarted ∷ []) ++ part) inside
parts-whole true inside all one = parts-joined inside all ∙ sym (map-id inside)
parts-whole false [] all one = let never : 0 ≡ suc zero = one refl in cc
parts-whole false (part ∷ []) all one =
    ap (λ es. parts_from false (Some (seen.RunStarted ∷ [])) (es ++ seen.RunFinished ∷ [])) (append-nil part)
    ∙ parts-one part (All-head (All IsInner) part [] all)
parts-whole false (part ∷ other ∷ later) all one =
    let never : suc (suc (length later)) ≡ suc zero = one refl in cc
