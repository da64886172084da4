-- The machine of the shape accepts just the lists that have it, and leads to an end.
use Rattle.std.proofs.Common.{◌≡◌, ◌∙◌, ℕ, zero, suc, List, [], ◌∷◌, ◌++◌, Option, Some, None, option_map}
use Rattle.std.proofs.Common.{Bool, true, false, if◌then◌else◌, is_some, refl, sym, ap, subst, true≢false, append_assoc}
use Rattle.std.specs.List.{All}
use Rattle.std.proofs.lemmas.List.Elements.{All-cons, All-head, All-nil, All-tail}
use Rattle.std.proofs.lemmas.Option.{same_Some}
use Rattle.run_audit_model.specs.Parts.{AreSubRuns, IsInner, IsInside}
use Rattle.run_audit_model.specs.Places.{Accepts, Completes}
use Rattle.run_audit_model.specs.declared.audit_event.AuditEvent.{AuditEvent}
use Rattle.run_audit_model.specs.declared.audit_event.AuditEvent.TheVariants as seen
use Rattle.run_audit_machines.specs.Shape.{ShapeNow, at_place, between_takes, is_shape_over, plain_takes, shape_machine}
use Rattle.run_audit_machines.specs.Shape.{shape_start, shape_takes, within_takes}
use Rattle.run_audit_machines.specs.declared.shape.ShapePlace.{ShapePlace}
use Rattle.run_audit_machines.specs.declared.shape.ShapePlace.TheVariants.{Before, Plain, Between, Within, Over}
use Rattle.run_audit_machines.specs.Machines.{AcceptsJust}
use Rattle.run_audit_machines.proofs.MachineLemmas.{end_from, end_of, same_head, step_from, step_of}

abbrev IsEnding : List AuditEvent → List AuditEvent → Type 0
IsEnding events inside = events ≡ inside ++ seen.RunFinished ∷ []

abbrev IsBetween : ℕ → List AuditEvent → Type 0
IsBetween left events = (inside : List AuditEvent) × IsEnding events inside × AreSubRuns left inside

-- what the events are that are accepted from a place
abbrev IsFrom : Bool → ℕ → ShapePlace → List AuditEvent → Type 0
IsFrom stress runs Before events = (inside : List AuditEvent)
    × (events ≡ seen.RunStarted ∷ inside ++ seen.RunFinished ∷ [])
    × IsInside stress runs inside
IsFrom stress runs Plain events = (inside : List AuditEvent) × IsEnding events inside × All IsInner inside
IsFrom stress runs (Between left) events = IsBetween left events
IsFrom stress runs (Within left) events = (part rest : List AuditEvent) × (events ≡ part ++ seen.SubRunFinished ∷ rest)
    × All IsInner part × IsBetween left rest
IsFrom stress runs Over events = events ≡ []

none_taken : {P : Type 0} (t : ShapePlace) → ◌≡◌ {A = Option ShapePlace} None (Some t) → P
none_taken t is = absurd (true≢false (ap is_some (sym is)))

-- ---- an event that is taken, in front of such events

plain_back : (e : AuditEvent) (t : ShapePlace) (es : List AuditEvent) (stress : Bool) (runs : ℕ)
    → plain_takes e ≡ Some t → IsFrom stress runs t es → IsFrom stress runs Plain (e ∷ es)
plain_back seen.RunFinished t es stress runs is h =
    let none = subst (λ s. IsFrom stress runs s es) (sym (same_Some Over t is)) h in
    ([], ap (λ l. seen.RunFinished ∷ l) none, All-nil IsInner)
plain_back seen.RunStarted t es stress runs is h = none_taken t is
plain_back seen.SubRunStarted t es stress runs is h = none_taken t is
plain_back seen.SubRunFinished t es stress runs is h = none_taken t is
plain_back e t es stress runs is h =
    let x = subst (λ s. IsFrom stress runs s es) (sym (same_Some Plain t is)) h in
    (e ∷ x.0, ap (λ l. e ∷ l) x.1, All-cons IsInner e x.0 tt x.2)

within_back : (left : ℕ) (e : AuditEvent) (t : ShapePlace) (es : List AuditEvent) (stress : Bool) (runs : ℕ)
    → within_takes left e ≡ Some t → IsFrom stress runs t es → IsFrom stress runs (Within left) (e ∷ es)
within_back left seen.SubRunFinished t es stress runs is h =
    let x = subst (λ s. IsFrom stress runs s es) (sym (same_Some (Between left) t is)) h in
    ([], es, refl, All-nil IsInner, x)
within_back left seen.RunStarted t es stress runs is h = none_taken t is
within_back left seen.RunFinished t es stress runs is h = none_taken t is
within_back left seen.SubRunStarted t es stress runs is h = none_taken t is
within_back left e t es stress runs is h =
    let x = subst (λ s. IsFrom stress runs s es) (sym (same_Some (Within left) t is)) h in
    (e ∷ x.0, x.1, ap (λ l. e ∷ l) x.2, All-cons IsInner e x.0 tt x.3, x.4)

other_more : (left : ℕ) (inside : List AuditEvent) → AreSubRuns left inside → AreSubRuns left (seen.Other ∷ inside)
other_more zero inside h = All-cons (λ e. e ≡ seen.Other) seen.Other inside refl h
other_more (suc left) inside h = (
  seen.Other ∷ h.0,
  h.1,
  h.2,
  ap (λ l. seen.Other ∷ l) h.3,
  All-cons (λ e. e ≡ seen.Other) seen.Other h.0 refl h.4,
  h.5,
  h.6,
)

other_back : (left : ℕ) (t : ShapePlace) (es : List AuditEvent) (stress : Bool) (runs : ℕ)
    → ◌≡◌ {A = Option ShapePlace} (Some (Between left)) (Some t) → IsFrom stress runs t es
    → IsBetween left (seen.Other ∷ es)
other_back left t es stress runs is h =
    let x = subst (λ s. IsFrom stress runs s es) (sym (same_Some (Between left) t is)) h in
    (seen.Other ∷ x.0, ap (λ l. seen.Other ∷ l) x.1, other_more left x.0 x.2)

between_back : (left : ℕ) (e : AuditEvent) (t : ShapePlace) (es : List AuditEvent) (stress : Bool) (runs : ℕ)
    → between_takes left e ≡ Some t → IsFrom stress runs t es → IsBetween left (e ∷ es)
between_back zero seen.RunFinished t es stress runs is h =
    let none = subst (λ s. IsFrom stress runs s es) (sym (same_Some Over t is)) h in
    ([], ap (λ l. seen.RunFinished ∷ l) none, All-nil (λ e. e ≡ seen.Other))
between_back (suc left) seen.SubRunStarted t es stress runs is h =
    let x = subst (λ s. IsFrom stress runs s es) (sym (same_Some (Within left) t is)) h in
    let rest = ap (λ l. seen.SubRunStarted ∷ x.0 ++ seen.SubRunFinished ∷ l) x.4.1 in (
      seen.SubRunStarted ∷ x.0 ++ seen.SubRunFinished ∷ x.4.0,
      ap (λ l. seen.SubRunStarted ∷ l) x.2 ∙ rest
          ∙ sym (ap (λ l. seen.SubRunStarted ∷ l) (append_assoc x.0 (seen.SubRunFinished ∷ x.4.0)
          (seen.RunFinished ∷ []))),
      ([], x.0, x.4.0, refl, All-nil (λ e. e ≡ seen.Other), x.3, x.4.2),
    )
between_back zero seen.Other t es stress runs is h = other_back zero t es stress runs is h
between_back (suc left) seen.Other t es stress runs is h = other_back (suc left) t es stress runs is h
between_back zero e t es stress runs is h = none_taken t is
between_back (suc left) e t es stress runs is h = none_taken t is

started_back : (t : ShapePlace) (es : List AuditEvent) (stress : Bool) (runs : ℕ)
    → ◌≡◌ {A = Option ShapePlace} (Some (if stress then Between runs else Plain)) (Some t) → IsFrom stress runs t es
    → IsFrom stress runs Before (seen.RunStarted ∷ es)
started_back t es true runs is h =
    let x = subst (λ s. IsFrom true runs s es) (sym (same_Some (Between runs) t is)) h in
    (x.0, ap (λ l. seen.RunStarted ∷ l) x.1, x.2)
started_back t es false runs is h =
    let x = subst (λ s. IsFrom false runs s es) (sym (same_Some Plain t is)) h in
    (x.0, ap (λ l. seen.RunStarted ∷ l) x.1, x.2)

back : (stress : Bool) (runs : ℕ) (s : ShapePlace) (e : AuditEvent) (t : ShapePlace) (es : List AuditEvent)
    → shape_takes stress runs s e ≡ Some t → IsFrom stress runs t es → IsFrom stress runs s (e ∷ es)
back stress runs Before seen.RunStarted t es is h = started_back t es stress runs is h
back stress runs Before e t es is h = none_taken t is
back stress runs Plain e t es is h = plain_back e t es stress runs is h
back stress runs (Between left) e t es is h = between_back left e t es stress runs is h
back stress runs (Within left) e t es is h = within_back left e t es stress runs is h
back stress runs Over e t es is h = none_taken t is

over_back : (stress : Bool) (runs : ℕ) (s : ShapePlace) → is_shape_over s ≡ true → IsFrom stress runs s []
over_back stress runs Over is = refl
over_back stress runs s is = absurd (true≢false (sym is))

placed : (law : ShapeNow) (o : Option ShapePlace) (u : ShapeNow) → option_map (at_place law) o ≡ Some u
    → (o ≡ Some u.place) × (at_place law u.place ≡ u)
placed law None u is = absurd (true≢false (ap is_some (sym is)))
placed law (Some t) u is =
    let same = same_Some (at_place law t) u is in
    (ap (λ l. Some l.place) same, ap (λ l. at_place law l.place) (sym same) ∙ same)

shape_to : (law : ShapeNow) (es : List AuditEvent) → Accepts shape_machine law es
    → IsFrom law.stress law.runs law.place es
shape_to law [] a = over_back law.stress law.runs law.place (end_of shape_machine law a)
shape_to law (e ∷ es) a =
    let x = step_of shape_machine law e es a in
    let p = placed law (shape_takes law.stress law.runs law.place e) x.0 x.1 in
    let rest = subst (λ l. IsFrom l.stress l.runs l.place es) (sym p.1) (shape_to x.0 es x.2) in
    back law.stress law.runs law.place e x.0.place es p.0 rest

-- ---- and the first of such events is taken, and leaves such events

abbrev Goes : Bool → ℕ → ShapePlace → AuditEvent → List AuditEvent → Type 0
Goes stress runs s e es = (t : ShapePlace) × (shape_takes stress runs s e ≡ Some t) × IsFrom stress runs t es

inner_plain : (e : AuditEvent) → IsInner e → plain_takes e ≡ Some Plain
inner_plain seen.RunStarted h = absurd h
inner_plain seen.RunFinished h = absurd h
inner_plain seen.SubRunStarted h = absurd h
inner_plain seen.SubRunFinished h = absurd h
inner_plain e h = refl

inner_within : (left : ℕ) (e : AuditEvent) → IsInner e → within_takes left e ≡ Some (Within left)
inner_within left seen.RunStarted h = absurd h
inner_within left seen.RunFinished h = absurd h
inner_within left seen.SubRunStarted h = absurd h
inner_within left seen.SubRunFinished h = absurd h
inner_within left e h = refl

plain_goes : (stress : Bool) (runs : ℕ) (e : AuditEvent) (es inside : List AuditEvent) → IsEnding (e ∷ es) inside
    → All IsInner inside → Goes stress runs Plain e es
plain_goes stress runs e es [] is h =
    let same = same_head e seen.RunFinished es [] is in (Over, ap plain_takes same.0, same.1)
plain_goes stress runs e es (x ∷ inside) is h =
    let same = same_head e x es (inside ++ seen.RunFinished ∷ []) is in (
      Plain,
      ap plain_takes same.0 ∙ inner_plain x (All-head IsInner x inside h),
      (inside, same.1, All-tail IsInner x inside h),
    )

within_goes : (stress : Bool) (runs left : ℕ) (e : AuditEvent) (es part rest : List AuditEvent)
    → e ∷ es ≡ part ++ seen.SubRunFinished ∷ rest → All IsInner part → IsBetween left rest
    → Goes stress runs (Within left) e es
within_goes stress runs left e es [] rest is h more =
    let same = same_head e seen.SubRunFinished es rest is in
    (Between left, ap (within_takes left) same.0, subst (IsBetween left) (sym same.1) more)
within_goes stress runs left e es (x ∷ part) rest is h more =
    let same = same_head e x es (part ++ seen.SubRunFinished ∷ rest) is in (
      Within left,
      ap (within_takes left) same.0 ∙ inner_within left x (All-head IsInner x part h),
      (part, rest, same.1, All-tail IsInner x part h, more),
    )

other_taken : (left : ℕ) → between_takes left seen.Other ≡ Some (Between left)
other_taken zero = refl
other_taken (suc left) = refl

-- the last sub-run is closed
last_goes : (stress : Bool) (runs : ℕ) (e : AuditEvent) (es inside : List AuditEvent) → IsEnding (e ∷ es) inside
    → All (λ x. x ≡ seen.Other) inside → Goes stress runs (Between zero) e es
last_goes stress runs e es [] is h =
    let same = same_head e seen.RunFinished es [] is in (Over, ap (between_takes zero) same.0, same.1)
last_goes stress runs e es (x ∷ inside) is h =
    let same = same_head e x es (inside ++ seen.RunFinished ∷ []) is in
    let other = same.0 ∙ All-head (λ x. x ≡ seen.Other) x inside h in
    (Between zero, ap (between_takes zero) other, (inside, same.1, All-tail (λ x. x ≡ seen.Other) x inside h))

-- one more is to open
next_goes : (stress : Bool) (runs left : ℕ) (e : AuditEvent) (es others part rest : List AuditEvent)
    → e ∷ es ≡ (others ++ seen.SubRunStarted ∷ part ++ seen.SubRunFinished ∷ rest) ++ seen.RunFinished ∷ []
    → All (λ x. x ≡ seen.Other) others → All IsInner part → AreSubRuns left rest
    → Goes stress runs (Between (suc left)) e es
next_goes stress runs left e es [] part rest is h inner more =
    let same = same_head e seen.SubRunStarted es
    ((part ++ seen.SubRunFinished ∷ rest) ++ seen.RunFinished ∷ []) is in (
      Within left,
      ap (between_takes (suc left)) same.0,
      (
        part,
        rest ++ seen.RunFinished ∷ [],
        same.1 ∙ append_assoc part (seen.SubRunFinished ∷ rest) (seen.RunFinished ∷ []),
        inner,
        (rest, refl, more),
      ),
    )
next_goes stress runs left e es (x ∷ others) part rest is h inner more =
    let inside = others ++ seen.SubRunStarted ∷ part ++ seen.SubRunFinished ∷ rest in
    let same = same_head e x es (inside ++ seen.RunFinished ∷ []) is in
    let other = same.0 ∙ All-head (λ x. x ≡ seen.Other) x others h in (
      Between (suc left),
      ap (between_takes (suc left)) other,
      (inside, same.1, (others, part, rest, refl, All-tail (λ x. x ≡ seen.Other) x others h, inner, more)),
    )

between_goes : (stress : Bool) (runs left : ℕ) (e : AuditEvent) (es : List AuditEvent) → IsBetween left (e ∷ es)
    → Goes stress runs (Between left) e es
between_goes stress runs zero e es h = last_goes stress runs e es h.0 h.1 h.2
between_goes stress runs (suc left) e es h =
    next_goes stress runs left e es h.2.0 h.2.1 h.2.2
    (h.1 ∙ ap (λ l. l ++ seen.RunFinished ∷ []) h.2.3) h.2.4 h.2.5 h.2.6

before_goes : (stress : Bool) (runs : ℕ) (es inside : List AuditEvent) → IsEnding es inside
    → IsInside stress runs inside → IsFrom stress runs (if stress then Between runs else Plain) es
before_goes true runs es inside is h = (inside, is, h)
before_goes false runs es inside is h = (inside, is, h)

goes : (stress : Bool) (runs : ℕ) (s : ShapePlace) (e : AuditEvent) (es : List AuditEvent)
    → IsFrom stress runs s (e ∷ es) → Goes stress runs s e es
goes stress runs Before e es h =
    let same = same_head e seen.RunStarted es (h.0 ++ seen.RunFinished ∷ []) h.1 in (
      (if stress then Between runs else Plain),
      ap (shape_takes stress runs Before) same.0,
      before_goes stress runs es h.0 same.1 h.2,
    )
goes stress runs Plain e es h = plain_goes stress runs e es h.0 h.1 h.2
goes stress runs (Between left) e es h = between_goes stress runs left e es h
goes stress runs (Within left) e es h = within_goes stress runs left e es h.0 h.1 h.2 h.3 h.4
goes stress runs Over e es h = cc

none_left : (x : AuditEvent) (xs ys : List AuditEvent) → [] ≡ xs ++ x ∷ ys → ⊥
none_left x [] ys is = cc
none_left x (y ∷ xs) ys is = cc

over_at : (stress : Bool) (runs : ℕ) (s : ShapePlace) → IsFrom stress runs s [] → is_shape_over s ≡ true
over_at stress runs Before h = cc
over_at stress runs Plain h = absurd (none_left seen.RunFinished h.0 [] h.1)
over_at stress runs (Between left) h = absurd (none_left seen.RunFinished h.0 [] h.1)
over_at stress runs (Within left) h = absurd (none_left seen.SubRunFinished h.0 h.1 h.2)
over_at stress runs Over h = refl

shape_from : (law : ShapeNow) (es : List AuditEvent) → IsFrom law.stress law.runs law.place es
    → Accepts shape_machine law es
shape_from law [] h = end_from shape_machine law (over_at law.stress law.runs law.place h)
shape_from law (e ∷ es) h =
    let x = goes law.stress law.runs law.place e es h in
    step_from shape_machine law (at_place law x.0) e es (ap (option_map (at_place law)) x.1)
    (shape_from (at_place law x.0) es x.2)

pub shape_just : (stress : Bool) (runs : ℕ) → AcceptsJust shape_machine (shape_start stress runs)
    (λ events. (inside : List AuditEvent) × (events ≡ seen.RunStarted ∷ inside ++ seen.RunFinished ∷ [])
    × IsInside stress runs inside)
shape_just stress runs events = (shape_to (shape_start stress runs) events, shape_from (shape_start stress runs) events)

-- ---- each state leads to an end

from_between : (stress : Bool) (runs left : ℕ) → (es : List AuditEvent) × IsFrom stress runs (Between left) es
from_between stress runs zero = (seen.RunFinished ∷ [], ([], refl, All-nil (λ e. e ≡ seen.Other)))
from_between stress runs (suc left) =
    let more = from_between stress runs left in (
      seen.SubRunStarted ∷ seen.SubRunFinished ∷ more.0,
      (
        seen.SubRunStarted ∷ seen.SubRunFinished ∷ more.1.0,
        ap (λ l. seen.SubRunStarted ∷ seen.SubRunFinished ∷ l) more.1.1,
        ([], [], more.1.0, refl, All-nil (λ e. e ≡ seen.Other), All-nil IsInner, more.1.2),
      ),
    )

from_place : (stress : Bool) (runs : ℕ) (s : ShapePlace) → (es : List AuditEvent) × IsFrom stress runs s es
from_place true runs Before =
    let more = from_between true runs runs in
    (seen.RunStarted ∷ more.0, (more.1.0, ap (λ l. seen.RunStarted ∷ l) more.1.1, more.1.2))
from_place false runs Before = (seen.RunStarted ∷ seen.RunFinished ∷ [], ([], refl, All-nil IsInner))
from_place stress runs Plain = (seen.RunFinished ∷ [], ([], refl, All-nil IsInner))
from_place stress runs (Between left) = from_between stress runs left
from_place stress runs (Within left) =
    let more = from_between stress runs left in
    (seen.SubRunFinished ∷ more.0, ([], more.0, refl, All-nil IsInner, more.1))
from_place stress runs Over = ([], refl)

pub shape_completes : Completes shape_machine (λ law. Unit {0})
shape_completes = record {
  more = λ law h. let x = from_place law.stress law.runs law.place in (x.0, shape_from law x.0 x.1);
  kept = λ law e t h is. tt;
}
