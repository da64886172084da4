-- Machines put together: two side by side, one that only forbids, one of what is due, and one of a part over all parts.
use Rattle.std.specs.Prelude.{◌≡◌, ◌↔◌, ℕ, List, [], ◌∷◌, Bool, true, false, ◌&&◌, if◌then◌else◌}
use Rattle.std.specs.Prelude.{Option, Some, None, option_map}
use Rattle.std.specs.Prelude.{IfSome}
use Rattle.std.specs.List.{All}
use Rattle.run_audit_model.specs.Parts.{closes_part, opens_part}
use Rattle.run_audit_model.specs.Places.{Machine, Accepts, FailsAt}
use Rattle.run_audit_model.specs.declared.audit_event.AuditEvent.{AuditEvent}

-- both values, where both are there
abbrev pub both_there : {S T : Type 0} → Option S → Option T → Option (S × T)
both_there None o = None
both_there (Some s) o = option_map (λ t. (s, t)) o

-- two machines that take the same events side by side
abbrev pub both : {S T E : Type 0} → Machine S E → Machine T E → Machine (S × T) E
both m n = record {
  takes = λ st e. both_there (m.takes st.0 e) (n.takes st.1 e);
  is_done = λ st. m.is_done st.0 && n.is_done st.1;
}

-- one that takes each event that is allowed after what was seen before it, and may always end
abbrev pub guard : {G E : Type 0} → (G → E → G) → (G → E → Bool) → Machine G E
guard after allows = record {
  takes = λ seen e. if allows seen e then Some (after seen e) else None;
  is_done = λ seen. true;
}

-- what is still due once something was told: it must come next
abbrev pub due_after : {Y X : Type 0} → (Y → X → Bool) → List Y → Option X → Option (List Y)
due_after same due None = Some due
due_after same [] (Some x) = None
due_after same (y ∷ due) (Some x) = if same y x then Some due else None

abbrev pub is_none_due : {X : Type 0} → List X → Bool
is_none_due [] = true
is_none_due (x ∷ due) = false

-- one whose events tell just what is due, in order
abbrev pub dues : {Y X E : Type 0} → (Y → X → Bool) → (E → Option X) → Machine (List Y) E
dues same told = record { takes = λ due e. due_after same due (told e); is_done = is_none_due }

-- over parts: whether the run is a stress run, the state within the open part, and what is left for the parts to come
pub record InParts (S C : Type 0) : Type 0 where
  pub stress : Bool
  pub within : Option S
  pub coming : C

abbrev pub part_state : {S C : Type 0} → Bool → C → Option S → InParts S C
part_state stress coming o = record { stress = stress; within = o; coming = coming }

-- what gives each part its first state, and whether no further part is due
pub record Supply (S C : Type 0) : Type 0 where
  pub next : C → Option (S × C)
  pub is_over : C → Bool

-- a part opens
abbrev pub part_opened : {S C : Type 0} → Supply S C → Bool → C → Option (InParts S C)
part_opened supply stress coming =
    option_map (λ n. part_state stress n.1 (Some n.0)) (supply.next coming)

abbrev pub takes_between : {S C : Type 0} → Supply S C → Bool → C → Bool → Option (InParts S C)
takes_between supply stress coming opening =
    if opening then part_opened supply stress coming else Some (part_state stress coming None)

-- within an open part an event closes it, where the part may end, or is taken as one of the part
abbrev pub takes_within : {S C : Type 0} → Machine S AuditEvent → Bool → C → S → AuditEvent → Bool
    → Option (InParts S C)
takes_within m stress coming s e true =
    if m.is_done s then Some (part_state stress coming None) else None
takes_within m stress coming s e false =
    option_map (λ t. part_state stress coming (Some t)) (m.takes s e)

abbrev pub part_takes : {S C : Type 0} → Machine S AuditEvent → Supply S C → Bool → C → Option S → AuditEvent
    → Option (InParts S C)
part_takes m supply stress coming None e = takes_between supply stress coming (opens_part e)
part_takes m supply stress coming (Some s) e = takes_within m stress coming s e (closes_part stress e)

abbrev pub part_is_done : {S C : Type 0} → Machine S AuditEvent → Supply S C → C → Option S → Bool
part_is_done m supply coming None = supply.is_over coming
part_is_done m supply coming (Some s) = m.is_done s && supply.is_over coming

-- a machine of one part, over all parts
abbrev pub over_parts : {S C : Type 0} → Machine S AuditEvent → Supply S C → Machine (InParts S C) AuditEvent
over_parts m supply = record {
  takes = λ now e. part_takes m supply now.stress now.coming now.within e;
  is_done = λ now. part_is_done m supply now.coming now.within;
}

-- a part is accepted from its first state, one after the other, and no part is missing
abbrev pub AreAccepted : {S C : Type 0} → Machine S AuditEvent → Supply S C → C → List (List AuditEvent) → Type 0
AreAccepted m supply coming [] = supply.is_over coming ≡ true
AreAccepted {S} {C} m supply coming (part ∷ parts) = (s : S) × (rest : C) × (supply.next coming ≡ Some (s, rest))
    × Accepts m s part × AreAccepted m supply rest parts

-- a list of first states, one for each part
abbrev pub next_listed : {S : Type 0} → List S → Option (S × List S)
next_listed [] = None
next_listed (s ∷ rest) = Some (s, rest)

abbrev pub one_each : {S : Type 0} → Supply S (List S)
one_each = record { next = next_listed; is_over = is_none_due }

-- the same first state for each part, however many come
abbrev pub endless : {S : Type 0} → Supply S S
endless = record { next = λ s. Some (s, s); is_over = λ s. true }

-- the first state of a run: between parts in a stress run, else within the first
abbrev pub first_state : {S C : Type 0} → Supply S C → Bool → C → Option (InParts S C)
first_state supply true coming = Some (part_state true coming None)
first_state supply false coming = part_opened supply false coming

-- it is no event that closes a part
abbrev pub StaysWithin : AuditEvent → Type 0
StaysWithin e = (stress : Bool) → closes_part stress e ≡ false

-- what a part can be continued with to its end, from a state of which this holds, and that it holds on
pub record PartCompletes {S : Type 0} (m : Machine S AuditEvent) (Holds : S → Type 0) : Type 0 where
  pub more : (s : S) → Holds s → (events : List AuditEvent) × Accepts m s events × All StaysWithin events
  pub kept : (s : S) (e : AuditEvent) (t : S) → Holds s → m.takes s e ≡ Some t → Holds t

-- it holds of the open part's state, and of each to come
pub record HoldsInParts {S C : Type 0} (Holds : S → Type 0) (Comes : C → Type 0) (now : InParts S C) : Type 0 where
  pub within : IfSome now.within Holds
  pub comes : Comes now.coming

-- a part that tells just what is due, where each event is allowed after those before it
abbrev pub telling : {Y X G E : Type 0} → (Y → X → Bool) → (E → Option X) → (G → E → G) → (G → E → Bool)
    → Machine (List Y × G) E
telling same told after allows = both (dues same told) (guard after allows)

-- some event tells it, stays within the part, and is always allowed
abbrev pub IsTellable : {X G : Type 0} → (AuditEvent → Option X) → (G → AuditEvent → Bool) → X → Type 0
IsTellable {X} {G} told allows x = (e : AuditEvent) × (told e ≡ Some x) × StaysWithin e
    × ((seen : G) → allows seen e ≡ true)

-- all that is still due can be told
abbrev pub CanTell : {X G : Type 0} → (AuditEvent → Option X) → (G → AuditEvent → Bool) → List X × G → Type 0
CanTell told allows now = All (IsTellable told allows) now.0

-- it accepts just the lists that keep a law
abbrev pub AcceptsJust : {S E : Type 0} → Machine S E → S → (List E → Type 0) → Type 0
AcceptsJust {S} {E} m s Keeps = (events : List E) → Accepts m s events ↔ Keeps events

-- what a stop says of the law: it is kept, or can't be kept from that place on
abbrev pub IsPlaceOf : {E : Type 0} → (List E → Type 0) → List E → Option ℕ → Type 0
IsPlaceOf Keeps events None = Keeps events
IsPlaceOf Keeps events (Some place) = FailsAt Keeps events place

-- a test that tells whether two are the same
abbrev pub IsSame : {X : Type 0} → (X → X → Bool) → Type 0
IsSame {X} same = (x y : X) → (same x y ≡ true → x ≡ y) × (x ≡ y → same x y ≡ true)

-- each state of a machine stands for one of another
pub record IsSeenAs {S T E : Type 0} (seen : S → T) (m : Machine S E) (n : Machine T E) : Type 0 where
  pub takes : (s : S) (e : E) → n.takes (seen s) e ≡ option_map seen (m.takes s e)
  pub is_done : (s : S) → n.is_done (seen s) ≡ m.is_done s
