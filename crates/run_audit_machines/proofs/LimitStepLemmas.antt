-- What may come after seats that keep all limits, by the one seat that it changes: the sum of all, that of its group,
-- and the seats that it would clash with.
use Rattle.std.specs.Prelude.{slice_get}
use Rattle.std.proofs.Common.{◌≡◌, ◌∙◌, ℕ, nat_eq, nat_le, List, [], ◌∷◌, map, set, sum_by, Option, Some, None}
use Rattle.std.proofs.Common.{Bool, true, false, if◌then◌else◌, refl, ap, subst, arith}
use Rattle.std.specs.List.{list_all}
use Rattle.std.specs.Option.{option_map_or}
use lib.Pointwise.{bytes_decides, pointwise}
use Rattle.std.proofs.lemmas.Bool.{and_from, and_parts}
use Rattle.run_events.specs.declared.plan.Group.{Group}
use Rattle.run_events.specs.declared.plan.PlanTest.{PlanTest}
use Rattle.run_laws_events.specs.PlanLimits.{group_named, is_of_group}
use Rattle.run_audit_model.specs.declared.audit_event.AuditEvent.{AuditEvent}
use Rattle.std.proofs.Common.{sym}
use Rattle.std.proofs.lemmas.Option.{cond_some}
use Rattle.run_audit_machines.specs.Limits.{limit_part, no_seats}
use Rattle.run_audit_machines.specs.Limits.{Seat, Seated, SeatsNow, keeps_limit, keeps_own, keeps_seats, may_seat}
use Rattle.run_audit_machines.specs.Limits.{seat_group_weight, seat_weight, seated_after}
use Rattle.run_audit_machines.proofs.ClashLemmas.{same_answer}
use Rattle.run_audit_machines.proofs.LimitLemmas.{all_found}
use Rattle.run_audit_machines.proofs.SeatStepLemmas.{sum_set}

-- a seat of a test of another group adds nothing to the sum of a group, before and after
other_weight : (name : List ℕ) (limit : ℕ) (test : PlanTest) (seat : Seat) → is_of_group name test ≡ false
    → seat_group_weight name limit (test, seat) ≡ 0
other_weight name limit test seat other = ap (λ b. if b then seat_weight limit (test, seat) else 0) other

pub other_sum : (name : List ℕ) (limit : ℕ) (seats : List Seated) (place : ℕ) (test : PlanTest) (old new : Seat)
    → slice_get seats place ≡ Some (test, old) → is_of_group name test ≡ false
    → sum_by (seat_group_weight name limit) (set seats place (test, new))
    ≡ sum_by (seat_group_weight name limit) seats
other_sum name limit seats place test old new is other =
    let sums = sum_set (seat_group_weight name limit) seats place (test, old) (test, new) is in
    let before = other_weight name limit test old other in
    let after = other_weight name limit test new other in
    omega (arith, sums, before, after)

other_limit : (name : List ℕ) (o : Option Group) (seats : List Seated) (place : ℕ) (test : PlanTest) (old new : Seat)
    → slice_get seats place ≡ Some (test, old) → is_of_group name test ≡ false
    → keeps_limit (set seats place (test, new)) name o ≡ keeps_limit seats name o
other_limit name None seats place test old new is other = refl
other_limit name (Some group) seats place test old new is other =
    ap (λ n. nat_le n group.limit) (other_sum name group.limit seats place test old new is other)

-- a group that kept its limit keeps it, if that of the seat does
abbrev keeps_group : List Group → List Seated → Group → Bool
keeps_group all seats group = keeps_limit seats group.name (group_named group.name all)

group_kept : (all : List Group) (seats : List Seated) (place : ℕ) (test : PlanTest) (old new : Seat)
    → slice_get seats place ≡ Some (test, old)
    → keeps_own all (set seats place (test, new)) test.group ≡ true → (group : Group)
    → keeps_group all seats group ≡ true → keeps_group all (set seats place (test, new)) group ≡ true
group_kept all seats place test old new is own group kept =
    by_name test.group refl own
  where
    after : List Seated
    after = set seats place (test, new)

    is_named : Option (List ℕ) → Bool
    is_named o = option_map_or (λ own. pointwise nat_eq own group.name) o false

    by_same : (name : List ℕ) → test.group ≡ Some name → (b : Bool) → pointwise nat_eq name group.name ≡ b
        → keeps_own all after (Some name) ≡ true → keeps_group all after group ≡ true
    by_same name named true same own =
        subst (λ n. keeps_limit after n (group_named n all) ≡ true) ((bytes_decides name group.name).0 same) own
    by_same name named false other own =
        other_limit group.name (group_named group.name all) seats place test old new is
        (ap is_named named ∙ other) ∙ kept

    by_name : (o : Option (List ℕ)) → test.group ≡ o → keeps_own all after o ≡ true
        → keeps_group all after group ≡ true
    by_name None none own =
        other_limit group.name (group_named group.name all) seats place test old new is (ap is_named none)
        ∙ kept
    by_name (Some name) named own = by_same name named (pointwise nat_eq name group.name) refl own

all_kept : (passes still : Group → Bool) → ((g : Group) → passes g ≡ true → still g ≡ true) → (groups : List Group)
    → list_all passes groups ≡ true → list_all still groups ≡ true
all_kept passes still more [] all = refl
all_kept passes still more (g ∷ groups) all =
    let parts = and_parts (passes g) (list_all passes groups) all in
    and_from (still g) (list_all still groups) (more g parts.0) (all_kept passes still more groups parts.1)

-- if all groups keep their limits, that of each name does
own_kept : (all : List Group) (seats : List Seated) → list_all (keeps_group all seats) all ≡ true
    → (name : List ℕ) (o : Option Group) → group_named name all ≡ o → keeps_limit seats name o ≡ true
own_kept all seats kept name None named = refl
own_kept all seats kept name (Some group) named =
    let found = all_found (keeps_group all seats) (λ g. pointwise nat_eq g.name name) all group kept named in
    let same = (bytes_decides group.name name).0 found.1 in
    subst (λ o. keeps_limit seats name o ≡ true) named
    (subst (λ n. keeps_limit seats n (group_named n all) ≡ true) same found.0)

own_there : (all : List Group) (seats : List Seated) → list_all (keeps_group all seats) all ≡ true
    → (o : Option (List ℕ)) → keeps_own all seats o ≡ true
own_there all seats kept None = refl
own_there all seats kept (Some name) = own_kept all seats kept name (group_named name all) refl

pub groups_set : (all : List Group) (seats : List Seated) (place : ℕ) (test : PlanTest) (old new : Seat)
    → list_all (keeps_group all seats) all ≡ true → slice_get seats place ≡ Some (test, old)
    → list_all (keeps_group all (set seats place (test, new))) all
    ≡ keeps_own all (set seats place (test, new)) test.group
groups_set all seats place test old new kept is =
    let after = set seats place (test, new) in
    same_answer (list_all (keeps_group all after) all) (keeps_own all after test.group)
    (λ still. own_there all after still test.group)
    (λ own. all_kept (keeps_group all seats) (keeps_group all after)
    (group_kept all seats place test old new is own) all kept)

-- an event that leaves the seats is taken
abbrev with_seats : SeatsNow → List Seated → SeatsNow
with_seats now seats = record { settings = now.settings; seats = seats }

abbrev where_kept : SeatsNow → Option SeatsNow
where_kept now = if keeps_seats now then Some now else None

pub untold_taken : (now : SeatsNow) (e : AuditEvent) → keeps_seats now ≡ true
    → map (seated_after e) now.seats ≡ now.seats → limit_part.takes now e ≡ Some now
untold_taken now e kept same =
    ap (λ seats. where_kept (with_seats now seats)) same ∙ ap (λ b. if b then Some now else None) kept

-- the state before a part is the same after each event
pub first_kept : (s : SeatsNow) (e : AuditEvent) (t : SeatsNow) → limit_part.takes s e ≡ Some t
    → no_seats t.settings ≡ no_seats s.settings
first_kept s e t is = ap (λ now. no_seats now.settings) (sym (cond_some (may_seat s e) _ t is).1)
