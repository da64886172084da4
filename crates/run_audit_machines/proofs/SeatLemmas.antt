-- The seats of the tests after some events.
use Rattle.std.proofs.Common.{◌≡◌, ◌∙◌, ◌+◌, nat_lt, List, [], ◌∷◌}
use Rattle.std.proofs.Common.{map, fold, cond, None}
use Rattle.std.proofs.Common.{refl, ap}
use Rattle.run_events.specs.declared.plan.PlanTest.{PlanTest}
use Rattle.run_events.specs.declared.plan.TestInstanceId.{TestInstanceId}
use Rattle.run_events.specs.declared.settings.Settings.{Settings}
use Rattle.run_audit_model.specs.SeenLimits.{is_seen_finish}
use Rattle.run_audit_model.specs.SeenLimits.{is_seen_running, is_seen_start, seen_slots_from}
use Rattle.run_audit_model.specs.declared.audit_event.AuditEvent.{AuditEvent}
use Rattle.run_audit_machines.specs.Limits.{Seat, Seated, SeatsNow}
use Rattle.run_audit_machines.specs.Limits.{is_seated, no_seat, no_seats}
use Rattle.run_audit_machines.specs.Limits.{seat_after, seated_after, seen_seats_after}

-- ---- the seats after some events

abbrev pub seat_by : TestInstanceId → List AuditEvent → Seat
seat_by id events = fold (seat_after id) no_seat events

abbrev pub seated_by : List AuditEvent → PlanTest → Seated
seated_by events test = (test, seat_by test.id events)

abbrev pub seats_by : Settings → List AuditEvent → SeatsNow
seats_by p events = record { settings = p; seats = map (seated_by events) p.plan.tests }

pub seat_counts : (id : TestInstanceId) (seat : Seat) (events : List AuditEvent)
    → fold (seat_after id) seat events ≡ record {
      started = fold (λ n e. n + cond (is_seen_start id e) 1 0) seat.started events;
      finished = fold (λ n e. n + cond (is_seen_finish id e) 1 0) seat.finished events;
      slots = seen_slots_from id seat.slots events;
    }
seat_counts id seat [] = refl
seat_counts id seat (e ∷ events) = seat_counts id (seat_after id seat e) events

pub all_after : (f : PlanTest → Seat) (e : AuditEvent) (tests : List PlanTest)
    → map (seated_after e) (map (λ t. (t, f t)) tests) ≡ map (λ t. (t, seat_after t.id (f t) e)) tests
all_after f e [] = refl
all_after f e (t ∷ tests) = ap (λ l. (t, seat_after t.id (f t) e) ∷ l) (all_after f e tests)

pub fold_seats : (p : Settings) (tests : List PlanTest) (f : PlanTest → Seat) (events : List AuditEvent)
    → fold seen_seats_after (record { settings = p; seats = map (λ t. (t, f t)) tests }) events
    ≡ record { settings = p; seats = map (λ t. (t, fold (seat_after t.id) (f t) events)) tests }
fold_seats p tests f [] = refl
fold_seats p tests f (e ∷ events) =
    ap (λ l. fold seen_seats_after (record { settings = p; seats = l }) events) (all_after f e tests)
    ∙ fold_seats p tests (λ t. seat_after t.id (f t) e) events

pub seats_are : (p : Settings) (events : List AuditEvent) → fold seen_seats_after
    (no_seats p) events ≡ seats_by p events
seats_are p events = fold_seats p p.plan.tests (λ t. no_seat) events

pub runs_as : (events : List AuditEvent) (test : PlanTest)
    → is_seated (seated_by events test) ≡ is_seen_running test.id events
runs_as events test = ap (λ s. nat_lt s.finished s.started) (seat_counts test.id no_seat events)

pub slots_as : (events : List AuditEvent) (test : PlanTest)
    → (seated_by events test).1.slots ≡ seen_slots_from test.id None events
slots_as events test = ap (λ s. s.slots) (seat_counts test.id no_seat events)
