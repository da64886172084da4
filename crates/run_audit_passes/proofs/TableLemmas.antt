-- The table of a part's tests, as what was told of one of them changes.
use Rattle.std.specs.Prelude.{slice_get}
use Rattle.std.proofs.Common.{◌≡◌, ◌∙◌, ℕ, zero, suc, ◌+◌, ◌<◌, ◌≤◌, nat_eq, nat_le, List, [], ◌∷◌, length, set}
use Rattle.std.proofs.Common.{sum_by, not}
use Rattle.std.proofs.Common.{Option, Some, is_some, Bool, true, false, ◌&&◌, cond, refl, sym, ap, ap₂, subst}
use Rattle.std.proofs.Common.{true≢false, arith}
use Rattle.std.specs.BTreeMap.{get}
use Rattle.std.specs.List.{list_all}
use Rattle.std.specs.Ordering.{nat_cmp}
use Rattle.std.proofs.lemmas.Bool.{and_parts}
use Rattle.std.proofs.lemmas.Bool.Decides.{Decides-eqb}
use Rattle.std.proofs.lemmas.Option.{same_Some}
use Rattle.run_events.specs.declared.plan.PlanTest.{PlanTest}
use Rattle.run_events.specs.declared.settings.Settings.{Settings}
use Rattle.run_laws_events.specs.PlanLimits.{group_named}
use Rattle.run_audit_machines.specs.Holders.{is_slot_free, own_group_slot, same_slot, slot_told}
use Rattle.run_audit_machines.specs.Limits.{Seat, Seated, SeatsNow, are_apart, keeps_limit, keeps_own, keeps_seats}
use Rattle.run_audit_machines.specs.Limits.{seat_weight}
use Rattle.run_audit_machines.proofs.ClashLemmas.{apart_set, others_apart}
use Rattle.run_audit_machines.proofs.HolderLemmas.{apart_by_slots}
use Rattle.run_audit_machines.proofs.LimitStepLemmas.{groups_set}
use Rattle.run_audit_passes.specs.LimitTable.{ChangesAll, ChangesGroups, ChangesSeats, ChangesTable, StandsAlone}
use Rattle.run_audit_passes.specs.LimitTable.{IsTable, TakesAll}
use Rattle.run_audit_passes.specs.LimitTable.{TakesGroups, TakesSeat, seat_at, seat_set, seats_from, seats_now}
use Rattle.run_audit_passes.specs.declared.limit_table.LimitTable.{LimitTable}
use Rattle.run_audit_passes.specs.declared.seat_told.SeatTold.{SeatTold}
use Rattle.run_audit_passes.proofs.HeldLemmas.{set_same}

-- ---- the seats, by what is kept of each place

pub seats_at : (told : ℕ → Option SeatTold) (first place : ℕ) (tests : List PlanTest) (test : PlanTest)
    → slice_get tests place ≡ Some test
    → slice_get (seats_from told first tests) place ≡ Some (test, seat_at told (first + place))
seats_at told first place [] test is = absurd (true≢false (ap is_some (sym is)))
seats_at told first zero (t ∷ tests) test is =
    let there : first ≡ first + 0 = omega arith in
    ap Some (ap₂ (λ x n. (x, seat_at told n)) (same_Some t test is) there)
seats_at told first (suc place) (t ∷ tests) test is =
    let there : suc first + place ≡ first + suc place = omega arith in
    seats_at told (suc first) place tests test is ∙ ap (λ n. Some (test, seat_at told n)) there

others_left : (told after : ℕ → Option SeatTold) (first : ℕ) (tests : List PlanTest)
    → ((q : ℕ) → first ≤ q → seat_at after q ≡ seat_at told q)
    → seats_from after first tests ≡ seats_from told first tests
others_left told after first [] same = refl
others_left told after first (t ∷ tests) same =
    ap₂ (λ seat seats. (t, seat) ∷ seats) (same first (omega arith))
    (others_left told after (suc first) tests (λ q from. same q (omega (arith, from))))

pub seats_put : (told after : ℕ → Option SeatTold) (first place : ℕ) (tests : List PlanTest) (test : PlanTest)
    (new : Seat) → slice_get tests place ≡ Some test → seat_at after (first + place) ≡ new
    → ((q : ℕ) → (q ≡ first + place → ⊥) → seat_at after q ≡ seat_at told q)
    → seats_from after first tests ≡ set (seats_from told first tests) place (test, new)
seats_put told after first place [] test new is own same = absurd (true≢false (ap is_some (sym is)))
seats_put told after first zero (t ∷ tests) test new is own same =
    let there : first ≡ first + 0 = omega arith in
    ap₂ (λ x seats. x ∷ seats) (ap₂ (λ x seat. (x, seat)) (same_Some t test is) (ap (seat_at after) there ∙ own))
    (others_left told after (suc first) tests (λ q from. same q (λ e. omega (arith, from, e))))
seats_put told after first (suc place) (t ∷ tests) test new is own same =
    let there : suc first + place ≡ first + suc place = omega arith in
    ap₂ (λ seat seats. (t, seat) ∷ seats) (same first (λ e. omega (arith, e)))
    (seats_put told after (suc first) place tests test new is (ap (seat_at after) there ∙ own)
    (λ q other. same q (λ e. other (e ∙ sym there))))

-- of what is kept of each place once one was put
pub seats_are_put : (told after : ℕ → Option SeatTold) (place : ℕ) (tests : List PlanTest) (test : PlanTest)
    (new : Seat) → slice_get tests place ≡ Some test
    → ((q : ℕ) → seat_at after q ≡ cond (nat_eq place q) new (seat_at told q))
    → seats_from after 0 tests ≡ set (seats_from told 0 tests) place (test, new)
seats_are_put told after place tests test new is put =
    let there : place ≡ 0 + place = omega arith in
    seats_put told after 0 place tests test new is
    (ap (seat_at after) (sym there) ∙ put place
    ∙ ap (λ b. cond b new (seat_at told place)) ((Decides-eqb place place).1 refl))
    (λ q other. put q ∙ by q other (nat_eq place q) refl)
  where
    by : (q : ℕ) → (q ≡ 0 + place → ⊥) → (b : Bool) → nat_eq place q ≡ b → cond b new (seat_at told q) ≡ seat_at told q
    by q other true is = absurd (other (let same = (Decides-eqb place q).0 is in omega (arith, same)))
    by q other false is = refl

pub seat_there : (told : ℕ → Option SeatTold) (place : ℕ) (tests : List PlanTest) (test : PlanTest)
    → slice_get tests place ≡ Some test
    → slice_get (seats_from told 0 tests) place ≡ Some (test, seat_at told place)
seat_there told place tests test is =
    let there : 0 + place ≡ place = omega arith in
    seats_at told 0 place tests test is ∙ ap (λ n. Some (test, seat_at told n)) there

-- and back
seats_read : (told : ℕ → Option SeatTold) (first place : ℕ) (tests : List PlanTest) (s : Seated)
    → slice_get (seats_from told first tests) place ≡ Some s
    → (slice_get tests place ≡ Some s.0) × (seat_at told (first + place) ≡ s.1)
seats_read told first place [] s is = absurd (true≢false (ap is_some (sym is)))
seats_read told first zero (t ∷ tests) s is =
    let same = same_Some (t, seat_at told first) s is in
    let there : first + 0 ≡ first = omega arith in
    (ap (λ x. Some x.0) same, ap (seat_at told) there ∙ ap (λ x. x.1) same)
seats_read told first (suc place) (t ∷ tests) s is =
    let more = seats_read told (suc first) place tests s is in
    let there : first + suc place ≡ suc first + place = omega arith in
    (more.0, ap (seat_at told) there ∙ more.1)

pub seat_read : (told : ℕ → Option SeatTold) (place : ℕ) (tests : List PlanTest) (s : Seated)
    → slice_get (seats_from told 0 tests) place ≡ Some s
    → (slice_get tests place ≡ Some s.0) × (seat_at told place ≡ s.1)
seat_read told place tests s is =
    let both = seats_read told 0 place tests s is in
    let there : place ≡ 0 + place = omega arith in
    (both.0, ap (seat_at told) there ∙ both.1)

pub seats_long : (told : ℕ → Option SeatTold) (first : ℕ) (tests : List PlanTest)
    → length (seats_from told first tests) ≡ length tests
seats_long told first [] = refl
seats_long told first (t ∷ tests) = ap suc (seats_long told (suc first) tests)

pub there_within : {X : Type 0} (xs : List X) (place : ℕ) → place < length xs → (x : X) × (slice_get xs place ≡ Some x)
there_within [] place within = absurd (omega (arith, within))
there_within (x ∷ xs) zero within = (x, refl)
there_within (x ∷ xs) (suc place) within = there_within xs place (omega (arith, within))

-- ---- while all limits are kept, no two have the same slot

pub are_own : (now : SeatsNow) (place : ℕ) (s : Seated) → keeps_seats now ≡ true → slice_get now.seats place ≡ Some s
    → StandsAlone nat_eq slot_told now.seats place s
    × StandsAlone same_slot (own_group_slot now.settings.plan.groups) now.seats place s
are_own now place s kept is =
    let groups = now.settings.plan.groups in
    let parts = and_parts (nat_le (sum_by (seat_weight now.settings.threads) now.seats) now.settings.threads) _ kept in
    let more = and_parts (list_all (λ group. keeps_limit now.seats group.name (group_named group.name groups)) groups)
    (are_apart groups now.seats) parts.1 in
    let free = and_parts (is_slot_free nat_eq slot_told (slot_told s) place now.seats)
    (is_slot_free same_slot (own_group_slot groups) (own_group_slot groups s) place now.seats)
    (sym (apart_by_slots groups s place now.seats) ∙ sym (apart_set groups now.seats place s s more.1 is)
    ∙ ap (are_apart groups) (set_same now.seats place s is) ∙ more.1) in
    (record { there = is; free = free.0 }, record { there = is; free = free.1 })

-- ---- whether all limits are kept once a seat was set

pub kept_set : (now : SeatsNow) (place : ℕ) (test : PlanTest) (old new : Seat) → keeps_seats now ≡ true
    → slice_get now.seats place ≡ Some (test, old) → keeps_seats (seat_set now place (test, new))
    ≡ (nat_le (sum_by (seat_weight now.settings.threads) (set now.seats place (test, new))) now.settings.threads
    && (keeps_own now.settings.plan.groups (set now.seats place (test, new)) test.group
    && others_apart now.settings.plan.groups (test, new) place now.seats))
kept_set now place test old new kept is =
    let groups = now.settings.plan.groups in
    let parts = and_parts (nat_le (sum_by (seat_weight now.settings.threads) now.seats) now.settings.threads) _ kept in
    let more = and_parts (list_all (λ group. keeps_limit now.seats group.name (group_named group.name groups)) groups)
    (are_apart groups now.seats) parts.1 in
    ap₂ (λ a b. nat_le (sum_by (seat_weight now.settings.threads) (set now.seats place (test, new)))
    now.settings.threads && (a && b))
    (groups_set groups now.seats place test old new more.0 is)
    (apart_set groups now.seats place (test, old) (test, new) more.1 is)

sorted_out : (f n g o : Bool) → ((f && n) && (g && o)) ≡ (n && (o && (f && g)))
sorted_out true true true true = refl
sorted_out true true true false = refl
sorted_out true true false true = refl
sorted_out true true false false = refl
sorted_out true false g o = refl
sorted_out false true g true = refl
sorted_out false true g false = refl
sorted_out false false g o = refl

pub seat_taken : (p : Settings) (before after : LimitTable) (place : ℕ) (new : Seated) (all groups kept : Bool)
    → IsTable p before → slice_get p.plan.tests place ≡ Some new.0
    → ChangesAll p.threads after.all new all (seats_now p before.told).seats place
    → ChangesGroups p.plan.groups after.groups new groups (seats_now p before.told).seats place
    → kept ≡ (all && groups) → after.told ≡ before.told → TakesSeat p before after place new kept
seat_taken p before after place new all groups kept table is alls group is_kept told =
    let now = seats_now p before.told in
    let there = seat_there (get nat_cmp before.told) place p.plan.tests new.0 is in
    record {
      all = alls.taken;
      groups = group.taken;
      right = is_kept ∙ ap₂ (λ a b. a && b) alls.right group.right
          ∙ sorted_out (is_slot_free nat_eq slot_told (slot_told new) place now.seats)
          (nat_le (sum_by (seat_weight p.threads) (set now.seats place new)) p.threads)
          (is_slot_free same_slot (own_group_slot p.plan.groups) (own_group_slot p.plan.groups new) place now.seats)
          (keeps_own p.plan.groups (set now.seats place new) new.0.group)
          ∙ ap (λ b. nat_le (sum_by (seat_weight p.threads) (set now.seats place new)) p.threads
          && (keeps_own p.plan.groups (set now.seats place new) new.0.group && b))
          (sym (apart_by_slots p.plan.groups new place now.seats))
          ∙ sym (kept_set now place new.0 (seat_at (get nat_cmp before.told) place) new.1 table.kept there);
      told = told;
    }

pub table_changed : (p : Settings) (before between after : LimitTable) (place : ℕ) (new : Seated) (kept : Bool)
    → slice_get p.plan.tests place ≡ Some new.0 → TakesSeat p before between place new kept
    → after.all ≡ between.all → after.groups ≡ between.groups
    → ((q : ℕ) → seat_at (get nat_cmp after.told) q
    ≡ cond (nat_eq place q) new.1 (seat_at (get nat_cmp between.told) q))
    → ChangesTable p before after place new kept
table_changed p before between after place new kept is takes all groups put =
    let now = seats_now p before.told in
    let seats : seats_now p after.told ≡ seat_set now place new =
    ap (λ seats. record { settings = p; seats = seats })
    (seats_are_put (get nat_cmp before.told) (get nat_cmp after.told) place p.plan.tests new.0 new.1 is
    (λ q. put q ∙ ap (λ told. cond (nat_eq place q) new.1 (seat_at (get nat_cmp told) q)) takes.told)) in
    record {
      right = takes.right;
      table = λ so. record {
        all = subst (λ s. TakesAll p.threads after.all s.seats) (sym seats)
            (subst (λ t. TakesAll p.threads t (seat_set now place new).seats) (sym all) takes.all);
        groups = subst (λ s. TakesGroups p.plan.groups after.groups s.seats) (sym seats)
            (subst (λ t. TakesGroups p.plan.groups t (seat_set now place new).seats) (sym groups) takes.groups);
        kept = ap keeps_seats seats ∙ sym takes.right ∙ so;
      };
      seats = seats;
    }

-- the same of the seats that contracts see
pub seats_changed : (p : Settings) (before after : LimitTable) (place : ℕ) (new : Seat) (kept : Bool) (now : SeatsNow)
    → seats_now p before.told ≡ now
    → ((test : PlanTest) → slice_get p.plan.tests place ≡ Some test
    → ChangesTable p before after place (test, new) kept)
    → ChangesSeats now (seats_now p after.told) place new kept
seats_changed p before after place new kept now is changes =
    subst (λ now. ChangesSeats now (seats_now p after.told) place new kept) is (λ s at.
    let change = changes s.0 (seat_read (get nat_cmp before.told) place p.plan.tests s at).0 in
    (change.right, λ so. change.seats))

not_kept : (kept : Bool) → not kept ≡ false → kept ≡ true
not_kept true is = refl
not_kept false is = sym is

pub table_whole : (p : Settings) (before after : LimitTable) (place : ℕ) (new : Seat) (kept : Bool)
    → place < length p.plan.tests
    → ((test : PlanTest) → slice_get p.plan.tests place ≡ Some test
    → ChangesTable p before after place (test, new) kept)
    → not kept ≡ false → IsTable p after
table_whole p before after place new kept within changes is =
    let there = there_within p.plan.tests place within in (changes there.0 there.1).table (not_kept kept is)
