-- The lines, as a test is skipped and runs.
use Rattle.std.proofs.Common.{◌≡◌, ◌≢◌, ℕ, zero, suc, ◌<◌, List, [], ◌∷◌, length, get_or, set, map}
use Rattle.std.proofs.Common.{Bool, true}
use Rattle.std.proofs.Common.{if◌then◌else◌, Some}
use Rattle.std.specs.Option.{option_map_or}
use Rattle.std.proofs.Common.{nat_lt, ◌≤◌}
use Rattle.std.proofs.Common.{false, ◌-◌, Option, replicate, slice_get, refl, ap, sym, subst}
use Rattle.std.proofs.Common.{◌∙◌, arith, get_or-set_other}
use Rattle.std.proofs.Math.ListN.{length-set}
use Rattle.std.proofs.lemmas.List.{length-map}
use Rattle.run_admission.specs.declared.seat.Claim.{Claim}
use Rattle.run_admission.specs.declared.seat.Seat.{Seat}
use Rattle.run_admission.specs.declared.seat.Seat.TheVariants.{Waiting, InUse, Gone}
use Rattle.run_admission.specs.declared.seat.Candidate.TheVariants.{Skip, Fits}
use Rattle.run_admission.specs.InUse.{candidate, is_waiting}
use Rattle.run_admission.specs.Kept.{Use, IsWhole, nobody, comes, seen, free_in, free_within, take_of, take_in}
use Rattle.run_admission.specs.Lined.{Queue, Queues, IsFirst, IsLined, IsLineup, IsQueued, IsReady, empty}
use Rattle.run_admission.specs.Lined.{without, line_of, room_of}
use Rattle.run_admission.proofs.LineLemmas.{AreWithin, comes_other, head_is, line_inside, lined_leave}
use Rattle.run_admission.specs.Ordered.{IsOrder, at_places}
use Rattle.run_admission.proofs.NextLemmas.{IsPlace, get_at_places, length_at_places, places_apart, set_at_places}
use Rattle.run_admission.proofs.NextLemmas.{waiting_at_places}
use Rattle.run_admission.proofs.QueueLemmas.{AreThere, queued_after, take_other}
use Rattle.run_admission.proofs.WaitLemmas.{one_fewer}
use Rattle.run_admission.proofs.WholeLemmas.{CanRun, skip_whole}
use Rattle.run_admission.proofs.RuleLemmas.{can_skip, can_run, run_kept, limits_take}

pub within_of : (waiting : ℕ) (whole : Use) (us : List Use) (claims : List Claim) (seats : List Seat)
    → IsWhole waiting whole us claims seats → AreWithin us
within_of waiting whole us claims seats w g u e = (w.groups g u e).within

-- as many groups where the limits are the same
pub same_many : (us afters : List Use) → map (λ u. u.limit) afters ≡ map (λ u. u.limit) us → length afters ≡ length us
same_many us afters is =
    omega (arith, ap length is, length-map afters (λ (u : Use). u.limit), length-map us (λ (u : Use). u.limit))

-- a test leaves its line, as its group's limit changes or stays
pub queued_leave : (us afters : List Use) (claims : List Claim) (seats : List Seat) (q : Queues) (t line room first : ℕ)
    (s : Seat) (lines : List Queue) → length claims ≡ length seats → AreThere us claims → IsQueued us claims seats q
    → map (λ u. u.limit) afters ≡ map (λ u. u.limit) us → AreWithin afters → t < length claims → is_waiting s ≡ false
    → line ≡ line_of (map (λ u. u.limit) us) (get_or claims t nobody.0)
    → ((g : ℕ) → g ≢ line → slice_get afters g ≡ slice_get us g)
    → lines ≡ set q.lines line (without (get_or q.lines line empty) (get_or q.places t 0))
    → room ≡ room_of afters line → IsFirst (get_or lines line empty) room first
    → IsQueued afters claims (set seats t s)
    (record { lines = lines; places = q.places; firsts = set q.firsts line first })
queued_leave us afters claims seats q t line room first s lines paired there queued limits within inside gone of others
    is left found =
    queued_after us afters claims seats (set seats t s) q lines line first queued limits lined low same
    (head_is afters (map (λ u. u.limit) us) claims (set seats t s) lines q.places line room first limits within
    (λ k g e. omega (arith, there k g e, same_many us afters limits)) lined low left found)
  where
    known : line_of (map (λ u. u.limit) us) (get_or claims t nobody.0) < length q.lines
    known =
        omega (
          arith,
          line_inside (map (λ (u : Use). u.limit) us) (get_or claims t nobody.0)
              (λ g e. omega (arith, there t g e, length-map us (λ (u : Use). u.limit))),
          queued.lined.count,
        )

    lined : IsLined (map (λ u. u.limit) us) claims (set seats t s) lines q.places
    lined =
        subst (λ l. IsLined (map (λ u. u.limit) us) claims (set seats t s) l q.places)
        (sym (is ∙ ap (λ x. set q.lines x (without (get_or q.lines x empty) (get_or q.places t 0))) of))
        (lined_leave (map (λ u. u.limit) us) claims seats q.lines q.places t s queued.lined paired inside known gone)

    low : line < length lines
    low =
        omega (
          arith,
          known,
          of,
          ap length is,
          length-set q.lines line (without (get_or q.lines line empty) (get_or q.places t 0)),
        )

    same : (k : ℕ) → k < length claims → line_of (map (λ u. u.limit) us) (get_or claims k nobody.0) ≢ line
        → comes afters (get_or claims k nobody.0, get_or (set seats t s) k Gone)
        ≡ comes us (get_or claims k nobody.0, get_or seats k Gone)
    same k k_in apart =
        let other : k ≢ t =
        λ e. apart (ap (λ k. line_of (map (λ (u : Use). u.limit) us) (get_or claims k nobody.0)) e ∙ sym of) in
        ap (λ s. comes afters (get_or claims k nobody.0, s)) (get_or-set_other seats t k s Gone other)
        ∙ comes_other us afters (map (λ u. u.limit) us) line (get_or claims k nobody.0) (get_or seats k Gone) others
        apart

-- the line of a test that matches is that of its group
pub line_matched : (limits : List ℕ) (c : Claim) (g : ℕ) → c.matched ≡ true → c.group ≡ Some g → line_of limits c ≡ g
line_matched limits c g is of =
    ap (λ m. if m then option_map_or (λ g. g) c.group (length limits) else length limits) is
    ∙ ap (λ o. option_map_or (λ g. g) o (length limits)) of

-- what the tests claim, and where they stand, in the order in which they come
pub claim_there : (claims : List Claim) (order : List ℕ) (r t : ℕ) → IsPlace order r t
    → get_or (at_places nobody.0 claims order) r nobody.0 ≡ get_or claims t nobody.0
claim_there claims order r t at =
    get_at_places nobody.0 claims order r nobody.0 at.inside ∙ ap (λ k. get_or claims k nobody.0) at.is

pub queue_there : (us : List Use) (claims : List Claim) (order : List ℕ) → IsOrder claims order → AreThere us claims
    → AreThere us (at_places nobody.0 claims order)
queue_there us claims order h there r g e = by_place (nat_lt r (length order)) refl
  where
    past : (cs : List Claim) (r : ℕ) → length cs ≤ r → (get_or cs r nobody.0).group ≡ Some g → g < length us
    past [] r h e = cc
    past (c ∷ cs) zero h e = absurd (omega arith)
    past (c ∷ cs) (suc r) h e = past cs r (omega arith) e

    by_place : (b : Bool) → nat_lt r (length order) ≡ b → g < length us
    by_place true i =
        let inside : r < length order = grind (arith, i) in
        there (get_or order r 0) g
        (ap (λ (c : Claim). c.group)
        (sym (claim_there claims order r (get_or order r 0) (record { inside = inside; is = refl })))
        ∙ e)
    by_place false i =
        past (at_places nobody.0 claims order) r (grind (arith, i, length_at_places nobody.0 claims order)) e

pub queue_paired : (claims : List Claim) (seats : List Seat) (order : List ℕ)
    → length (at_places nobody.0 claims order) ≡ length (at_places Gone seats order)
queue_paired claims seats order = length_at_places nobody.0 claims order ∙ sym (length_at_places Gone seats order)

-- after the test at a place of the order moved to another seat
pub queue_set : (claims : List Claim) (seats : List Seat) (order : List ℕ) (r t : ℕ) (s : Seat)
    → length claims ≡ length seats → IsOrder claims order → IsPlace order r t
    → at_places Gone (set seats t s) order ≡ set (at_places Gone seats order) r s
queue_set claims seats order r t s paired h at =
    set_at_places Gone seats order r t s at.inside (omega (arith, h.known r at.inside, at.is, paired)) at.is
    (λ p inside apart same. places_apart claims order r p h at.inside inside apart (same ∙ sym at.is))

-- a test stands in its line
pub record InLine (q : Queues) (t line : ℕ) : Type 0 where
  pub low : line < length q.lines
  pub known : t < length q.places
  pub here : get_or q.places t 0 < length (get_or q.lines line empty).tests

pub in_line : (waiting : ℕ) (whole : Use) (us : List Use) (q : Queues) (order : List ℕ) (claims : List Claim)
    (seats : List Seat) (r t line : ℕ) → IsReady waiting whole us q order claims seats → IsPlace order r t
    → line ≡ line_of (map (λ u. u.limit) us) (get_or claims t nobody.0) → InLine q r line
in_line waiting whole us q order claims seats r t line w at of =
    let queue : List Claim = at_places nobody.0 claims order in
    let own : line ≡ line_of (map (λ (u : Use). u.limit) us) (get_or queue r nobody.0) =
    of ∙ ap (line_of (map (λ (u : Use). u.limit) us)) (sym (claim_there claims order r t at)) in
    let within : r < length queue = omega (arith, at.inside, length_at_places nobody.0 claims order) in
    record {
      low =
          omega (
            arith,
            line_inside (map (λ (u : Use). u.limit) us) (get_or queue r nobody.0)
                (λ g e. omega (
                  arith,
                  queue_there us claims order w.ordered w.kept.members r g e,
                  length-map us (λ (u : Use). u.limit),
                )),
            w.queued.lined.count,
            own,
          );
      known = omega (arith, w.queued.lined.all, within);
      here = omega (
        arith,
        w.queued.lined.inside r within,
        ap (λ l. length (get_or q.lines l empty).tests) own,
      );
    }

-- the lines after a test left its own
leave_queued : (us afters : List Use) (q next after : Queues) (claims : List Claim) (seats : List Seat)
    (t line room : ℕ) (s : Seat) → length claims ≡ length seats → AreThere us claims → IsQueued us claims seats q
    → map (λ u. u.limit) afters ≡ map (λ u. u.limit) us → AreWithin afters → t < length claims → is_waiting s ≡ false
    → line ≡ line_of (map (λ u. u.limit) us) (get_or claims t nobody.0)
    → ((g : ℕ) → g ≢ line → slice_get afters g ≡ slice_get us g)
    → next ≡ record q { lines = set q.lines line (without (get_or q.lines line empty) (get_or q.places t 0)) }
    → room ≡ room_of afters line
    → (first : ℕ) × IsFirst (get_or next.lines line empty) room first
    × (after ≡ record next { firsts = set next.firsts line first })
    → IsQueued afters claims (set seats t s) after
leave_queued us afters q next after claims seats t line room s paired there queued limits within inside gone of others
    is left found =
    subst (IsQueued afters claims (set seats t s))
    (sym (found.2 ∙ ap (λ (x : Queues). renewed next.lines x line found.0) is))
    (queued_leave us afters claims seats q t line room found.0 s next.lines paired there queued limits
    within inside gone of others (ap (λ (x : Queues). x.lines) is) left found.1)
  where
    renewed : List Queue → Queues → ℕ → ℕ → Queues
    renewed lines x line first = record { lines = lines; places = x.places; firsts = set x.firsts line first }

-- the lines after the test at a place of the order left its own
leave_order : (waiting : ℕ) (whole : Use) (us afters : List Use) (q next after : Queues) (order : List ℕ)
    (claims : List Claim) (seats : List Seat) (r t line room : ℕ) (s : Seat)
    → IsReady waiting whole us q order claims seats → IsPlace order r t
    → map (λ u. u.limit) afters ≡ map (λ u. u.limit) us → AreWithin afters → is_waiting s ≡ false
    → line ≡ line_of (map (λ u. u.limit) us) (get_or claims t nobody.0)
    → ((g : ℕ) → g ≢ line → slice_get afters g ≡ slice_get us g)
    → next ≡ record q { lines = set q.lines line (without (get_or q.lines line empty) (get_or q.places r 0)) }
    → room ≡ room_of afters line
    → (first : ℕ) × IsFirst (get_or next.lines line empty) room first
    × (after ≡ record next { firsts = set next.firsts line first })
    → IsQueued afters (at_places nobody.0 claims order) (at_places Gone (set seats t s) order) after
leave_order waiting whole us afters q next after order claims seats r t line room s w at limits within gone of others
    leaves left found =
    subst (λ ss. IsQueued afters (at_places nobody.0 claims order) ss after)
    (sym (queue_set claims seats order r t s w.kept.paired w.ordered at))
    (leave_queued us afters q next after (at_places nobody.0 claims order) (at_places Gone seats order) r line room s
    (queue_paired claims seats order) (queue_there us claims order w.ordered w.kept.members) w.queued limits within
    (omega (arith, at.inside, length_at_places nobody.0 claims order)) gone
    (of ∙ ap (line_of (map (λ u. u.limit) us)) (sym (claim_there claims order r t at)))
    others leaves left found)

-- a test is skipped
pub skip_ready : (waiting : ℕ) (whole : Use) (us : List Use) (q next after : Queues) (order : List ℕ)
    (claims : List Claim) (seats : List Seat) (r t line room : ℕ) → IsReady waiting whole us q order claims seats
    → candidate (seen whole us claims seats) ≡ Some (Skip t) → IsPlace order r t
    → line ≡ line_of (map (λ u. u.limit) us) (get_or claims t nobody.0)
    → next ≡ record q { lines = set q.lines line (without (get_or q.lines line empty) (get_or q.places r 0)) }
    → room ≡ room_of us line
    → (first : ℕ) × IsFirst (get_or next.lines line empty) room first
    × (after ≡ record next { firsts = set next.firsts line first })
    → IsReady (waiting - 1) whole us after order claims (set seats t Gone)
skip_ready waiting whole us q next after order claims seats r t line room w is at of leaves left found =
    let can = can_skip waiting whole us claims seats t w.kept is in
    record {
      kept = skip_whole waiting (waiting - 1) whole us claims seats t w.kept can.0 can.1
          (omega (arith, w.kept.waits, one_fewer seats t Gone can.0 can.1 refl));
      ordered = w.ordered;
      queued = leave_order waiting whole us us q next after order claims seats r t line room Gone w at refl
          (within_of waiting whole us claims seats w.kept) refl of (λ g apart. refl) leaves left found;
    }

-- a test runs
pub run_ready : (waiting : ℕ) (whole after_whole : Use) (us afters : List Use) (q next after : Queues)
    (order : List ℕ) (claims : List Claim) (seats : List Seat) (r t n line room : ℕ) (m : Option ℕ) (claim : Claim)
    → IsReady waiting whole us q order claims seats → candidate (seen whole us claims seats) ≡ Some (Fits t)
    → IsPlace order r t → claim ≡ get_or claims t nobody.0 → n ≡ free_in whole → m ≡ free_within us claim.group
    → after_whole ≡ take_of whole t claim.weight → afters ≡ take_in us claim.group t claim.weight
    → line ≡ line_of (map (λ u. u.limit) us) (get_or claims t nobody.0)
    → next ≡ record q { lines = set q.lines line (without (get_or q.lines line empty) (get_or q.places r 0)) }
    → room ≡ room_of afters line
    → (first : ℕ) × IsFirst (get_or next.lines line empty) room first
    × (after ≡ record next { firsts = set next.firsts line first })
    → IsReady (waiting - 1) after_whole afters after order claims (set seats t (InUse n m))
run_ready waiting whole after_whole us afters q next after order claims seats r t n line room m claim w is at read slot
    within all parts of leaves left found =
    record {
      kept = kept;
      ordered = w.ordered;
      queued = leave_order waiting whole us afters q next after order claims seats r t line room (InUse n m) w at
          (ap (map (λ u. u.limit)) parts ∙ limits_take us claim.group t claim.weight)
          (within_of (waiting - 1) after_whole afters claims (set seats t (InUse n m)) kept) refl of
          (λ g apart. ap (λ l. slice_get l g) parts
          ∙ take_other us claim.group t claim.weight g
          (λ h e f. apart (f ∙ sym (of ∙ line_matched (map (λ u. u.limit) us) (get_or claims t nobody.0) h can.matched
          (sym (ap (λ (c : Claim). c.group) read) ∙ e)))))
          leaves left found;
    }
  where
    can : CanRun whole us claims seats t
    can = can_run waiting whole us claims seats t w.kept is

    kept : IsWhole (waiting - 1) after_whole afters claims (set seats t (InUse n m))
    kept =
        run_kept waiting (waiting - 1) whole after_whole us afters claims seats t n m claim
        w.kept is read slot within all
        parts (omega (arith, w.kept.waits, one_fewer seats t (InUse n m) can.inside can.waits refl))

-- the lines at first, as they were built
pub queued_begun : (us : List Use) (claims queue : List Claim) (order : List ℕ) (q : Queues)
    → queue ≡ at_places nobody.0 claims order → IsQueued us queue (replicate (length queue) Waiting) q
    → IsQueued us (at_places nobody.0 claims order) (replicate (length order) Waiting) q
queued_begun us claims queue order q also queued =
    subst (λ m. IsQueued us (at_places nobody.0 claims order) (replicate m Waiting) q)
    (length_at_places nobody.0 claims order) (subst (λ p. IsQueued us p (replicate (length p) Waiting) q) also queued)

-- and as they were read
pub queued_read : (us rooms : List Use) (claims plan : List Claim) (order : List ℕ) (n : ℕ) (q : Queues)
    (seats : List Seat) → rooms ≡ us → plan ≡ claims → IsLineup rooms plan order q → seats ≡ replicate n Waiting
    → n ≡ length claims → IsQueued us (at_places nobody.0 claims order) (at_places Gone seats order) q
queued_read us rooms claims plan order n q seats same also lined are all =
    let known : (r : ℕ) → r < length order → get_or order r 0 < n =
    λ r inside. omega (arith, lined.ordered.known r inside, all, ap length also) in
    subst (λ s. IsQueued us (at_places nobody.0 claims order) s q)
    (sym (ap (λ s. at_places Gone s order) are ∙ waiting_at_places n order known))
    (subst (λ p. IsQueued us (at_places nobody.0 p order) (replicate (length order) Waiting) q) also
    (subst (λ r. IsQueued r (at_places nobody.0 plan order) (replicate (length order) Waiting) q) same lined.queued))
