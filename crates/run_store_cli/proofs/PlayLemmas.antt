-- How playing a store ends.
use Rattle.std.proofs.Common.{◌≡◌, ◌∙◌, ℕ, ◌+◌, ◌<◌, ◌≤◌, ◌^◌, ◌==◌, ◌&&◌, inl, inr, List, [], ◌∷◌, length}
use Rattle.std.proofs.Common.{Bool, true, false, not, Some, None, is_some, nat_le, Ok, Err, if◌then◌else◌}
use Rattle.std.proofs.Common.{refl, sym, ap, subst, arith}
use Rattle.std.specs.List.{list_all}
use Rattle.std.proofs.lemmas.Bool.Decides.{nat_tests}
use Rattle.run_events.specs.declared.plan.Plan.{Plan}
use Rattle.run_input.specs.declared.plan_line.RunnerKeys.{RunnerKeys}
use Rattle.run_input.specs.Lines.{lines_of, at_front}
use Rattle.run_input.specs.Input.{plan_line_of, IsInput}
use Rattle.run_output.specs.declared.fault.Fault.TheVariants as faults
use Rattle.run_store.specs.Records.{most_bytes}
use Rattle.run_store.specs.Stores.{whole, torn, no_plan, bad, IsReading, is_plan_payload}
use Rattle.run_capture.specs.Faults.{RoseExactlyIf}
use Rattle.run_store_io.specs.Reads.{ReadsStore, source_failed}
use Rattle.run_store_io.specs.declared.stored.Stored.{Stored}
use Rattle.run_store_io.specs.declared.error.StoreError.{StoreError}
use Rattle.run_store_io.specs.declared.error.StoreError.TheVariants as errors
use Rattle.run_store_io.specs.declared.fault_lines.StoreFault.TheVariants.{Torn, Bad}
use Rattle.run_cli.specs.Call.{Reading, Writing}
use Rattle.run_cli.proofs.GivenLemmas.{given_few}
use Rattle.run_cli.proofs.ShortLemmas.{short_written}
use Rattle.run_store_cli.specs.Ends.{EndsSo, EndsAtStore}
use Rattle.run_store_cli.specs.Plays.{IsStore, PlaysRead, PlaysSo}
use Rattle.run_store_cli.specs.Plays.{planless, bad_store, early}

-- a byte that is no line feed, at the front of one line
other_front : (b : ℕ) (rest : List ℕ) → (b == 10) ≡ false → lines_of (b ∷ rest) ≡ at_front b (lines_of rest)
other_front b rest e = rw e refl

-- the first of bytes that are no line feed is none, and no other is
no_feed : (b : ℕ) (bytes : List ℕ) → list_all (λ b. not (b == 10)) (b ∷ bytes) ≡ true
    → ((b == 10) ≡ false) × (list_all (λ b. not (b == 10)) bytes ≡ true)
no_feed b bytes none = by_test (b == 10) refl none
  where
    by_test : (x : Bool) → (b == 10) ≡ x → not x && list_all (λ b. not (b == 10)) bytes ≡ true
        → ((b == 10) ≡ false) × (list_all (λ b. not (b == 10)) bytes ≡ true)
    by_test true e none = cc
    by_test false e none = (e, none)

-- a line without a line feed is one line
one_line : (b : ℕ) (bytes : List ℕ) → list_all (λ b. not (b == 10)) (b ∷ bytes) ≡ true
    → lines_of (b ∷ bytes) ≡ (b ∷ bytes) ∷ []
one_line b [] none = other_front b [] (no_feed b [] none).0
one_line b (d ∷ rest) none =
    let parts = no_feed b (d ∷ rest) none in
    other_front b (d ∷ rest) parts.0 ∙ ap (at_front b) (one_line d rest parts.1)

-- what a plan line's record may have
and_first : (x y z : Bool) → x && (y && z) ≡ true → (x ≡ true) × (y ≡ true) × (z ≡ true)
and_first true true true e = (refl, refl, refl)
and_first true true false e = cc
and_first true false z e = cc
and_first false y z e = cc

-- a source of which nothing is told
abbrev unknown : Reading
unknown = record { left = None; left_after = None; faults = 0; faults_after = 0 }

-- a plan that a store's plan line says has few units
pub plan_few : (line : List ℕ) (keys : RunnerKeys) (plan : Plan) → is_plan_payload line ≡ true
    → plan_line_of line ≡ Some (keys, plan) → length plan.scripts + length plan.tests < 2 ^ 32
plan_few line keys plan payload says =
    let parts = and_first (is_some (plan_line_of line)) (list_all (λ b. not (b == 10)) line)
    (nat_le (length line) most_bytes) payload in
    by_line line parts.1 (grind (arith, nat_tests, parts.2)) says
  where
    by_line : (line : List ℕ) → list_all (λ b. not (b == 10)) line ≡ true → length line ≤ 2 ^ 24
        → plan_line_of line ≡ Some (keys, plan) → length plan.scripts + length plan.tests < 2 ^ 32
    by_line [] none within says =
        let input : IsInput ([] ∷ []) keys plan [] = (says, refl) in
        (given_few unknown keys plan [] (record {
          bytes = 10 ∷ [];
          given = refl;
          end = refl;
          within = omega arith;
          says = input;
        })).0
    by_line (b ∷ bytes) none within says =
        let input : IsInput ((b ∷ bytes) ∷ []) keys plan [] = (says, refl) in
        (given_few unknown keys plan [] (record {
          bytes = b ∷ bytes;
          given = refl;
          end = refl;
          within = omega (arith, within);
          says = subst (λ lines. IsInput lines keys plan []) (sym (one_line b bytes none)) input;
        })).0

-- what reading bytes with no plan, or a bad record, answered is what the source gave
pub gives_planless : (r : Reading) → ReadsStore r.left r.left_after (Err errors.NoPlan) → IsStore r no_plan
gives_planless r (bytes, given, end, within, read) =
    record { bytes = bytes; given = given; end = end; within = within; read = read }

pub gives_bad : (r : Reading) (place : ℕ) → ReadsStore r.left r.left_after (Err (errors.Bad place))
    → IsStore r (bad place)
gives_bad r place (bytes, given, end, within, read) =
    record { bytes = bytes; given = given; end = end; within = within; read = read }

-- a store that was read is storable
pub stored_few : (r : Reading) (s : Stored) → ReadsStore r.left r.left_after (Ok s)
    → (is_plan_payload s.plan ≡ true) × (length s.turns < 2 ^ 32)
stored_few r s (bytes, _, _, _, read) = by_whole s.whole read
  where
    by_whole : (b : Bool) → IsReading bytes (if b then whole s.plan s.turns else torn s.plan s.turns)
        → (is_plan_payload s.plan ≡ true) × (length s.turns < 2 ^ 32)
    by_whole true h = (h.storable.plan_line, h.storable.few)
    by_whole false h = (h.reaches.storable.plan_line, h.reaches.storable.few)

-- memory was wanting before a run was begun
pub memory_plays : (r : Reading) (w : Writing) (status : ℕ) → EndsSo w faults.Memory status → PlaysRead r w status
memory_plays r w status (inl (is, short)) = early (is, inl (faults.Memory, short))
memory_plays r w status (inr (is, le, writes)) = early (is, inl (faults.Memory, short_written [] w writes))

-- the same, where the source may have failed
pub other_plays : (r : Reading) (w : Writing) (status : ℕ) (e : StoreError)
    → RoseExactlyIf (source_failed {T = Stored} (Err e)) r.faults r.faults_after → EndsSo w faults.Memory status
    → PlaysSo r w status
other_plays r w status errors.Read (le, rose) (inl (is, short)) =
    inl (inr (rose, (is, inl (faults.Memory, short))))
other_plays r w status errors.Read (le, rose) (inr (is, le2, writes)) =
    inl (inr (rose, (is, inl (faults.Memory, short_written [] w writes))))
other_plays r w status errors.Write h end = inr (h, memory_plays r w status end)
other_plays r w status errors.Closed h end = inr (h, memory_plays r w status end)
other_plays r w status errors.TooLong h end = inr (h, memory_plays r w status end)
other_plays r w status (errors.Bad place) h end = inr (h, memory_plays r w status end)
other_plays r w status errors.NoPlan h end = inr (h, memory_plays r w status end)
other_plays r w status errors.OutOfMemory h end = inr (h, memory_plays r w status end)

-- the bytes have no plan
pub planless_plays : (r : Reading) (w : Writing) (status : ℕ) → IsStore r no_plan → EndsAtStore w [] (Torn 0) status
    → PlaysRead r w status
planless_plays r w status s (inl (is, short)) = early (is, inr (Torn 0, short))
planless_plays r w status s (inr (is, le, writes)) = planless (is, s, writes)

-- a record is bad
pub bad_plays : (r : Reading) (w : Writing) (status place : ℕ) → IsStore r (bad place)
    → EndsAtStore w [] (Bad place) status → PlaysRead r w status
bad_plays r w status place s (inl (is, short)) = early (is, inr (Bad place, short))
bad_plays r w status place s (inr (is, le, writes)) = bad_store (place, is, s, writes)
