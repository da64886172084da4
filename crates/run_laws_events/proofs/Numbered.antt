-- The attempts of a unit that have ended are numbered from 1 on.
use Rattle.std.specs.Prelude.{⊤}
use Rattle.std.proofs.Common.{◌≡◌, ℕ, ◌+◌, ◌≤◌, List, [], ◌∷◌, ◌++◌, map, length, Bool, true, false, if◌then◌else◌}
use Rattle.std.proofs.Common.{refl, ap, sym, subst, ◌∙◌, arith, append-nil, length-append}
use Rattle.std.proofs.lemmas.List.{length-map, map-append}
use Rattle.run_events.specs.declared.result.ExecuteStatus.{ExecuteStatus}
use Rattle.run_model.specs.declared.phase.Phase.{Phase}
use Rattle.run_model.specs.declared.phase.Phase.TheVariants.{StartSent, Starting, Running, Grace, KillWait, Leak}
use Rattle.run_model.specs.declared.phase.Phase.TheVariants.{EnvWait, Deciding, Delay, RetrySent, Over}
use Rattle.run_model.specs.declared.unit_view.AttemptTerms.{AttemptTerms}
use Rattle.run_model.specs.declared.unit_view.UnitView.{UnitView}
use Rattle.run_model.specs.Accounts.{News, HasAccountAt}
use Rattle.run_model.specs.Attempts.{attempt_in, ended_statuses, has_ended}
use Rattle.run_model.specs.Story.{Attempt, cut}
use Rattle.run_laws.proofs.units.AttemptLemmas.{HasPieces, IsMade}
use Rattle.run_laws.proofs.units.GoingLemmas.{next_status}
use Rattle.run_laws.proofs.board.Holds.{IsOnWayAt, IsOnWayIn, Way}

-- numbers from a on
abbrev pub AreFrom : ℕ → List ℕ → Type 0
AreFrom a [] = ⊤
AreFrom a (n ∷ ns) = (n ≡ a) × AreFrom (a + 1) ns

from_append : (a m : ℕ) (ns : List ℕ) → AreFrom a ns → m ≡ a + length ns → AreFrom a (ns ++ m ∷ [])
from_append a m [] h is = (omega arith, tt)
from_append a m (n ∷ ns) h is = (h.0, from_append (a + 1) m ns h.1 (omega arith))

pub from_split : (a : ℕ) (ns : List ℕ) (m : ℕ) → AreFrom a (ns ++ m ∷ []) → AreFrom a ns × (m ≡ a + length ns)
from_split a [] m h = let first : m ≡ a = h.0 in (tt, omega arith)
from_split a (n ∷ ns) m h =
    let rest = from_split (a + 1) ns m h.1 in let last : m ≡ (a + 1) + length ns = rest.1 in
    ((h.0, rest.0), omega arith)

-- the attempts of a unit that have ended are numbered so
abbrev pub attempts_of : List ExecuteStatus → List ℕ
attempts_of statuses = map (λ s. s.attempt) statuses

few_ended : (terms : AttemptTerms) (ps : List Attempt) → length (ended_statuses terms ps) ≤ length ps
few_ended terms [] = omega arith
few_ended terms (cut piece after ∷ earlier) = by_end (has_ended terms piece) (few_ended terms earlier)
  where
    by_end : (b : Bool) → length (ended_statuses terms earlier) ≤ length earlier
        → length (ended_statuses terms earlier ++ (if b then next_status terms piece earlier ∷ [] else []))
        ≤ length (cut piece after ∷ earlier)
    by_end true few = omega (arith, length-append (ended_statuses terms earlier) (next_status terms piece earlier ∷ []))
    by_end false few = omega (arith, length-append {A = ExecuteStatus} (ended_statuses terms earlier) [])

all_numbered : (terms : AttemptTerms) (ps : List Attempt) → length (ended_statuses terms ps) ≡ length ps
    → AreFrom 1 (attempts_of (ended_statuses terms ps))
all_numbered terms [] all = tt
all_numbered terms (cut piece after ∷ earlier) all =
    by_end (has_ended terms piece) (few_ended terms earlier) (all_numbered terms earlier) all
  where
    status : ExecuteStatus
    status = next_status terms piece earlier

    before : List ExecuteStatus
    before = ended_statuses terms earlier

    by_end : (b : Bool) → length before ≤ length earlier
        → (length before ≡ length earlier → AreFrom 1 (attempts_of before))
        → length (before ++ (if b then status ∷ [] else [])) ≡ length (cut piece after ∷ earlier)
        → AreFrom 1 (attempts_of (before ++ (if b then status ∷ [] else [])))
    by_end true few rest all =
        let many : length before ≡ length earlier = omega (arith, length-append before (status ∷ [])) in
        subst (AreFrom 1) (sym (map-append (λ (s : ExecuteStatus). s.attempt) before (status ∷ [])))
        (from_append 1 status.attempt (attempts_of before) (rest many)
        (omega (arith, length-map before (λ (s : ExecuteStatus). s.attempt))))
    by_end false few rest all =
        let many : length before ≡ length earlier + 1 = ap length (sym (append-nil before)) ∙ all ∙ add_one earlier in
        absurd (omega arith)
      where
        add_one : (earlier : List Attempt) → length (cut piece after ∷ earlier) ≡ length earlier + 1
        add_one earlier = omega arith

abbrev pub IsNumbered : UnitView → Type 0
IsNumbered u = AreFrom 1 (attempts_of u.statuses)

numbered : (terms : AttemptTerms) (u : UnitView) (ps : List Attempt) → u.statuses ≡ ended_statuses terms ps
    → length u.statuses ≡ length ps → IsNumbered u
numbered terms u ps is many =
    subst (λ ss. AreFrom 1 (attempts_of ss)) (sym is) (all_numbered terms ps (sym (ap length is) ∙ many))

pub in_phase : (terms : AttemptTerms) (retries : ℕ) (ph : Phase) (u : UnitView) (ps : List Attempt)
    (ss : List ExecuteStatus)
    (w : Way) → ss ≡ u.statuses → u.attempt ≡ attempt_in ps → HasPieces terms ph u ps
    → IsOnWayIn retries ph u.attempt ss w → IsNumbered u
in_phase terms retries StartSent u ps ss w same at h way =
    subst (λ ss. AreFrom 1 (attempts_of ss)) (sym way.2 ∙ same) tt
in_phase terms retries Starting u (cut piece [] ∷ earlier) ss w same at h way =
    let many : u.attempt ≡ length ss + 1 = way.1 in
    numbered terms u earlier h.1.0 (omega (arith, ap length same))
in_phase terms retries Running u (cut piece [] ∷ earlier) ss w same at h way =
    let many : u.attempt ≡ length ss + 1 = way.1 in
    numbered terms u earlier h.1.0 (omega (arith, ap length same))
in_phase terms retries Grace u (cut piece [] ∷ earlier) ss w same at h way =
    let many : u.attempt ≡ length ss + 1 = way.1 in
    numbered terms u earlier h.1.0 (omega (arith, ap length same))
in_phase terms retries KillWait u (cut piece [] ∷ earlier) ss w same at h way =
    let many : u.attempt ≡ length ss + 1 = way.1 in
    numbered terms u earlier h.1.0 (omega (arith, ap length same))
in_phase terms retries Leak u (cut piece [] ∷ earlier) ss w same at h way =
    let many : u.attempt ≡ length ss + 1 = way.1 in
    numbered terms u earlier h.1.0 (omega (arith, ap length same))
in_phase terms retries EnvWait u (cut piece [] ∷ earlier) ss w same at h way =
    let many : u.attempt ≡ length ss + 1 = way.1 in
    numbered terms u earlier h.1.0 (omega (arith, ap length same))
in_phase terms retries Deciding u (cut piece [] ∷ earlier) ss w same at h way =
    let many : u.attempt ≡ length ss = way.1 in
    numbered terms u (cut piece [] ∷ earlier) h.1 (omega (arith, ap length same))
in_phase terms retries Delay u (cut piece (d ∷ after) ∷ earlier) ss w same at h way =
    let many : u.attempt ≡ length ss = way.1 in
    numbered terms u (cut piece [] ∷ earlier) h.0.0.1 (omega (arith, ap length same))
in_phase terms retries RetrySent u (cut piece (d ∷ after) ∷ earlier) ss w same at h way =
    let many : u.attempt ≡ length ss = way.1 in
    numbered terms u (cut piece [] ∷ earlier) h.0.0.1 (omega (arith, ap length same))
in_phase terms retries Over u ps [] w same at h way =
    subst (λ ss. AreFrom 1 (attempts_of ss)) same tt
in_phase terms retries Over u [] (s ∷ ss) w same at h way =
    subst (λ ss. AreFrom 1 (attempts_of ss)) (sym h) tt
in_phase terms retries Over u (cut piece (d ∷ after) ∷ earlier) (s ∷ ss) w same at h way =
    let many : u.attempt ≡ length (s ∷ ss) = way.0 in
    numbered terms u (cut piece [] ∷ earlier) h.0.1 (omega (arith, ap length same))
in_phase terms retries ph u ps ss w same at h way = absurd h

-- so are those of each unit
skipped_numbered : (left : Bool) (ph : Phase) (u : UnitView) (ss : List ExecuteStatus) (t q : List News)
    → ss ≡ u.statuses
    → HasAccountAt true left ph ss t q → IsNumbered u
skipped_numbered left Over u [] t q same h = subst (λ ss. AreFrom 1 (attempts_of ss)) same tt
skipped_numbered left Over u (s ∷ ss) t q same h = absurd h
skipped_numbered left ph u ss t q same h = absurd h

pub unit_numbered : (mm left : Bool) (terms : AttemptTerms) (u : UnitView) (ps : List Attempt) (t q : List News)
    (w : Way)
    → IsMade terms u ps → IsOnWayAt mm u w → HasAccountAt mm left u.phase u.statuses t q → IsNumbered u
unit_numbered true left terms u ps t q w made way h = skipped_numbered left u.phase u u.statuses t q refl h
unit_numbered false left terms u ps t q w made way h =
    in_phase terms _ u.phase u ps u.statuses w refl made.attempt made.has way
