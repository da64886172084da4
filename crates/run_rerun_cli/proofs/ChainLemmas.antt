-- Reading a chain of stores.
use Rattle.std.proofs.Common.{◌≡◌, ◌∙◌, ℕ, zero, suc, ◌+◌, ◌-◌, ◌<◌, ◌≤◌, ◌⊎◌, inl, inr, List, [], ◌∷◌, ◌++◌, length}
use Rattle.std.proofs.Common.{map, take, get_or, option_map, Option, Some, None, IsSome, Result, Ok, Err, true, false}
use Rattle.std.proofs.Common.{Bool, refl, sym, ap, subst, arith, append_assoc, add-one}
use Rattle.std.specs.List.{All, slice_get}
use Rattle.std.proofs.lemmas.Option.{slice_get-map, slice_get_read}
use Rattle.std.proofs.lemmas.List.{append-nil, take_all}
use Rattle.run_capture.specs.Faults.{RoseExactlyIf}
use Rattle.run_events.specs.Stats.{last_or}
use Rattle.run_events.proofs.StatsLemmas.{last_or_read}
use Rattle.run_input.specs.Input.{plan_line_of}
use Rattle.run_rerun_cli.specs.declared.faults.FoundError.{FoundError}
use Rattle.run_rerun_cli.specs.declared.faults.FoundError.TheVariants as found
use Rattle.run_rerun_cli.specs.declared.faults.RerunFault.{RerunFault}
use Rattle.run_rerun.specs.declared.answers.StoredRun.{StoredRun}
use Rattle.run_rerun_cli.specs.declared.stores.Stores.{Ghosts as OfStores}
use Rattle.run_rerun_cli.specs.Chains.{HaveRuns, IsFirstFault, VisitsTo, newest_line}
use Rattle.run_rerun_cli.specs.Finds.{GivesError, VisitsOne, is_reading_error}
use Rattle.run_rerun_cli.specs.Found.{HasTests, ShowsFault}
use Rattle.run_rerun_cli.specs.Reads.{ReadSoFar, ReadsChain, TakesStore, chain_error}
use Rattle.run_rerun_cli.specs.RerunFaults.{is_reading_fault}
use Rattle.run_rerun_cli.specs.Shelves.{doing_of, shelf_of}
use Rattle.run_rerun_cli.specs.Visits.{StoreAct, DoesNext, opened, unopened, given_back, visits}

-- what is made of an item, where it is
pub item_at : {A B : Type 0} (f : A → B) (xs : List A) (n : ℕ) (x : A) (y : B) → n < length xs → x ≡ get_or xs n x
    → y ≡ f x → slice_get (map f xs) n ≡ Some y
item_at f xs n x y within is same =
    slice_get-map f xs n ∙ ap (option_map f) (slice_get_read xs (length xs) n x refl within is) ∙ ap Some (sym same)

-- one more of some items
pub take_next : {X : Type 0} (xs : List X) (n : ℕ) (x : X) → slice_get xs n ≡ Some x
    → take (n + 1) xs ≡ take n xs ++ x ∷ []
take_next [] n x is = cc
take_next (y ∷ ys) zero x is = cc
take_next (y ∷ ys) (suc n) x is =
    ap (λ k. take k (y ∷ ys)) (one_more n) ∙ ap (λ zs. y ∷ zs) (take_next ys n x is)
  where
    one_more : (n : ℕ) → suc n + 1 ≡ suc (n + 1)
    one_more n = omega arith

-- and one more run
have_next : (bytes : List ℕ → Option (List ℕ)) (names : List (List ℕ)) (runs : List StoredRun) (name : List ℕ)
    (run : StoredRun) → HaveRuns bytes names runs → HasTests (bytes name) run
    → HaveRuns bytes (names ++ name ∷ []) (runs ++ run ∷ [])
have_next bytes [] [] name run have one = (one, tt)
have_next bytes [] (r ∷ runs) name run have one = absurd have
have_next bytes (n ∷ names) [] name run have one = absurd have
have_next bytes (n ∷ names) (r ∷ runs) name run have one = (have.0, have_next bytes names runs name run have.1 one)

-- and one more visit
visits-append : (names : List (List ℕ)) (name : List ℕ)
    → visits (names ++ name ∷ []) ≡ visits names ++ opened name ∷ given_back ∷ []
visits-append [] name = refl
visits-append (n ∷ names) name = ap (λ acts. opened n ∷ given_back ∷ acts) (visits-append names name)

-- what was done, and then more
pub does_both : {S : Type 0} (did : S → List StoreAct → Type 0) (a b d : S) (xs ys : List StoreAct)
    → DoesNext did a b xs → DoesNext did b d ys → DoesNext did a d (xs ++ ys)
does_both did a b d xs ys first second =
    λ acts h. subst (did d) (append_assoc acts xs ys) (second (acts ++ xs) (first acts h))

-- nothing was done yet
pub reads_none : {T X : Type 0} (t : OfStores T X) (s : T) (names : List (List ℕ)) (runs : List StoredRun) → runs ≡ []
    → ReadSoFar names (shelf_of t s s) (doing_of t s s) runs 0
reads_none t s names runs none =
    record {
      have = subst (HaveRuns (t.bytes s) []) (sym none) tt;
      did = λ acts h. subst (t.did s) (sym (append-nil acts)) h;
      calm = refl;
    }

-- a store was visited next
visited : {T X : Type 0} (t : OfStores T X) (a b d : T) (names : List (List ℕ)) (count : ℕ) (name : List ℕ)
    → slice_get names count ≡ Some name → doing_of t a b (visits (take count names))
    → doing_of t b d (opened name ∷ given_back ∷ []) → doing_of t a d (visits (take (count + 1) names))
visited t a b d names count name at before next =
    let more = visits-append (take count names) name in
    let all = ap visits (take_next names count name at) in
    subst (doing_of t a d) (sym (all ∙ more))
    (does_both t.did a b d (visits (take count names)) (opened name ∷ given_back ∷ []) before next)

-- one more store has a run
pub reads_next : {T X : Type 0} (t : OfStores T X) (a b d : T) (names : List (List ℕ)) (count : ℕ) (name : List ℕ)
    (runs next : List StoredRun) → ReadSoFar names (shelf_of t a b) (doing_of t a b) runs count
    → t.bytes b name ≡ t.bytes a name → slice_get names count ≡ Some name
    → TakesStore (t.bytes b name) runs next (Ok tt) → t.faults d ≡ t.faults b
    → VisitsOne {T = Unit {0}} name (doing_of t b d) (Ok tt)
    → ReadSoFar names (shelf_of t a d) (doing_of t a d) next (count + 1)
reads_next t a b d names count name runs next h same at (run, one, adds) calm (inl did) =
    let here = subst (λ told. HasTests told run) same one in
    record {
      have = subst (λ ns. HaveRuns (t.bytes a) ns next) (sym (take_next names count name at))
          (subst (HaveRuns (t.bytes a) (take count names ++ name ∷ [])) (sym adds)
          (have_next (t.bytes a) (take count names) runs name run h.have here));
      did = visited t a b d names count name at h.did did;
      calm = calm ∙ h.calm;
    }
reads_next t a b d names count name runs next h same at takes calm (inr (is, did)) = cc

-- one has none
pub reads_fault : {T X : Type 0} (t : OfStores T X) (a b d : T) (names : List (List ℕ)) (count : ℕ) (name : List ℕ)
    (runs : List StoredRun) (e : FoundError) → ReadSoFar names (shelf_of t a b) (doing_of t a b) runs count
    → t.bytes b name ≡ t.bytes a name → slice_get names count ≡ Some name → GivesError (t.bytes b name) e
    → RoseExactlyIf (is_reading_error e) (t.faults b) (t.faults d)
    → VisitsOne {T = Unit {0}} name (doing_of t b d) (Err e)
    → ReadsChain names (shelf_of t a d) (doing_of t a d) (Err (chain_error count e))
reads_fault t a b d names count name runs (found.Fault fault) h same at shows rose did = (
  record {
    name = name;
    at = at;
    runs = runs;
    before = h.have;
    here = subst (λ told. ShowsFault told fault) same shows;
    counted = subst (λ n. RoseExactlyIf (is_reading_fault fault) n (t.faults d)) h.calm rose;
  },
  by_visit did,
)
  where
    by_visit : VisitsOne {T = Unit {0}} name (doing_of t b d) (Err (found.Fault fault))
        → VisitsTo names (doing_of t a d) count fault
    by_visit (inl done) = inl (visited t a b d names count name at h.did done)
    by_visit (inr (is, done)) =
        inr (
          cc,
          (
            name,
            at,
            does_both t.did a b d (visits (take count names)) (unopened name ∷ []) h.did done,
          ),
        )
reads_fault t a b d names count name runs found.OutOfMemory h same at shows rose (inl done) =
    ((count + 1, visited t a b d names count name at h.did done), rose ∙ h.calm)
reads_fault t a b d names count name runs found.OutOfMemory h same at shows rose (inr (is, done)) = cc

-- all have runs
pub reads_all : {T X : Type 0} (t : OfStores T X) (a b : T) (names : List (List ℕ)) (count : ℕ) (runs : List StoredRun)
    → length names ≤ count → ReadSoFar names (shelf_of t a b) (doing_of t a b) runs count
    → ReadsChain names (shelf_of t a b) (doing_of t a b) (Ok runs)
reads_all t a b names count runs all h =
    let whole = take_all count names all in (
      subst (λ ns. HaveRuns (t.bytes a) ns runs) whole h.have,
      subst (λ ns. doing_of t a b (visits ns)) whole h.did,
      h.calm,
    )

-- the plan line of the last of runs
last_line : (run : StoredRun) (runs : List StoredRun)
    → last_or run.line (map (λ run. run.line) runs) ≡ (last_or run runs).line
last_line run [] = refl
last_line run (next ∷ runs) = last_line next runs

pub newest_read : (runs : List StoredRun) (run : StoredRun) → slice_get runs (length runs - 1) ≡ Some run
    → run.line ≡ newest_line runs
newest_read [] run read = cc
newest_read (first ∷ runs) run read =
    ap (λ (r : StoredRun). r.line) (last_or_read first (first ∷ runs) run read) ∙ sym (last_line first runs)

-- each of runs has a plan line
pub lines_say : (bytes : List ℕ → Option (List ℕ)) (names : List (List ℕ)) (runs : List StoredRun)
    → HaveRuns bytes names runs → All (λ run. IsSome (plan_line_of run.line)) runs
lines_say bytes names [] have k d below = absurd (omega arith)
lines_say bytes [] (run ∷ runs) have k d below = absurd have
lines_say bytes (name ∷ names) (run ∷ runs) have zero d below = is_said (plan_line_of run.line) have.0.has.says
  where
    is_said : {X : Type 0} (o : Option X) {x : X} → o ≡ Some x → IsSome o
    is_said (Some y) is = refl
    is_said None is = cc
lines_say bytes (name ∷ names) (run ∷ runs) have (suc k) d below =
    lines_say bytes names runs have.1 k d (omega arith)

-- there is a run for each name
pub as_many : (bytes : List ℕ → Option (List ℕ)) (names : List (List ℕ)) (runs : List StoredRun)
    → HaveRuns bytes names runs → length runs ≡ length names
as_many bytes [] [] have = refl
as_many bytes [] (run ∷ runs) have = absurd have
as_many bytes (name ∷ names) [] have = absurd have
as_many bytes (name ∷ names) (run ∷ runs) have = omega (arith, as_many bytes names runs have.1)

-- the newest of runs has a plan line
pub newest_says : (bytes : List ℕ → Option (List ℕ)) (names : List (List ℕ)) (runs : List StoredRun)
    → HaveRuns bytes names runs → 0 < length names → IsSome (plan_line_of (newest_line runs))
newest_says bytes [] runs have some = absurd (omega arith)
newest_says bytes (name ∷ names) [] have some = absurd have
newest_says bytes (name ∷ names) (run ∷ runs) have some =
    last_says names runs run.line (is_said (plan_line_of run.line) have.0.has.says) have.1
  where
    is_said : {X : Type 0} (o : Option X) {x : X} → o ≡ Some x → IsSome o
    is_said (Some y) is = refl
    is_said None is = cc

    last_says : (names : List (List ℕ)) (runs : List StoredRun) (line : List ℕ) → IsSome (plan_line_of line)
        → HaveRuns bytes names runs → IsSome (plan_line_of (last_or line (map (λ run. run.line) runs)))
    last_says [] [] line said have = said
    last_says [] (r ∷ rs) line said have = absurd have
    last_says (n ∷ ns) [] line said have = absurd have
    last_says (n ∷ ns) (r ∷ rs) line said have =
        last_says ns rs r.line (is_said (plan_line_of r.line) have.0.has.says) have.1
