-- What is kept of events, after one more, and as it is written.
use Rattle.std.proofs.Common.{◌≡◌, ℕ, List, [], ◌∷◌, ◌++◌, map, Option, Some, None, Result, Ok, Err, refl, sym, ap}
use Rattle.std.proofs.Common.{◌∙◌, append-nil, subst, IfOk, OnOk}
use Rattle.std.proofs.lemmas.List.Concat.{flat_map-append}
use Rattle.std.proofs.lemmas.List.Elements.{filter_map-append}
use Rattle.std.specs.List.{cons_option, flat_map}
use Rattle.run_capture.specs.Bytes.{Takes}
use Rattle.run_capture.specs.declared.memory.OutOfMemory.{OutOfMemory}
use Rattle.run_events.specs.declared.events.ReporterEvent.{ReporterEvent}
use Rattle.run_events.specs.declared.events.ReporterEvent.TheVariants.{Tick, Test}
use Rattle.run_junit.specs.declared.heard.Heard.{Heard}
use Rattle.run_junit.specs.declared.suites.Counts.{Counts}
use Rattle.run_junit.specs.declared.suites.Kept.{Kept}
use Rattle.run_junit.specs.Document.{elapsed_after, elapsed_last, id_after, id_told, junit_text, junit_tokens, run_end}
use Rattle.run_junit.specs.Document.{document_open, suite_end, suite_start, suite_tokens}
use Rattle.run_junit.specs.Heard.{Remembers, case_bytes, kept_after_event, heard_nothing, kept_of_run, heard_told}
use Rattle.run_junit.specs.Heard.{kept_suite}
use Rattle.run_junit.specs.Put.{cases_bytes, heard_bytes, suite_bytes, suites_bytes}
use Rattle.run_junit.specs.Suites.{Finish, Suite, case_tokens, counts_of, unit_finish, finishes_heard, suites_of}
use Rattle.run_junit.specs.Tokens.{Token, token_bytes, tokens_bytes}
use Rattle.run_junit.proofs.SuiteLemmas.{counts_more, suites_more}
use Rattle.run_junit.proofs.TokenLemmas.{tokens_join}

id_more : (before : List ℕ) (told : List ReporterEvent) (event : ReporterEvent)
    → id_told before (told ++ event ∷ []) ≡ id_after (id_told before told) event
id_more before [] event = refl
id_more before (first ∷ later) event = id_more (id_after before first) later event

elapsed_more : (before : ℕ) (told : List ReporterEvent) (event : ReporterEvent)
    → elapsed_last before (told ++ event ∷ []) ≡ elapsed_after (elapsed_last before told) event
elapsed_more before [] event = refl
elapsed_more before (first ∷ later) event = elapsed_more (elapsed_after before first) later event

-- what is kept, by its parts
heard_by : Option ℕ → List ℕ → ℕ → List Finish → Heard
heard_by started id elapsed xs = record {
  id = id;
  elapsed = elapsed;
  counts = counts_of xs;
  suites = map (kept_suite started) (suites_of xs);
}

same_heard : (id : List ℕ) (elapsed : ℕ) (b c : Counts) (ks ls : List Kept) → b ≡ c → ks ≡ ls
    → (let h : Heard = record { id = id; elapsed = elapsed; counts = b; suites = ks } in h)
    ≡ record { id = id; elapsed = elapsed; counts = c; suites = ls }
same_heard id elapsed b c ks ls p q =
    ap (λ (d : Counts). let h : Heard = record { id = id; elapsed = elapsed; counts = d; suites = ks } in h) p
    ∙ ap (λ (ms : List Kept). let h : Heard = record { id = id; elapsed = elapsed; counts = c; suites = ms } in h) q

-- with the finish that an event tells, if it tells one
told_more : (started : Option ℕ) (id : List ℕ) (elapsed : ℕ) (xs : List Finish) (o : Option Finish)
    → heard_told started (heard_by started id elapsed xs) o ≡ heard_by started id elapsed (xs ++ cons_option o [])
unfolding heard_by
told_more started id elapsed xs None = ap (heard_by started id elapsed) (sym (append-nil xs))
told_more started id elapsed xs (Some x) =
    same_heard id elapsed _ _ _ _ (sym (counts_more xs x)) (suites_more started xs x)

told_by : (started : Option ℕ) (told : List ReporterEvent) (event : ReporterEvent)
    → heard_by started (id_after (id_told [] told) event) (elapsed_after (elapsed_last 0 told) event)
    (finishes_heard told ++ cons_option (unit_finish event) [])
    ≡ heard_by started (id_told [] (told ++ event ∷ [])) (elapsed_last 0 (told ++ event ∷ []))
    (finishes_heard (told ++ event ∷ []))
told_by started told event =
    ap (λ id. heard_by started id (elapsed_after (elapsed_last 0 told) event)
    (finishes_heard told ++ cons_option (unit_finish event) [])) (sym (id_more [] told event))
    ∙ ap (λ (n : ℕ). heard_by started (id_told [] (told ++ event ∷ [])) n
    (finishes_heard told ++ cons_option (unit_finish event) [])) (sym (elapsed_more 0 told event))
    ∙ ap (heard_by started (id_told [] (told ++ event ∷ [])) (elapsed_last 0 (told ++ event ∷ [])))
    (sym (filter_map-append unit_finish told (event ∷ [])))

-- what is kept of one event more
pub heard_more : (started : Option ℕ) (told : List ReporterEvent) (event : ReporterEvent)
    → kept_after_event started (kept_of_run started told) event ≡ kept_of_run started (told ++ event ∷ [])
unfolding kept_of_run heard_by
heard_more started told Tick =
    ap (heard_by started (id_told [] told) (elapsed_last 0 told)) (sym (append-nil (finishes_heard told)))
    ∙ told_by started told Tick
heard_more started told (Test event) =
    told_more started (id_after (id_told [] told) (Test event)) (elapsed_after (elapsed_last 0 told) (Test event))
    (finishes_heard told) (unit_finish (Test event))
    ∙ told_by started told (Test event)

-- the cases of a suite, as they are written
cases_written : (started : Option ℕ) (xs : List Finish)
    → cases_bytes (map (case_bytes started) xs) ≡ tokens_bytes (flat_map (case_tokens started) xs)
unfolding tokens_bytes
cases_written started [] = refl
cases_written started (x ∷ xs) =
    ap (λ bytes. tokens_bytes (case_tokens started x) ++ bytes) (cases_written started xs)
    ∙ sym (flat_map-append token_bytes (case_tokens started x) (flat_map (case_tokens started) xs))

-- three lists of tokens
three_join : (xs ys zs : List Token)
    → tokens_bytes xs ++ (tokens_bytes ys ++ tokens_bytes zs) ≡ tokens_bytes (xs ++ (ys ++ zs))
three_join xs ys zs = ap (λ bytes. tokens_bytes xs ++ bytes) (tokens_join ys zs) ∙ tokens_join xs (ys ++ zs)

suite_written : (started : Option ℕ) (suite : Suite)
    → suite_bytes (kept_suite started suite) ≡ tokens_bytes (suite_tokens started suite)
suite_written started suite =
    let first = suite_start suite.name (counts_of suite.finishes) in
    ap (λ bytes. tokens_bytes first ++ (bytes ++ tokens_bytes suite_end)) (cases_written started suite.finishes)
    ∙ three_join first (flat_map (case_tokens started) suite.finishes) suite_end

none_written : [] ≡ tokens_bytes []
unfolding tokens_bytes
none_written = refl

suites_written : (started : Option ℕ) (suites : List Suite)
    → suites_bytes (map (kept_suite started) suites) ≡ tokens_bytes (flat_map (suite_tokens started) suites)
suites_written started [] = none_written
suites_written started (suite ∷ suites) =
    ap (λ bytes. bytes ++ suites_bytes (map (kept_suite started) suites)) (suite_written started suite)
    ∙ ap (λ bytes. tokens_bytes (suite_tokens started suite) ++ bytes) (suites_written started suites)
    ∙ tokens_join (suite_tokens started suite) (flat_map (suite_tokens started) suites)

-- what is kept of events, as it is written, is their document
pub heard_written : (started : Option ℕ) (told : List ReporterEvent)
    → heard_bytes started (kept_of_run started told) ≡ junit_text started told
unfolding kept_of_run junit_tokens
heard_written started told =
    let xs = finishes_heard told in
    let first = document_open started (counts_of xs) (id_told [] told) (elapsed_last 0 told) in
    ap (λ bytes. tokens_bytes first ++ (bytes ++ tokens_bytes run_end)) (suites_written started (suites_of xs))
    ∙ three_join first (flat_map (suite_tokens started) (suites_of xs)) run_end

-- nothing is kept of no events
nothing_heard : (started : Option ℕ) → heard_nothing ≡ kept_of_run started []
unfolding kept_of_run suites_of
nothing_heard started = refl

pub remembers_first : (started : Option ℕ) (r : Result Heard OutOfMemory) → IfOk r (λ heard. heard ≡ heard_nothing)
    → Remembers started r []
remembers_first started (Ok heard) first = first ∙ nothing_heard started
remembers_first started (Err e) first = first

-- what was written of what is kept is the document
pub written_heard : {T E : Type 0} (started : Option ℕ) (heard : Heard) (told : List ReporterEvent)
    (before now : Option (List ℕ)) (r : Result T E) → heard ≡ kept_of_run started told
    → OnOk r (Takes before now (heard_bytes started heard)) → OnOk r (Takes before now (junit_text started told))
written_heard started heard told before now (Ok _) same taken =
    subst (λ (text : List ℕ). Takes before now text)
    (ap (heard_bytes started) same ∙ heard_written started told) taken
written_heard started heard told before now (Err _) same taken = taken
