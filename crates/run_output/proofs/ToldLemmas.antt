-- One more line written after others.
use Rattle.std.proofs.Common.{◌≡◌, refl, sym, ap, subst, ◌∙◌, arith, ℕ, ◌||◌, List, [], ◌∷◌, ◌++◌, append_assoc, Bool}
use Rattle.std.proofs.Common.{true, false, nat_lt, Option, Some, None, is_some}
use Rattle.std.proofs.lemmas.List.{append-nil, map-append}
use Rattle.run_capture.proofs.BytesLemmas.{takes_both}
use Rattle.run_capture.specs.Bytes.{Takes}
use Rattle.run_events.specs.declared.events.ReporterEvent.{ReporterEvent}
use Rattle.run_capture.specs.Faults.{RoseExactlyIf}
use Rattle.run_output.specs.Told.{IsWritten, AreWritten, TookLines, marks, AreCounted, some_refused, HasTold}
use Rattle.run_output.specs.Told.{event_lines, event_line}

-- lines and one more line after them
lines_more : {E : Type 0} (xs : List (List ℕ × Option E)) (text : List ℕ) (error : Option E) (bytes line : List ℕ)
    → AreWritten xs bytes → IsWritten text error line → AreWritten (xs ++ (text, error) ∷ []) (bytes ++ line)
lines_more [] text error bytes line none last =
    (line, [], last, refl, ap (λ b. b ++ line) none ∙ sym (append-nil line))
lines_more (x ∷ xs) text error bytes line some last = (
  some.0,
  some.1 ++ line,
  some.2,
  lines_more xs text error some.1 line some.3 last,
  ap (λ b. b ++ line) some.4 ∙ append_assoc some.0 some.1 line,
)

-- what was told, and one more line that the sink took
pub took_more : {E : Type 0} (before between now : Option (List ℕ)) (xs : List (List ℕ × Option E))
    (text : List ℕ) (error : Option E) (line : List ℕ)
    → IsWritten text error line → Takes between now line
    → TookLines before between xs → TookLines before now (xs ++ (text, error) ∷ [])
took_more before between now xs text error line last taken told =
    let all = takes_both before between now told.0 line told.2 taken in
    (told.0 ++ line, lines_more xs text error told.0 line told.1 last, all)

-- a count that rose exactly where the one was so, and then exactly where the other was, rose exactly where one was
rose_both : (b c : Bool) (before between now : ℕ) → RoseExactlyIf b before between → RoseExactlyIf c between now
    → RoseExactlyIf (b || c) before now
rose_both false false before between now one other = other ∙ one
rose_both false true before between now one other = (omega arith, omega arith)
rose_both true false before between now one other = (omega arith, omega arith)
rose_both true true before between now one other = (omega arith, omega arith)

-- a count that rose event by event, and then at one more event
counted_more : {X E : Type 0} (xs : List (X × Option E)) (event : X) (error : Option E)
    (before between now : ℕ) → AreCounted (marks xs) before between → RoseExactlyIf (is_some error) between now
    → AreCounted (marks (xs ++ (event, error) ∷ [])) before now
counted_more [] event error before between now counted last =
    (now, subst (λ n. RoseExactlyIf (is_some error) n now) counted last, refl)
counted_more (x ∷ xs) event error before between now counted last =
    (counted.0, counted.1, counted_more xs event error counted.0 between now counted.2 last)

or_assoc : (a b c : Bool) → (a || (b || c)) ≡ ((a || b) || c)
or_assoc true b c = refl
or_assoc false b c = refl

-- one more event, refused or not
some_refused-more : {X E : Type 0} (xs : List (X × Option E)) (event : X) (error : Option E)
    → some_refused (xs ++ (event, error) ∷ []) ≡ (some_refused xs || is_some error)
some_refused-more [] event None = refl
some_refused-more [] event (Some e) = refl
some_refused-more (x ∷ xs) event error =
    ap (λ b. is_some x.1 || b) (some_refused-more xs event error)
    ∙ or_assoc (is_some x.1) (some_refused xs) (is_some error)

-- the same of all that a reporter has told
pub told_more : {E : Type 0} (before between now : Option (List ℕ)) (f g h m n : ℕ)
    (xs : List (List ℕ × Option E)) (text : List ℕ) (error : Option E) (line : List ℕ)
    → IsWritten text error line → Takes between now line
    → RoseExactlyIf (is_some error) g h → RoseExactlyIf (is_some error) m n
    → HasTold before between f g m xs → HasTold before now f h n (xs ++ (text, error) ∷ [])
told_more before between now f g h m n xs text error line last taken sinks own told =
    let more = sym (some_refused-more xs text error) in
    record {
      took = took_more before between now xs text error line last taken told.took;
      counted = counted_more xs text error f g h told.counted sinks;
      own = subst (λ b. RoseExactlyIf b 0 n) more (rose_both (some_refused xs) (is_some error) 0 m n told.own own);
    }

-- the lines of events and of one more
pub event_lines-more : {E : Type 0} (xs : List (ReporterEvent × Option E)) (event : ReporterEvent) (error : Option E)
    → event_lines (xs ++ (event, error) ∷ []) ≡ event_lines xs ++ (event_line event, error) ∷ []
event_lines-more xs event error = map-append (λ answer. (event_line answer.0, answer.1)) xs ((event, error) ∷ [])

-- an event is refused exactly where its line is
pub some_refused-lines : {E : Type 0} (xs : List (ReporterEvent × Option E))
    → some_refused (event_lines xs) ≡ some_refused xs
some_refused-lines [] = refl
some_refused-lines (x ∷ xs) = ap (λ b. is_some x.1 || b) (some_refused-lines xs)

-- a count that rose from 0 exactly where one was refused is above 0 exactly there
pub above_where : (b : Bool) (n : ℕ) → RoseExactlyIf b 0 n → nat_lt 0 n ≡ b
above_where true n rose = grind (arith, rose.1)
above_where false n same = grind (arith, same)
