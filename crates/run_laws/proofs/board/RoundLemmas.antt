-- The rounds and the answers that wait, after one more turn of a sub-run.
use Rattle.std.proofs.Common.{◌≡◌, ℕ, zero, suc, ◌+◌, ◌<◌, ◌≤◌, List, [], ◌∷◌, ◌++◌, length, drop, Bool, true, false}
use Rattle.std.proofs.Common.{◌||◌, add-zero, if◌then◌else◌, Option, Some, None, is_some, filter_map, refl, ap, sym}
use Rattle.std.proofs.Common.{◌∙◌, arith, length-append}
use Rattle.std.proofs.lemmas.List.{append-nil}
use Rattle.run_events.specs.declared.info.InfoResponse.{InfoResponse}
use Rattle.run_events.specs.declared.request.Request.{Request}
use Rattle.run_events.specs.declared.events.ReporterEvent.{ReporterEvent}
use Rattle.run_events.specs.declared.events.ReporterEvent.TheVariants.{Tick, Test}
use Rattle.run_events.specs.declared.events.TestEventKind.{TestEventKind}
use Rattle.run_events.specs.declared.events.TestEventKind.TheVariants.{InfoFinished}
use Rattle.run_events.specs.declared.settings.Settings.{Settings}
use Rattle.run_model.specs.declared.entry.Entry.{Entry}
use Rattle.run_model.specs.declared.happening.Happening.{Happening}
use Rattle.run_model.specs.declared.dispatcher_view.Rounds.{Rounds}
use Rattle.run_model.specs.Words.{is_on}
use Rattle.run_model.specs.Rounds.{opens_round, closes_round, tells_answer, is_answer, ends_queries, of_told}
use Rattle.run_model.specs.Rounds.{asked_by, round_count, open_round, answers_told, rounds_of, answer_of}
use Rattle.run_model.specs.Rounds.{answers_given, answers_waiting}
use Rattle.run_model.specs.Board.{Deed, said, rounds_after, answers_after}
use Rattle.run_laws.proofs.board.Queue.{drop-sent}
use Rattle.run_laws.proofs.board.Holds.{IsFewer, HasRounds}
use Rattle.run_laws.proofs.board.DeedFits.{Marks}
use Rattle.run_laws.proofs.board.OnBoard.{Frame}

-- more turns than counted, after one more that begins a sub-run and isn't counted, or comes in one that is on
fewer-cons : (count : List Happening → ℕ) (x : Happening) (run : List Happening) → IsFewer count run
    → count (x ∷ run) ≤ count run + 1 → (run ≡ [] → count (x ∷ run) ≡ 0) → IsFewer count (x ∷ run)
fewer-cons count x [] h more first = omega (arith, first refl)
fewer-cons count x (y ∷ run) h more first = omega (arith, h, more)

-- of a sub-run that is on, fewer are counted than it has turns
pub below_length : (count : List Happening → ℕ) (run : List Happening) → IsFewer count run → is_on run ≡ true
    → count run < length run
below_length count [] h on = cc
below_length count (x ∷ run) h on = omega (arith, h)

-- a turn that closes a round tells no answer
closes_quiet : (stops : Bool) (told : Option ReporterEvent) → (stops ≡ true → told ≡ None)
    → closes_round stops told ≡ true → tells_answer told ≡ false
closes_quiet true told none closes = ap tells_answer (none refl)
closes_quiet false None none closes = refl
closes_quiet false (Some Tick) none closes = refl
closes_quiet false (Some (Test e)) none closes = by_kind e.kind closes
  where
    by_kind : (kind : TestEventKind) → ends_queries kind ≡ true → is_answer kind ≡ false
    by_kind (InfoFinished missing) closes = refl
    by_kind kind closes = cc

one_at_most : (n : ℕ) (b : Bool) → n + (if b then 1 else 0) ≤ n + 1
one_at_most n true = omega arith
one_at_most n false = omega arith

-- what holds of the rounds of a sub-run holds after one more deed
pub rounds_kept : (p : Settings) (f : Frame) (now : ℕ) (run : List Happening) (e : Entry) (d : Deed) → HasRounds run
    → Marks p f now run d → HasRounds (said now e d ∷ run)
rounds_kept p f now run e d h marks = record {
  opened = fewer-cons round_count (said now e d) run h.opened (one_at_most (round_count run) (opens_round d.request))
      (first_opens (opens_round d.request) refl);
  told = fewer-cons answers_told (said now e d) run h.told (one_told (opens_round d.request) (tells_answer d.told))
      (first_tells (opens_round d.request) (tells_answer d.told) refl);
  given = given (opens_round d.request) (closes_round d.stops d.told) (tells_answer d.told) refl;
}
  where
    first_opens : (b : Bool) → opens_round d.request ≡ b → run ≡ [] → round_count run + (if b then 1 else 0) ≡ 0
    first_opens true opens empty = let never : false ≡ true = ap is_on (sym empty) ∙ marks.opens opens in cc
    first_opens false opens empty = ap (λ run. round_count run + 0) empty

    one_told : (opens tells : Bool)
        → (if opens then 0 else answers_told run + (if tells then 1 else 0)) ≤ answers_told run + 1
    one_told true tells = omega arith
    one_told false tells = one_at_most (answers_told run) tells

    first_tells : (opens tells : Bool) → tells_answer d.told ≡ tells → run ≡ []
        → (if opens then 0 else answers_told run + (if tells then 1 else 0)) ≡ 0
    first_tells true tells is empty = refl
    first_tells false true is empty =
        let waits = marks.answers is in
        let none : length (answers_given (open_round run) run) ≡ 0 =
        ap (λ run. length (answers_given (open_round run) run)) empty in absurd (omega arith)
    first_tells false false is empty = ap (λ run. answers_told run + 0) empty

    given : (opens closes tells : Bool) → tells_answer d.told ≡ tells
        → is_some (if opens then d.request else if closes then None else open_round run) ≡ true
        → (if opens then 0 else answers_told run + (if tells then 1 else 0))
        ≤ length (if opens then []
        else answers_given (if opens then d.request else if closes then None else open_round run) run
        ++ filter_map (answer_of (if opens then d.request else if closes then None else open_round run)) d.info)
    given true closes tells is some = omega arith
    given false true tells is some = cc
    given false false true is some =
        omega (
          arith,
          marks.answers is,
          length-append (answers_given (open_round run) run) (filter_map (answer_of (open_round run)) d.info),
        )
    given false false false is some =
        omega (
          arith,
          h.given some,
          length-append (answers_given (open_round run) run) (filter_map (answer_of (open_round run)) d.info),
        )

-- the rounds after one more deed
plain : (n t since total : ℕ) (asks : Option Request)
    → ◌≡◌ {A = Rounds} (record { count = n + 0; asks = asks; since = since; total = total; told = t + 0 })
    (record { count = n; asks = asks; since = since; total = total; told = t })
plain n t since total asks = rw (add-zero n, add-zero t) refl

pub rounds-cons : (now : ℕ) (run : List Happening) (e : Entry) (d : Deed) → (d.stops ≡ true → d.told ≡ None)
    → rounds_of (said now e d ∷ run) ≡ rounds_after now (rounds_of run) d
rounds-cons now run e d none =
    by_deed (opens_round d.request) (closes_round d.stops d.told) (tells_answer d.told)
    (closes_quiet d.stops d.told none)
  where
    r : Rounds
    r = rounds_of run

    by_deed : (opens closes tells : Bool) → (closes ≡ true → tells ≡ false)
        → record {
          count = r.count + (if opens then 1 else 0);
          asks = if opens then d.request else if closes then None else r.asks;
          since = if opens || tells then now else r.since;
          total = if opens then of_told asked_by 0 d.told else r.total;
          told = if opens then 0 else r.told + (if tells then 1 else 0);
        }
        ≡ (if opens
        then record {
          count = r.count + 1;
          asks = d.request;
          since = now;
          total = of_told asked_by 0 d.told;
          told = 0;
        }
        else if closes then record r { asks = None }
        else if tells then record r { since = now; told = r.told + 1 }
        else r)
    by_deed true closes tells quiet = refl
    by_deed false true tells quiet = rw (quiet refl) (plain r.count r.told r.since r.total None)
    by_deed false false true quiet = ap (λ n. record r { count = n; since = now; told = r.told + 1 }) (add-zero r.count)
    by_deed false false false quiet = plain r.count r.told r.since r.total r.asks

-- no answer is to a round where none is open
none_for : (infos : List (ℕ × InfoResponse)) → filter_map (answer_of None) infos ≡ []
none_for [] = refl
none_for (info ∷ infos) = none_for infos

none_given : (run : List Happening) → answers_given None run ≡ []
none_given [] = refl
none_given (x ∷ run) = by_open (opens_round x.request) (none_given run)
  where
    by_open : (b : Bool) → answers_given None run ≡ []
        → (if b then [] else answers_given None run ++ filter_map (answer_of None) x.info) ≡ []
    by_open true none = refl
    by_open false none = rw (none, none_for x.info) refl

drop_none : (n : ℕ) → drop {A = InfoResponse} n [] ≡ []
drop_none zero = refl
drop_none (suc n) = refl

-- the answers that wait after one more deed
pub answers-cons : (p : Settings) (f : Frame) (now : ℕ) (run : List Happening) (e : Entry) (d : Deed) → HasRounds run
    → Marks p f now run d
    → answers_waiting (said now e d ∷ run) ≡ answers_after (open_round run) d (answers_waiting run)
answers-cons p f now run e d h marks =
    by_deed (opens_round d.request) (closes_round d.stops d.told) (tells_answer d.told) refl
  where
    more : Option Request → List InfoResponse
    more asks = filter_map (answer_of asks) d.info

    -- where none is open none waits, and else no more are told than were given
    by_round : (asks : Option Request) (tells : Bool) → open_round run ≡ asks → tells_answer d.told ≡ tells
        → drop (answers_told run + (if tells then 1 else 0)) (answers_given asks run ++ more asks)
        ≡ drop (if tells then 1 else 0) (drop (answers_told run) (answers_given asks run)) ++ more asks
    by_round None tells is said =
        rw (none_given run, none_for d.info) (drop_none (answers_told run + (if tells then 1 else 0))
        ∙ sym (append-nil _ ∙ ap (drop (if tells then 1 else 0)) (drop_none (answers_told run))
        ∙ drop_none (if tells then 1 else 0)))
    by_round (Some asks) true is said =
        drop-sent (answers_told run) 1 (answers_given (Some asks) run) (more (Some asks))
        (let waits = rw is at (marks.answers said) in omega arith)
    by_round (Some asks) false is said =
        drop-sent (answers_told run) 0 (answers_given (Some asks) run) (more (Some asks))
        (let few = rw is at (h.given (ap is_some is)) in omega arith)

    by_deed : (opens closes tells : Bool) → tells_answer d.told ≡ tells
        → drop (if opens then 0 else answers_told run + (if tells then 1 else 0))
        (if opens then []
        else answers_given (if opens then d.request else if closes then None else open_round run) run
        ++ more (if opens then d.request else if closes then None else open_round run))
        ≡ (if opens || closes then []
        else drop (if tells then 1 else 0) (answers_waiting run) ++ more (open_round run))
    by_deed true closes tells said = refl
    by_deed false true tells said =
        rw (none_given run, none_for d.info) (drop_none (answers_told run + (if tells then 1 else 0)))
    by_deed false false tells said = by_round (open_round run) tells refl said
