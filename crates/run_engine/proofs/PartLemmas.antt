-- What a turn that want of memory broke off has told and asked.
use Rattle.std.proofs.Common.{◌≡◌, ℕ, ◌≤◌, ◌<◌, inl, inr, List, [], ◌∷◌, ◌++◌, length, map, zip, take, get_or}
use Rattle.std.proofs.Common.{slice_get}
use Rattle.std.proofs.Common.{Bool, true, Option, Some, None, option_to_list, refl, ap, sym, subst, ◌∙◌, arith}
use Rattle.std.proofs.Common.{length-append, Result, Ok, Err}
use Rattle.std.specs.Result.{OnErr}
use Rattle.std.proofs.lemmas.List.{append-nil}
use Rattle.run_events.specs.Tell.{Adds}
use Rattle.run_events.specs.declared.settings.Settings.{Settings}
use Rattle.run_events.specs.declared.turn.Turn.{Turn}
use Rattle.run_events.specs.declared.ask.Ask.{Ask}
use Rattle.run_events.specs.declared.events.ReporterEvent.{ReporterEvent}
use Rattle.run_model.specs.declared.entry.Entry.{Entry}
use Rattle.run_model.specs.Words.{answers, asked, events_in}
use Rattle.run_model.specs.Board.{Board, board, deed_events}
use Rattle.run_model.specs.Turns.{enabled, deed_on}
use Rattle.run_model.specs.Journal.{past_of}
use Rattle.run_laws.specs.Course.{turns_of}
use Rattle.run_engine.specs.World.{Outside, outside, TellsEvents, CountsErrors, earlier}
use Rattle.run_engine.specs.Standing.{IsRunnable}
use Rattle.run_engine.specs.Execution.{TakesTurns}
use Rattle.run_engine.specs.Broken.{TellsSome, TellsPart, IsSent, BreaksOff, RunsOut, after_journal}
use Rattle.run_engine.proofs.TakesLemmas.{tells_both, counts_both, adds_both}
use Rattle.run_engine.proofs.TellLemmas.{zip-more}

-- a fact holds of each refusal
pub on_err : {T E : Type 0} (r : Result T E) (P : Type 0) → P → OnErr r P
on_err (Ok x) P h = tt
on_err (Err e) P h = h

-- nothing more was told or asked
pub tells-nothing : {R E : Type 0} (tells : R → List (ReporterEvent × Option E) → Type 0) (r : R)
    → TellsEvents tells r r [] None
tells-nothing tells r xs t = ([], subst (tells r) (sym (append-nil xs)) t, refl, refl)

pub adds-nothing : {C : Type 0} (asks : C → List (ℕ × Ask) → Type 0) (c : C) → Adds asks c c []
adds-nothing asks c xs t = subst (asks c) (sym (append-nil xs)) t

-- a call that adds nothing tells nothing
pub adds_none : {R E : Type 0} (tells : R → List (ReporterEvent × Option E) → Type 0) (r s : R) → Adds tells r s []
    → TellsEvents tells r s [] None
adds_none tells r s a xs t = ([], a xs t, refl, refl)

-- no event was told
abbrev no_marks : List Bool
no_marks = []

zip-none : {X : Type 0} (xs : List X) → [] ≡ zip xs no_marks
zip-none [] = refl
zip-none (x ∷ xs) = refl

zip-take : {X Y : Type 0} (xs : List X) (ys : List Y) → zip xs ys ≡ zip (take (length ys) xs) ys
zip-take [] [] = refl
zip-take [] (y ∷ ys) = refl
zip-take (x ∷ xs) [] = refl
zip-take (x ∷ xs) (y ∷ ys) = ap (λ ps. (x, y) ∷ ps) (zip-take xs ys)

-- none of the events was told
pub some_none : {R E : Type 0} (tells : R → List (ReporterEvent × Option E) → Type 0) (r s : R) (faults now : ℕ)
    (events : List ReporterEvent) → TellsEvents tells r s [] None → now ≡ faults
    → TellsSome {E = E} tells r s faults now events
some_none tells r s faults now events told still = record {
  marks = [];
  refusal = None;
  fits = omega arith;
  told = subst (λ es. TellsEvents tells r s es None) (zip-none events) told;
  counted = still;
}

-- one event was told
pub some_one : {R E : Type 0} (tells : R → List (ReporterEvent × Option E) → Type 0) (r s : R) (faults now : ℕ)
    (event : ReporterEvent) (mark : Bool) (refusal : Option E) → TellsEvents tells r s ((event, mark) ∷ []) refusal
    → CountsErrors faults now refusal → TellsSome {E = E} tells r s faults now (event ∷ [])
some_one tells r s faults now event mark refusal told counted = record {
  marks = mark ∷ [];
  refusal = refusal;
  fits = omega arith;
  told = told;
  counted = counted;
}

-- the marks of the first events, and of the next one, where it has one
marks_both : (events : List ReporterEvent) (i : ℕ) (refused : List Bool) (event : ReporterEvent) (marks : List Bool)
    → i < length events → length refused ≡ i → event ≡ get_or events i event → length marks ≤ 1
    → zip (take i events) refused ++ zip (event ∷ []) marks ≡ zip events (refused ++ marks)
marks_both events i refused event [] inside many is few =
    ap (λ t. zip (take i events) refused ++ t) (sym (zip-none (event ∷ [])))
    ∙ append-nil (zip (take i events) refused)
    ∙ ap (λ n. zip (take n events) refused) (sym many)
    ∙ sym (zip-take events refused)
    ∙ ap (zip events) (sym (append-nil refused))
marks_both events i refused event (b ∷ []) inside many is few =
    sym (zip-more events refused i event b inside many is)
    ∙ ap (λ n. zip (take n events) (refused ++ b ∷ [])) (omega (arith, many, length-append refused (b ∷ [])))
    ∙ sym (zip-take events (refused ++ b ∷ []))
marks_both events i refused event (b ∷ c ∷ marks) inside many is few = absurd (omega arith)

-- the first events, and of the next one a part
pub some_more : {R E : Type 0} (tells : R → List (ReporterEvent × Option E) → Type 0) (a b c : R) (fa fb fc : ℕ)
    (events : List ReporterEvent) (i : ℕ) (refused : List Bool) (first : Option E) (event : ReporterEvent)
    → i < length events → length refused ≡ i → event ≡ get_or events i event
    → TellsEvents tells a b (zip (take i events) refused) first → CountsErrors fa fb first
    → TellsSome {E = E} tells b c fb fc (event ∷ []) → TellsSome {E = E} tells a c fa fc events
some_more tells a b c fa fb fc events i refused first event inside many is told counted x = record {
  marks = refused ++ x.marks;
  refusal = earlier first x.refusal;
  fits = omega (arith, x.fits, many, inside, length-append refused x.marks);
  told = subst (λ es. TellsEvents tells a c es (earlier first x.refusal))
      (marks_both events i refused event x.marks inside many is x.fits)
      (tells_both tells a b c _ _ first x.refusal told x.told);
  counted = counts_both fa fb fc first x.refusal counted x.counted;
}

-- nothing of a turn went out
pub part_none : {R E C : Type 0} (tells : R → List (ReporterEvent × Option E) → Type 0)
    (asks : C → List (ℕ × Ask) → Type 0) (faults : R → ℕ) (r : R) (c : C) (place : ℕ) (events : List ReporterEvent)
    (asked : Option Ask) → TellsPart tells asks (outside faults r r c c) place events asked
part_none tells asks faults r c place events asked = record {
  some = some_none tells r r (faults r) (faults r) events (tells-nothing tells r) refl;
  sent = [];
  is_sent = inl refl;
  adds = adds-nothing asks c;
}

-- its ask was refused for want of memory
pub part_unasked : {R E C : Type 0} (tells : R → List (ReporterEvent × Option E) → Type 0)
    (asks : C → List (ℕ × Ask) → Type 0) (faults : R → ℕ) (r : R) (c d : C) (place : ℕ) (events : List ReporterEvent)
    (asked : Option Ask) → Adds asks c d [] → TellsPart tells asks (outside faults r r c d) place events asked
part_unasked tells asks faults r c d place events asked a = record {
  some = some_none tells r r (faults r) (faults r) events (tells-nothing tells r) refl;
  sent = [];
  is_sent = inl refl;
  adds = a;
}

-- its ask went out, and some of its events
pub part_some : {R E C : Type 0} (tells : R → List (ReporterEvent × Option E) → Type 0)
    (asks : C → List (ℕ × Ask) → Type 0) (faults : R → ℕ) (r s : R) (c d : C) (place : ℕ)
    (events : List ReporterEvent) (asked : Option Ask)
    → Adds asks c d (map (λ ask. (place, ask)) (option_to_list asked))
    → TellsSome {E = E} tells r s (faults r) (faults s) events
    → TellsPart tells asks (outside faults r s c d) place events asked
part_some tells asks faults r s c d place events asked a x = record {
  some = x;
  sent = map (λ ask. (place, ask)) (option_to_list asked);
  is_sent = inr refl;
  adds = a;
}

-- an enabled turn was broken off on a board
pub breaks_off : {R E C : Type 0} (tells : R → List (ReporterEvent × Option E) → Type 0)
    (asks : C → List (ℕ × Ask) → Type 0) (o : Outside R C) (p : Settings) (journal : List Entry) (b : Board)
    (turn : Turn) (place : ℕ) → place ≡ length journal → b ≡ board p (past_of p journal)
    → enabled p (past_of p journal) turn ≡ true
    → TellsPart tells asks o place (deed_events (deed_on p b turn)) (deed_on p b turn).asked
    → BreaksOff tells asks o p journal turn
breaks_off tells asks o p journal b turn place at st en x = record {
  extra = zip (deed_events (deed_on p b turn)) x.some.marks;
  sent = x.sent;
  refusal = x.some.refusal;
  part = record {
    is_enabled = inr en;
    marks = x.some.marks;
    fits = subst (λ b. length x.some.marks ≤ length (deed_events (deed_on p b turn))) st x.some.fits;
    told = ap (λ b. zip (deed_events (deed_on p b turn)) x.some.marks) st;
    asked = subst (λ b. IsSent (length journal) (deed_on p b turn).asked x.sent) st
        (subst (λ n. IsSent n (deed_on p b turn).asked x.sent) at x.is_sent);
  };
  told = x.some.told;
  adds = x.adds;
  counted = x.some.counted;
}

-- a turn of which nothing went out
pub breaks_idle : {R E C : Type 0} (tells : R → List (ReporterEvent × Option E) → Type 0)
    (asks : C → List (ℕ × Ask) → Type 0) (faults : R → ℕ) (r : R) (c : C) (p : Settings) (journal : List Entry)
    (turn : Turn) → BreaksOff tells asks (outside faults r r c c) p journal turn
breaks_idle tells asks faults r c p journal turn = record {
  extra = [];
  sent = [];
  refusal = None;
  part = record {
    is_enabled = inl (refl, refl);
    marks = [];
    fits = omega arith;
    told = zip-none (events_in (after_journal p journal turn));
    asked = inl refl;
  };
  told = tells-nothing tells r;
  adds = adds-nothing asks c;
  counted = refl;
}

-- turns were taken, and the one after them was broken off
pub runs_out : {R E C : Type 0} (tells : R → List (ReporterEvent × Option E) → Type 0)
    (asks : C → List (ℕ × Ask) → Type 0) (faults : R → ℕ) (p : Settings) (turns : List Turn) (journal : List Entry)
    (a b c : R) (d e f : C) (first : Option E) (place : ℕ) (turn : Turn)
    → TakesTurns tells asks (outside faults a b d e) p journal first → turns_of journal ≡ take place turns
    → slice_get turns place ≡ Some turn → BreaksOff tells asks (outside faults b c e f) p journal turn
    → RunsOut tells asks (outside faults a c d f) p turns journal
runs_out tells asks faults p turns journal a b c d e f first place turn so_far all at x = record {
  runnable = so_far.runnable;
  taken = place;
  takes = all;
  extra = x.extra;
  sent = x.sent;
  refusal = earlier first x.refusal;
  part = inr (turn, at, x.part);
  told = tells_both tells a b c (answers (past_of p journal)) x.extra first x.refusal so_far.told x.told;
  adds = adds_both asks d e f (asked (past_of p journal)) x.sent so_far.asked x.adds;
  counted = counts_both (faults a) (faults b) (faults c) first x.refusal so_far.counted x.counted;
}

-- no turn was taken
pub runs_out_at_first : {R E C : Type 0} (tells : R → List (ReporterEvent × Option E) → Type 0)
    (asks : C → List (ℕ × Ask) → Type 0) (faults : R → ℕ) (p : Settings) (turns : List Turn) (r : R) (c : C)
    → IsRunnable p [] → RunsOut tells asks (outside faults r r c c) p turns []
runs_out_at_first tells asks faults p turns r c runnable = record {
  runnable = runnable;
  taken = 0;
  takes = refl;
  extra = [];
  sent = [];
  refusal = None;
  part = inl (refl, refl);
  told = tells-nothing tells r;
  adds = adds-nothing asks c;
  counted = refl;
}
