-- Turns taken one after another.
use Rattle.std.proofs.Common.{◌≡◌, ℕ, ◌+◌, ◌^◌, ◌<◌, ◌&&◌, List, [], ◌∷◌, ◌++◌, length, map, zip, take, get_or}
use Rattle.std.proofs.Common.{slice_get, Bool}
use Rattle.std.proofs.Common.{not, Option, Some, None, is_none, option_to_list, refl, ap, sym, subst, ◌∙◌, arith}
use Rattle.std.proofs.Common.{append_assoc, length-append}
use Rattle.std.specs.List.{list_all}
use Rattle.std.proofs.lemmas.List.{append-nil, map-append, take_more}
use Rattle.std.proofs.lemmas.List.Folds.{list_all-append}
use Rattle.run_events.specs.Tell.{Adds}
use Rattle.run_events.specs.declared.settings.Settings.{Settings}
use Rattle.run_events.specs.declared.turn.Turn.{Turn}
use Rattle.run_events.specs.declared.ask.Ask.{Ask}
use Rattle.run_events.specs.declared.events.ReporterEvent.{ReporterEvent}
use Rattle.run_model.specs.declared.entry.Entry.{Entry}
use Rattle.run_model.specs.Words.{answers, asked, events_in}
use Rattle.run_model.specs.Turns.{happening}
use Rattle.run_model.specs.Journal.{past_of}
use Rattle.run_engine.specs.World.{World, outside, flagged, earlier, first_error, TellsEvents, CountsErrors, TakesTurn}
use Rattle.run_engine.specs.World.{IsUntouched}
use Rattle.run_engine.specs.World.{entry_of}
use Rattle.run_engine.specs.Standing.{sound, unbroken}
use Rattle.run_laws.specs.Course.{turns_of, refusals, none_refused}
use Rattle.run_engine.specs.Execution.{TakesTurns, StopsHere}
use Rattle.run_engine.specs.Refused.{IsNotTaken}
use Rattle.run_laws.proofs.board.Courses.{refusals-append}
use Rattle.run_laws.proofs.board.Ready.{past_of-length}
use Rattle.run_engine.proofs.JournalLemmas.{past_of-push, legal-push}

-- the events of a journal with one more entry
pub answers-push : (p : Settings) (journal : List Entry) (e : Entry)
    → answers (past_of p (journal ++ e ∷ [])) ≡ answers (past_of p journal)
    ++ zip (events_in (happening p (past_of p journal) e)) e.refused
answers-push p journal e = ap answers (past_of-push p journal e)

-- the asks of a journal with one more entry
pub asked-push : (p : Settings) (journal : List Entry) (e : Entry)
    → asked (past_of p (journal ++ e ∷ [])) ≡ asked (past_of p journal)
    ++ map (λ ask. (length journal, ask)) (option_to_list (happening p (past_of p journal) e).asked)
asked-push p journal e =
    ap asked (past_of-push p journal e)
    ∙ ap (λ n. asked (past_of p journal)
    ++ map (λ ask. (n, ask)) (option_to_list (happening p (past_of p journal) e).asked)) (past_of-length p journal)

-- the first error of two lists
earlier-assoc : {E : Type 0} (a b c : Option E) → earlier (earlier a b) c ≡ earlier a (earlier b c)
earlier-assoc None b c = refl
earlier-assoc (Some e) b c = refl

first_error-append : {X E : Type 0} (xs ys : List (X × Option E))
    → first_error (xs ++ ys) ≡ earlier (first_error xs) (first_error ys)
first_error-append [] ys = refl
first_error-append (x ∷ xs) ys = ap (earlier x.1) (first_error-append xs ys)
    ∙ sym (earlier-assoc x.1 (first_error xs) (first_error ys))

-- what was told, and then more
pub tells_both : {R E : Type 0} (tells : R → List (ReporterEvent × Option E)
    → Type 0) (a b c : R) (es fs : List (ReporterEvent × Bool)) (first later : Option E)
    → TellsEvents tells a b es first → TellsEvents tells b c fs later
    → TellsEvents tells a c (es ++ fs) (earlier first later)
tells_both tells a b c es fs first later f g xs t =
    let one = f xs t in
    let two = g (xs ++ one.0) one.1 in (
      one.0 ++ two.0,
      subst (tells c) (append_assoc xs one.0 two.0) two.1,
      map-append flagged one.0 two.0 ∙ ap (λ us. us ++ map flagged two.0) one.2 ∙ ap (λ vs. es ++ vs) two.2,
      first_error-append one.0 two.0 ∙ ap (λ o. earlier o (first_error two.0)) one.3 ∙ ap (earlier first) two.3,
    )

-- what was asked, and then more
pub adds_both : {S X : Type 0} (holds : S → List X → Type 0) (a b c : S) (xs ys : List X) → Adds holds a b xs
    → Adds holds b c ys → Adds holds a c (xs ++ ys)
adds_both holds a b c xs ys f g zs t = subst (holds c) (append_assoc zs xs ys) (g (zs ++ xs) (f zs t))

-- a count that rose or stayed, and then rose or stayed
pub counts_both : {E : Type 0} (a b c : ℕ) (first later : Option E) → CountsErrors a b first → CountsErrors b c later
    → CountsErrors a c (earlier first later)
counts_both a b c None later f g = subst (λ n. CountsErrors n c later) f g
counts_both a b c (Some e) None f g = (omega arith, omega arith)
counts_both a b c (Some e) (Some d) f g = (omega arith, omega arith)

-- no error is the first of two where none is either
pub none-earlier : {E : Type 0} (a b : Option E) → is_none (earlier a b) ≡ (is_none a && is_none b)
none-earlier None b = refl
none-earlier (Some e) b = refl

pub marked_both : (a b c d : Bool) → a ≡ c → b ≡ d → (a && b) ≡ (c && d)
marked_both a b c d e f = cc

-- no event of a longer journal was refused where none was before, and none by the last entry
none_refused-push : (journal : List Entry) (e : Entry)
    → none_refused (journal ++ e ∷ []) ≡ (none_refused journal && list_all not e.refused)
none_refused-push journal e =
    ap (list_all not) (refusals-append journal (e ∷ []) ∙ ap (λ rs. refusals journal ++ rs) (append-nil e.refused))
    ∙ list_all-append not (refusals journal) e.refused

-- one more turn taken
pub takes-more : {R E C : Type 0} (tells : R → List (ReporterEvent × Option E) → Type 0)
    (asks : C → List (ℕ × Ask) → Type 0) (faults : R → ℕ) (p : Settings) (journal : List Entry) (a b c : R) (d e f : C)
    (first later : Option E) (turn : Turn) (new : World)
    → TakesTurns tells asks (outside faults a b d e) p journal first
    → TakesTurn tells asks (outside faults b c e f) turn (sound p journal) new later → length journal + 1 < 2 ^ 32
    → TakesTurns tells asks (outside faults a c d f) p new.journal (earlier first later)
takes-more tells asks faults p journal a b c d e f first later turn new so_far step room =
    let entry : Entry = entry_of turn step.refused in
    subst (λ (w : World). TakesTurns tells asks (outside faults a c d f) p w.journal (earlier first later))
    (sym step.grown) (record {
      runnable = record {
        few = so_far.runnable.few;
        short = omega (arith, length-append journal (entry ∷ []));
        legal = legal-push p journal entry so_far.runnable.legal step.is_enabled step.answered;
      };
      marked = none-earlier first later ∙ marked_both _ _ _ _ so_far.marked step.marked
          ∙ sym (none_refused-push journal entry);
      told = subst (λ es. TellsEvents tells a c es (earlier first later)) (sym (answers-push p journal entry))
          (tells_both tells a b c (answers (past_of p journal)) _ first later so_far.told step.told);
      asked = subst (λ es. Adds asks d f es) (sym (asked-push p journal entry))
          (adds_both asks d e f (asked (past_of p journal)) _ so_far.asked step.asked);
      counted = counts_both (faults a) (faults b) (faults c) first later so_far.counted step.counted;
    })

-- where the turn at a place isn't taken the turns stop there
pub stops_here : {R E C : Type 0} (tells : R → List (ReporterEvent × Option E) → Type 0)
    (asks : C → List (ℕ × Ask) → Type 0) (faults : R → ℕ) (p : Settings) (turns : List Turn) (was new : World)
    (a b c : R) (d e f : C) (first : Option E) (place : ℕ) (turn : Turn) (third : Bool)
    → TakesTurns tells asks (outside faults a b d e) p was.journal first → turns_of was.journal ≡ take place turns
    → was ≡ unbroken p was.journal was.claimed → slice_get turns place ≡ Some turn → IsNotTaken was turn third
    → IsUntouched was new (outside faults b c e f)
    → StopsHere tells asks (outside faults a c d f) p turns new.journal place third
stops_here tells asks faults p turns was new a b c d e f first place turn third so_far all is at refused same =
    let stays : IsNotTaken (unbroken p was.journal was.claimed) turn third =
    subst (λ (w : World). IsNotTaken w turn third) is refused in
    subst (λ (w : World). StopsHere tells asks (outside faults a c d f) p turns w.journal place third) (sym same.0)
    (subst (λ r. StopsHere tells asks (outside faults a r d f) p turns was.journal place third) (sym same.1)
    (subst (λ g. StopsHere tells asks (outside faults a b d g) p turns was.journal place third) (sym same.2)
    ((first, so_far), (all, (turn, at, stays.0, stays.1)))))

-- the turns of a journal with one more entry
pub turns-push : (journal : List Entry) (turns : List Turn) (place : ℕ) (turn d : Turn) (refused : List Bool)
    → place < length turns
    → turns_of journal ≡ take place turns → turn ≡ get_or turns place d
    → turns_of (journal ++ entry_of turn refused ∷ []) ≡ take (place + 1) turns
turns-push journal turns place turn d refused inside so_far is =
    map-append (λ (e : Entry). e.turn) journal (entry_of turn refused ∷ [])
    ∙ ap (λ ts. ts ++ turn ∷ []) so_far
    ∙ ap (λ t. take place turns ++ t ∷ []) is
    ∙ sym (take_more turns place d inside)
