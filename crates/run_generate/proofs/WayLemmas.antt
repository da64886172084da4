-- A generated run on its way stays so, turn by turn.
use Rattle.std.proofs.Common.{◌≡◌, inl, ℕ, zero, suc, ◌+◌, ◌-◌, ◌<◌, List, [], ◌∷◌, ◌++◌, length, take, slice_get}
use Rattle.std.proofs.Common.{nat_lt, Bool, true, false, Option, Some, None, option_map, Result, Err, refl}
use Rattle.std.proofs.Common.{ap, sym, subst, ◌∙◌, arith, length-append}
use Rattle.std.specs.declared.convert.Infallible.{Infallible}
use Rattle.std.specs.Option.{option_or}
use Rattle.std.proofs.lemmas.Bool.Decides.{nat_tests}
use Rattle.std.proofs.lemmas.List.{take-append-le}
use Rattle.std.proofs.lemmas.Option.{same_Some, slice_get_within}
use Rattle.run_events.specs.declared.ask.Ask.{Ask}
use Rattle.run_events.specs.declared.events.ReporterEvent.{ReporterEvent}
use Rattle.run_events.specs.declared.settings.Settings.{Settings}
use Rattle.run_events.specs.declared.turn.Turn.{Turn}
use Rattle.run_model.specs.declared.entry.Entry.{Entry}
use Rattle.run_model.specs.Board.{board}
use Rattle.run_model.specs.Journal.{past_of}
use Rattle.run_state.specs.Held.{Held}
use Rattle.run_engine.specs.Heard.{IsHeard}
use Rattle.run_engine.specs.Lean.{IsAsBefore, Lean, SettlesOne, StandsForJournal, TakesOne, settled_next}
use Rattle.run_engine.specs.Standing.{sound}
use Rattle.run_engine.specs.World.{Outside, World, entry_of, outside}
use Rattle.run_engine.proofs.HeardLemmas.{heard_takes}
use Rattle.run_generate.specs.OnWay.{counts, IsAfter, IsOnWay, TakesNext, board_of, next_on}
use Rattle.run_generate.specs.Turns.{IsGenerated, last_as, last_turn, made_turn, next_turn, turn_after}
use Rattle.run_generate.specs.declared.child.Last.{Last}
use Rattle.run_generate.specs.declared.child.Last.TheVariants as lasts
use Rattle.run_generate.specs.declared.hearers.Counter.{Counter}
use Rattle.run_generate.specs.declared.hearers.Deaf.{Deaf}
use Rattle.run_generate.specs.declared.on_way.OnWay.{OnWay}
use Rattle.run_generate.proofs.KeptTurns.{turn_kept}

-- a run that has taken no turn
pub begins : (run : Lean) → StandsForJournal run []
    → IsOnWay (record { run = run; counter = record { events = 0 }; deaf = record {}; last = lasts.Other })
begins run stands = (
  [],
  record {
    stands = stands;
    generated = λ k e at. cc;
    heard = record {
      events = [];
      told = refl;
      extra = [];
      sent = [];
      flags = refl;
      asked = tt;
      part = inl (refl, refl);
      whole = λ e. (refl, refl);
      room = inl (refl, refl);
    };
    last = refl;
  },
)

-- the turn that comes next after the journal is that on the board
pub next_after : (g : OnWay) (journal : List Entry) → IsAfter g journal
    → next_turn g.run.settings journal ≡ next_on g
next_after g journal way =
    let p = g.run.settings in
    ap (turn_after p (board p (past_of p journal))) (sym way.last)
    ∙ sym (turn_kept p (board p (past_of p journal)) (board_of g) g.last way.stands.stands.board)

-- one more turn that is the next one
pub slice_get-front : {X : Type 0} (xs ys : List X) (k : ℕ) → k < length xs → slice_get (xs ++ ys) k ≡ slice_get xs k
slice_get-front [] ys k below = absurd (omega arith)
slice_get-front (x ∷ xs) ys zero below = refl
slice_get-front (x ∷ xs) ys (suc k) below = slice_get-front xs ys k (omega arith)

slice_get-end : {X : Type 0} (xs ys : List X) → slice_get (xs ++ ys) (length xs) ≡ slice_get ys 0
slice_get-end [] ys = refl
slice_get-end (x ∷ xs) ys = slice_get-end xs ys

pub generated-push : (p : Settings) (journal : List Entry) (e : Entry) → IsGenerated p journal
    → next_turn p journal ≡ Some e.turn → IsGenerated p (journal ++ e ∷ [])
generated-push p journal e before next k f at = by_place (nat_lt k (length journal)) refl
  where
    within : k < length journal + 1
    within = omega (arith, slice_get_within (journal ++ e ∷ []) k f at, length-append journal (e ∷ []))

    by_place : (b : Bool) → nat_lt k (length journal) ≡ b → next_turn p (take k (journal ++ e ∷ [])) ≡ Some f.turn
    by_place true is =
        let below : k < length journal = grind (arith, nat_tests) in
        let here : slice_get journal k ≡ Some f = sym (slice_get-front journal (e ∷ []) k below) ∙ at in
        ap (next_turn p) (take-append-le k journal (e ∷ []) (omega arith)) ∙ before k f here
    by_place false is =
        let most : k < length journal + 1 = within in
        let last : k ≡ length journal = grind (arith, nat_tests) in
        let one : e ≡ f =
        same_Some _ _ (sym (slice_get-end journal (e ∷ [])) ∙ ap (slice_get (journal ++ e ∷ [])) (sym last) ∙ at) in
        let all : take k (journal ++ e ∷ []) ≡ journal =
        take-append-le k journal (e ∷ []) (omega arith) ∙ ap (λ k. take k journal) last ∙ take-all journal in
        ap (next_turn p) all ∙ next ∙ ap (λ (e : Entry). Some e.turn) one
      where
        take-all : (xs : List Entry) → take (length xs) xs ≡ xs
        take-all [] = refl
        take-all (x ∷ xs) = ap (λ ys. x ∷ ys) (take-all xs)

-- the last turn of a journal that has grown
pub last_turn-push : (journal : List Entry) (e : Entry) → last_turn (journal ++ e ∷ []) ≡ Some e.turn
last_turn-push journal e =
    let place : length (journal ++ e ∷ []) - 1 ≡ length journal = omega (arith, length-append journal (e ∷ [])) in
    ap (λ k. option_map (λ (e : Entry). e.turn) (slice_get (journal ++ e ∷ []) k)) place
    ∙ ap (option_map (λ (e : Entry). e.turn)) (slice_get-end journal (e ∷ []))

-- a run on its way that takes the next turn is on its way
pub takes_next : (old : OnWay) (run : Lean) (counter : Counter) (deaf : Deaf) (last : Last) (turn : Turn)
    (refusal : Option Infallible) (way : IsOnWay old) → next_on old ≡ Some turn
    → TakesOne (λ c xs. counts c xs) (λ d xs. Unit {0}) (outside (λ c. 0) old.counter counter old.deaf deaf) old.run run
    way.0 turn refusal
    → last ≡ last_as (Some turn)
    → TakesNext old (record { run = run; counter = counter; deaf = deaf; last = last })
takes_next old run counter deaf last turn refusal way next t is = record {
  way = (
    t.after,
    record {
      stands = t.stands;
      generated = subst (λ p. IsGenerated p t.after) (sym t.settings)
          (subst (IsGenerated p) (sym grown)
          (generated-push p journal e way.1.generated (next_after old journal way.1 ∙ next)));
      heard = subst
          (λ p. IsHeard {E = Infallible} (λ c xs. counts c xs) (λ d xs. Unit {0}) counter deaf (sound p t.after))
          (sym t.settings)
          (heard_takes (λ c xs. counts c xs) (λ d xs. Unit {0}) (λ c. 0) old.counter counter old.deaf deaf turn
          (sound p journal) (sound p t.after) refusal refl t.takes way.1.heard);
      last = is ∙ ap last_as (sym (last_turn-push journal e)) ∙ ap (λ j. last_as (last_turn j)) (sym grown);
    },
  );
  settings = t.settings;
  longer = omega (arith, t.stands.many, way.1.stands.many, ap length grown, length-append journal (e ∷ []));
}
  where
    p : Settings
    p = old.run.settings

    journal : List Entry
    journal = way.0

    e : Entry
    e = entry_of turn t.takes.refused

    grown : t.after ≡ journal ++ e ∷ []
    grown = ap (λ (w : World). w.journal) t.takes.grown

-- a run that settled nothing is as it was
pub same_way : (old : OnWay) (run : Lean) (counter : Counter) (deaf : Deaf) → run ≡ old.run → counter ≡ old.counter
    → deaf ≡ old.deaf → record { run = run; counter = counter; deaf = deaf; last = old.last } ≡ old
same_way old run counter deaf run_is counter_is deaf_is =
    ap (λ r. record { run = r; counter = counter; deaf = deaf; last = old.last }) run_is
    ∙ ap (λ c. record { run = old.run; counter = c; deaf = deaf; last = old.last }) counter_is
    ∙ ap (λ d. record { run = old.run; counter = old.counter; deaf = d; last = old.last }) deaf_is

-- the next turn is the one that is settled, or else the one that is made
pub next_settled : (g : OnWay) (turn : Option Turn) → g.last ≡ lasts.Other → settled_next g.run 0 ≡ turn
    → next_on g ≡ option_or turn (made_turn (board_of g))
next_settled g turn last first =
    ap (turn_after g.run.settings (board_of g)) last ∙ ap (λ t. option_or t (made_turn (board_of g))) first

pub next_of : (g : OnWay) (last : Last) → g.last ≡ last → next_on g ≡ turn_after g.run.settings (board_of g) last
next_of g last is = ap (turn_after g.run.settings (board_of g)) is

pub same_error : {T E : Type 0} (a b : E) → ◌≡◌ {A = Result T E} (Err a) (Err b) → a ≡ b
same_error a b e = cc

-- what a run did that settled a turn, or none
pub settled_some : {R E C : Type 0} (tells : R → List (ReporterEvent × Option E) → Type 0)
    (asks : C → List (ℕ × Ask) → Type 0) (o : Outside R C) (old new : Lean) (t : Option Turn) (turn : Turn)
    → t ≡ Some turn → SettlesOne tells asks o old new t → (journal : List Entry) → StandsForJournal old journal
    → (refusal : Option E) × TakesOne tells asks o old new journal turn refusal
settled_some tells asks o old new t turn is s = subst (SettlesOne tells asks o old new) is s

pub settled_none : {R E C : Type 0} (tells : R → List (ReporterEvent × Option E) → Type 0)
    (asks : C → List (ℕ × Ask) → Type 0) (o : Outside R C) (old new : Lean) (t : Option Turn)
    → t ≡ None → SettlesOne tells asks o old new t → IsAsBefore old new o
settled_none tells asks o old new t is s = subst (SettlesOne tells asks o old new) is s
