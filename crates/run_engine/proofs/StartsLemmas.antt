-- The starts that a run asked, as its journal grows and as they are claimed.
use Rattle.std.proofs.Common.{◌≡◌, ℕ, ◌+◌, ◌<◌, ◌≤◌, List, [], ◌∷◌, ◌++◌, length, map, drop, get_or, slice_get, Option}
use Rattle.std.proofs.Common.{Some, None}
use Rattle.std.proofs.Common.{Bool, true, is_some, option_to_list, refl, ap, sym, subst, ◌∙◌, arith, append_assoc}
use Rattle.std.proofs.Common.{length-append}
use Rattle.std.proofs.lemmas.List.{append-nil, drop-append-le, drop_more, length-drop}
use Rattle.std.proofs.lemmas.Option.{slice_get-get_or, slice_get_past}
use Rattle.run_events.specs.declared.settings.Settings.{Settings}
use Rattle.run_events.specs.declared.ask.Ask.{Ask}
use Rattle.run_events.specs.declared.ask.StartAsk.{StartAsk}
use Rattle.run_events.specs.declared.ask.Ask.TheVariants.{Start, Signal, StopSelf}
use Rattle.run_model.specs.declared.entry.Entry.{Entry}
use Rattle.run_model.specs.declared.happening.Happening.{Happening}
use Rattle.run_model.specs.Words.{asked}
use Rattle.run_model.specs.Turns.{happening, deed_on}
use Rattle.run_model.specs.Board.{board}
use Rattle.run_events.specs.declared.turn.Turn.{Turn}
use Rattle.run_state.specs.Held.{Held, held}
use Rattle.run_engine.specs.World.{entry_of}
use Rattle.run_model.specs.Journal.{past_of}
use Rattle.run_laws.proofs.board.Ready.{past_of-length}
use Rattle.run_engine.specs.Starts.{start_among, starts_among, starts_of, AreClaimed}
use Rattle.run_engine.proofs.TakesLemmas.{asked-push}

starts-append : (xs ys : List (ℕ × Ask)) → starts_among (xs ++ ys) ≡ starts_among xs ++ starts_among ys
starts-append [] ys = refl
starts-append (x ∷ xs) ys = ap (λ s. start_among (Some x.1) ++ s) (starts-append xs ys)
    ∙ sym (append_assoc (start_among (Some x.1)) (starts_among xs) (starts_among ys))

starts-placed : (place : ℕ) (q : Option Ask)
    → starts_among (map (λ ask. (place, ask)) (option_to_list q)) ≡ start_among q
starts-placed place None = refl
starts-placed place (Some ask) = append-nil (start_among (Some ask))

-- the starts of a journal with one more entry
pub starts-push : (p : Settings) (journal : List Entry) (e : Entry)
    → starts_of p (journal ++ e ∷ []) ≡ starts_of p journal ++ start_among (happening p (past_of p journal) e).asked
starts-push p journal e =
    ap starts_among (asked-push p journal e)
    ∙ starts-append (asked (past_of p journal)) _
    ∙ ap (λ s. starts_of p journal ++ s) (starts-placed (length journal) (happening p (past_of p journal) e).asked)

one-start : (q : Option Ask) → length (start_among q) ≤ 1
one-start None = omega arith
one-start (Some (Start start)) = omega arith
one-start (Some (Signal signal)) = omega arith
one-start (Some StopSelf) = omega arith

starts-few : (past : List Happening) → length (starts_among (asked past)) ≤ length past
starts-few [] = omega arith
starts-few (x ∷ past) = omega (
  arith,
  starts-few past,
  one-start x.asked,
  ap length (starts-append (asked past) (map (λ ask. (length past, ask)) (option_to_list x.asked))),
  ap length (starts-placed (length past) x.asked),
  length-append (starts_among (asked past)) (starts_among (map (λ ask. (length past, ask)) (option_to_list x.asked))),
)

-- a journal asks no more starts than it has turns
pub starts-fit : (p : Settings) (journal : List Entry) → length (starts_of p journal) ≤ length journal
starts-fit p journal = omega (arith, starts-few (past_of p journal), past_of-length p journal)

-- one more start that waits comes last
pub claims-push : (p : Settings) (journal : List Entry) (e : Entry) (waiting after : List StartAsk) (claimed : ℕ)
    → AreClaimed (starts_of p journal) waiting claimed
    → after ≡ waiting ++ start_among (happening p (past_of p journal) e).asked
    → AreClaimed (starts_of p (journal ++ e ∷ [])) after claimed
claims-push p journal e waiting after claimed c grown =
    let new = start_among (happening p (past_of p journal) e).asked in
    let pushed = starts-push p journal e in
    record {
      few = omega (arith, c.few, ap length pushed, length-append (starts_of p journal) new);
      rest = grown ∙ ap (λ w. w ++ new) c.rest ∙ sym (drop-append-le claimed (starts_of p journal) new c.few)
          ∙ ap (drop claimed) (sym pushed);
    }

-- the earliest that waits is claimed
first-of : {X : Type 0} (x y : X) (xs ys : List X) → x ∷ xs ≡ y ∷ ys → (x ≡ y) × (xs ≡ ys)
first-of x y xs ys e = (cc, cc)

pub record Claims (starts waiting rest : List StartAsk) (start : StartAsk) (claimed : ℕ) : Type 0 where
  pub is : slice_get starts claimed ≡ Some start
  pub within : claimed < length starts
  pub after : AreClaimed starts rest (claimed + 1)

pub claims-take : (starts waiting rest : List StartAsk) (start : StartAsk) (claimed : ℕ)
    → AreClaimed starts waiting claimed → waiting ≡ start ∷ rest → Claims starts waiting rest start claimed
claims-take starts waiting rest start claimed c is =
    let e : start ∷ rest ≡ drop claimed starts = sym is ∙ c.rest in
    let within : claimed < length starts = omega (arith, ap length e, length-drop claimed starts) in
    let parts = first-of start (get_or starts claimed start) rest (drop (claimed + 1) starts)
    (e ∙ drop_more starts claimed start within) in
    record {
      is = slice_get-get_or starts claimed start within ∙ ap Some (sym parts.0);
      within = within;
      after = record { few = omega (arith, within); rest = parts.1 };
    }

pub empty_of : {X : Type 0} (xs : List X) → length xs ≡ 0 → xs ≡ []
empty_of [] e = refl
empty_of (x ∷ xs) e = absurd (omega arith)

pub claims-none : (starts waiting : List StartAsk) (claimed : ℕ) → AreClaimed starts waiting claimed → waiting ≡ []
    → slice_get starts claimed ≡ None
claims-none starts waiting claimed c is =
    slice_get_past starts claimed (omega (arith, ap length (sym is ∙ c.rest), length-drop claimed starts))

-- a turn keeps the start that it asked, by the state before it
pub claims_next : (p q : Settings) (journal after : List Entry) (state : Held) (turn : Turn) (refused : List Bool)
    (waiting starts : List StartAsk) (claimed : ℕ) → p ≡ q → AreClaimed (starts_of q journal) waiting claimed
    → state ≡ held q (board q (past_of q journal))
    → starts ≡ waiting ++ start_among (deed_on p state.board turn).asked
    → after ≡ journal ++ entry_of turn refused ∷ [] → AreClaimed (starts_of p after) starts claimed
claims_next p q journal after state turn refused waiting starts claimed same c st =
    subst (λ p. starts ≡ waiting ++ start_among (deed_on p state.board turn).asked
    → after ≡ journal ++ entry_of turn refused ∷ [] → AreClaimed (starts_of p after) starts claimed)
    (sym same)
    (λ grown more. subst (λ j. AreClaimed (starts_of q j) starts claimed) (sym more)
    (claims-push q journal (entry_of turn refused) waiting starts claimed c
    (grown ∙ ap (λ (h : Held). waiting ++ start_among (deed_on q h.board turn).asked) st)))

pub claims-some : (starts waiting : List StartAsk) (claimed : ℕ) → AreClaimed starts waiting claimed
    → 0 < length waiting → is_some (slice_get starts claimed) ≡ true
claims-some starts [] claimed c many = absurd (omega arith)
claims-some starts (x ∷ rest) claimed c many = ap is_some (claims-take starts (x ∷ rest) rest x claimed c refl).is
