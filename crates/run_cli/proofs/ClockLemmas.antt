-- The clocks of lists of turns.
use Rattle.std.proofs.Common.{◌≡◌, ℕ, ◌+◌, ◌<◌, ◌^◌, List, [], ◌∷◌, ◌++◌, length, take, get_or, refl, ap, sym, subst}
use Rattle.std.proofs.Common.{◌∙◌}
use Rattle.std.proofs.Common.{append_assoc, arith, min}
use Rattle.std.proofs.lemmas.List.{append-nil, take_more}
use Rattle.run_events.specs.declared.turn.Turn.{Turn}
use Rattle.run_events.specs.declared.turn.Turn.TheVariants as turns
use Rattle.run_cli.specs.Clocks.{clock_after, clock_after_all, clock_at, turn_clocks}

-- one more turn
pub turn_clocks-more : (now : ℕ) (ts : List Turn) (turn : Turn)
    → turn_clocks now (ts ++ turn ∷ []) ≡ turn_clocks now ts ++ clock_at (clock_after_all now ts) turn
turn_clocks-more now [] turn = append-nil (clock_at now turn)
turn_clocks-more now (t ∷ ts) turn =
    ap (λ clocks. clock_at now t ++ clocks) (turn_clocks-more (clock_after now t) ts turn)
    ∙ sym (append_assoc (clock_at now t) (turn_clocks (clock_after now t) ts) _)

pub clock_after-more : (now : ℕ) (ts : List Turn) (turn : Turn)
    → clock_after_all now (ts ++ turn ∷ []) ≡ clock_after (clock_after_all now ts) turn
clock_after-more now [] turn = refl
clock_after-more now (t ∷ ts) turn = clock_after-more (clock_after now t) ts turn

-- and more turns
pub turn_clocks-append : (now : ℕ) (ts us : List Turn)
    → turn_clocks now (ts ++ us) ≡ turn_clocks now ts ++ turn_clocks (clock_after_all now ts) us
turn_clocks-append now [] us = refl
turn_clocks-append now (t ∷ ts) us =
    ap (λ clocks. clock_at now t ++ clocks) (turn_clocks-append (clock_after now t) ts us)
    ∙ sym (append_assoc (clock_at now t) (turn_clocks (clock_after now t) ts) _)

-- the turn at this place, read after those before it
turn_clocks-take : (ts : List Turn) (i : ℕ) (turn : Turn) → i < length ts → turn ≡ get_or ts i turn
    → turn_clocks 0 (take (i + 1) ts) ≡ turn_clocks 0 (take i ts) ++ clock_at (clock_after_all 0 (take i ts)) turn
turn_clocks-take ts i turn below is =
    ap (turn_clocks 0) (take_more ts i turn below) ∙ turn_clocks-more 0 (take i ts) (get_or ts i turn)
    ∙ ap (λ t. turn_clocks 0 (take i ts) ++ clock_at (clock_after_all 0 (take i ts)) t) (sym is)

clock_after-take : (ts : List Turn) (i : ℕ) (turn : Turn) → i < length ts → turn ≡ get_or ts i turn
    → clock_after_all 0 (take (i + 1) ts) ≡ clock_after (clock_after_all 0 (take i ts)) turn
clock_after-take ts i turn below is =
    ap (clock_after_all 0) (take_more ts i turn below) ∙ clock_after-more 0 (take i ts) (get_or ts i turn)
    ∙ ap (clock_after (clock_after_all 0 (take i ts))) (sym is)

-- a clock stays within a u64
clock_within : (now : ℕ) (ts : List Turn) → now < 2 ^ 64 → clock_after_all now ts < 2 ^ 64
clock_within now [] below = below
clock_within now (t ∷ ts) below = clock_within (clock_after now t) ts (omega arith)

-- the clocks after one more turn of a list, by those before it
pub one_more_turn : (ts : List Turn) (i : ℕ) (turn : Turn) (clocks clocks_after : List ℕ) (now now_after : ℕ)
    → i < length ts → turn ≡ get_or ts i turn
    → (clocks ≡ turn_clocks 0 (take i ts)) × (now ≡ clock_after_all 0 (take i ts))
    → (now < 2 ^ 64 → (clocks_after ≡ clocks ++ clock_at now turn) × (now_after ≡ clock_after now turn))
    → (clocks_after ≡ turn_clocks 0 (take (i + 1) ts)) × (now_after ≡ clock_after_all 0 (take (i + 1) ts))
one_more_turn ts i turn clocks clocks_after now now_after below is before step =
    let within : now < 2 ^ 64 = subst (λ n. n < 2 ^ 64) (sym before.1) (clock_within 0 (take i ts) (omega arith)) in
    let one = step within in (
      one.0 ∙ ap (λ cs. cs ++ clock_at now turn) before.0
          ∙ ap (λ n. turn_clocks 0 (take i ts) ++ clock_at n turn) before.1 ∙ sym (turn_clocks-take ts i turn below is),
      one.1 ∙ ap (λ n. clock_after n turn) before.1 ∙ sym (clock_after-take ts i turn below is),
    )

-- what a tick, a move of the clock and another turn do to both
pub by_tick : (turn : Turn) (clocks : List ℕ) (now : ℕ) → turn ≡ turns.Tick → now < 2 ^ 64
    → (clocks ++ now ∷ [] ≡ clocks ++ clock_at now turn) × (now ≡ clock_after now turn)
by_tick turn clocks now is below =
    subst (λ t. (clocks ++ now ∷ [] ≡ clocks ++ clock_at now t) × (now ≡ clock_after now t)) (sym is)
    (refl, omega arith)

pub by_move : (turn : Turn) (clocks : List ℕ) (now ns : ℕ) → turn ≡ turns.Clock ns
    → (clocks ≡ clocks ++ clock_at now turn) × (min (now + ns) 18446744073709551615 ≡ clock_after now turn)
by_move turn clocks now ns is =
    subst (λ t. (clocks ≡ clocks ++ clock_at now t) × (min (now + ns) 18446744073709551615 ≡ clock_after now t))
    (sym is)
    (sym (append-nil clocks), refl)

pub by_other : (turn : Turn) (clocks : List ℕ) (now : ℕ) → now < 2 ^ 64 → (turn ≡ turns.Tick → ⊥)
    → ((ns : ℕ) → turn ≡ turns.Clock ns → ⊥)
    → (clocks ≡ clocks ++ clock_at now turn) × (now ≡ clock_after now turn)
by_other turns.Tick clocks now below tick moves = absurd (tick refl)
by_other (turns.Clock ns) clocks now below tick moves = absurd (moves ns refl)
by_other turn clocks now below tick moves = (sym (append-nil clocks), omega arith)
