-- A character is one step of the machine, however many bytes it has.
use Rattle.std.proofs.Common.{◌≡◌, true, false, ℕ, suc, ◌+◌, ◌<◌, ◌≤◌, List, [], ◌∷◌, ◌++◌, length, refl, ap, sym}
use Rattle.std.proofs.Common.{subst, ◌∙◌, arith, append_assoc, is_some, encode_utf8}
use Rattle.std.proofs.Math.Utf8.{encode}
use Rattle.std.proofs.Math.Dec.{ltb}
use Rattle.std.proofs.lemmas.Bool.{ltb-true}
use Rattle.std.proofs.lemmas.Bool.Decides.{nat_tests}
use Rattle.std.proofs.lemmas.Str.{encode_ascii, length-encode, len_utf8_bounds}
use Rattle.run_commands.specs.declared.words.char_kind.CharKind.TheVariants as kinds
use Rattle.run_commands.specs.declared.words.machine.State.{State}
use Rattle.run_commands.specs.Gathered.{Gathered}
use Rattle.run_commands.specs.Words.{kind}
use Rattle.run_commands.specs.WordMachine.{Mode, Effect, Read, step, effects, put, mode_of, step_for, TakesChar}
use Rattle.run_commands.specs.WordMachine.{reading}
use Rattle.run_commands.proofs.CharLemmas.{AreHigh, encode-high}
use Rattle.run_commands.proofs.WordLemmas.{reading-step, effects-pass, effects-add_nil, effects-add_add}

-- no byte past ASCII means anything to the grammar
kind-high : (b : ℕ) → 128 ≤ b → kind b ≡ kinds.Plain
kind-high b high = grind (arith, nat_tests)

-- such a byte is added, in a mode that stays as it is
module _ (mode : Mode) (stays : (place b : ℕ) → step mode place (b ∷ []) kinds.Plain ≡ (mode, Effect.add (b ∷ [])))
  where
    high_step : (place b : ℕ) (text : List ℕ) → 128 ≤ b
        → reading mode place (b ∷ text) ≡ effects (Effect.add (b ∷ [])) (reading mode (suc place) text)
    high_step place b text high =
        reading-step mode place b text kinds.Plain (kind-high b high)
        ∙ ap (λ (to : Mode × Effect). effects to.1 (reading to.0 (suc place) text)) (stays place b)

    high_run : (bytes rest : List ℕ) (place : ℕ) → AreHigh bytes
        → reading mode place (bytes ++ rest) ≡ effects (Effect.add bytes) (reading mode (place + length bytes) rest)
    high_run [] rest place high =
        let none : place ≡ place + 0 = omega arith in
        ap (λ at. reading mode at rest) none ∙ sym (effects-add_nil (reading mode (place + 0) rest))
    high_run (b ∷ bytes) rest place high =
        let further : suc place + length bytes ≡ place + length (b ∷ bytes) = omega arith in
        high_step place b (bytes ++ rest) high.0
        ∙ ap (effects (Effect.add (b ∷ []))) (high_run bytes rest (suc place) high.1)
        ∙ effects-add_add (b ∷ []) bytes (reading mode (suc place + length bytes) rest)
        ∙ ap (λ at. effects (Effect.add (b ∷ bytes)) (reading mode at rest)) further

-- such bytes of a comment are skipped
comment_run : (bytes rest : List ℕ) (place : ℕ) → AreHigh bytes
    → reading Mode.comment place (bytes ++ rest) ≡ reading Mode.comment (place + length bytes) rest
comment_run [] rest place high =
    let none : place ≡ place + 0 = omega arith in ap (λ at. reading Mode.comment at rest) none
comment_run (b ∷ bytes) rest place high =
    let further : suc place + length bytes ≡ place + length (b ∷ bytes) = omega arith in
    reading-step Mode.comment place b (bytes ++ rest) kinds.Plain (kind-high b high.0)
    ∙ effects-pass (reading Mode.comment (suc place) (bytes ++ rest))
    ∙ comment_run bytes rest (suc place) high.1
    ∙ ap (λ at. reading Mode.comment at rest) further

-- a byte that is added after other bytes, and the bytes behind it
high_after : (mode next : Mode) (slash : List ℕ) (place b : ℕ) (bytes rest : List ℕ)
    → ((at c : ℕ) → step next at (c ∷ []) kinds.Plain ≡ (next, Effect.add (c ∷ [])))
    → step mode place (b ∷ []) kinds.Plain ≡ (next, Effect.add (slash ++ b ∷ [])) → AreHigh (b ∷ bytes)
    → reading mode place ((b ∷ bytes) ++ rest)
    ≡ effects (Effect.add (slash ++ b ∷ bytes)) (reading next (place + length (b ∷ bytes)) rest)
high_after mode next slash place b bytes rest stays first high =
    let further : suc place + length bytes ≡ place + length (b ∷ bytes) = omega arith in
    reading-step mode place b (bytes ++ rest) kinds.Plain (kind-high b high.0)
    ∙ ap (λ (to : Mode × Effect). effects to.1 (reading to.0 (suc place) (bytes ++ rest))) first
    ∙ ap (effects (Effect.add (slash ++ b ∷ []))) (high_run next stays bytes rest (suc place) high.1)
    ∙ effects-add_add (slash ++ b ∷ []) bytes (reading next (suc place + length bytes) rest)
    ∙ ap (λ said. effects (Effect.add said) (reading next (suc place + length bytes) rest))
    (append_assoc slash (b ∷ []) bytes)
    ∙ ap (λ at. effects (Effect.add (slash ++ b ∷ bytes)) (reading next at rest)) further

-- a character past ASCII
high_char : (mode : Mode) (place : ℕ) (bytes rest : List ℕ) → AreHigh bytes → 0 < length bytes
    → reading mode place (bytes ++ rest)
    ≡ effects (step mode place bytes kinds.Plain).1
    (reading (step mode place bytes kinds.Plain).0 (place + length bytes) rest)
high_char mode place [] rest high some = absurd (omega arith)
high_char (Mode.outside inside) place (b ∷ bytes) rest high some =
    high_after (Mode.outside inside) (Mode.outside true) [] place b bytes rest (λ at c. refl) refl high
high_char (Mode.escape inside slash) place (b ∷ bytes) rest high some =
    high_after (Mode.escape inside slash) (Mode.outside true) [] place b bytes rest (λ at c. refl) refl high
high_char Mode.comment place (b ∷ bytes) rest high some =
    comment_run (b ∷ bytes) rest place high
    ∙ sym (effects-pass (reading Mode.comment (place + length (b ∷ bytes)) rest))
high_char (Mode.single quote) place (b ∷ bytes) rest high some =
    high_run (Mode.single quote) (λ at c. refl) (b ∷ bytes) rest place high
high_char (Mode.double quote) place (b ∷ bytes) rest high some =
    high_run (Mode.double quote) (λ at c. refl) (b ∷ bytes) rest place high
high_char (Mode.double_escape quote slash) place (b ∷ bytes) rest high some =
    high_after (Mode.double_escape quote slash) (Mode.double quote) slash place b bytes rest (λ at c. refl) refl high

-- any character
char_reads : (mode : Mode) (place c : ℕ) (rest : List ℕ)
    → reading mode place (encode_utf8 c ++ rest)
    ≡ effects (step mode place (encode_utf8 c) (kind c)).1
    (reading (step mode place (encode_utf8 c) (kind c)).0 (place + length (encode_utf8 c)) rest)
char_reads mode place c rest =
    elim (ltb c 128) as (λ test. ltb c 128 ≡ test → reading mode place (encode_utf8 c ++ rest)
    ≡ effects (step mode place (encode_utf8 c) (kind c)).1
    (reading (step mode place (encode_utf8 c) (kind c)).0 (place + length (encode_utf8 c)) rest)) [
      | true ↦ λ e. low_char (encode_ascii c (ltb-true c 128 e))
      | false ↦ λ e. let high : 128 ≤ c = grind (arith, nat_tests) in
          let some : 0 < length (encode c) = omega (arith, length-encode c, (len_utf8_bounds c).0) in
          subst (λ k. reading mode place (encode c ++ rest)
          ≡ effects (step mode place (encode c) k).1
          (reading (step mode place (encode c) k).0 (place + length (encode c)) rest))
          (sym (kind-high c high)) (high_char mode place (encode c) rest (encode-high c high) some)
    ] refl
  where
    low_char : encode c ≡ c ∷ [] → reading mode place (encode c ++ rest)
        ≡ effects (step mode place (encode c) (kind c)).1
        (reading (step mode place (encode c) (kind c)).0 (place + length (encode c)) rest)
    low_char one =
        let next : suc place ≡ place + 1 = omega arith in
        subst (λ bytes. reading mode place (bytes ++ rest)
        ≡ effects (step mode place bytes (kind c)).1
        (reading (step mode place bytes (kind c)).0 (place + length bytes) rest))
        (sym one) (reading-step mode place c rest (kind c) refl
        ∙ ap (λ at. effects (step mode place (c ∷ []) (kind c)).1
        (reading (step mode place (c ∷ []) (kind c)).0 at rest)) next)

-- the words so far before what is left go on being those of the whole
goes_on : (state next : State) (old new : Gathered) (place c at : ℕ) (left later : List ℕ) (whole : Read)
    → TakesChar state next old new place c → left ≡ encode_utf8 c ++ later → at ≡ place + length (encode_utf8 c)
    → put old (reading (mode_of state (is_some old.open_word)) place left) ≡ whole
    → put new (reading (mode_of next (is_some new.open_word)) at later) ≡ whole
goes_on state next old new place c at left later whole takes is_left is_at so_far =
    ap (λ mode. put new (reading mode at later)) takes.mode
    ∙ ap (λ from. put new (reading (step_for state old place c).0 from later)) is_at
    ∙ takes.adds (reading (step_for state old place c).0 (place + length (encode_utf8 c)) later)
    ∙ ap (put old) (sym (char_reads (mode_of state (is_some old.open_word)) place c later))
    ∙ ap (λ bytes. put old (reading (mode_of state (is_some old.open_word)) place bytes)) (sym is_left)
    ∙ so_far

-- the same, from the offset at which the character begins
pub goes_on_from : (state next : State) (old new : Gathered) (place c offset at : ℕ) (left later : List ℕ)
    (whole : Read)
    → TakesChar state next old new place c
    → (place ≡ offset) × (left ≡ encode_utf8 c ++ later) × (at ≡ offset + length (encode_utf8 c))
    → put old (reading (mode_of state (is_some old.open_word)) offset left) ≡ whole
    → put new (reading (mode_of next (is_some new.open_word)) at later) ≡ whole
goes_on_from state next old new place c offset at left later whole takes steps so_far =
    goes_on state next old new place c at left later whole takes steps.1
    (steps.2 ∙ ap (λ from. from + length (encode_utf8 c)) (sym steps.0))
    (ap (λ from. put old (reading (mode_of state (is_some old.open_word)) from left)) steps.0 ∙ so_far)
