-- What a spawner in memory answers and says.
use Rattle.std.proofs.Common.{◌≡◌, ℕ, ◌+◌, ◌<◌, ◌≤◌, List, [], ◌∷◌, ◌++◌, length, get_or, min, refl, sym, subst, ap}
use Rattle.std.proofs.Common.{◌∙◌, arith, Option, Some, None}
use Rattle.std.proofs.Common.{length-append, slice_get}
use Rattle.std.proofs.Common.{inl, inr, ◌⊎◌}
use Rattle.std.specs.Option.{IsSome, IsNone}
use Rattle.std.proofs.Math.Seq.{get_or-append_seam}
use Rattle.std.proofs.lemmas.Bool.{cases_lt}
use Rattle.std.proofs.lemmas.List.{get_or_past, get_or_append_left}
use Rattle.std.proofs.lemmas.Option.{get_or_from_slice_get, slice_get_within, slice_get-get_or, none-some}
use Rattle.run_events.specs.declared.ask.StartAsk.{StartAsk}
use Rattle.run_drive.specs.declared.spawner.Begun.{Begun}
use Rattle.run_drive.specs.declared.spawner.Begun.TheVariants.{Refused}
use Rattle.run_drive.specs.declared.spawner.Said.{Said}
use Rattle.run_drive.specs.declared.spawner.Said.TheVariants.{WaitFailed}
use Rattle.run_drive.specs.declared.spawner.Heard.{Heard}
use Rattle.run_drive.specs.declared.spawner.Heard.TheVariants.{Asked, Spoke}
use Rattle.run_drive.specs.declared.memory_spawner.MemorySpawner.{MemorySpawner}
use Rattle.run_drive.specs.InMemory.{WereGiven, IsFed, HandsOut, silent_text, answers_in, words_in}

-- nothing was given out
given_none : {X : Type 0} (items : List X) (last : X) → WereGiven items last 0 []
given_none items last = record { each = λ k below. absurd (omega (arith, below)); place = omega arith }

-- past the end
past_of : {X : Type 0} (items : List X) (at : ℕ) (last : X) → None ≡ slice_get items at → length items ≤ at
past_of items at last none = by_cases (cases_lt at (length items))
  where
    by_cases : (at < length items) ⊎ (length items ≤ at) → length items ≤ at
    by_cases (inl below) = absurd (none-some (get_or items at last) (none ∙ slice_get-get_or items at last below))
    by_cases (inr past) = past

-- the item at a place, where one more was given out
given_last : {X : Type 0} (items : List X) (last : X) (at many : ℕ) → at ≡ min many (length items)
    → get_or items at last ≡ get_or items many last
given_last items last at many place = by_cases (cases_lt many (length items))
  where
    by_cases : (many < length items) ⊎ (length items ≤ many) → get_or items at last ≡ get_or items many last
    by_cases (inl below) = ap (λ (k : ℕ). get_or items k last) (omega (arith, place, below))
    by_cases (inr past) =
        get_or_past items at last (omega (arith, place, past)) ∙ sym (get_or_past items many last past)

given_item : {X : Type 0} (items : List X) (last : X) (at : ℕ) (given : List X) (item : X) (k : ℕ)
    → WereGiven items last at given → get_or items at last ≡ item → k < length (given ++ item ∷ [])
    → get_or (given ++ item ∷ []) k last ≡ get_or items k last
given_item items last at given item k g same below = by_cases (cases_lt k (length given))
  where
    by_cases : (k < length given) ⊎ (length given ≤ k) → get_or (given ++ item ∷ []) k last ≡ get_or items k last
    by_cases (inl before) = get_or_append_left given (item ∷ []) last k before ∙ g.each k before
    by_cases (inr after) =
        let here : k ≡ length given = omega (arith, after, below, length-append given (item ∷ [])) in
        ap (λ (n : ℕ). get_or (given ++ item ∷ []) n last) here
        ∙ get_or-append_seam given item [] last
        ∙ sym same
        ∙ given_last items last at (length given) g.place
        ∙ ap (λ (n : ℕ). get_or items n last) (sym here)

-- one item more, where the list goes on, and where it is at its end
given_some : {X : Type 0} (items : List X) (last : X) (at : ℕ) (given : List X) (item : X)
    → Some item ≡ slice_get items at → WereGiven items last at given
    → WereGiven items last (at + 1) (given ++ item ∷ [])
given_some items last at given item is g = record {
  each = λ k below. given_item items last at given item k g (get_or_from_slice_get items at item last (sym is)) below;
  place = omega (arith, g.place, slice_get_within items at item (sym is), length-append given (item ∷ []));
}

given_past : {X : Type 0} (items : List X) (last : X) (at : ℕ) (given : List X)
    → None ≡ slice_get items at → WereGiven items last at given → WereGiven items last at (given ++ last ∷ [])
given_past items last at given none g = record {
  each = λ k below. given_item items last at given last k g (get_or_past items at last
      (past_of items at last none)) below;
  place = omega (arith, g.place, past_of items at last none, length-append given (last ∷ []));
}

-- the same of a ticker: it has told nothing, a step of its list, and the step after its list
pub told_none : (steps : List ℕ) → WereGiven steps 1000000 0 []
told_none steps = given_none steps 1000000

pub told_step : (steps : List ℕ) (at : ℕ) (given : List ℕ) (step : ℕ) → at < length steps
    → get_or steps at 1000000 ≡ step → WereGiven steps 1000000 at given
    → WereGiven steps 1000000 (at + 1) (given ++ step ∷ [])
told_step steps at given step within is g = record {
  each = λ k below. given_item steps 1000000 at given step k g is below;
  place = omega (arith, g.place, within, length-append given (step ∷ []));
}

pub told_last : (steps : List ℕ) (at : ℕ) (given : List ℕ) → length steps ≤ at → WereGiven steps 1000000 at given
    → WereGiven steps 1000000 at (given ++ 1000000 ∷ [])
told_last steps at given past g = record {
  each = λ k below. given_item steps 1000000 at given 1000000 k g (get_or_past steps at 1000000 past) below;
  place = omega (arith, g.place, past, length-append given (1000000 ∷ []));
}

-- the first spawner is handed out, and where none is left one with empty lists
pub hands_first : (old new : List MemorySpawner) (first out : MemorySpawner) → old ≡ first ∷ new
    → out.begun.items ≡ first.begun.items → out.said.items ≡ first.said.items → HandsOut old out new
hands_first old new first out same begun said =
    subst (λ (ss : List MemorySpawner). HandsOut ss out new) (sym same) (begun, said, refl)

pub hands_none : (old new : List MemorySpawner) (out : MemorySpawner) → length old ≡ 0 → old ≡ new
    → out.begun.items ≡ [] → out.said.items ≡ [] → HandsOut old out new
hands_none [] new out none same begun said = (begun, said, sym same)
hands_none (first ∷ later) new out none same begun said = absurd (omega (arith, none))

-- answers and words of a list with one thing more
answers_asked : (heard : List Heard) (start : StartAsk) (begun : Begun)
    → answers_in (heard ++ Asked start begun ∷ []) ≡ answers_in heard ++ begun ∷ []
answers_asked [] start begun = refl
answers_asked (Asked s b ∷ heard) start begun = ap (λ (bs : List Begun). b ∷ bs) (answers_asked heard start begun)
answers_asked (Spoke said ∷ heard) start begun = answers_asked heard start begun

answers_spoke : (heard : List Heard) (said : Said) → answers_in (heard ++ Spoke said ∷ []) ≡ answers_in heard
answers_spoke [] said = refl
answers_spoke (Asked s b ∷ heard) said = ap (λ (bs : List Begun). b ∷ bs) (answers_spoke heard said)
answers_spoke (Spoke w ∷ heard) said = answers_spoke heard said

words_asked : (heard : List Heard) (start : StartAsk) (begun : Begun)
    → words_in (heard ++ Asked start begun ∷ []) ≡ words_in heard
words_asked [] start begun = refl
words_asked (Asked s b ∷ heard) start begun = words_asked heard start begun
words_asked (Spoke w ∷ heard) start begun = ap (λ (ws : List Said). w ∷ ws) (words_asked heard start begun)

words_spoke : (heard : List Heard) (said : Said) → words_in (heard ++ Spoke said ∷ []) ≡ words_in heard ++ said ∷ []
words_spoke [] said = refl
words_spoke (Asked s b ∷ heard) said = words_spoke heard said
words_spoke (Spoke w ∷ heard) said = ap (λ (ws : List Said). w ∷ ws) (words_spoke heard said)

-- a spawner at the front of its lists
pub fed_none : (begun : List Begun) (said : List Said) → IsFed begun 0 said 0 []
fed_none begun said =
    record { answers = given_none begun (Refused silent_text); words = given_none said (WaitFailed silent_text) }

-- one answer more, from the list and past its end
fed_asked : (begun : List Begun) (at : ℕ) (said : List Said) (said_at : ℕ) (heard : List Heard) (start : StartAsk)
    (b : Begun) → WereGiven begun (Refused silent_text) at (answers_in heard ++ b ∷ [])
    → WereGiven said (WaitFailed silent_text) said_at (words_in heard)
    → IsFed begun at said said_at (heard ++ Asked start b ∷ [])
fed_asked begun at said said_at heard start b given words = record {
  answers = subst (WereGiven begun (Refused silent_text) at) (sym (answers_asked heard start b)) given;
  words = subst (WereGiven said (WaitFailed silent_text) said_at) (sym (words_asked heard start b)) words;
}

pub fed_begun : (begun now : List Begun) (at next : ℕ) (said : List Said) (said_at : ℕ) (found : Option Begun)
    (start : StartAsk) (b : Begun) → found ≡ Some b → found ≡ slice_get begun at → (IsSome found → next ≡ at + 1)
    → now ≡ begun → (heard : List Heard) → IsFed begun at said said_at heard
    → IsFed now next said said_at (heard ++ Asked start b ∷ [])
fed_begun begun now at next said said_at found start b is from some same heard f =
    let more =
    fed_asked begun (at + 1) said said_at heard start b
    (given_some begun (Refused silent_text) at (answers_in heard) b (sym is ∙ from) f.answers) f.words in
    subst (λ (bs : List Begun). IsFed bs next said said_at (heard ++ Asked start b ∷ [])) (sym same)
    (subst (λ (n : ℕ). IsFed begun n said said_at (heard ++ Asked start b ∷ []))
    (sym (some (subst IsSome (sym is) refl)))
    more)

pub fed_refused : (begun now : List Begun) (at next : ℕ) (said : List Said) (said_at : ℕ) (found : Option Begun)
    (start : StartAsk) (text : List ℕ) → found ≡ None → found ≡ slice_get begun at → (IsNone found → next ≡ at)
    → now ≡ begun → text ≡ silent_text → (heard : List Heard) → IsFed begun at said said_at heard
    → IsFed now next said said_at (heard ++ Asked start (Refused text) ∷ [])
fed_refused begun now at next said said_at found start text is from none same last heard f =
    let more =
    fed_asked begun at said said_at heard start (Refused silent_text)
    (given_past begun (Refused silent_text) at (answers_in heard) (sym is ∙ from) f.answers) f.words in
    subst (λ (bs : List Begun). IsFed bs next said said_at (heard ++ Asked start (Refused text) ∷ [])) (sym same)
    (subst (λ (n : ℕ). IsFed begun n said said_at (heard ++ Asked start (Refused text) ∷ []))
    (sym (none (subst IsNone (sym is) refl)))
    (subst (λ (t : List ℕ). IsFed begun at said said_at (heard ++ Asked start (Refused t) ∷ [])) (sym last) more))

-- one word more, from the list and past its end
fed_spoke : (begun : List Begun) (begun_at : ℕ) (said : List Said) (at : ℕ) (heard : List Heard) (w : Said)
    → WereGiven begun (Refused silent_text) begun_at (answers_in heard)
    → WereGiven said (WaitFailed silent_text) at (words_in heard ++ w ∷ [])
    → IsFed begun begun_at said at (heard ++ Spoke w ∷ [])
fed_spoke begun begun_at said at heard w answers given = record {
  answers = subst (WereGiven begun (Refused silent_text) begun_at) (sym (answers_spoke heard w)) answers;
  words = subst (WereGiven said (WaitFailed silent_text) at) (sym (words_spoke heard w)) given;
}

pub fed_said : (begun : List Begun) (begun_at : ℕ) (said now : List Said) (at next : ℕ) (found : Option Said) (w : Said)
    → found ≡ Some w → found ≡ slice_get said at → (IsSome found → next ≡ at + 1) → now ≡ said → (heard : List Heard)
    → IsFed begun begun_at said at heard → IsFed begun begun_at now next (heard ++ Spoke w ∷ [])
fed_said begun begun_at said now at next found w is from some same heard f =
    let more =
    fed_spoke begun begun_at said (at + 1) heard w f.answers
    (given_some said (WaitFailed silent_text) at (words_in heard) w (sym is ∙ from) f.words) in
    subst (λ (ws : List Said). IsFed begun begun_at ws next (heard ++ Spoke w ∷ [])) (sym same)
    (subst (λ (n : ℕ). IsFed begun begun_at said n (heard ++ Spoke w ∷ [])) (sym (some (subst IsSome (sym is) refl)))
    more)

pub fed_failed : (begun : List Begun) (begun_at : ℕ) (said now : List Said) (at next : ℕ) (found : Option Said)
    (text : List ℕ) → found ≡ None → found ≡ slice_get said at → (IsNone found → next ≡ at) → now ≡ said
    → text ≡ silent_text → (heard : List Heard) → IsFed begun begun_at said at heard
    → IsFed begun begun_at now next (heard ++ Spoke (WaitFailed text) ∷ [])
fed_failed begun begun_at said now at next found text is from none same last heard f =
    let more =
    fed_spoke begun begun_at said at heard (WaitFailed silent_text) f.answers
    (given_past said (WaitFailed silent_text) at (words_in heard) (sym is ∙ from) f.words) in
    subst (λ (ws : List Said). IsFed begun begun_at ws next (heard ++ Spoke (WaitFailed text) ∷ [])) (sym same)
    (subst (λ (n : ℕ). IsFed begun begun_at said n (heard ++ Spoke (WaitFailed text) ∷ []))
    (sym (none (subst IsNone (sym is) refl)))
    (subst (λ (t : List ℕ). IsFed begun begun_at said at (heard ++ Spoke (WaitFailed t) ∷ [])) (sym last) more))
