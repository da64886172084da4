-- What the code does for a character is a step of the machine.
use Rattle.std.proofs.Common.{◌≡◌, ◌≢◌, Bool, true, false, ℕ, List, [], ◌∷◌, ◌++◌, Option, Some, None, Ok, Err, refl}
use Rattle.std.proofs.Common.{ap, sym, ◌∙◌, append_assoc, append-nil, is_some, if◌then◌else◌}
use Rattle.std.specs.Option.{option_to_list}
use Rattle.run_commands.specs.declared.words.char_kind.CharKind.{CharKind}
use Rattle.run_commands.specs.declared.words.char_kind.CharKind.TheVariants as kinds
use Rattle.run_commands.specs.declared.words.machine.State.{State}
use Rattle.run_commands.specs.Gathered.{Gathered, word_so_far}
use Rattle.run_commands.specs.WordMachine.{Mode, Effect, Read, step_outside, step_escape, step_single, step_double}
use Rattle.run_commands.specs.WordMachine.{step_double_escape, effects, put, mode_of, step_for, IsSound, TakesChar}
use Rattle.run_commands.proofs.WordSoundLemmas.{onto_both, onto_none}

-- bytes that are added to the open word
put-add : (ended : List (List ℕ)) (open_word : Option (List ℕ)) (bytes : List ℕ) (r : Read)
    → put (record { ended = ended; open_word = Some (word_so_far open_word ++ bytes) }) r
    ≡ put (record { ended = ended; open_word = open_word }) (effects (Effect.add bytes) r)
put-add ended open_word bytes (Err place) = refl
put-add ended None bytes (Ok more) = refl
put-add ended (Some word) bytes (Ok more) = ap (λ words. Ok (ended ++ words)) (onto_both word bytes more)

-- a word that is opened
put-open : (ended : List (List ℕ)) (open_word : Option (List ℕ)) (r : Read)
    → put (record { ended = ended; open_word = Some (word_so_far open_word) }) r
    ≡ put (record { ended = ended; open_word = open_word }) r
put-open ended open_word (Err place) = refl
put-open ended None (Ok more) = ap (λ words. Ok (ended ++ words)) (onto_none more)
put-open ended (Some word) (Ok more) = refl

-- a word that is ended
put-end : (ended : List (List ℕ)) (open_word : Option (List ℕ)) (r : Read)
    → put (record { ended = ended ++ option_to_list open_word; open_word = None }) r
    ≡ put (record { ended = ended; open_word = open_word })
    (effects (if is_some open_word then Effect.close else Effect.pass) r)
put-end ended None (Err place) = refl
put-end ended (Some word) (Err place) = refl
put-end ended None (Ok more) = ap (λ words. Ok (words ++ more)) (append-nil ended)
put-end ended (Some word) (Ok more) =
    ap Ok (append_assoc ended (word ∷ []) more) ∙ ap (λ bytes. Ok (ended ++ bytes ∷ more)) (sym (append-nil word))

-- nothing that is added
put-pass : (words : Gathered) (r : Read) → put words r ≡ put words (effects Effect.pass r)
put-pass words (Err place) = refl
put-pass words (Ok more) = refl

-- a step that adds bytes
pub takes_add : (state next : State) (old : Gathered) (bytes : List ℕ) (place c : ℕ)
    → step_for state old place c ≡ (mode_of next true, Effect.add bytes)
    → IsSound next (record old { open_word = Some (word_so_far old.open_word ++ bytes) })
    → TakesChar state next old (record old { open_word = Some (word_so_far old.open_word ++ bytes) }) place c
takes_add state next old bytes place c step' sound = record {
  mode = ap (λ (to : Mode × Effect). to.0) (sym step');
  adds = λ r. put-add old.ended old.open_word bytes r
      ∙ ap (λ (to : Mode × Effect). put old (effects to.1 r)) (sym step');
  sound = sound;
}

-- a step that opens a word
pub takes_open : (state next : State) (old : Gathered) (place c : ℕ)
    → step_for state old place c ≡ (mode_of next true, Effect.pass)
    → IsSound next (record old { open_word = Some (word_so_far old.open_word) })
    → TakesChar state next old (record old { open_word = Some (word_so_far old.open_word) }) place c
takes_open state next old place c step' sound = record {
  mode = ap (λ (to : Mode × Effect). to.0) (sym step');
  adds = λ r. put-open old.ended old.open_word r ∙ put-pass old r
      ∙ ap (λ (to : Mode × Effect). put old (effects to.1 r)) (sym step');
  sound = sound;
}

-- a step that ends a word
pub takes_end : (state next : State) (old : Gathered) (place c : ℕ)
    → step_for state old place c ≡ (mode_of next false, if is_some old.open_word then Effect.close else Effect.pass)
    → IsSound next (record { ended = old.ended ++ option_to_list old.open_word; open_word = None })
    → TakesChar state next old (record { ended = old.ended ++ option_to_list old.open_word; open_word = None }) place c
takes_end state next old place c step' sound = record {
  mode = ap (λ (to : Mode × Effect). to.0) (sym step');
  adds = λ r. put-end old.ended old.open_word r ∙ ap (λ (to : Mode × Effect). put old (effects to.1 r)) (sym step');
  sound = sound;
}

-- a step that adds nothing
pub takes_pass : (state next : State) (words : Gathered) (place c : ℕ)
    → step_for state words place c ≡ (mode_of next (is_some words.open_word), Effect.pass)
    → IsSound next words → TakesChar state next words words place c
takes_pass state next words place c step' sound = record {
  mode = ap (λ (to : Mode × Effect). to.0) (sym step');
  adds = λ r. put-pass words r ∙ ap (λ (to : Mode × Effect). put words (effects to.1 r)) (sym step');
  sound = sound;
}

-- between single quotes any other character is added
pub single_other : (k : CharKind) (quote : ℕ) (bytes : List ℕ) → k ≢ kinds.SingleQuote
    → step_single k quote bytes ≡ (Mode.single quote, Effect.add bytes)
single_other kinds.SingleQuote quote bytes other = absurd (other refl)
single_other _ quote bytes other = refl

-- after a backslash outside quotes any other character is added
pub escape_other : (k : CharKind) (inside : Bool) (bytes : List ℕ) → k ≢ kinds.Newline
    → step_escape k inside bytes ≡ (Mode.outside true, Effect.add bytes)
escape_other kinds.Newline inside bytes other = absurd (other refl)
escape_other _ inside bytes other = refl

-- between double quotes any other character is added
pub double_other : (k : CharKind) (quote : ℕ) (bytes : List ℕ) → k ≢ kinds.DoubleQuote → k ≢ kinds.Backslash
    → step_double k quote bytes ≡ (Mode.double quote, Effect.add bytes)
double_other kinds.DoubleQuote quote bytes other also = absurd (other refl)
double_other kinds.Backslash quote bytes other also = absurd (also refl)
double_other _ quote bytes other also = refl

-- after a backslash between double quotes any other character is added behind it
pub double_escape_other : (k : CharKind) (quote : ℕ) (slash bytes : List ℕ)
    → k ≢ kinds.Newline → k ≢ kinds.Backslash → k ≢ kinds.DoubleQuote → k ≢ kinds.Expansion
    → step_double_escape k quote slash bytes ≡ (Mode.double quote, Effect.add (slash ++ bytes))
double_escape_other kinds.Newline quote slash bytes a b c d = absurd (a refl)
double_escape_other kinds.Backslash quote slash bytes a b c d = absurd (b refl)
double_escape_other kinds.DoubleQuote quote slash bytes a b c d = absurd (c refl)
double_escape_other kinds.Expansion quote slash bytes a b c d = absurd (d refl)
double_escape_other _ quote slash bytes a b c d = refl

-- outside quotes any other character is added
pub outside_other : (k : CharKind) (inside : Bool) (place : ℕ) (bytes : List ℕ)
    → k ≢ kinds.Space → k ≢ kinds.Newline → k ≢ kinds.Backslash → k ≢ kinds.SingleQuote → k ≢ kinds.DoubleQuote
    → (k ≡ kinds.Hash → inside ≡ true)
    → step_outside k inside place bytes ≡ (Mode.outside true, Effect.add bytes)
outside_other kinds.Space inside place bytes a b c d e hash = absurd (a refl)
outside_other kinds.Newline inside place bytes a b c d e hash = absurd (b refl)
outside_other kinds.Backslash inside place bytes a b c d e hash = absurd (c refl)
outside_other kinds.SingleQuote inside place bytes a b c d e hash = absurd (d refl)
outside_other kinds.DoubleQuote inside place bytes a b c d e hash = absurd (e refl)
outside_other kinds.Hash inside place bytes a b c d e hash = rw (hash refl) refl
outside_other kinds.Expansion inside place bytes a b c d e hash = refl
outside_other kinds.Plain inside place bytes a b c d e hash = refl

-- a step that adds bytes in two parts
pub takes_add_both : (state next : State) (old : Gathered) (xs ys : List ℕ) (place c : ℕ)
    → step_for state old place c ≡ (mode_of next true, Effect.add (xs ++ ys))
    → IsSound next (record old { open_word = Some (word_so_far old.open_word ++ (xs ++ ys)) })
    → TakesChar state next old (record old { open_word = Some ((word_so_far old.open_word ++ xs) ++ ys) }) place c
takes_add_both state next old xs ys place c step' sound =
    rw (append_assoc (word_so_far old.open_word) xs ys) (takes_add state next old (xs ++ ys) place c step' sound)
