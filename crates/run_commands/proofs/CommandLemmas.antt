-- What reading a command to its end gives.
use Rattle.std.proofs.Common.{
  ◌≡◌,
  ◌≢◌,
  false,
  ℕ,
  zero,
  suc,
  ◌<◌,
  List,
  [],
  ◌∷◌,
  length,
  Result,
  Ok,
  Err,
  refl,
  ap,
  sym,
  ◌∙◌,
}
use Rattle.std.proofs.Common.{arith, is_some, IfOk, IfErr, Some, None, subst}
use Rattle.std.proofs.Math.Seq.{take-length}
use Rattle.std.proofs.lemmas.Option.{none-some, same_Some}
use Rattle.std.specs.List.{slice_get}
use Rattle.std.specs.Option.{IsSomeAnd}
use Rattle.run_commands.specs.declared.words.machine.State.{State}
use Rattle.run_commands.specs.declared.words.words_error.WordsError.{WordsError}
use Rattle.run_commands.specs.declared.words.words_error.WordsError.TheVariants as errors
use Rattle.run_commands.specs.Gathered.{Gathered}
use Rattle.run_commands.specs.Words.{HasWords, IsOpenQuote, IsQuote, kind}
use Rattle.run_commands.specs.WordMachine.{Mode, Read, put, mode_of, reading, ended_by, IsOpenAtEnd}
use Rattle.run_commands.specs.CommandWords.{command_words, some_words, IsCommand, AreCommandWords}
use Rattle.run_commands.specs.WordsRefused.{GivesWords, IsRefusedWords, IsWordsAnswer}
use Rattle.run_commands.proofs.WordLemmas.{reading-end, one_reading, reads_all}
use Rattle.run_commands.proofs.WordSoundLemmas.{read_stands}
use Rattle.run_commands.proofs.OpenQuoteLemmas.{read_open}

-- a list of no length
none_left : (left : List ℕ) → length left ≡ 0 → left ≡ []
none_left [] e = refl
none_left (b ∷ left) e = absurd (omega arith)

-- with nothing left, the end gives what reading the text gives
pub ends_whole : (text left : List ℕ) (state : State) (words : Gathered) (place : ℕ)
    → put words (reading (mode_of state (is_some words.open_word)) place left) ≡ reading (Mode.outside false) 0 text
    → length left ≡ 0 → ended_by state words ≡ reading (Mode.outside false) 0 text
ends_whole text left state words place so_far none =
    ap (put words) (sym (reading-end (mode_of state (is_some words.open_word)) place))
    ∙ ap (λ bytes. put words (reading (mode_of state (is_some words.open_word)) place bytes))
    (sym (none_left left none))
    ∙ so_far

-- words that are read are the text's
pub ok_words : (text : List ℕ) (read : Read) (result : Result (List (List ℕ)) WordsError)
    → read ≡ reading (Mode.outside false) 0 text
    → IfOk result (λ list. read ≡ Ok list) → IfOk result (HasWords text)
ok_words text read (Ok list) whole is = read_stands text list (sym whole ∙ is)
ok_words text read (Err e) whole is = tt

-- a text that is refused has an open quote
pub refused_words : (text : List ℕ) (read : Read) (result : Result (List (List ℕ)) WordsError)
    → read ≡ reading (Mode.outside false) 0 text
    → IfErr result (IsOpenAtEnd read) → IfErr result (IsRefusedWords text)
refused_words text read (Ok list) whole is = tt
refused_words text read (Err (errors.OpenQuote place)) whole is = read_open text place (sym whole ∙ is)
refused_words text read (Err errors.NoWords) whole is = absurd is
refused_words text read (Err errors.OutOfMemory) whole is = tt

-- a place where something stands is within the text
quote_within : (text : List ℕ) (place : ℕ) (P : ℕ → Type 0) → IsSomeAnd (slice_get text place) P → place < length text
quote_within [] place P some = absurd some
quote_within (b ∷ text) zero P some = omega arith
quote_within (b ∷ text) (suc place) P some = let within = quote_within text place P some in omega arith

-- a text with words has no open quote
no_open_quote : (text : List ℕ) (words : List (List ℕ)) (place : ℕ) → HasWords text words → IsOpenQuote text place
    → place < length text → ⊥
no_open_quote text words place says open_at within =
    open_at.longest (length text) words within (omega arith) (rw (take-length text) says)

-- what is answered for a text with words
pub answers_words : (text : List ℕ) (result : Result (List (List ℕ)) WordsError)
    → IfOk result (HasWords text) → IfErr result (IsRefusedWords text)
    → (words : List (List ℕ)) → HasWords text words → IsWordsAnswer words result
answers_words text (Ok command) ok refused words says = one_reading text command words ok says
answers_words text (Err (errors.OpenQuote place)) ok refused words says =
    no_open_quote text words place says refused (quote_within text place (λ b. IsQuote (kind b)) refused.quote)
answers_words text (Err errors.NoWords) ok refused words says = one_reading text words [] says refused
answers_words text (Err errors.OutOfMemory) ok refused words says = tt

-- what the machine reads is the words of a command
words_read : (text : List ℕ) (read : Read) → reading (Mode.outside false) 0 text ≡ read
    → command_words text ≡ some_words read
unfolding command_words
words_read text read is = ap some_words is

-- the words that the grammar gives
words_said : (text : List ℕ) (words : List (List ℕ)) → HasWords text words → command_words text ≡ some_words (Ok words)
words_said text words says = words_read text (Ok words) (reads_all says 0)

-- words that are there
some_said : (words : List (List ℕ)) → words ≢ [] → some_words (Ok words) ≡ Some words
some_said [] some = absurd (some refl)
some_said (word ∷ words) some = refl

-- a text with an open quote is no command
open_no_words : (text : List ℕ) (place : ℕ) (read : Read) → reading (Mode.outside false) 0 text ≡ read
    → IsOpenQuote text place → command_words text ≡ None
open_no_words text place (Ok words) is open_at =
    absurd (no_open_quote text words place (read_stands text words is) open_at
    (quote_within text place (λ b. IsQuote (kind b)) open_at.quote))
open_no_words text place (Err other) is open_at = words_read text (Err other) is

-- what is answered by a text's command words
pub gives_words : (text : List ℕ) (result : Result (List (List ℕ)) WordsError) → IfOk result (λ words. words ≢ [])
    → IfOk result (HasWords text) → IfErr result (IsRefusedWords text) → GivesWords (command_words text) result
gives_words text (Ok command) some ok refused = words_said text command ok ∙ some_said command some
gives_words text (Err (errors.OpenQuote place)) some ok refused = open_no_words text place _ refl refused
gives_words text (Err errors.NoWords) some ok refused = words_said text [] refused
gives_words text (Err errors.OutOfMemory) some ok refused = tt

-- a list with a first element has some
has_some : (word : List ℕ) (words : List (List ℕ)) → word ∷ words ≢ []
has_some word words empty = let counts = ap length empty in omega (arith, counts)

-- what is read where there are command words
read_some : (text : List ℕ) (words : List (List ℕ)) (read : Read) → reading (Mode.outside false) 0 text ≡ read
    → some_words read ≡ Some words → IsCommand text words
read_some text words (Ok []) is e = absurd (none-some words e)
read_some text words (Ok (word ∷ more)) is e =
    subst (IsCommand text) (same_Some _ _ e)
    (record { read = read_stands text (word ∷ more) is; some = has_some word more })
read_some text words (Err place) is e = absurd (none-some words e)

-- command words are those of the grammar
pub are_command_words : AreCommandWords
are_command_words = record {
  sound = λ text words e. read_some text words _ refl (sym (words_read text _ refl) ∙ e);
  whole = λ text words command. words_said text words command.read ∙ some_said words command.some;
}
