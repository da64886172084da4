-- What is chosen with a word more.
use Rattle.std.proofs.Common.{◌≡◌, ◌∙◌, ℕ, ◌+◌, ◌<◌, List, ◌∷◌, Option, Result, Ok, Err, length, drop, ap}
use Rattle.std.proofs.Common.{sym, subst, get_or}
use Rattle.std.proofs.lemmas.List.{drop_more}
use Rattle.run_plan.specs.Words.{ReadsWords, TakesValue, TakesWord, and_then_at, choices_of, word_error, with_ok}
use Rattle.run_plan.specs.Words.{word_read, words_from}
use Rattle.run_plan.specs.declared.choices.Choices.{Choices}
use Rattle.run_plan.specs.declared.settings.Setting.{Setting}
use Rattle.run_plan.specs.declared.word_fault.Untaken.{Untaken}
use Rattle.run_plan.specs.declared.word_fault.Untaken.TheVariants as untaken
use Rattle.run_plan.specs.declared.word_fault.WordFault.{WordFault}

-- what takes a part takes the whole
pub takes_with : {A B X : Type 0} (f : A → B) (r : Result X Untaken) (said : Result A WordFault) (new : A)
    → TakesValue r said new → TakesValue r (with_ok f said) (f new)
takes_with f (Ok x) said new h = ap (with_ok f) h
takes_with f (Err (untaken.Fault fault)) said new h = ap (with_ok f) h
takes_with f (Err untaken.OutOfMemory) said new h = tt

-- words from a place on are that word and those after it
pub from_there : (words : List (List ℕ)) (place : ℕ) (word : List ℕ) → place < length words
    → word ≡ get_or words place word → drop place words ≡ word ∷ drop (place + 1) words
from_there words place word within is =
    drop_more words place word within ∙ ap (λ w. w ∷ drop (place + 1) words) (sym is)

-- a word that isn't taken is the first that is wrong
refused_at : (place : ℕ) (wanted : Option Setting) (c new : Choices) (word : List ℕ) (words : List (List ℕ))
    (u : Untaken) → TakesWord (Err u) (word_read wanted word c) new
    → ReadsWords (Err (word_error place u)) (words_from place wanted c (word ∷ words))
refused_at place wanted c new word words (untaken.Fault fault) h =
    ap (and_then_at place (λ read. words_from (place + 1) read.0 read.1 words)) h
refused_at place wanted c new word words untaken.OutOfMemory h = tt

pub refused : (place index : ℕ) (wanted : Option Setting) (c new : Choices) (word : List ℕ) (words : List (List ℕ))
    (u : Untaken) → drop index words ≡ word ∷ drop (index + 1) words
    → words_from place wanted c (drop index words) ≡ choices_of words
    → TakesWord (Err u) (word_read wanted word c) new → ReadsWords (Err (word_error place u)) (choices_of words)
refused place index wanted c new word words u there from takes =
    subst (λ said. ReadsWords (Err (word_error place u)) said)
    (ap (words_from place wanted c) (sym there) ∙ from)
    (refused_at place wanted c new word (drop (index + 1) words) u takes)

-- after a word that is taken the next ones are read
pub read_on : (place index : ℕ) (wanted next : Option Setting) (c new : Choices) (word : List ℕ)
    (words : List (List ℕ)) → drop index words ≡ word ∷ drop (index + 1) words
    → words_from place wanted c (drop index words) ≡ choices_of words → word_read wanted word c ≡ Ok (next, new)
    → words_from (place + 1) next new (drop (index + 1) words) ≡ choices_of words
read_on place index wanted next c new word words there from with_setting =
    sym (ap (and_then_at place (λ read. words_from (place + 1) read.0 read.1 (drop (index + 1) words))) with_setting)
    ∙ ap (words_from place wanted c) (sym there) ∙ from
