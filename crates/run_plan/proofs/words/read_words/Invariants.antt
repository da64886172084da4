use Rattle.std.proofs.Common.{◌≡◌, drop}
use Rattle.run_plan.specs.Words.{choices_of, words_from}
use Rattle.run_plan.proofs.words.read_words.Given as goal

abbrev pub invariant-loop-word : goal.invariant-loop-word
invariant-loop-word l =
    (l.place ≡ l.word-index)
    × (words_from l.place l.wanted l.choices (drop l.word-index l.words) ≡ choices_of l.words)
