use Rattle.run_commands.proofs.CommandLemmas.{answers_words, gives_words}
use Rattle.run_commands.proofs.words.command_words.CommandWords.from_str.Goals as goal

pub returns-clause-only : goal.returns-clause-only
returns-clause-only c =
    answers_words _ c.some_words.result c.some_words.ensures.ok c.some_words.ensures.refused

pub returns-clause-words : goal.returns-clause-words
returns-clause-words c =
    gives_words _ c.some_words.result c.some_words.ensures.some c.some_words.ensures.ok c.some_words.ensures.refused
