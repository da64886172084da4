use Rattle.run_laws.proofs.told.WordLemmas.{test_words, test_names_are, script_words, script_names_are}
use Rattle.run_laws.proofs.laws.starts_have_their_words.Goals as goal

pub returns : goal.returns
returns c = record {
  test = test_words;
  test_variables = test_names_are;
  script = script_words;
  script_variables = script_names_are;
}
