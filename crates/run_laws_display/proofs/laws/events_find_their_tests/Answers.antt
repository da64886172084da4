use Rattle.std.proofs.Common.{reverse}
use Rattle.run_laws_display.proofs.FindLemmas.{finds_test}
use Rattle.run_laws_display.proofs.laws.events_find_their_tests.Goals as goal

pub returns : goal.returns
returns c = λ p journal once legal before after event is.
    finds_test p (reverse journal) once legal before after event is
