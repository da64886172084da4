use Rattle.std.proofs.Common.{reverse}
use Rattle.run_laws_display.specs.Displays.{events_heard}
use Rattle.run_laws_display.proofs.RunningLemmas.{displays_plan, displays_running}
use Rattle.run_laws_display.proofs.ShownLemmas.{no_twins}
use Rattle.run_laws_display.proofs.laws.displays_show_running_tests.Goals as goal

pub returns-clause-running : goal.returns-clause-running
returns-clause-running c = λ p journal once legal. displays_running p (reverse journal) once legal

pub returns-clause-plan : goal.returns-clause-plan
returns-clause-plan c = λ p journal legal. displays_plan p (reverse journal) legal

pub returns-clause-twins : goal.returns-clause-twins
returns-clause-twins c = λ events. no_twins (events_heard events)
