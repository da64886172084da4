use Rattle.run_laws.proofs.board.Courses.{one_course, unrefused}
use Rattle.run_laws.proofs.laws.a_list_of_turns_has_one_course.Goals as goal

pub returns : goal.returns
returns c = record { one = one_course; unrefused = unrefused }
