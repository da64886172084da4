use Rattle.run_input.specs.Lines.{lines_of}
use Rattle.run_store_io.proofs.recording.first_line.Goals as goal

pub returns : goal.returns
returns c = (lines_of c.split_line.result.1.now, c.split_line.ensures.lines)
