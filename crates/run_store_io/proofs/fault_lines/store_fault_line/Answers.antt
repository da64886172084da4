use Rattle.std.specs.Fmt.{digits}
use Rattle.json.specs.Print.{escape_byte}
use Rattle.run_store_io.proofs.fault_lines.store_fault_line.Goals as goal

pub returns-in-Torn : goal.returns-in-Torn
unfolding digits escape_byte
returns-in-Torn c = rw c.in-Torn.is c.numbered.ensures

pub returns-in-Bad : goal.returns-in-Bad
unfolding digits escape_byte
returns-in-Bad c = rw c.in-Bad.is c.numbered-in-Bad.ensures
