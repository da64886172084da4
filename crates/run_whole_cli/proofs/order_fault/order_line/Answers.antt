use Rattle.std.specs.Fmt.{digits}
use Rattle.json.specs.Print.{escape_byte}
use Rattle.run_whole_cli.proofs.order_fault.order_line.Goals as goal

pub returns-in-Unasked : goal.returns-in-Unasked
unfolding digits escape_byte
returns-in-Unasked c = rw c.in-Unasked.is c.between.ensures

pub returns-in-Repeated : goal.returns-in-Repeated
unfolding digits escape_byte
returns-in-Repeated c = rw c.in-Repeated.is c.between-in-Repeated.ensures

pub returns-in-Lost : goal.returns-in-Lost
unfolding digits escape_byte
returns-in-Lost c = rw c.in-Lost.is c.between-in-Lost.ensures
