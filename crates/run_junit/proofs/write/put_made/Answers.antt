use Rattle.std.proofs.Common.{◌∙◌}
use Rattle.run_junit.proofs.PutLemmas.{puts_made}
use Rattle.run_junit.proofs.write.put_made.Goals as goal

pub returns-in-Ok-clause-puts : goal.returns-in-Ok-clause-puts
returns-in-Ok-clause-puts g c bytes same =
    let is = rw c.in-Ok.is at same in
    puts_made (g.K.Sink.taken c.args.sink.now) (g.K.Sink.taken c.put_text.new.sink) _ _ c.as_str.result.now bytes
    c.put_text.result (c.as_str.ensures.value ∙ is) c.put_text.ensures.puts
