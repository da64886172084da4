use Rattle.std.proofs.Common.{◌∙◌, ap, refl, sym}
use Rattle.std.proofs.lemmas.Iterator.{YieldsList-from_chars}
use Rattle.std.proofs.lemmas.Iterator.Consumers.{YieldsList-end}
use Rattle.std.proofs.lemmas.List.{map-id}
use Rattle.run_junit.specs.declared.escape.Place.TheVariants.{Body}
use Rattle.run_junit.specs.Escape.{after_all, shown_chars}
use Rattle.run_junit.proofs.EscapeLemmas.{after_more}
use Rattle.run_junit.proofs.PutLemmas.{puts_char, puts_none, puts_same}
use Rattle.run_junit.proofs.write.put_chars.Goals as goal

pub loop-c-init : goal.loop-c-init
loop-c-init g c = record {
  puts = puts_none (g.K.Sink.taken c.args.sink.now) _;
  at = refl;
  faults = refl;
}

pub loop-c-preserved : goal.loop-c-preserved
loop-c-preserved g c = record {
  puts = puts_char c.args.at c.loop-c.next c.loop-c.yielded c.in-Some.c _ _ _ _ _ _ c.loop-c.invariant.at
      c.loop-c.invariant.puts c.in-Ok.ensures.puts;
  at = after_more c.args.at c.loop-c.yielded c.in-Some.c c.loop-c.next _ c.loop-c.invariant.at c.after-next.ensures;
  faults = c.in-Ok.ensures.fault ∙ c.loop-c.invariant.faults;
}

pub returns-clause-puts : goal.returns-clause-puts
returns-clause-puts g c =
    let all = YieldsList-end (YieldsList-from_chars c.args.text.now c.utf8.text cc) c.loop-c.yielded _
    c.loop-c.yielded_by _ _ c.in-None.is c.next.ensures.steps in
    puts_same (g.K.Sink.taken c.args.sink.now) (g.K.Sink.taken c.loop-c.sink) _ _ _ _
    (ap (shown_chars Body c.args.at) (sym (map-id c.loop-c.yielded) ∙ all.0)) c.loop-c.invariant.puts

pub returns-clause-at : goal.returns-clause-at
returns-clause-at g c =
    let all = YieldsList-end (YieldsList-from_chars c.args.text.now c.utf8.text cc) c.loop-c.yielded _
    c.loop-c.yielded_by _ _ c.in-None.is c.next.ensures.steps in
    c.loop-c.invariant.at ∙ ap (after_all c.args.at) (sym (map-id c.loop-c.yielded) ∙ all.0)
