use Rattle.run_commands.proofs.CharStepLemmas.{goes_on_from}
use Rattle.run_commands.proofs.CommandLemmas.{ends_whole, ok_words, refused_words}
use Rattle.run_commands.proofs.words.splitting.split_words.Goals as goal

pub loop-place-preserved : goal.loop-place-preserved
loop-place-preserved c = record {
  reads = goes_on_from c.loop-place.state c.in_ok-state.state c.loop-place.words c.after_char.new.words
      c.in-Some.place c.in-Some.c _ _ _ _ _
      c.in_ok-state.ensures c.in-Some.ensures.steps c.loop-place.invariant.reads;
  sound = c.in_ok-state.ensures.sound;
}

pub returns-clause-ok : goal.returns-clause-ok
returns-clause-ok c =
    ok_words _ _ c.finish.result (ends_whole _ _ _ _ _ c.loop-place.invariant.reads c.in-None.ensures.steps.0)
    c.finish.ensures.ok

pub returns-clause-refused : goal.returns-clause-refused
returns-clause-refused c =
    refused_words _ _ c.finish.result (ends_whole _ _ _ _ _ c.loop-place.invariant.reads c.in-None.ensures.steps.0)
    c.finish.ensures.refused
