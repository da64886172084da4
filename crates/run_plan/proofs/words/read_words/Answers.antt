use Rattle.std.proofs.Common.{◌+◌, ap}
use Rattle.run_plan.proofs.WordLemmas.{from_there, read_on, refused}
use Rattle.run_plan.proofs.words.read_words.Goals as goal

pub returns-in-Err : goal.returns-in-Err
returns-in-Err c =
    let l = c.loop-word in
    let words = c.args.words.now in
    let word = c.word-item.result in
    rw c.at.ensures
    (refused l.place l.word-index l.wanted l.choices c.read_word.new.choices word words c.in-Err.untaken
    (from_there words l.word-index word c.loop-word-test.true c.word-item.is) l.invariant.1
    (rw c.as_str.ensures at c.in-Err.ensures))

pub loop-word-preserved : goal.loop-word-preserved
loop-word-preserved c =
    let l = c.loop-word in
    let words = c.args.words.now in
    let word = c.word-item.result in (
      ap (λ n. n + 1) l.invariant.0,
      read_on l.place l.word-index l.wanted c.in-Ok.next l.choices c.read_word.new.choices word words
          (from_there words l.word-index word c.loop-word-test.true c.word-item.is) l.invariant.1
          (rw c.as_str.ensures at c.in-Ok.ensures),
    )
