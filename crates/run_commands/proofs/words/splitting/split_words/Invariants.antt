use Rattle.std.proofs.Common.{◌≡◌, false, is_some}
use Rattle.std.specs.Str.Iter.{char_indices_offset, char_indices_rest}
use Rattle.run_commands.specs.WordMachine.{IsSound, Mode, mode_of, put, reading}
use Rattle.run_commands.proofs.words.splitting.split_words.Given as goal

abbrev pub invariant-loop-place : goal.invariant-loop-place
invariant-loop-place l = record {
  reads : put l.words (reading (mode_of l.state (is_some l.words.open_word)) (char_indices_offset l.place-iterator)
      (char_indices_rest l.place-iterator))
      ≡ reading (Mode.outside false) 0 l.command;
  sound : IsSound l.state l.words;
}
