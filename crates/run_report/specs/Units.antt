-- The pieces of a test that goes on.
use Rattle.std.specs.Prelude.{ℕ, true, ◌+◌, ◌==◌, nat_lt, if◌then◌else◌, List, [], ◌++◌, codes, decimal}
use Rattle.run_events.specs.declared.message.AttemptFailed.{AttemptFailed}
use Rattle.run_events.specs.declared.message.TestRetry.{TestRetry}
use Rattle.run_events.specs.declared.message.TestSkip.{TestSkip}
use Rattle.run_events.specs.declared.message.TestSlow.{TestSlow}
use Rattle.run_events.specs.declared.result.ExecuteStatus.{ExecuteStatus}
use Rattle.run_report.specs.declared.levels.ReportSettings.{ReportSettings}
use Rattle.run_report.specs.declared.levels.StatusLevel.{StatusLevel}
use Rattle.run_report.specs.declared.levels.StatusLevel.TheVariants as levels
use Rattle.run_report.specs.declared.style.Style.TheVariants as styles
use Rattle.run_report.specs.Finished.{piece_if, status_block}
use Rattle.run_report.specs.Levels.{is_at_once, shows}
use Rattle.run_report.specs.Lines.{TestLine}
use Rattle.run_report.specs.Pieces.{Piece, output, test}
use Rattle.run_report.specs.Texts.{delay_text, open_text, over_text, took_text}
use Rattle.run_report.specs.Words.{short_word}

-- the level of a slow report: a test that is ended counts as its failure would
abbrev pub slow_level : TestSlow → StatusLevel
slow_level slow = if slow.terminates then if slow.attempt == slow.attempts then levels.Fail else levels.Retry
    else levels.Slow

-- its word
abbrev pub slow_word : TestSlow → List ℕ
slow_word slow = if nat_lt 1 slow.attempts
    then codes "TRY " ++ (decimal slow.attempt ++ (if slow.terminates then codes " TRMNTG" else codes " SLOW"))
    else if slow.terminates then codes "TERMINATING" else codes "SLOW"

-- its line, of so many tests
abbrev pub slow_line : ℕ → TestSlow → TestLine
slow_line total slow = record {
  style = if slow.terminates then styles.Red else styles.Yellow;
  word = slow_word slow;
  middle = over_text slow.elapsed_slow ++ open_text total;
  test = slow.test;
}

-- a slow test, of so many tests
abbrev pub slow_pieces : ReportSettings → ℕ → TestSlow → List Piece
slow_pieces settings total slow = piece_if (shows settings.status (slow_level slow)) (test (slow_line total slow))

-- the word of a failed attempt, and that of the delay after it
abbrev pub attempt_word : ExecuteStatus → List ℕ
attempt_word status = codes "TRY " ++ (decimal status.attempt ++ (codes " " ++ short_word status.result))

abbrev pub delay_word : ExecuteStatus → List ℕ
delay_word status = codes "DELAY " ++ (decimal (status.attempt + 1) ++ (codes "/" ++ decimal status.attempts))

-- the line of a failed attempt, of so many tests
abbrev pub attempt_line : ℕ → AttemptFailed → TestLine
attempt_line total failed = record {
  style = styles.Magenta;
  word = attempt_word failed.status;
  middle = took_text failed.status.time ++ open_text total;
  test = failed.test;
}

-- the line of the delay after it
abbrev pub delay_line : ℕ → AttemptFailed → TestLine
delay_line total failed = record {
  style = styles.Magenta;
  word = delay_word failed.status;
  middle = delay_text failed.delay_next ++ open_text total;
  test = failed.test;
}

-- a failed attempt that is followed by another: its line, its output, and the delay, of so many tests
unfoldable pub attempt_pieces : ReportSettings → ℕ → AttemptFailed → List Piece
attempt_pieces settings total failed = if shows settings.status levels.Retry
    then (piece_if true (test (attempt_line total failed))
    ++ piece_if (is_at_once settings.failure_output) (output (status_block styles.Magenta failed.status)))
    ++ piece_if (nat_lt 0 failed.delay_next) (test (delay_line total failed))
    else []

-- in place of a time and a counter, of so many tests
abbrev pub no_time_text : ℕ → List ℕ
no_time_text total = codes "[         ] " ++ open_text total

-- the line of a further attempt, of so many tests
abbrev pub retry_line : ℕ → TestRetry → TestLine
retry_line total retry = record {
  style = styles.Magenta;
  word = codes "RETRY " ++ (decimal retry.attempt ++ (codes "/" ++ decimal retry.attempts));
  middle = no_time_text total;
  test = retry.start.test;
}

abbrev pub retry_pieces : ReportSettings → ℕ → TestRetry → List Piece
retry_pieces settings total retry = piece_if (shows settings.status levels.All) (test (retry_line total retry))

-- the line of a skipped test, of so many tests
abbrev pub skip_line : ℕ → TestSkip → TestLine
skip_line total skip = record {
  style = styles.Yellow;
  word = codes "SKIP";
  middle = no_time_text total;
  test = skip.test;
}

abbrev pub skip_pieces : ReportSettings → ℕ → TestSkip → List Piece
skip_pieces settings total skip = piece_if (shows settings.status levels.Skip) (test (skip_line total skip))
