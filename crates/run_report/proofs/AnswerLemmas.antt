-- What the pieces of a report answer to a question that their final lines and summaries alone may answer.
use Rattle.std.proofs.Common.{◌≡◌, ℕ, Bool, true, false, not, if◌then◌else◌, List, [], ◌∷◌, ◌++◌, map, Option, Some}
use Rattle.std.proofs.Common.{None}
use Rattle.std.proofs.Common.{refl, ap, ◌∙◌, append-nil, codes, nat_lt}
use Rattle.std.proofs.lemmas.List.Elements.{filter_map-append}
use Rattle.std.specs.List.{cons_option, filter_map, flat_map}
use Rattle.run_events.specs.declared.events.ReporterEvent.{ReporterEvent}
use Rattle.run_events.specs.declared.events.RunStarted.{RunStarted}
use Rattle.run_events.specs.declared.events.TestEventKind.{TestEventKind}
use Rattle.run_events.specs.declared.events.TestEventKind.TheVariants as kinds
use Rattle.run_events.specs.declared.events.TestFinished.{TestFinished}
use Rattle.run_events.specs.declared.message.AttemptFailed.{AttemptFailed}
use Rattle.run_events.specs.declared.message.TestFinish.{TestFinish}
use Rattle.run_events.specs.declared.result.ExecuteStatus.{ExecuteStatus}
use Rattle.run_events.specs.declared.result.ScriptEnv.{ScriptEnv}
use Rattle.run_events.specs.declared.result.ScriptEnv.TheVariants.{Fault, Unread, Variables}
use Rattle.run_events.specs.declared.stats.RunStats.{RunStats}
use Rattle.run_report.specs.declared.levels.ReportSettings.{ReportSettings}
use Rattle.run_report.specs.declared.levels.StatusLevel.TheVariants as levels
use Rattle.run_report.specs.declared.style.Style.{Style}
use Rattle.run_report.specs.declared.style.Style.TheVariants as styles
use Rattle.run_report.specs.Blocks.{Block}
use Rattle.run_report.specs.Runs.{count_pieces, end_pieces, run_pieces, run_text, start_pieces, sub_run_text}
use Rattle.run_report.specs.Runs.{tests_piece}
use Rattle.run_report.specs.Runs.{titled_pieces, unrun_pieces, unrun_text}
use Rattle.run_report.specs.Style.{Span}
use Rattle.run_report.specs.Texts.{plural_text}
use Rattle.run_report.specs.Units.{attempt_line, attempt_pieces, delay_line, retry_line, skip_line, slow_level}
use Rattle.run_report.specs.Units.{slow_line}
use Rattle.run_events.specs.declared.events.TestsNotSeen.{TestsNotSeen}
use Rattle.run_events.specs.declared.stress.StressRunStats.{StressRunStats}
use Rattle.run_events.specs.Result.{is_success}
use Rattle.run_report.specs.Ends.{stress_pieces, stress_text, stress_style, unseen_pieces, unseen_said}
use Rattle.run_report.specs.Finish.{last_attempt}
use Rattle.run_report.specs.Finished.{again_line, finish_pieces, is_output_kept, kept_pieces, last_output, output_if}
use Rattle.run_report.specs.Finished.{piece_if, status_block}
use Rattle.run_report.specs.Heard.{finish_in_kind, kept_finishes, late_pieces, total_told}
use Rattle.run_events.specs.declared.events.InfoAnswered.{InfoAnswered}
use Rattle.run_report.specs.Info.{answer_block, answer_pieces, answer_spans, asked_piece, doing_pieces, missing_pieces}
use Rattle.run_report.specs.Info.{missing_spans, slow_reported, slow_pieces_of, slow_spans, status_spans}
use Rattle.run_report.specs.Levels.{is_at_once, shows}
use Rattle.run_report.specs.Lines.{ScriptLine, TestLine}
use Rattle.run_report.specs.Pieces.{Piece, again, counts, note, output, output_again, rule, script, summary, test}
use Rattle.run_report.specs.Pieces.{warning}
use Rattle.run_report.specs.Pieces.{words}
use Rattle.run_report.specs.Report.{event_pieces, going_pieces, of_a_round, of_the_run, of_a_test}
use Rattle.run_report.specs.Report.{pieces_behind}
use Rattle.run_report.specs.Scripts.{env_pieces, env_spans, script_block, script_end_line, script_slow_line}
use Rattle.run_report.specs.Scripts.{script_start_line}

-- a piece that isn't looked for, shown or not
pub none_of_one : {Y : Type 0} (h : Piece → Option Y) (shown : Bool) (piece : Piece) → h piece ≡ None
    → filter_map h (piece_if shown piece) ≡ []
none_of_one h true piece none = ap (λ y. cons_option y []) none
none_of_one h false piece none = refl

-- an output that isn't looked for, shown or not
pub none_of_last : {Y : Type 0} (h : Piece → Option Y) (kind : Block → Piece) (finish : TestFinish)
    (last : Option ExecuteStatus) → ((b : Block) → h (kind b) ≡ None) → filter_map h (last_output kind finish last) ≡ []
none_of_last h kind finish (Some last) none = ap (λ y. cons_option y []) (none _)
none_of_last h kind finish None none = refl

pub none_of_output : {Y : Type 0} (h : Piece → Option Y) (shown : Bool) (kind : Block → Piece) (finish : TestFinish)
    → ((b : Block) → h (kind b) ≡ None) → filter_map h (output_if shown kind finish) ≡ []
none_of_output h true kind finish none = none_of_last h kind finish (last_attempt finish) none
none_of_output h false kind finish none = refl

-- of two lists that have none neither has one
pub none_of_both : {Y : Type 0} (h : Piece → Option Y) (xs ys : List Piece) → filter_map h xs ≡ []
    → filter_map h ys ≡ [] → filter_map h (xs ++ ys) ≡ []
none_of_both h xs ys e f = filter_map-append h xs ys ∙ ap (λ zs. zs ++ filter_map h ys) e ∙ f

-- a question that neither a final line nor a summary answers
pub record AsksNothing {Y : Type 0} (h : Piece → Option Y) : Type 0 where
  pub rule_none : h rule ≡ None
  pub words_none : (style : Style) (word said : List ℕ) → h (words style word said) ≡ None
  pub warning_none : (said : List ℕ) → h (warning said) ≡ None
  pub test_none : (line : TestLine) → h (test line) ≡ None
  pub again_none : (line : TestLine) → h (again line) ≡ None
  pub output_none : (block : Block) → h (output block) ≡ None
  pub output_again_none : (block : Block) → h (output_again block) ≡ None
  pub note_none : (spans : List Span) → h (note spans) ≡ None
  pub script_none : (line : ScriptLine) → h (script line) ≡ None
  pub counts_none : (elapsed : ℕ) (stats : RunStats) (running : ℕ) → h (counts elapsed stats running) ≡ None

pub none_kept : {Y : Type 0} (h : Piece → Option Y) → AsksNothing h → (settings : ReportSettings) (told : TestFinished)
    → filter_map h (kept_pieces settings told) ≡ []
unfolding kept_pieces
none_kept h asks settings told =
    none_of_both h (piece_if true (again (again_line told)))
    (output_if (is_output_kept settings told.finish) output_again told.finish)
    (none_of_one h true (again (again_line told)) (asks.again_none (again_line told)))
    (none_of_output h (is_output_kept settings told.finish) output_again told.finish asks.output_again_none)

pub none_late : {Y : Type 0} (h : Piece → Option Y) → AsksNothing h → (settings : ReportSettings)
    (xs : List TestFinished) → filter_map h (flat_map (kept_pieces settings) xs) ≡ []
none_late h asks settings [] = refl
none_late h asks settings (x ∷ xs) =
    none_of_both h (kept_pieces settings x) (flat_map (kept_pieces settings) xs) (none_kept h asks settings x)
    (none_late h asks settings xs)

-- two pieces that aren't looked for
pub none_of_two : {Y : Type 0} (h : Piece → Option Y) (x y : Piece) → h x ≡ None → h y ≡ None
    → filter_map h (x ∷ y ∷ []) ≡ []
none_of_two h x y e f = ap (λ o. cons_option o (cons_option (h y) [])) e ∙ ap (λ o. cons_option o []) f

pub none_titled : {Y : Type 0} (h : Piece → Option Y) → AsksNothing h → (word said : List ℕ)
    → filter_map h (titled_pieces word said) ≡ []
none_titled h asks word said =
    none_of_two h rule (words styles.Green word said) asks.rule_none (asks.words_none styles.Green word said)

pub none_start : {Y : Type 0} (h : Piece → Option Y) → AsksNothing h → (started : RunStarted)
    → filter_map h (start_pieces started) ≡ []
unfolding start_pieces
none_start h asks started =
    none_of_both h (run_pieces started) (piece_if true (tests_piece started))
    (none_titled h asks (codes "Nextest run") (run_text started))
    (none_of_one h true (tests_piece started)
    (asks.words_none styles.Green (codes "Starting") (plural_text started.tests (codes "test"))))

pub none_if : {Y : Type 0} (h : Piece → Option Y) (shown : Bool) (xs : List Piece) → filter_map h xs ≡ []
    → filter_map h (if shown then xs else []) ≡ []
none_if h true xs none = none
none_if h false xs none = refl

pub none_attempt : {Y : Type 0} (h : Piece → Option Y) → AsksNothing h → (settings : ReportSettings) (total : ℕ)
    (failed : AttemptFailed) → filter_map h (attempt_pieces settings total failed) ≡ []
unfolding attempt_pieces
none_attempt h asks settings total failed =
    let line = piece_if true (test (attempt_line total failed)) in
    let block = piece_if (is_at_once settings.failure_output) (output (status_block styles.Magenta failed.status)) in
    let delay = piece_if (nat_lt 0 failed.delay_next) (test (delay_line total failed)) in
    none_if h (shows settings.status levels.Retry) ((line ++ block) ++ delay)
    (none_of_both h (line ++ block) delay
    (none_of_both h line block (none_of_one h true _ (asks.test_none _))
    (none_of_one h (is_at_once settings.failure_output) _ (asks.output_none _)))
    (none_of_one h (nat_lt 0 failed.delay_next) _ (asks.test_none _)))

-- what the fault of an environment file answers
none_env : {Y : Type 0} (h : Piece → Option Y) → AsksNothing h → (env : ScriptEnv) → filter_map h (env_pieces env) ≡ []
none_env h asks Unread = refl
none_env h asks (Variables map) = refl
none_env h asks (Fault fault) = none_of_one h true _ (asks.note_none (env_spans fault))

-- what an event of the run answers
pub none_of_run : {Y : Type 0} (h : Piece → Option Y) → AsksNothing h → (elapsed : ℕ) (kind : TestEventKind)
    → filter_map h (of_the_run elapsed kind) ≡ []
none_of_run h asks elapsed (kinds.RunStarted e) = none_start h asks e
none_of_run h asks elapsed (kinds.StressSubRunStarted so_far) =
    none_titled h asks (codes "Stress test") (sub_run_text so_far)
none_of_run h asks elapsed (kinds.SetupScriptStarted e) = none_of_one h true _ (asks.script_none (script_start_line e))
none_of_run h asks elapsed (kinds.SetupScriptSlow e) = none_of_one h true _ (asks.script_none (script_slow_line e))
none_of_run h asks elapsed (kinds.SetupScriptFinished e) =
    none_of_both h (piece_if true (script (script_end_line e)) ++ env_pieces e.status.env)
    (piece_if (not (is_success e.status.result)) (output (script_block e.status)))
    (none_of_both h (piece_if true (script (script_end_line e))) (env_pieces e.status.env)
    (none_of_one h true _ (asks.script_none (script_end_line e))) (none_env h asks e.status.env))
    (none_of_one h (not (is_success e.status.result)) _ (asks.output_none (script_block e.status)))
none_of_run h asks elapsed (kinds.InputEnter e) = none_of_one h true _ (asks.counts_none elapsed e.stats e.running)
none_of_run h asks elapsed (kinds.RunBeginCancel e) = none_of_one h true _ (asks.words_none _ _ _)
none_of_run h asks elapsed (kinds.RunBeginKill e) = none_of_one h true _ (asks.words_none _ _ _)
none_of_run h asks elapsed (kinds.RunPaused e) = none_of_one h true _ (asks.words_none _ _ _)
none_of_run h asks elapsed (kinds.RunContinued e) = none_of_one h true _ (asks.words_none _ _ _)
none_of_run h asks elapsed _ = refl

-- what an answer answers
pub none_slow : {Y : Type 0} (h : Piece → Option Y) → AsksNothing h → (slow : Option ℕ)
    → filter_map h (slow_pieces_of slow) ≡ []
none_slow h asks (Some time) = none_of_one h true _ (asks.note_none (slow_spans time))
none_slow h asks None = refl

pub none_answer : {Y : Type 0} (h : Piece → Option Y) → AsksNothing h → (told : InfoAnswered)
    → filter_map h (answer_pieces told) ≡ []
unfolding answer_pieces
none_answer h asks told =
    none_of_both h (doing_pieces told ++ slow_pieces_of (slow_reported told.response.state))
    (piece_if true (output (answer_block told.response)))
    (none_of_both h (doing_pieces told) (slow_pieces_of (slow_reported told.response.state))
    (none_of_two h (note (answer_spans told)) (note (status_spans told.response)) (asks.note_none _) (asks.note_none _))
    (none_slow h asks (slow_reported told.response.state)))
    (none_of_one h true _ (asks.output_none (answer_block told.response)))

pub none_of_info : {Y : Type 0} (h : Piece → Option Y) → AsksNothing h → (kind : TestEventKind)
    → filter_map h (of_a_round kind) ≡ []
none_of_info h asks (kinds.InfoStarted e) =
    none_of_two h rule (asked_piece e.total) asks.rule_none (asks.words_none _ _ _)
none_of_info h asks (kinds.InfoResponse e) = none_answer h asks e
none_of_info h asks (kinds.InfoFinished missing) =
    none_of_both h (missing_pieces missing) (piece_if true rule)
    (none_of_one h (nat_lt 0 missing) _ (asks.note_none (missing_spans missing)))
    (none_of_one h true rule asks.rule_none)
none_of_info h asks _ = refl

-- what a finished test answers, where one finished
abbrev pub finish_answers : {Y : Type 0} → (Piece → Option Y) → ReportSettings → Option TestFinished → List Y
finish_answers h settings (Some told) = filter_map h (finish_pieces settings told)
finish_answers h settings None = []

pub of_a_test-answers : {Y : Type 0} (h : Piece → Option Y) → AsksNothing h → (settings : ReportSettings) (total : ℕ)
    (kind : TestEventKind)
    → filter_map h (of_a_test settings total kind) ≡ finish_answers h settings (finish_in_kind kind)
of_a_test-answers h asks settings total (kinds.TestSlow e) =
    none_of_one h (shows settings.status (slow_level e)) _ (asks.test_none (slow_line total e))
of_a_test-answers h asks settings total (kinds.TestAttemptFailedWillRetry e) =
    none_attempt h asks settings total e.failed
of_a_test-answers h asks settings total (kinds.TestRetryStarted e) =
    none_of_one h (shows settings.status levels.All) _ (asks.test_none (retry_line total e.retry))
of_a_test-answers h asks settings total (kinds.TestFinished e) = refl
of_a_test-answers h asks settings total (kinds.TestSkipped e) =
    none_of_one h (shows settings.status levels.Skip) _ (asks.test_none (skip_line total e))
of_a_test-answers h asks settings total _ = refl

pub going-answers : {Y : Type 0} (h : Piece → Option Y) → AsksNothing h → (settings : ReportSettings)
    (total elapsed : ℕ) (kind : TestEventKind)
    → filter_map h (going_pieces settings total elapsed kind) ≡ finish_answers h settings (finish_in_kind kind)
going-answers h asks settings total elapsed kind =
    filter_map-append h (of_the_run elapsed kind ++ of_a_round kind) (of_a_test settings total kind)
    ∙ ap (λ ys. ys ++ filter_map h (of_a_test settings total kind))
    (none_of_both h (of_the_run elapsed kind) (of_a_round kind) (none_of_run h asks elapsed kind)
    (none_of_info h asks kind))
    ∙ of_a_test-answers h asks settings total kind

-- what an end answers: what its summary does
pub end-answers : {Y : Type 0} (h : Piece → Option Y) → AsksNothing h → (elapsed : ℕ) (stats : RunStats)
    (late : List Piece) → filter_map h late ≡ []
    → filter_map h (end_pieces elapsed stats late) ≡ filter_map h (summary elapsed stats ∷ [])
unfolding end_pieces
end-answers h asks elapsed stats late none =
    let first = count_pieces elapsed stats in
    let unrun = nat_lt stats.finished_count stats.initial_run_count in
    filter_map-append h (first ++ late) (unrun_pieces stats)
    ∙ ap (λ ys. filter_map h (first ++ late) ++ ys)
    (none_of_one h unrun (warning (unrun_text stats)) (asks.warning_none (unrun_text stats)))
    ∙ append-nil (filter_map h (first ++ late))
    ∙ filter_map-append h first late
    ∙ ap (λ ys. filter_map h first ++ ys) none
    ∙ append-nil (filter_map h first)
    ∙ ap (λ o. cons_option o (filter_map h (summary elapsed stats ∷ []))) asks.rule_none

-- what a stress run's end answers
pub none_stress : {Y : Type 0} (h : Piece → Option Y) → AsksNothing h → (elapsed : ℕ) (stats : StressRunStats)
    → filter_map h (stress_pieces elapsed stats) ≡ []
none_stress h asks elapsed stats =
    none_of_two h rule _ asks.rule_none
    (asks.words_none (stress_style stats) (codes "Summary") (stress_text elapsed stats))

-- what tests that weren't seen answer
pub none_unseen : {Y : Type 0} (h : Piece → Option Y) → AsksNothing h → (tests : Option TestsNotSeen)
    → filter_map h (unseen_pieces tests) ≡ []
none_unseen h asks (Some tests) = none_of_one h true _ (asks.warning_none (unseen_said tests))
none_unseen h asks None = refl

-- what pieces answer is what each event answers
pub by_event : {Y : Type 0} (h : Piece → Option Y) (own : ReporterEvent → List Y) (settings : ReportSettings)
    → ((total : ℕ) (xs : List TestFinished) (event : ReporterEvent)
    → filter_map h (event_pieces settings total (flat_map (kept_pieces settings) xs) event) ≡ own event)
    → (before told : List ReporterEvent) → filter_map h (pieces_behind settings before told) ≡ flat_map own told
by_event h own settings each before [] = refl
by_event h own settings each before (event ∷ later) =
    let here = event_pieces settings (total_told 0 before) (late_pieces settings before) event in
    filter_map-append h here (pieces_behind settings (before ++ event ∷ []) later)
    ∙ ap (λ ys. ys ++ filter_map h (pieces_behind settings (before ++ event ∷ []) later))
    (each (total_told 0 before) (kept_finishes settings before) event)
    ∙ ap (λ ys. own event ++ ys) (by_event h own settings each (before ++ event ∷ []) later)
