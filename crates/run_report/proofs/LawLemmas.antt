-- What holds of every report.
use Rattle.std.proofs.Common.{◌≡◌, ℕ, Bool, true, false, ◌||◌, if◌then◌else◌, cond, List, [], ◌∷◌, ◌++◌, map, Option}
use Rattle.std.proofs.Common.{Some, None}
use Rattle.std.proofs.Common.{refl, ap, ◌∙◌, append-nil}
use Rattle.std.proofs.lemmas.List.Elements.{filter_map-append}
use Rattle.std.specs.List.{cons_option, filter, filter_map, flat_map}
use Rattle.run_events.specs.declared.events.ReporterEvent.{ReporterEvent}
use Rattle.run_events.specs.declared.events.ReporterEvent.TheVariants.{Tick, Test}
use Rattle.run_events.specs.declared.events.RunFinished.{RunFinished}
use Rattle.run_events.specs.declared.events.RunFinishedStats.{RunFinishedStats}
use Rattle.run_events.specs.declared.events.RunFinishedStats.TheVariants.{Single, Stress}
use Rattle.run_events.specs.declared.events.TestEventKind.{TestEventKind}
use Rattle.run_events.specs.declared.events.TestEventKind.TheVariants as kinds
use Rattle.run_events.specs.declared.events.TestFinished.{TestFinished}
use Rattle.run_events.specs.declared.message.TestFinish.{TestFinish}
use Rattle.run_events.specs.declared.result.ExecuteStatus.{ExecuteStatus}
use Rattle.run_report.specs.declared.finish.FinishKind.{FinishKind}
use Rattle.run_report.specs.declared.finish.FinishKind.TheVariants as finish_kinds
use Rattle.run_report.specs.declared.levels.ReportSettings.{ReportSettings}
use Rattle.run_report.specs.declared.levels.StatusLevel.{StatusLevel}
use Rattle.run_report.specs.declared.levels.StatusLevel.TheVariants as levels
use Rattle.run_report.specs.Blocks.{Block}
use Rattle.run_report.specs.Ends.{unseen_pieces}
use Rattle.run_report.specs.Finish.{counts_failed, last_attempt, status_level, verdict_of}
use Rattle.run_report.specs.Finished.{again_line, final_line, finish_pieces, is_output_kept, is_output_told}
use Rattle.run_report.specs.Finished.{is_line_told}
use Rattle.run_report.specs.Finished.{kept_pieces, last_output, output_if, piece_if}
use Rattle.run_report.specs.Heard.{ends, finish_in_event, finish_in_kind, late_pieces}
use Rattle.run_report.specs.Laws.{FinalLines, Outputs, SummariesAreTold, block_in, counts_at_end, counts_at_finish}
use Rattle.run_report.specs.Laws.{counts_at_kind, counts_in_piece, final_in, own_block, own_output}
use Rattle.run_report.specs.Levels.{shows}
use Rattle.run_report.specs.Lines.{TestLine}
use Rattle.run_report.specs.Pieces.{Piece, again, final, output, output_again}
use Rattle.run_report.specs.Report.{event_pieces, finished_pieces, kind_pieces, report_pieces, stats_pieces}
use Rattle.run_report.proofs.AnswerLemmas.{AsksNothing, by_event, end-answers, finish_answers, going-answers, none_late}
use Rattle.run_report.proofs.AnswerLemmas.{none_of_both, none_of_one, none_of_output, none_stress, none_unseen}
use Rattle.run_report.proofs.HeardLemmas.{kept-end}
use Rattle.run_report.proofs.OnceLemmas.{kept_once}

-- final lines
finals_ask : AsksNothing final_in
finals_ask = record {
  rule_none = refl;
  words_none = λ _ _ _. refl;
  warning_none = λ _. refl;
  test_none = λ _. refl;
  again_none = λ _. refl;
  output_none = λ _. refl;
  output_again_none = λ _. refl;
  note_none = λ _. refl;
  script_none = λ _. refl;
  counts_none = λ _ _ _. refl;
}

-- the final line of a finish, where it is shown
abbrev own_final : ReportSettings → Option TestFinished → List TestLine
own_final settings (Some told) = if is_line_told settings told.finish then final_line told ∷ [] else []
own_final settings None = []

final_if : (shown : Bool) (line : TestLine)
    → filter_map final_in (piece_if shown (final line)) ≡ (if shown then line ∷ [] else [])
final_if true line = refl
final_if false line = refl

final_answers : (settings : ReportSettings) (o : Option TestFinished)
    → finish_answers final_in settings o ≡ own_final settings o
unfolding finish_pieces
final_answers settings None = refl
final_answers settings (Some told) =
    let line = piece_if (is_line_told settings told.finish) (final (final_line told)) in
    filter_map-append final_in line (output_if (is_output_told settings told.finish) output told.finish)
    ∙ ap (λ ys. filter_map final_in line ++ ys)
    (none_of_output final_in (is_output_told settings told.finish) output told.finish (λ _. refl))
    ∙ append-nil (filter_map final_in line)
    ∙ final_if (is_line_told settings told.finish) (final_line told)

final_stats : (elapsed : ℕ) (stats : RunFinishedStats) (late : List Piece) → filter_map final_in late ≡ []
    → filter_map final_in (stats_pieces elapsed stats late) ≡ []
final_stats elapsed (Single stats) late none = end-answers final_in finals_ask elapsed stats late none
final_stats elapsed (Stress stats) late none = none_stress final_in finals_ask elapsed stats

final_finish : (elapsed : ℕ) (told : RunFinished) (late : List Piece) → filter_map final_in late ≡ []
    → filter_map final_in (finished_pieces elapsed told late) ≡ []
final_finish elapsed told late none =
    none_of_both final_in (stats_pieces elapsed told.stats late) (unseen_pieces told.not_seen)
    (final_stats elapsed told.stats late none) (none_unseen final_in finals_ask told.not_seen)

final_kind : (settings : ReportSettings) (total elapsed : ℕ) (xs : List TestFinished) (kind : TestEventKind)
    → filter_map final_in (kind_pieces settings total (flat_map (kept_pieces settings) xs) elapsed kind)
    ≡ own_final settings (finish_in_kind kind)
final_kind settings total elapsed xs (kinds.StressSubRunFinished e) =
    end-answers final_in finals_ask e.sub_elapsed e.stats _ (none_late final_in finals_ask settings xs)
final_kind settings total elapsed xs (kinds.RunFinished e) =
    final_finish elapsed e (flat_map (kept_pieces settings) xs) (none_late final_in finals_ask settings xs)
final_kind settings total elapsed xs kind =
    going-answers final_in finals_ask settings total elapsed kind ∙ final_answers settings (finish_in_kind kind)

final_event : (settings : ReportSettings) (total : ℕ) (xs : List TestFinished) (event : ReporterEvent)
    → filter_map final_in (event_pieces settings total (flat_map (kept_pieces settings) xs) event)
    ≡ own_final settings (finish_in_event event)
final_event settings total xs Tick = refl
final_event settings total xs (Test event) = final_kind settings total event.elapsed xs event.kind

told_either : (shown : Bool) (x : TestFinished) (lines : List TestLine) (rest : List TestFinished)
    → lines ≡ map final_line rest
    → (if shown then final_line x ∷ [] else []) ++ lines ≡ map final_line (cond shown (x ∷ rest) rest)
told_either true x lines rest same = ap (λ ls. final_line x ∷ ls) same
told_either false x lines rest same = same

told_cons : (settings : ReportSettings) (o : Option TestFinished) (lines : List TestLine) (rest : List TestFinished)
    → lines ≡ map final_line (filter (λ x. is_line_told settings x.finish) rest)
    → own_final settings o ++ lines ≡ map final_line (filter (λ x. is_line_told settings x.finish) (cons_option o rest))
told_cons settings None lines rest same = same
told_cons settings (Some x) lines rest same =
    told_either (is_line_told settings x.finish) x lines (filter (λ x. is_line_told settings x.finish) rest) same

told_lines : (settings : ReportSettings) (told : List ReporterEvent)
    → flat_map (λ event. own_final settings (finish_in_event event)) told
    ≡ map final_line (filter (λ x. is_line_told settings x.finish) (filter_map finish_in_event told))
told_lines settings [] = refl
told_lines settings (event ∷ later) =
    told_cons settings (finish_in_event event) _ (filter_map finish_in_event later) (told_lines settings later)

each_final : (settings : ReportSettings) (told : List ReporterEvent)
    → filter_map final_in (report_pieces settings told)
    ≡ map final_line (filter (λ x. is_line_told settings x.finish) (filter_map finish_in_event told))
unfolding report_pieces
each_final settings told =
    by_event final_in (λ event. own_final settings (finish_in_event event)) settings (final_event settings) [] told
    ∙ told_lines settings told

failed_level : (kind : FinishKind) → counts_failed kind ≡ true → status_level kind ≡ levels.Fail
failed_level finish_kinds.FlakyFailed failed = refl
failed_level finish_kinds.Failed failed = refl
failed_level finish_kinds.Flaky failed = cc
failed_level finish_kinds.Slow failed = cc
failed_level finish_kinds.Leaky failed = cc
failed_level finish_kinds.Passed failed = cc

all_shows : (line : StatusLevel) → shows levels.All line ≡ true
all_shows levels.None = refl
all_shows levels.Fail = refl
all_shows levels.Retry = refl
all_shows levels.Slow = refl
all_shows levels.Leak = refl
all_shows levels.Pass = refl
all_shows levels.Skip = refl
all_shows levels.All = refl

pub final_lines : FinalLines
final_lines = record {
  each = each_final;
  failed = λ settings finish shown failed.
      ap (λ b. b || is_output_told settings finish)
      (ap (λ (level : StatusLevel). shows settings.status level) (failed_level (verdict_of finish).kind failed)
      ∙ shown);
  highest = λ settings finish same.
      ap (λ b. b || is_output_told settings finish)
      (ap (λ (level : StatusLevel). shows level (status_level (verdict_of finish).kind)) same
      ∙ all_shows (status_level (verdict_of finish).kind));
}

-- outputs
own_last : (kind : Block → Piece) → ((b : Block) → block_in (kind b) ≡ Some b) → (finish : TestFinish)
    (last : Option ExecuteStatus) → filter_map block_in (last_output kind finish last) ≡ own_block finish last
own_last kind is finish (Some last) = ap (λ o. cons_option o []) (is _)
own_last kind is finish None = refl

own_if : (kind : Block → Piece) → ((b : Block) → block_in (kind b) ≡ Some b) → (shown : Bool) (finish : TestFinish)
    → filter_map block_in (output_if shown kind finish) ≡ own_output shown finish
own_if kind is true finish = own_last kind is finish (last_attempt finish)
own_if kind is false finish = refl

-- behind the line of a finish
own_told : (settings : ReportSettings) (told : TestFinished)
    → filter_map block_in (finish_pieces settings told) ≡ own_output (is_output_told settings told.finish) told.finish
unfolding finish_pieces
own_told settings told =
    let rest = output_if (is_output_told settings told.finish) output told.finish in
    filter_map-append block_in (piece_if (is_line_told settings told.finish) (final (final_line told))) rest
    ∙ ap (λ ys. ys ++ filter_map block_in rest)
    (none_of_one block_in (is_line_told settings told.finish) (final (final_line told)) refl)
    ∙ own_if output (λ _. refl) (is_output_told settings told.finish) told.finish

-- at an end
own_again : (settings : ReportSettings) (told : TestFinished)
    → filter_map block_in (kept_pieces settings told) ≡ own_output (is_output_kept settings told.finish) told.finish
unfolding kept_pieces
own_again settings told =
    let rest = output_if (is_output_kept settings told.finish) output_again told.finish in
    filter_map-append block_in (piece_if true (again (again_line told))) rest
    ∙ own_if output_again (λ _. refl) (is_output_kept settings told.finish) told.finish

none_late_ended : (settings : ReportSettings) (told : List ReporterEvent) (event : ReporterEvent) → ends event ≡ true
    → late_pieces settings (told ++ event ∷ []) ≡ []
none_late_ended settings told event end = ap (flat_map (kept_pieces settings)) (kept-end settings told event end)

pub outputs : Outputs
outputs = record {
  at_once = own_told;
  at_end = own_again;
  each = λ settings told is_one. kept_once settings told is_one;
  ended = none_late_ended;
}

-- summaries
counts_ask : AsksNothing counts_in_piece
counts_ask = record {
  rule_none = refl;
  words_none = λ _ _ _. refl;
  warning_none = λ _. refl;
  test_none = λ _. refl;
  again_none = λ _. refl;
  output_none = λ _. refl;
  output_again_none = λ _. refl;
  note_none = λ _. refl;
  script_none = λ _. refl;
  counts_none = λ _ _ _. refl;
}

no_counts_told : (settings : ReportSettings) (o : Option TestFinished)
    → finish_answers counts_in_piece settings o ≡ []
unfolding finish_pieces
no_counts_told settings None = refl
no_counts_told settings (Some told) =
    none_of_both counts_in_piece (piece_if (is_line_told settings told.finish) (final (final_line told))) _
    (none_of_one counts_in_piece (is_line_told settings told.finish) (final (final_line told)) refl)
    (none_of_output counts_in_piece (is_output_told settings told.finish) output told.finish (λ _. refl))

counts_stats : (elapsed : ℕ) (stats : RunFinishedStats) (late : List Piece) → filter_map counts_in_piece late ≡ []
    → filter_map counts_in_piece (stats_pieces elapsed stats late) ≡ cons_option (counts_at_finish elapsed stats) []
counts_stats elapsed (Single stats) late none = end-answers counts_in_piece counts_ask elapsed stats late none
counts_stats elapsed (Stress stats) late none = none_stress counts_in_piece counts_ask elapsed stats

counts_finish : (elapsed : ℕ) (told : RunFinished) (late : List Piece) → filter_map counts_in_piece late ≡ []
    → filter_map counts_in_piece (finished_pieces elapsed told late)
    ≡ cons_option (counts_at_finish elapsed told.stats) []
counts_finish elapsed told late none =
    filter_map-append counts_in_piece (stats_pieces elapsed told.stats late) (unseen_pieces told.not_seen)
    ∙ ap (λ ys. filter_map counts_in_piece (stats_pieces elapsed told.stats late) ++ ys)
    (none_unseen counts_in_piece counts_ask told.not_seen)
    ∙ append-nil (filter_map counts_in_piece (stats_pieces elapsed told.stats late))
    ∙ counts_stats elapsed told.stats late none

counts_kind : (settings : ReportSettings) (total elapsed : ℕ) (xs : List TestFinished) (kind : TestEventKind)
    → filter_map counts_in_piece (kind_pieces settings total (flat_map (kept_pieces settings) xs) elapsed kind)
    ≡ cons_option (counts_at_kind elapsed kind) []
counts_kind settings total elapsed xs (kinds.StressSubRunFinished e) =
    end-answers counts_in_piece counts_ask e.sub_elapsed e.stats _ (none_late counts_in_piece counts_ask settings xs)
counts_kind settings total elapsed xs (kinds.RunFinished e) =
    counts_finish elapsed e (flat_map (kept_pieces settings) xs) (none_late counts_in_piece counts_ask settings xs)
counts_kind settings total elapsed xs kind =
    going-answers counts_in_piece counts_ask settings total elapsed kind
    ∙ no_counts_told settings (finish_in_kind kind)

counts_event : (settings : ReportSettings) (total : ℕ) (xs : List TestFinished) (event : ReporterEvent)
    → filter_map counts_in_piece (event_pieces settings total (flat_map (kept_pieces settings) xs) event)
    ≡ cons_option (counts_at_end event) []
counts_event settings total xs Tick = refl
counts_event settings total xs (Test event) = counts_kind settings total event.elapsed xs event.kind

joined_option : {Y : Type 0} (o : Option Y) (ys : List Y) → cons_option o [] ++ ys ≡ cons_option o ys
joined_option None ys = refl
joined_option (Some y) ys = refl

counts_told : (told : List ReporterEvent)
    → flat_map (λ event. cons_option (counts_at_end event) []) told ≡ filter_map counts_at_end told
counts_told [] = refl
counts_told (event ∷ later) =
    ap (λ ys. cons_option (counts_at_end event) [] ++ ys) (counts_told later)
    ∙ joined_option (counts_at_end event) (filter_map counts_at_end later)

pub summaries_told : SummariesAreTold
unfolding report_pieces
summaries_told settings told =
    by_event counts_in_piece (λ event. cons_option (counts_at_end event) []) settings (counts_event settings) [] told
    ∙ counts_told told
