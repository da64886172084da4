-- What a report has written, after one event more.
use Rattle.std.proofs.Common.{◌≡◌, ℕ, Bool, true, false, List, [], ◌∷◌, ◌++◌, Option, Some, None, Result, Ok, Err, map}
use Rattle.std.proofs.Common.{is_ok}
use Rattle.std.proofs.Common.{refl, sym, ap, ◌∙◌, subst, append_assoc, append-nil, OnOk, if◌then◌else◌, arith}
use Rattle.std.proofs.lemmas.List.Concat.{flat_map-append}
use Rattle.run_capture.specs.declared.source.Failed.{Failed}
use Rattle.run_capture.specs.Bytes.{Takes}
use Rattle.run_events.specs.declared.events.ReporterEvent.{ReporterEvent}
use Rattle.run_events.specs.declared.events.ReporterEvent.TheVariants.{Tick, Test}
use Rattle.run_events.specs.declared.events.TestEventKind.{TestEventKind}
use Rattle.run_events.specs.declared.events.TestFinished.{TestFinished}
use Rattle.run_events.specs.declared.events.TestEventKind.TheVariants as kinds
use Rattle.run_events.specs.declared.reporter.ReportFault.{ReportFault}
use Rattle.run_events.specs.Counts.{CountsRefusal}
use Rattle.run_report.specs.declared.heard.Heard.{Heard}
use Rattle.run_report.specs.declared.kept.Kept.{Kept}
use Rattle.run_report.specs.declared.levels.ReportSettings.{ReportSettings}
use Rattle.run_report.specs.Finished.{is_kept}
use Rattle.run_report.specs.Heard.{kept_finishes, late_pieces, placed, told_behind, total_told}
use Rattle.run_report.specs.Hears.{heard_after, heard_after_kind, heard_of}
use Rattle.run_report.specs.Kept.{kept_behind, kept_bytes, kept_for}
use Rattle.run_report.specs.Pieces.{Piece, piece_bytes, pieces_bytes}
use Rattle.run_report.specs.Report.{event_pieces, pieces_behind, report_pieces, report_text}
use Rattle.run_report.specs.Speaks.{Speaks}
use Rattle.run_report.specs.Took.{TookFront, TookPart}
use Rattle.run_report.proofs.HeardLemmas.{kept-end, kept-finish, kept-same, total_more}
use Rattle.run_report.proofs.KeptLemmas.{kept_placed, kept_shown_of}
use Rattle.run_report.proofs.TookLemmas.{took_both, took_longer}

-- what one event more adds
behind_more : (settings : ReportSettings) (before told : List ReporterEvent) (event : ReporterEvent)
    → pieces_behind settings before (told ++ event ∷ [])
    ≡ pieces_behind settings before told
    ++ event_pieces settings (total_told 0 (before ++ told)) (late_pieces settings (before ++ told)) event
behind_more settings before [] event =
    append-nil _
    ∙ ap (λ events. event_pieces settings (total_told 0 events) (late_pieces settings events) event)
    (sym (append-nil before))
behind_more settings before (first ∷ later) event =
    let here = event_pieces settings (total_told 0 before) (late_pieces settings before) first in
    let next = before ++ first ∷ [] in
    ap (λ rest. here ++ rest) (behind_more settings next later event)
    ∙ ap (λ events. here ++ (pieces_behind settings next later
    ++ event_pieces settings (total_told 0 events) (late_pieces settings events) event))
    (append_assoc before (first ∷ []) later)
    ∙ sym (append_assoc here (pieces_behind settings next later) _)

-- the text of a report of one event more
pub text_more : (settings : ReportSettings) (told : List ReporterEvent) (event : ReporterEvent)
    → report_text settings told
    ++ pieces_bytes settings (event_pieces settings (total_told 0 told) (late_pieces settings told) event)
    ≡ report_text settings (told ++ event ∷ [])
unfolding pieces_bytes report_pieces
text_more settings told event =
    sym (flat_map-append (piece_bytes settings) (pieces_behind settings [] told) _)
    ∙ ap (pieces_bytes settings) (sym (behind_more settings [] told event))

-- what is remembered, by its parts
same_heard : (t u : ℕ) (k l : List Kept) → t ≡ u → k ≡ l
    → (let h : Heard = record { total = t; kept = k } in h) ≡ record { total = u; kept = l }
same_heard t u k l e f = ap (λ (n : ℕ). let h : Heard = record { total = n; kept = k } in h) e
    ∙ ap (λ (ks : List Kept). let h : Heard = record { total = u; kept = ks } in h) f

kept_if : (settings : ReportSettings) (b : Bool) (x : TestFinished) (xs : List TestFinished)
    → (if b then placed kept_behind (kept_for settings x) (map (kept_for settings) xs) else map (kept_for settings) xs)
    ≡ map (kept_for settings) (if b then placed told_behind x xs else xs)
kept_if settings true x xs = kept_placed settings x xs
kept_if settings false x xs = refl

-- what is remembered of one event more
remembers_kind : (settings : ReportSettings) (told : List ReporterEvent) (clock elapsed : ℕ) (kind : TestEventKind)
    → heard_after_kind settings (heard_of settings told) kind
    ≡ heard_of settings (told ++ Test (record { clock = clock; elapsed = elapsed; kind = kind }) ∷ [])
unfolding heard_of
remembers_kind settings told clock elapsed (kinds.TestStarted e) =
    let event = Test (record { clock = clock; elapsed = elapsed; kind = kinds.TestStarted e }) in
    same_heard _ _ _ _ (sym (total_more 0 told event))
    (ap (map (kept_for settings)) (sym (kept-same settings told event refl refl)))
remembers_kind settings told clock elapsed (kinds.TestFinished e) =
    let event = Test (record { clock = clock; elapsed = elapsed; kind = kinds.TestFinished e }) in
    same_heard _ _ _ _ (sym (total_more 0 told event))
    (kept_if settings (is_kept settings e.finish) e (kept_finishes settings told)
    ∙ ap (map (kept_for settings)) (sym (kept-finish settings told event e refl refl)))
remembers_kind settings told clock elapsed (kinds.StressSubRunFinished e) =
    let event = Test (record { clock = clock; elapsed = elapsed; kind = kinds.StressSubRunFinished e }) in
    same_heard _ _ _ _ (sym (total_more 0 told event))
    (ap (map (kept_for settings)) (sym (kept-end settings told event refl)))
remembers_kind settings told clock elapsed (kinds.RunFinished e) =
    let event = Test (record { clock = clock; elapsed = elapsed; kind = kinds.RunFinished e }) in
    same_heard _ _ _ _ (sym (total_more 0 told event))
    (ap (map (kept_for settings)) (sym (kept-end settings told event refl)))
remembers_kind settings told clock elapsed kind =
    let event = Test (record { clock = clock; elapsed = elapsed; kind = kind }) in
    same_heard _ _ _ _ (sym (total_more 0 told event))
    (ap (map (kept_for settings)) (sym (kept-same settings told event refl refl)))

pub remembers_more : (settings : ReportSettings) (told : List ReporterEvent) (event : ReporterEvent)
    → heard_after settings (heard_of settings told) event ≡ heard_of settings (told ++ event ∷ [])
unfolding heard_of
remembers_more settings told Tick =
    same_heard _ _ _ _ (sym (total_more 0 told Tick))
    (ap (map (kept_for settings)) (sym (kept-same settings told Tick refl refl)))
remembers_more settings told (Test event) =
    remembers_kind settings told event.clock event.elapsed event.kind

-- what is shown again is what is remembered
late_kept : (settings : ReportSettings) (told : List ReporterEvent)
    → kept_bytes (heard_of settings told).kept ≡ pieces_bytes settings (late_pieces settings told)
unfolding heard_of
late_kept settings told = kept_shown_of settings (kept_finishes settings told)

total_heard : (settings : ReportSettings) (told : List ReporterEvent)
    → (heard_of settings told).total ≡ total_told 0 told
unfolding heard_of
total_heard settings told = refl

remembers_next : {T E : Type 0} (settings : ReportSettings) (r : Result T E) (heard next : Heard)
    (told : List ReporterEvent) (event : ReporterEvent) → heard ≡ heard_of settings told
    → OnOk r (next ≡ heard_after settings heard event) → OnOk r (next ≡ heard_of settings (told ++ event ∷ []))
remembers_next settings (Ok _) heard next told event same after =
    after ∙ ap (λ h. heard_after settings h event) same ∙ remembers_more settings told event
remembers_next settings (Err _) heard next told event same after = after

-- a report that speaks, and hears one event more
pub speaks_on : (settings : ReportSettings) (before between now : Option (List ℕ)) (f g h : ℕ)
    (went r : Result (Unit {0}) (ReportFault Failed)) (heard next : Heard) (event : ReporterEvent)
    → is_ok went ≡ true
    → ((late : List Piece) → kept_bytes heard.kept ≡ pieces_bytes settings late
    → TookPart between now (pieces_bytes settings (event_pieces settings heard.total late event)) r)
    → CountsRefusal g h r → OnOk r (next ≡ heard_after settings heard event)
    → (told : List ReporterEvent) → Speaks settings before between f g went heard told
    → Speaks settings before now f h r next (told ++ event ∷ [])
speaks_on settings before between now f g h (Err _) r heard next event speaks took counted after told so_far = cc
speaks_on settings before between now f g h (Ok _) r heard next event speaks took counted after told so_far =
    let same : heard ≡ heard_of settings told = so_far.remembers in
    let kept = ap (λ (k : Heard). kept_bytes k.kept) same ∙ late_kept settings told in
    let total = ap (λ (k : Heard). k.total) same ∙ total_heard settings told in
    let more = subst (λ (n : ℕ). TookPart between now (pieces_bytes settings
    (event_pieces settings n (late_pieces settings told) event)) r) total (took (late_pieces settings told) kept) in
    let counts : g ≡ f = so_far.shows.counted in
    record {
      shows = record {
        took = took_both before between now (report_text settings told) _ _ r (text_more settings told event)
            so_far.shows.took more;
        counted = subst (λ (n : ℕ). CountsRefusal n h r) counts counted;
      };
      remembers = remembers_next settings r heard next told event same after;
    }

-- a report that has fallen silent, and hears one event more
pub speaks_not : (settings : ReportSettings) (before now : Option (List ℕ)) (f g : ℕ)
    (went : Result (Unit {0}) (ReportFault Failed)) (heard : Heard) (event : ReporterEvent)
    → is_ok went ≡ false
    → (told : List ReporterEvent) → Speaks settings before now f g went heard told
    → Speaks settings before now f g went heard (told ++ event ∷ [])
speaks_not settings before now f g (Ok _) heard event silent told so_far = cc
speaks_not settings before now f g (Err e) heard event silent told so_far = record {
  shows = record {
    took = took_longer before now (report_text settings told) _ _ (text_more settings told event) so_far.shows.took;
    counted = so_far.shows.counted;
  };
  remembers = so_far.remembers;
}

-- nothing was written of a text that was never made
pub took_nothing : (now : Option (List ℕ)) (text : List ℕ) → TookFront now now text
took_nothing None text = (0, omega arith, refl)
took_nothing (Some taken) text = (0, omega arith, ap Some (sym (append-nil taken)))

-- nothing more was taken
pub takes_nil : (now : Option (List ℕ)) → Takes now now []
takes_nil None = refl
takes_nil (Some taken) = ap Some (sym (append-nil taken))

-- a report that has heard nothing
pub speaks_first : (settings : ReportSettings) (now : Option (List ℕ)) (f : ℕ) (heard : Heard)
    → heard ≡ record { total = 0; kept = [] } → Speaks settings now now f f (Ok tt) heard []
unfolding pieces_bytes report_pieces heard_of
speaks_first settings now f heard same =
    record { shows = record { took = takes_nil now; counted = refl }; remembers = same }
