-- The bytes of pieces.
use Rattle.std.proofs.Common.{◌≡◌, ℕ, Bool, true, false, List, [], ◌++◌, Option, Some, None, refl, sym, ap, ◌∙◌}
use Rattle.std.proofs.Common.{if◌then◌else◌, nat_lt, ◌≤◌, arith}
use Rattle.std.proofs.Common.{append_assoc, append-nil}
use Rattle.std.proofs.lemmas.List.Concat.{flat_map-append}
use Rattle.run_events.specs.declared.message.TestFinish.{TestFinish}
use Rattle.run_events.specs.declared.result.ExecuteStatus.{ExecuteStatus}
use Rattle.run_report.specs.declared.levels.ReportSettings.{ReportSettings}
use Rattle.run_report.specs.Finish.{last_attempt}
use Rattle.run_report.specs.Finished.{last_output, last_shown, output_if, piece_if}
use Rattle.run_report.specs.Pieces.{Piece, output, output_again, piece_bytes, pieces_bytes}

-- some pieces and more behind them
pub pieces_two : (settings : ReportSettings) (front : List ℕ) (xs ys : List Piece)
    → (front ++ pieces_bytes settings xs) ++ pieces_bytes settings ys ≡ front ++ pieces_bytes settings (xs ++ ys)
unfolding pieces_bytes
pieces_two settings front xs ys =
    append_assoc front _ _ ∙ ap (λ bytes. front ++ bytes) (sym (flat_map-append (piece_bytes settings) xs ys))

-- the same with nothing before them
pub pieces_join : (settings : ReportSettings) (xs ys : List Piece)
    → pieces_bytes settings xs ++ pieces_bytes settings ys ≡ pieces_bytes settings (xs ++ ys)
pieces_join settings xs ys = pieces_two settings [] xs ys

-- one piece
pub one_piece : (settings : ReportSettings) (piece : Piece)
    → pieces_bytes settings (piece_if true piece) ≡ piece_bytes settings piece
unfolding pieces_bytes
one_piece settings piece = append-nil (piece_bytes settings piece)

-- pieces that aren't shown
pub none_if : (settings : ReportSettings) (shown : Bool) (xs : List Piece) (front : List ℕ) → shown ≡ false
    → front ≡ front ++ pieces_bytes settings (if shown then xs else [])
unfolding pieces_bytes
none_if settings true xs front e = cc
none_if settings false xs front e = sym (append-nil front)

-- the output of a last attempt
last_told : (settings : ReportSettings) (finish : TestFinish) (last : Option ExecuteStatus)
    → pieces_bytes settings (last_output output finish last) ≡ last_shown settings.color finish last
unfolding pieces_bytes
last_told settings finish (Some last) = append-nil _
last_told settings finish None = refl

last_kept : (settings : ReportSettings) (finish : TestFinish) (last : Option ExecuteStatus)
    → pieces_bytes settings (last_output output_again finish last) ≡ last_shown settings.color finish last
unfolding pieces_bytes
last_kept settings finish (Some last) = append-nil _
last_kept settings finish None = refl

-- an output where it is shown, and where it isn't
pub told_outputs : (settings : ReportSettings) (finish : TestFinish)
    → pieces_bytes settings (output_if true output finish)
    ≡ last_shown settings.color finish (last_attempt finish)
told_outputs settings finish = last_told settings finish (last_attempt finish)

pub kept_outputs : (settings : ReportSettings) (finish : TestFinish)
    → pieces_bytes settings (output_if true output_again finish)
    ≡ last_shown settings.color finish (last_attempt finish)
kept_outputs settings finish = last_kept settings finish (last_attempt finish)

-- a number that isn't below another
pub not_below : (m n : ℕ) → n ≤ m → nat_lt m n ≡ false
not_below m n least = grind arith
