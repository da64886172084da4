-- What was captured after a history.
use Rattle.std.proofs.Common.{◌≡◌, ℕ, ◌||◌, List, [], ◌∷◌, ◌++◌, Option, Some, None, refl, sym, ap, ◌∙◌, append_assoc}
use Rattle.std.proofs.Common.{append-nil}
use Rattle.run_capture.specs.declared.test_output.Stream.{Stream}
use Rattle.run_capture.specs.declared.test_output.Stream.TheVariants as streams
use Rattle.run_capture.specs.declared.test_output.ChildOutput.{ChildOutput}
use Rattle.run_capture.specs.declared.test_output.ChildOutput.TheVariants.{Split, Combined}
use Rattle.run_capture.specs.declared.ended.Ended.{Ended}
use Rattle.run_capture.specs.Output.{bytes_of, joined, with_bytes}
use Rattle.run_capture.specs.Captured.{has_ended, with_ended, read_error}
use Rattle.run_capture.specs.Heard.{Heard, piece, end, error, captured, is_stream, pieces_of, is_over, errors_of}
use Rattle.run_capture.specs.Heard.{OutputIsWhatWasHeard}

-- no bytes change nothing
joined-nil : (front : Option (List ℕ)) → front ≡ joined front []
joined-nil None = refl
joined-nil (Some bytes) = ap Some (sym (append-nil bytes))

-- bytes joined twice are their join, joined once
joined-joined : (front : Option (List ℕ)) (xs ys : List ℕ) → joined (joined front xs) ys ≡ joined front (xs ++ ys)
joined-joined None xs ys = refl
joined-joined (Some bytes) xs ys = ap Some (append_assoc bytes xs ys)

-- the bytes of a piece that are a stream's own
abbrev own : Stream → Stream → List ℕ → List ℕ
own stream other bytes = pieces_of stream (piece other bytes ∷ [])

-- a piece goes to its own stream
bytes_of-with_bytes : (output : ChildOutput) (stream other : Stream) (bytes : List ℕ)
    → bytes_of (with_bytes output other bytes) stream ≡ joined (bytes_of output stream) (own stream other bytes)
bytes_of-with_bytes (Split split) streams.Stdout streams.Stdout bytes = refl
bytes_of-with_bytes (Split split) streams.Stdout streams.Stderr bytes = joined-nil split.stdout
bytes_of-with_bytes (Split split) streams.Stdout streams.Combined bytes = joined-nil split.stdout
bytes_of-with_bytes (Split split) streams.Stderr streams.Stdout bytes = joined-nil split.stderr
bytes_of-with_bytes (Split split) streams.Stderr streams.Stderr bytes = refl
bytes_of-with_bytes (Split split) streams.Stderr streams.Combined bytes = joined-nil split.stderr
bytes_of-with_bytes (Split split) streams.Combined streams.Stdout bytes = refl
bytes_of-with_bytes (Split split) streams.Combined streams.Stderr bytes = refl
bytes_of-with_bytes (Split split) streams.Combined streams.Combined bytes = refl
bytes_of-with_bytes (Combined output) streams.Stdout streams.Stdout bytes = refl
bytes_of-with_bytes (Combined output) streams.Stdout streams.Stderr bytes = refl
bytes_of-with_bytes (Combined output) streams.Stdout streams.Combined bytes = refl
bytes_of-with_bytes (Combined output) streams.Stderr streams.Stdout bytes = refl
bytes_of-with_bytes (Combined output) streams.Stderr streams.Stderr bytes = refl
bytes_of-with_bytes (Combined output) streams.Stderr streams.Combined bytes = refl
bytes_of-with_bytes (Combined output) streams.Combined streams.Stdout bytes = joined-nil (Some output)
bytes_of-with_bytes (Combined output) streams.Combined streams.Stderr bytes = joined-nil (Some output)
bytes_of-with_bytes (Combined output) streams.Combined streams.Combined bytes = refl

-- each captured stream has its own pieces, joined in order
bytes-captured : (output : ChildOutput) (past : List Heard) (stream : Stream)
    → bytes_of (captured output past).output stream ≡ joined (bytes_of output stream) (pieces_of stream past)
bytes-captured output [] stream = joined-nil (bytes_of output stream)
bytes-captured output (piece other bytes ∷ past) stream =
    bytes_of-with_bytes (captured output past).output stream other bytes
    ∙ ap (λ front. joined front (own stream other bytes)) (bytes-captured output past stream)
    ∙ joined-joined (bytes_of output stream) (pieces_of stream past) (own stream other bytes)
bytes-captured output (end other ∷ past) stream = bytes-captured output past stream
bytes-captured output (error other text ∷ past) stream = bytes-captured output past stream

-- the end of a stream ends it alone
has_ended-with_ended : (ended : Ended) (stream other : Stream)
    → has_ended (with_ended ended other) stream ≡ (is_stream stream other || has_ended ended stream)
has_ended-with_ended ended streams.Stdout streams.Stdout = refl
has_ended-with_ended ended streams.Stdout streams.Stderr = refl
has_ended-with_ended ended streams.Stdout streams.Combined = refl
has_ended-with_ended ended streams.Stderr streams.Stdout = refl
has_ended-with_ended ended streams.Stderr streams.Stderr = refl
has_ended-with_ended ended streams.Stderr streams.Combined = refl
has_ended-with_ended ended streams.Combined streams.Stdout = refl
has_ended-with_ended ended streams.Combined streams.Stderr = refl
has_ended-with_ended ended streams.Combined streams.Combined = refl

-- a stream has ended where its end or an error came
ended-captured : (output : ChildOutput) (past : List Heard) (stream : Stream)
    → has_ended (captured output past).ended stream ≡ is_over stream past
ended-captured output [] streams.Stdout = refl
ended-captured output [] streams.Stderr = refl
ended-captured output [] streams.Combined = refl
ended-captured output (piece other bytes ∷ past) stream = ended-captured output past stream
ended-captured output (end other ∷ past) stream =
    has_ended-with_ended (captured output past).ended stream other
    ∙ ap (λ over. is_stream stream other || over) (ended-captured output past stream)
ended-captured output (error other text ∷ past) stream =
    has_ended-with_ended (captured output past).ended stream other
    ∙ ap (λ over. is_stream stream other || over) (ended-captured output past stream)

-- the errors are those that came
errors-captured : (output : ChildOutput) (past : List Heard) → (captured output past).errors ≡ errors_of past
errors-captured output [] = refl
errors-captured output (piece other bytes ∷ past) = errors-captured output past
errors-captured output (end other ∷ past) = errors-captured output past
errors-captured output (error other text ∷ past) =
    ap (λ errors. errors ++ read_error other text ∷ []) (errors-captured output past)

-- what was captured is what was heard
pub output_is_what_was_heard : OutputIsWhatWasHeard
output_is_what_was_heard = record { bytes = bytes-captured; ended = ended-captured; errors = errors-captured }
