use Rattle.std.proofs.Common.{◌≡◌, ◌∙◌, ◌≤◌, ◌+◌, ◌<◌, ◌^◌, ℕ, length, sym, ap, subst, arith}
use Rattle.std.proofs.lemmas.Result.{err_from_is_err_and}
use Rattle.run_output.specs.Turns.{turn_text}
use Rattle.run_store.specs.Records.{most_bytes}
use Rattle.run_store_io.proofs.WriteLemmas.{turn_took, turn_part}
use Rattle.run_store_io.proofs.written.write_turn.Goals as goal

pub returns-in_err-write_record-clause-says : goal.returns-in_err-write_record-clause-says
returns-in_err-write_record-clause-says g c =
    let out = c.from_residual-in_err-write_record in
    let p = err_from_is_err_and out.result out.ensures.1 in
    let line = c.as_bytes.result.now in
    let is : line ≡ turn_text c.args.turn.now = c.as_bytes.ensures ∙ c.in_ok-line.ensures in
    let short : length line ≤ most_bytes =
    subst (λ (n : ℕ). n ≤ most_bytes) (c.len.ensures ∙ ap (length {A = ℕ}) (sym c.as_bytes.ensures))
    c.if-len-gt-MOST_BYTES.false in
    let few : c.args.turns + 1 < 2 ^ 32 = omega arith in
    rw (p.1, p.2)
    (turn_part _ _ c.args.turns c.args.turn.now line is c.known_turn.ensures short few
    c.in_err-write_record.ensures.err)

pub returns-clause-says : goal.returns-clause-says
returns-clause-says g c =
    let line = c.as_bytes.result.now in
    let is : line ≡ turn_text c.args.turn.now = c.as_bytes.ensures ∙ c.in_ok-line.ensures in
    let short : length line ≤ most_bytes =
    subst (λ (n : ℕ). n ≤ most_bytes) (c.len.ensures ∙ ap (length {A = ℕ}) (sym c.as_bytes.ensures))
    c.if-len-gt-MOST_BYTES.false in
    let few : c.args.turns + 1 < 2 ^ 32 = omega arith in
    turn_took _ _ c.args.turns c.args.turn.now line is c.known_turn.ensures short few c.in_ok-write_record.ensures.ok
