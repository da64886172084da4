use Rattle.std.proofs.Common.{rules, ◌≡◌, ℕ, ◌-◌, List, length, take, drop, refl, arith}
use Rattle.run_capture.proofs.BytesLemmas.{take-drop_all}
use Rattle.run_store_io.specs.Awaits.{awaited}
use Rattle.run_store_io.proofs.FoundLemmas.{record_there}
use Rattle.run_store_io.proofs.record.record_in.Goals as goal

pub returns : goal.returns
returns c =
    let bytes : List ℕ = c.args.bytes.now in
    let count : ℕ = c.in-Some-length_in.count in
    let rest : List ℕ = take (length bytes - 5) (drop 5 bytes) in
    record_there (awaited c.args.awaiting) bytes _ count rest _ _ (λ (i : ℕ). omega (arith, c.type_inv.bytes i))
    (search rules) (search rules)
    (search rules) (search rules) (take-drop_all 5 bytes) c.if-rest-count.false refl (take-drop_all count rest)
