-- What is played of a store that was recorded.
use Rattle.std.proofs.Common.{◌≡◌, ◌∙◌, ℕ, ◌⊎◌, inl, inr, List, ◌++◌, Option, Some, None, sym, ap, subst, arith}
use Rattle.std.proofs.lemmas.List.{append_cancel_left}
use Rattle.run_capture.specs.Bytes.{Takes}
use Rattle.run_events.specs.declared.plan.Plan.{Plan}
use Rattle.run_events.specs.declared.turn.Turn.{Turn}
use Rattle.run_input.specs.declared.plan_line.RunnerKeys.{RunnerKeys}
use Rattle.run_input.specs.Lines.{lines_of}
use Rattle.run_store.specs.Stores.{store_text, whole, IsReading}
use Rattle.run_store_io.specs.Recorded.{HasRecorded}
use Rattle.run_store_io.proofs.LineLemmas.{plan_first}
use Rattle.run_cli.specs.Call.{Reading, Writing}
use Rattle.run_cli.specs.Cause.{HasInput}
use Rattle.run_cli.specs.Given.{IsAllOf, SaysInput}
use Rattle.run_cli.proofs.CauseLemmas.{same_input}
use Rattle.run_store_cli.specs.Causes.{HasStore}
use Rattle.run_store_cli.specs.Plays.{PlaysInput, PlaysShort}
use Rattle.run_store_cli.specs.Recorded.{PlaysRecorded, RecordsPlayAsReplays}
use Rattle.run_store_cli.specs.Records.{RecordEnd, recorded, bad_line, unwritten, unread, too_much, unstorable}
use Rattle.run_store_cli.specs.Records.{no_memory, IsRecordEnd, record_status}
use Rattle.run_store_cli.proofs.PlayedCauses.{whole_read, calm_read}
use Rattle.run_store_cli.proofs.RecordCauses.{says_record}

-- with status 0 the store was written
zero_recorded : (r : Reading) (w : Writing) (e : RecordEnd) → 0 ≡ record_status e → IsRecordEnd r w e
    → IsRecordEnd r w recorded
zero_recorded r w recorded is h = h
zero_recorded r w (bad_line n) is h = absurd (omega (arith, is))
zero_recorded r w unwritten is h = absurd (omega (arith, is))
zero_recorded r w unread is h = absurd (omega (arith, is))
zero_recorded r w too_much is h = absurd (omega (arith, is))
zero_recorded r w unstorable is h = absurd (omega (arith, is))
zero_recorded r w no_memory is h = absurd (omega (arith, is))

-- a sink that tells its bytes took these alone
same_taken : (before : List ℕ) (taken after : Option (List ℕ)) (x y : List ℕ) → taken ≡ Some before
    → Takes taken after x → Takes taken after y → x ≡ y
same_taken before None after x y told one two = cc
same_taken before (Some t) after x y told one two =
    let both : Some (t ++ x) ≡ Some (t ++ y) = sym one ∙ two in
    let same : t ++ x ≡ t ++ y = cc in
    append_cancel_left t x y same

-- the store that was recorded is the one that is played
pub played_store : (r s : Reading) (w v : Writing) (status : ℕ) (h : PlaysRecorded r s w v status) (bytes : List ℕ)
    → (x : HasRecorded bytes w.taken w.taken_after) → HasStore s.left (whole x.line x.turns)
played_store r s w v status h bytes x =
    let same : h.store ≡ store_text x.line x.turns =
    same_taken h.before w.taken w.taken_after h.store (store_text x.line x.turns) h.told h.took x.took in
    record {
      bytes = h.store;
      told = h.given;
      within = h.within;
      read = record { storable = x.storable; is = same };
    }

-- what was recorded, and how it is played
pub record IsPlayed (r : Reading) (v : Writing) (status : ℕ) : Type 0 where
  pub bytes : List ℕ
  pub all : IsAllOf r bytes
  pub line : List ℕ
  pub keys : RunnerKeys
  pub plan : Plan
  pub turns : List Turn
  pub input : SaysInput r keys plan turns
  pub plays : PlaysInput keys plan turns v status ⊎ PlaysShort v status

pub played : (r s : Reading) (w v : Writing) (status : ℕ) → PlaysRecorded r s w v status → IsPlayed r v status
played r s w v status h =
    let (bytes, all, x, still) = zero_recorded r w h.records.end h.records.status_is h.records.says in
    record {
      bytes = bytes;
      all = all;
      line = x.line;
      keys = x.said.keys;
      plan = x.said.plan;
      turns = x.turns;
      input = says_record r bytes x.line x.turns all x.said;
      plays = whole_read s v status x.line x.said.keys x.said.plan x.turns (played_store r s w v status h bytes x)
          (plan_first (lines_of bytes) x.line x.said.others x.said.keys x.said.plan x.turns x.said.first x.said.says)
          (calm_read s v status h.plays h.calm);
    }

-- `play` of what was recorded ends as a replay of the input's plan and turns
pub records_play : RecordsPlayAsReplays
records_play r s w v status h keys plan turns has =
    let x = played r s w v status h in
    let same = same_input r keys x.keys plan x.plan turns x.turns has x.input in
    subst (λ k. PlaysInput k plan turns v status ⊎ PlaysShort v status) same.0
    (subst (λ p. PlaysInput x.keys p turns v status ⊎ PlaysShort v status) same.1
    (subst (λ ts. PlaysInput x.keys x.plan ts v status ⊎ PlaysShort v status) same.2 x.plays))
