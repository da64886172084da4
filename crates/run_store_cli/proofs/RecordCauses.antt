-- Each cause gives its status, of `record`.
use Rattle.std.proofs.Common.{◌≡◌, ℕ, ◌<◌, inl, inr, List, true, refl, sym, subst, arith}
use Rattle.run_events.specs.declared.plan.Plan.{Plan}
use Rattle.run_events.specs.declared.turn.Turn.{Turn}
use Rattle.run_input.specs.declared.plan_line.RunnerKeys.{RunnerKeys}
use Rattle.run_input.specs.Lines.{lines_of}
use Rattle.run_input.specs.Input.{IsInput, IsFirstBad}
use Rattle.run_input.proofs.InputLemmas.{has_no_bad_line}
use Rattle.run_store.specs.Stores.{AreStored, IsStorable}
use Rattle.run_store_io.specs.Recorded.{IsRecordOf}
use Rattle.run_store_io.proofs.LineLemmas.{line_payload}
use Rattle.run_cli.specs.Call.{Reading, Writing, HasReadFault, HasWriteFault}
use Rattle.run_cli.specs.Cause.{Gets, HasInput, HasBadInput, HasTooMuch}
use Rattle.run_cli.specs.Given.{IsAllOf, SaysInput, HasBadLine}
use Rattle.run_cli.proofs.CauseLemmas.{all_given, same_input, not_too_long, too_much_excludes}
use Rattle.run_cli.proofs.GivenLemmas.{given_few}
use Rattle.run_store_cli.specs.Causes.{GetsRecorded}
use Rattle.run_store_cli.specs.Records.{RecordEnd, recorded, bad_line, unwritten, unread, too_much, unstorable}
use Rattle.run_store_cli.specs.Records.{no_memory, IsRecordEnd, is_sound, record_status, RecordsSo}

-- what was recorded says an input
pub says_record : (r : Reading) (bytes line : List ℕ) (turns : List Turn) → IsAllOf r bytes
    → (said : IsRecordOf bytes line turns) → SaysInput r said.keys said.plan turns
says_record r bytes line turns all said =
    record { bytes = bytes; given = all.given; end = all.end; within = all.within; says = said.says }

-- an input with a bad line says nothing else
bad_excludes : (r : Reading) (bytes : List ℕ) (n : ℕ) (keys : RunnerKeys) (plan : Plan) (turns : List Turn)
    → HasBadInput r.left n → IsAllOf r bytes → IsInput (lines_of bytes) keys plan turns → ⊥
bad_excludes r bytes n keys plan turns has all says =
    let same = all_given r.left r.left_after has.bytes bytes has.told all.given all.end in
    has_no_bad_line (lines_of bytes) keys plan turns n says
    (subst (λ bytes. IsFirstBad (lines_of bytes) n) same has.bad)

excludes_bad : (r : Reading) (n : ℕ) (keys : RunnerKeys) (plan : Plan) (turns : List Turn)
    → HasInput r.left keys plan turns → HasBadLine r n → ⊥
excludes_bad r n keys plan turns has (bytes, given, end, within, bad) =
    let same = all_given r.left r.left_after has.bytes bytes has.told given end in
    has_no_bad_line (lines_of has.bytes) keys plan turns n has.says
    (subst (λ bytes. IsFirstBad (lines_of bytes) n) (sym same) bad)

-- the turns that were recorded are those of the input
same_turns : (r : Reading) (bytes line : List ℕ) (given turns : List Turn) (keys : RunnerKeys) (plan : Plan)
    → HasInput r.left keys plan turns → IsAllOf r bytes → IsRecordOf bytes line given → given ≡ turns
same_turns r bytes line given turns keys plan has all said =
    (same_input r keys said.keys plan said.plan turns given has (says_record r bytes line given all said)).2

-- they are storable, if a store can have each of them
storable_record : (r : Reading) (bytes line : List ℕ) (turns : List Turn) → IsAllOf r bytes
    → IsRecordOf bytes line turns → AreStored turns → IsStorable line turns
storable_record r bytes line turns all said stored = record {
  plan_line = line_payload bytes line said.others said.keys said.plan turns said.first said.says all.within;
  turn_lines = stored;
  few = (given_few r said.keys said.plan turns (says_record r bytes line turns all said)).1;
}

-- 10
unread_gets : (r : Reading) (w : Writing) (e : RecordEnd) → (is_sound e ≡ true → r.faults_after ≡ r.faults)
    → r.faults < r.faults_after → Gets (record_status e) 10
unread_gets r w recorded sound lt = let e = sound refl in absurd (omega arith)
unread_gets r w (bad_line n) sound lt = let e = sound refl in absurd (omega arith)
unread_gets r w unwritten sound lt = let e = sound refl in absurd (omega arith)
unread_gets r w unread sound lt = inl refl
unread_gets r w too_much sound lt = let e = sound refl in absurd (omega arith)
unread_gets r w unstorable sound lt = let e = sound refl in absurd (omega arith)
unread_gets r w no_memory sound lt = inr refl

-- 12
too_much_gets : (r : Reading) (w : Writing) (e : RecordEnd) → IsRecordEnd r w e → ¬ HasReadFault r
    → HasTooMuch r.left → Gets (record_status e) 12
too_much_gets r w recorded h calm has =
    absurd (too_much_excludes r h.0 has h.1.given h.1.end h.1.within)
too_much_gets r w (bad_line n) ((bytes, given, end, within, bad), writes) calm has =
    absurd (too_much_excludes r bytes has given end within)
too_much_gets r w unwritten h calm has =
    absurd (too_much_excludes r h.0 has h.1.given h.1.end h.1.within)
too_much_gets r w unread h calm has = absurd (calm h.1)
too_much_gets r w too_much h calm has = inl refl
too_much_gets r w unstorable h calm has = inl refl
too_much_gets r w no_memory h calm has = inr refl

-- 3
bad_line_gets : (r : Reading) (w : Writing) (e : RecordEnd) → IsRecordEnd r w e → ¬ HasReadFault r → (number : ℕ)
    → HasBadInput r.left number → Gets (record_status e) 3
bad_line_gets r w recorded (bytes, all, h, still) calm n has =
    absurd (bad_excludes r bytes n h.said.keys h.said.plan h.turns has all h.said.says)
bad_line_gets r w (bad_line m) h calm n has = inl refl
bad_line_gets r w unwritten (bytes, all, h, later, rose) calm n has =
    absurd (bad_excludes r bytes n h.said.keys h.said.plan h.turns has all h.said.says)
bad_line_gets r w unread h calm n has = absurd (calm h.1)
bad_line_gets r w too_much h calm n has = absurd (not_too_long r has.bytes has.told has.within h.0)
bad_line_gets r w unstorable (bytes, all, h, still) calm n has =
    absurd (bad_excludes r bytes n h.said.keys h.said.plan h.turns has all h.said.says)
bad_line_gets r w no_memory h calm n has = inr refl

-- 0
stored_gets : (r : Reading) (w : Writing) (e : RecordEnd) → IsRecordEnd r w e → ¬ HasReadFault r → (keys : RunnerKeys)
    (plan : Plan) (turns : List Turn) → HasInput r.left keys plan turns → AreStored turns → ¬ HasWriteFault w
    → Gets (record_status e) 0
stored_gets r w recorded h calm keys plan turns has stored quiet = inl refl
stored_gets r w (bad_line n) h calm keys plan turns has stored quiet =
    absurd (excludes_bad r n keys plan turns has h.0)
stored_gets r w unwritten (bytes, all, h, later, rose) calm keys plan turns has stored quiet = absurd (quiet rose)
stored_gets r w unread h calm keys plan turns has stored quiet = absurd (calm h.1)
stored_gets r w too_much h calm keys plan turns has stored quiet =
    absurd (not_too_long r has.bytes has.told has.within h.0)
stored_gets r w unstorable (bytes, all, h, still) calm keys plan turns has stored quiet =
    let same = same_turns r bytes h.line h.turns turns keys plan has all h.said in
    absurd (h.cause (storable_record r bytes h.line h.turns all h.said (subst AreStored (sym same) stored)))
stored_gets r w no_memory h calm keys plan turns has stored quiet = inr refl

-- 12, of turns that no store can have
unstored_gets : (r : Reading) (w : Writing) (e : RecordEnd) → IsRecordEnd r w e → ¬ HasReadFault r
    → (keys : RunnerKeys) (plan : Plan) (turns : List Turn) → HasInput r.left keys plan turns → ¬ AreStored turns
    → ¬ HasWriteFault w → Gets (record_status e) 12
unstored_gets r w recorded (bytes, all, h, still) calm keys plan turns has never quiet =
    let same = same_turns r bytes h.line h.turns turns keys plan has all h.said in
    absurd (never (subst AreStored same h.storable.turn_lines))
unstored_gets r w (bad_line n) h calm keys plan turns has never quiet =
    absurd (excludes_bad r n keys plan turns has h.0)
unstored_gets r w unwritten (bytes, all, h, later, rose) calm keys plan turns has never quiet = absurd (quiet rose)
unstored_gets r w unread h calm keys plan turns has never quiet = absurd (calm h.1)
unstored_gets r w too_much h calm keys plan turns has never quiet = inl refl
unstored_gets r w unstorable h calm keys plan turns has never quiet = inl refl
unstored_gets r w no_memory h calm keys plan turns has never quiet = inr refl

-- 9
unwritten_gets : (r : Reading) (w : Writing) (e : RecordEnd) → IsRecordEnd r w e → ¬ HasReadFault r
    → (keys : RunnerKeys) (plan : Plan) (turns : List Turn) → HasInput r.left keys plan turns
    → w.faults < w.faults_after → Gets (record_status e) 9
unwritten_gets r w recorded (bytes, all, h, still) calm keys plan turns has lt = absurd (omega arith)
unwritten_gets r w (bad_line n) h calm keys plan turns has lt = absurd (excludes_bad r n keys plan turns has h.0)
unwritten_gets r w unwritten h calm keys plan turns has lt = inl refl
unwritten_gets r w unread h calm keys plan turns has lt = absurd (calm h.1)
unwritten_gets r w too_much h calm keys plan turns has lt =
    absurd (not_too_long r has.bytes has.told has.within h.0)
unwritten_gets r w unstorable (bytes, all, h, still) calm keys plan turns has lt = absurd (omega arith)
unwritten_gets r w no_memory h calm keys plan turns has lt = inr refl

-- each cause of `record` gives its status
gets_by_end : (r : Reading) (w : Writing) (e : RecordEnd) → IsRecordEnd r w e
    → (is_sound e ≡ true → r.faults_after ≡ r.faults) → GetsRecorded r w (record_status e)
gets_by_end r w e h sound = record {
  unread = unread_gets r w e sound;
  too_much = too_much_gets r w e h;
  bad_line = bad_line_gets r w e h;
  stored = stored_gets r w e h;
  unstored = unstored_gets r w e h;
  unwritten = unwritten_gets r w e h;
}

pub record_gets : (r : Reading) (w : Writing) (status : ℕ) → RecordsSo r w status → GetsRecorded r w status
record_gets r w status h = subst (GetsRecorded r w) (sym h.status_is) (gets_by_end r w h.end h.says h.sound)
