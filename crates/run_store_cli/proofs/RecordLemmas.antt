-- How recording an input ends.
use Rattle.std.proofs.Common.{◌≡◌, ℕ, ◌≤◌, inl, inr, List, [], Option, refl, sym, ap}
use Rattle.std.proofs.Common.{subst, Err, true≢false}
use Rattle.run_input.specs.Lines.{lines_of}
use Rattle.run_input.specs.Input.{IsFirstBad}
use Rattle.run_output.specs.declared.fault.Fault.{Fault}
use Rattle.run_output.specs.declared.fault.Fault.TheVariants as faults
use Rattle.run_output.specs.Faults.{fault_status}
use Rattle.run_capture.specs.Faults.{RoseExactlyIf}
use Rattle.run_store_io.specs.Recorded.{HasRecorded, HasRecordedPart, IsRecordError, is_record_write_error}
use Rattle.run_store_io.specs.declared.error.StoreError.{StoreError}
use Rattle.run_store_io.specs.declared.error.StoreError.TheVariants as errors
use Rattle.run_store_io.specs.declared.recording.RecordError.TheVariants.{Store}
use Rattle.run_cli.specs.Call.{Reading, Writing, HasReadFault, HasWriteFault}
use Rattle.run_cli.specs.Finish.{EndsAtFault}
use Rattle.run_cli.specs.Given.{IsAllOf, IsWithin, IsTooLong}
use Rattle.run_store_cli.specs.Ends.{EndsSo}
use Rattle.run_store_cli.specs.Records.{recorded, bad_line, unwritten, unread, too_much, unstorable, no_memory}
use Rattle.run_store_cli.specs.Records.{RecordsSo, store_error_status}

-- a fault that was written, or memory's, ends so
pub ended_so : (w : Writing) (fault e : Fault) → EndsAtFault w [] fault (Err e) → EndsSo w fault (fault_status e)
ended_so w fault e (inl (is, short)) = inl (ap fault_status is, short)
ended_so w fault e (inr (is, later, writes)) = inr (ap fault_status is, later, writes)

-- a source that failed
pub unread_end : (r : Reading) (w : Writing) (status : ℕ) → IsWithin r → HasReadFault r → EndsSo w faults.Read status
    → RecordsSo r w status
unread_end r w status within rose (inl (is, short)) = record {
  end = no_memory;
  status_is = is;
  says = inl (faults.Read, short);
  sound = λ e. absurd (true≢false (sym e));
}
unread_end r w status within rose (inr (is, later, writes)) = record {
  end = unread;
  status_is = is;
  says = (within, rose, writes);
  sound = λ e. absurd (true≢false (sym e));
}

-- a source that gave too much
pub too_much_end : (r : Reading) (w : Writing) (status : ℕ) → IsTooLong r → r.faults_after ≡ r.faults
    → EndsSo w faults.TooLong status → RecordsSo r w status
too_much_end r w status long quiet (inl (is, short)) = record {
  end = no_memory;
  status_is = is;
  says = inl (faults.TooLong, short);
  sound = λ e. quiet;
}
too_much_end r w status long quiet (inr (is, later, writes)) = record {
  end = too_much;
  status_is = is;
  says = (long, writes);
  sound = λ e. quiet;
}

-- memory was wanting before the input was there
pub memory_end : (r : Reading) (w : Writing) (status : ℕ) → EndsSo w faults.Memory status → RecordsSo r w status
memory_end r w status (inl (is, short)) = record {
  end = no_memory;
  status_is = is;
  says = inl (faults.Memory, short);
  sound = λ e. absurd (true≢false (sym e));
}
memory_end r w status (inr (is, later, writes)) = record {
  end = no_memory;
  status_is = is;
  says = inr (inl writes);
  sound = λ e. absurd (true≢false (sym e));
}

-- a bad line, where the sink that took its fault's line took nothing before
pub line_end : (r : Reading) (bytes : List ℕ) (number : ℕ) (before between after : Option (List ℕ))
    (faults_before faults_between faults_after status : ℕ) → IsAllOf r bytes → r.faults_after ≡ r.faults
    → IsFirstBad (lines_of bytes) number → between ≡ before → faults_between ≡ faults_before
    → EndsSo (record { taken = between; taken_after = after; faults = faults_between; faults_after = faults_after })
    (faults.Line number) status
    → RecordsSo r (record { taken = before; taken_after = after; faults = faults_before; faults_after = faults_after })
    status
line_end r bytes number before between after faults_before faults_between faults_after status all quiet first same
    still h =
    ends (subst (λ (n : ℕ).
    EndsSo (record { taken = before; taken_after = after; faults = n; faults_after = faults_after })
    (faults.Line number) status) still (subst (λ (t : Option (List ℕ)).
    EndsSo (record { taken = t; taken_after = after; faults = faults_between; faults_after = faults_after })
    (faults.Line number) status) same h))
  where
    ends : EndsSo (record { taken = before; taken_after = after; faults = faults_before; faults_after = faults_after })
        (faults.Line number) status
        → RecordsSo r (record {
          taken = before;
          taken_after = after;
          faults = faults_before;
          faults_after = faults_after;
        }) status
    ends (inl (is, short)) = record {
      end = no_memory;
      status_is = is;
      says = inl (faults.Line number, short);
      sound = λ e. quiet;
    }
    ends (inr (is, later, writes)) = record {
      end = bad_line number;
      status_is = is;
      says = ((bytes, all.given, all.end, all.within, first), writes);
      sound = λ e. quiet;
    }

-- the store was written
pub stored_end : (r : Reading) (w : Writing) (bytes : List ℕ) → IsAllOf r bytes → r.faults_after ≡ r.faults
    → HasRecorded bytes w.taken w.taken_after → w.faults_after ≡ w.faults → RecordsSo r w 0
stored_end r w bytes all quiet h still = record {
  end = recorded;
  status_is = refl;
  says = (bytes, all, h, still);
  sound = λ e. quiet;
}

-- the sink failed
pub unwritten_end : (r : Reading) (w : Writing) (bytes : List ℕ) → IsAllOf r bytes → r.faults_after ≡ r.faults
    → HasRecordedPart bytes w.taken w.taken_after errors.Write → w.faults ≤ w.faults_after → HasWriteFault w
    → RecordsSo r w 9
unwritten_end r w bytes all quiet h later rose = record {
  end = unwritten;
  status_is = refl;
  says = (bytes, all, h, later, rose);
  sound = λ e. quiet;
}

-- no store can have the turns
pub unstorable_end : (r : Reading) (w : Writing) (bytes : List ℕ) → IsAllOf r bytes → r.faults_after ≡ r.faults
    → HasRecordedPart bytes w.taken w.taken_after errors.TooLong → w.faults_after ≡ w.faults → RecordsSo r w 12
unstorable_end r w bytes all quiet h still = record {
  end = unstorable;
  status_is = refl;
  says = (bytes, all, h, still);
  sound = λ e. quiet;
}

-- the store wasn't written whole
pub store_end : (r : Reading) (w : Writing) (bytes : List ℕ) (e : StoreError) → IsAllOf r bytes
    → r.faults_after ≡ r.faults → IsRecordError bytes w.taken w.taken_after (Store e)
    → RoseExactlyIf (is_record_write_error (Store e)) w.faults w.faults_after → RecordsSo r w (store_error_status e)
store_end r w bytes errors.Write all quiet h rose = unwritten_end r w bytes all quiet h rose.0 rose.1
store_end r w bytes errors.TooLong all quiet h still = unstorable_end r w bytes all quiet h still
store_end r w bytes errors.OutOfMemory all quiet h still = record {
  end = no_memory;
  status_is = refl;
  says = inr (inr (bytes, all, h));
  sound = λ e. quiet;
}
store_end r w bytes errors.Closed all quiet h still = absurd h.cause
store_end r w bytes errors.Read all quiet h still = absurd h.cause
store_end r w bytes (errors.Bad place) all quiet h still = absurd h.cause
store_end r w bytes errors.NoPlan all quiet h still = absurd h.cause
