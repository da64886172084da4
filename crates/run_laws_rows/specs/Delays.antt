-- The delays before further attempts, in whole numbers.
use Rattle.std.specs.Prelude.{ℕ, zero, suc, ◌+◌, ◌-◌, ◌*◌, ◌==◌, ◌≡◌, ◌≤◌, ◌<◌, ◌⊎◌, nat_lt, min, List, [], ◌∷◌}
use Rattle.std.specs.Prelude.{length, true}
use Rattle.std.specs.Prelude.{false, if◌then◌else◌, Option, Some, None, unwrap_or, slice_get}
use Rattle.std.specs.List.{All}
use Rattle.std.specs.Option.{option_map_or}
use Rattle.run_events.specs.declared.result.ExecuteStatus.{ExecuteStatus}
use Rattle.run_events.specs.declared.retry_policy.RetryPolicy.{RetryPolicy}
use Rattle.run_events.specs.declared.retry_policy.RetryPolicy.TheVariants.{Exponential, Fixed}
use Rattle.run_events.specs.declared.settings.Settings.{Settings}
use Rattle.run_model.specs.declared.entry.Entry.{Entry}
use Rattle.run_model.specs.declared.happening.Happening.{Happening}
use Rattle.run_model.specs.Accounts.{account_of}
use Rattle.run_model.specs.Admission.{scripts_in}
use Rattle.run_model.specs.Attempts.{drawn_word, pieces_of}
use Rattle.run_model.specs.Fates.{told_ended}
use Rattle.run_model.specs.Journal.{IsLegal, past_of}
use Rattle.run_model.specs.Story.{Attempt, cut}
use Rattle.run_model.specs.Words.{sub_run, told}

-- how unit k is tried again, by the plan: as all tests where that is set, and a script never
abbrev pub retries_by : Settings → ℕ → RetryPolicy
retries_by p k =
    if nat_lt k (scripts_in p) then Fixed 0 0 false
    else option_map_or (λ test. unwrap_or p.retries test.retries) (slice_get p.plan.tests (k - scripts_in p))
    (Fixed 0 0 false)

-- a delay after it was doubled so often, each time at most to the greatest u64; and one up to a limit
abbrev pub doubled : ℕ → ℕ → ℕ
doubled delay zero = min delay 18446744073709551615
doubled delay (suc n) = min (doubled delay n + doubled delay n) 18446744073709551615

abbrev pub limited : Option ℕ → ℕ → ℕ
limited None delay = delay
limited (Some most) delay = min delay most

-- the least whole number that is not below the part of a delay that a word of 32 bits draws: of 2^33 parts as many as
-- 2^32 + 1 and that word
pub record IsLeastPart (word whole delay : ℕ) : Type 0 where
  pub enough : whole * (4294967297 + word) ≤ delay * 8589934592
  pub least : delay * 8589934592 < whole * (4294967297 + word) + 8589934592

-- the delay before the next attempt, where n delays came before it: the same each time, or doubled each time up to a
-- limit; and a part of that where it is drawn
abbrev pub IsDelayOf : RetryPolicy → ℕ → ℕ → ℕ → Type 0
IsDelayOf (Fixed count whole false) n word delay = delay ≡ whole
IsDelayOf (Fixed count whole true) n word delay = IsLeastPart word whole delay
IsDelayOf (Exponential count first false most) n word delay = delay ≡ limited most (doubled first n)
IsDelayOf (Exponential count first true most) n word delay = IsLeastPart word (limited most (doubled first n)) delay

-- the word with which the attempt of this number was decided on
abbrev pub word_for : ℕ → List Attempt → Option ℕ
word_for n [] = None
word_for n (cut piece after ∷ earlier) = if length earlier + 1 == n then Some (drawn_word after) else word_for n earlier

-- an attempt of unit k that is told has no delay as the first, and else the one that its number and the word of the
-- attempt before it say
abbrev pub HasItsDelay : Settings → List Happening → ℕ → ExecuteStatus → Type 0
HasItsDelay p run k s = ((s.attempt ≡ 1) × (s.delay ≡ 0))
    ⊎ ((n : ℕ) × (word : ℕ) × (s.attempt ≡ n + 2) × (word_for (n + 1) (pieces_of k run) ≡ Some word)
    × IsDelayOf (retries_by p k) n word s.delay)

-- that holds of each attempt that is told in the newest sub-run of every legal journal
abbrev pub DelaysAreWhole : Type 0
DelaysAreWhole = (p : Settings) (journal : List Entry) → IsLegal p journal → (k : ℕ)
    → All (HasItsDelay p (sub_run (past_of p journal)) k)
    (told_ended (account_of k (told (sub_run (past_of p journal)))))
