-- What came of each attempt is told as it ends, once at most.
use Rattle.std.specs.Prelude.{ℕ, ◌≡◌, List, [], ◌∷◌, Option, Some, None, IfSome}
use Rattle.run_events.specs.declared.result.ExecuteStatus.{ExecuteStatus}
use Rattle.run_events.specs.declared.settings.Settings.{Settings}
use Rattle.run_model.specs.declared.entry.Entry.{Entry}
use Rattle.run_model.specs.declared.happening.Happening.{Happening}
use Rattle.run_model.specs.Accounts.{News, finished, account_of}
use Rattle.run_model.specs.Attempts.{statuses_of}
use Rattle.run_model.specs.Fates.{told_ended}
use Rattle.run_model.specs.Journal.{IsLegal, past_of}
use Rattle.run_model.specs.Words.{sub_run, told}
use Rattle.run_laws.specs.Laws.{Extends}

-- the attempts with which its finish was told, if that was
abbrev pub finished_with : List News → Option (List ExecuteStatus)
finished_with [] = None
finished_with (finished ss ∷ news) = Some ss
finished_with (n ∷ news) = finished_with news

-- those told as they ended are the first of its attempts by its own turns, each once; and a finish is told with just
-- those
pub record IsToldOnce (p : Settings) (run : List Happening) (k : ℕ) : Type 0 where
  pub once : Extends (told_ended (account_of k (told run))) (statuses_of p k run)
  pub finish : IfSome (finished_with (account_of k (told run))) (λ ss. told_ended (account_of k (told run)) ≡ ss)

-- that holds of each unit in the newest sub-run after every legal journal
abbrev pub AttemptsToldOnce : Type 0
AttemptsToldOnce = (p : Settings) (journal : List Entry) → IsLegal p journal → (k : ℕ)
    → IsToldOnce p (sub_run (past_of p journal)) k
