-- What each thread leaves.
use Rattle.std.specs.Prelude.{ℕ, ◌≡◌, ◌+◌, ◌<◌, List, [], length, slice_index_or, Option}
use Rattle.std.specs.Option.{IfSome}
use Rattle.run_events.specs.declared.plan.Hearing.{Hearing}
use Rattle.run_shared.specs.declared.shared.Receipt.{Receipt}
use Rattle.run_shared.specs.declared.offered.Refusal.{Refusal}
use Rattle.run_shared.specs.declared.orders.Order.{Order}
use Rattle.run_shared.specs.declared.orders.Halt.{Halt}
use Rattle.run_shared.specs.Receipts.{concatenated}
use Rattle.run_keep.specs.declared.keeper.Heard.{Heard}
use Rattle.run_keep.specs.declared.kept.Kept.{Kept}
use Rattle.run_keep.specs.declared.listened.Listened.{Listened}
use Rattle.run_keep.specs.declared.outside.Came.{Came}
use Rattle.run_keep.specs.declared.rounds.Ticked.{Ticked}
use Rattle.run_live.specs.Work.{IsOneEmpty}
use Rattle.run_whole.specs.declared.jobs.Job.{Job}
use Rattle.run_whole.specs.declared.worker_thread.Done.{Done}
use Rattle.run_whole.specs.declared.ticker_thread.Timed.{Timed}
use Rattle.run_whole.specs.declared.ear_thread.EarJob.{EarJob}
use Rattle.run_whole.specs.declared.ear_thread.Listening.{Listening}
use Rattle.run_whole.specs.Own.{IsKeeperWork, HasToldSteps, HasHeardAll}

-- a worker's job begins so: with a keeper that has heard nothing, and a share of one part that has counted nothing
abbrev pub IsJobReady : {L W : Type 0} → (W → List Heard → Type 0) → Job L W → Type 0
IsJobReady has_heard job = has_heard job.worker [] × IsOneEmpty job.share.parts job.share.amount

-- the listener's job begins so: with an outside of which nothing has come, a program that wasn't stopped, and such a
-- share
pub record IsEarReady {L O S : Type 0} (has_come : O → List Came → Type 0) (has_halted : S → ℕ → Type 0)
    (job : EarJob L O S) : Type 0 where
  pub quiet : has_come job.around.outside []
  pub runs : has_halted job.around.halter 0
  pub empty : IsOneEmpty job.share.parts job.share.amount

-- what a worker's thread leaves: a share of one part that has counted its receipts, where there are any
pub record IsKeptWork {W : Type 0} (has_heard : W → List Heard → Type 0) (w : W) (parts amount : ℕ) (work : Option Kept)
    : Type 0 where
  pub part : parts ≡ 1
  pub rose : IfSome work (λ x. amount ≡ length x.receipts)
  pub own : IfSome work (λ x. IsKeeperWork has_heard w x.receipts x.lost x.orders)

abbrev pub HasKept : {L W : Type 0} → (W → List Heard → Type 0) → Done L W → Type 0
HasKept has_heard done = IsKeptWork has_heard done.worker done.share.parts done.share.amount done.work

-- the same of the ticker's thread
pub record IsTimed {T : Type 0} (has_told : T → List ℕ → Type 0) (t : T) (parts amount : ℕ) (work : Option Ticked)
    : Type 0 where
  pub part : parts ≡ 1
  pub rose : IfSome work (λ x. amount ≡ length x.receipts)
  pub told : IfSome work (λ x. HasToldSteps has_told t x.receipts x.refused)

abbrev pub HasTimed : {L T : Type 0} → (T → List ℕ → Type 0) → Timed L T → Type 0
HasTimed has_told timed = IsTimed has_told timed.ticker timed.share.parts timed.share.amount timed.work

-- the same of the listener's thread
pub record IsListened {O S : Type 0} (has_come : O → List Came → Type 0) (has_halted : S → ℕ → Type 0)
    (hearing : Hearing) (o : O) (s : S) (parts amount : ℕ) (work : Option (Listened × List Halt)) : Type 0 where
  pub part : parts ≡ 1
  pub rose : IfSome work (λ x. amount ≡ length x.0.receipts)
  pub heard : IfSome work (λ x. HasHeardAll has_come hearing o x.0.receipts x.0.dropped)
  pub halted : IfSome work (λ x. has_halted s (length x.1))

abbrev pub HasListened : {L O S : Type 0} → (O → List Came → Type 0) → (S → ℕ → Type 0) → Hearing
    → Listening L O S → Type 0
HasListened has_come has_halted hearing l = IsListened has_come has_halted hearing l.around.outside l.around.halter
    l.share.parts l.share.amount l.work

-- each worker has its list of receipts, of refusals and of orders, and so many lists of receipts stand behind theirs;
-- the shares have a part for each list of receipts, and have counted all
pub record IsCollected {W : Type 0} (has_heard : W → List Heard → Type 0) (ws : List W) (rss : List (List Receipt))
    (xss : List (List Refusal)) (oss : List (List Order)) (more all_parts all_amount : ℕ) : Type 0 where
  pub lists : length rss ≡ length ws + more
  pub refusals : length xss ≡ length ws
  pub orders : length oss ≡ length ws
  pub parts : all_parts ≡ length ws + more
  pub amounts : all_amount ≡ length (concatenated rss)
  pub own : (k : ℕ) (w : W) (rs : List Receipt) (xs : List Refusal) (os : List Order) → k < length ws
      → IsKeeperWork has_heard (slice_index_or ws k w) (slice_index_or rss k rs) (slice_index_or xss k xs)
      (slice_index_or oss k os)
