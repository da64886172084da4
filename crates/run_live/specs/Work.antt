-- What each thread leaves.
use Rattle.std.specs.Prelude.{ℕ, ◌≡◌, ◌+◌, ◌<◌, List, [], length, slice_index_or, Option}
use Rattle.std.specs.Option.{IfSome}
use Rattle.std.specs.List.{All}
use Rattle.run_shared.specs.declared.shared.Receipt.{Receipt}
use Rattle.run_shared.specs.declared.offered.Refusal.{Refusal}
use Rattle.run_shared.specs.Receipts.{concatenated}
use Rattle.run_drive.specs.declared.spawner.Heard.{Heard}
use Rattle.run_drive.specs.declared.work.Work.{Work}
use Rattle.run_drive.specs.Added.{IsSettled}
use Rattle.run_drive.specs.Driven.{OfTicker}
use Rattle.run_live.specs.declared.jobs.Job.{Job}
use Rattle.run_live.specs.declared.jobs.TickJob.{TickJob}
use Rattle.run_live.specs.declared.ticker_thread.Ticked.{Ticked}
use Rattle.run_live.specs.declared.worker_thread.Done.{Done}
use Rattle.run_live.specs.Own.{IsOwn, IsLive, IsTold}

-- a share of one part that has counted nothing
abbrev pub IsOneEmpty : ℕ → ℕ → Type 0
IsOneEmpty parts amount = (parts ≡ 1) × (amount ≡ 0)

-- a job begins so: with a spawner that has said nothing, and such a share
abbrev pub IsFresh : {L W : Type 0} → (W → List Heard → Type 0) → Job L W → Type 0
IsFresh has_said job = has_said job.worker [] × IsOneEmpty job.share.parts job.share.amount

-- a ticker that has told nothing, and a share of one part that has counted these receipts of settled turns
pub record IsWound {T : Type 0} (has_told : T → List ℕ → Type 0) (t : T) (parts amount : ℕ) (rs : List Receipt)
    : Type 0 where
  pub silent : has_told t []
  pub part : parts ≡ 1
  pub rose : amount ≡ length rs
  pub ticks : All OfTicker rs
  pub settled : All IsSettled rs

-- that of a ticker's job
abbrev pub IsSetOut : {L T : Type 0} → (T → List ℕ → Type 0) → TickJob L T → Type 0
IsSetOut has_told job = IsWound has_told job.ticker job.share.parts job.share.amount job.first

-- what a worker's thread leaves: a share of one part that has counted its receipts, where there are any
pub record IsWork {W : Type 0} (has_said : W → List Heard → Type 0) (w : W) (parts amount : ℕ)
    (work : Option Work) : Type 0 where
  pub part : parts ≡ 1
  pub rose : IfSome work (λ x. amount ≡ length x.receipts)
  pub own : IfSome work (λ x. IsOwn has_said w x.receipts x.refused)

-- that of a worker that is done
abbrev pub HasWorked : {L W : Type 0} → (W → List Heard → Type 0) → Done L W → Type 0
HasWorked has_said done = IsWork has_said done.worker done.share.parts done.share.amount done.work

-- the same of the ticker's thread
pub record IsTicked {T : Type 0} (has_told : T → List ℕ → Type 0) (t : T) (parts amount : ℕ) (work : Option Work)
    : Type 0 where
  pub part : parts ≡ 1
  pub rose : IfSome work (λ x. amount ≡ length x.receipts)
  pub ticks : IfSome work (λ x. All OfTicker x.receipts)
  pub told : IfSome work (λ x. IsTold has_told t x.receipts x.refused)

abbrev pub HasTicked : {L T : Type 0} → (T → List ℕ → Type 0) → Ticked L T → Type 0
HasTicked has_told ticked = IsTicked has_told ticked.ticker ticked.share.parts ticked.share.amount ticked.work

-- each worker has its list of receipts and of refusals, and the shares have so many parts as there are workers and have
-- counted all
pub record IsGathered {W : Type 0} (has_said : W → List Heard → Type 0) (ws : List W) (rss : List (List Receipt))
    (xss : List (List Refusal)) (all_parts all_amount : ℕ) : Type 0 where
  pub lists : length rss ≡ length ws
  pub refusals : length xss ≡ length ws
  pub parts : all_parts ≡ length ws
  pub amounts : all_amount ≡ length (concatenated rss)
  pub own : (k : ℕ) (w : W) (rs : List Receipt) (xs : List Refusal) → k < length ws
      → IsOwn has_said (slice_index_or ws k w) (slice_index_or rss k rs) (slice_index_or xss k xs)

-- the same with the ticker's lists behind those of the workers
pub record IsWholeWork {W : Type 0} (has_said : W → List Heard → Type 0) (ws : List W) (rss : List (List Receipt))
    (xss : List (List Refusal)) (all_parts all_amount : ℕ) : Type 0 where
  pub live : IsLive has_said ws rss xss
  pub parts : all_parts ≡ length ws + 1
  pub amounts : all_amount ≡ length (concatenated rss)
