-- How many tests may run at a time.
use Rattle.std.specs.Prelude.{ℕ, ◌-◌, max}
use Rattle.run_profile.specs.declared.groups.Threads.{Threads}
use Rattle.run_profile.specs.declared.groups.Threads.TheVariants as threads

-- the number that is meant, with so many processors: one at least where it is theirs
abbrev pub threads_count : ℕ → Threads → ℕ
threads_count processors (threads.Count n) = n
threads_count processors (threads.Processors less) = max (processors - less) 1
