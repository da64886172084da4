-- Lists of calls as the marks of a history.
use Rattle.std.specs.Prelude.{ℕ, Bool, if◌then◌else◌, List, map}
use Rattle.run_clock.specs.Counted.{Mark, pause, resume, mark_of}

-- the marks of calls, the newest first: each with its moment, and whether it is a pause or a resume
abbrev pub marks_of : List (ℕ × Bool) → List Mark
marks_of calls = map (λ call. mark_of (if call.1 then pause else resume) call.0) calls
