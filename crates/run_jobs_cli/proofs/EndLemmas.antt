-- The lines of states that were written so far.
use Rattle.std.proofs.Common.{◌≡◌, ◌∙◌, ℕ, ◌+◌, ◌<◌, List, [], ◌∷◌, ◌++◌, drop, length, Option, refl, ap, sym, subst}
use Rattle.std.proofs.Common.{Some, None, append_assoc, append-nil, add-one, get_or}
use Rattle.std.proofs.Math.Seq.{drop-cons}
use Rattle.run_capture.specs.Bytes.{Takes}
use Rattle.run_capture.proofs.BytesLemmas.{takes_both}
use Rattle.run_output.specs.Fields.{line_bytes}
use Rattle.run_jobs.specs.declared.job.Job.{Job}
use Rattle.run_jobs.specs.declared.job.JobState.{JobState}
use Rattle.run_cli.specs.Call.{TakesFront}
use Rattle.run_cli.proofs.TextLemmas.{front_after, front_of_first}
use Rattle.run_jobs_cli.specs.StateLines.{state_lines, state_text}

-- the lines of the states before the next one were taken
pub record WroteStates (jobs : List Job) (states : List JobState) (start now : Option (List ℕ)) (next : ℕ) : Type 0
  where
    pub before : List ℕ
    pub took : Takes start now before
    pub whole : before ++ state_lines jobs next (drop next states) ≡ state_lines jobs 0 states

takes_none : (taken : Option (List ℕ)) → Takes taken taken []
takes_none None = refl
takes_none (Some taken) = ap Some (sym (append-nil taken))

pub wrote_none : (jobs : List Job) (states : List JobState) (taken : Option (List ℕ))
    → WroteStates jobs states taken taken 0
wrote_none jobs states taken = record { before = []; took = takes_none taken; whole = refl }

pub next_first : (states : List JobState) (n : ℕ) (d : JobState) → n < length states
    → drop n states ≡ get_or states n d ∷ drop (n + 1) states
next_first states n d below = rw add-one (drop-cons states n d below)

-- the line of the next state, and those after it
next_line : (jobs : List Job) (states : List JobState) (start now : Option (List ℕ)) (next : ℕ) (state : JobState)
    → (w : WroteStates jobs states start now next) → drop next states ≡ state ∷ drop (next + 1) states
    → w.before ++ (line_bytes (state_text jobs next state) ++ state_lines jobs (next + 1) (drop (next + 1) states))
    ≡ state_lines jobs 0 states
next_line jobs states start now next state w first =
    sym (ap (λ left. w.before ++ state_lines jobs next left) first) ∙ w.whole

pub wrote_more : (jobs : List Job) (states : List JobState) (start now after : Option (List ℕ)) (next : ℕ)
    (state : JobState) → WroteStates jobs states start now next → drop next states ≡ state ∷ drop (next + 1) states
    → Takes now after (line_bytes (state_text jobs next state)) → WroteStates jobs states start after (next + 1)
wrote_more jobs states start now after next state w first takes =
    let line = line_bytes (state_text jobs next state) in record {
      before = w.before ++ line;
      took = takes_both start now after w.before line w.took takes;
      whole = append_assoc w.before line (state_lines jobs (next + 1) (drop (next + 1) states))
          ∙ next_line jobs states start now next state w first;
    }

pub wrote_front : (jobs : List Job) (states : List JobState) (start now after : Option (List ℕ)) (next : ℕ)
    (state : JobState) → WroteStates jobs states start now next → drop next states ≡ state ∷ drop (next + 1) states
    → TakesFront now after (line_bytes (state_text jobs next state))
    → TakesFront start after (state_lines jobs 0 states)
wrote_front jobs states start now after next state w first front =
    subst (TakesFront start after) (next_line jobs states start now next state w first)
    (front_after start now after w.before _ w.took
    (front_of_first now after (line_bytes (state_text jobs next state))
    (state_lines jobs (next + 1) (drop (next + 1) states)) front))

pub wrote_all : (jobs : List Job) (states : List JobState) (start now : Option (List ℕ)) (next : ℕ)
    → WroteStates jobs states start now next → drop next states ≡ [] → Takes start now (state_lines jobs 0 states)
wrote_all jobs states start now next w done =
    subst (Takes start now)
    (sym (append-nil w.before) ∙ ap (λ left. w.before ++ state_lines jobs next left) (sym done) ∙ w.whole) w.took
