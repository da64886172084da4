-- The stopwatch of an attempt, as its unit keeps it and as its turns say.
use Rattle.std.proofs.Common.{◌≡◌, ℕ, ◌-◌, ◌≤◌, List, [], ◌∷◌, ◌++◌, Bool, true, false, if◌then◌else◌, Option}
use Rattle.std.proofs.Common.{Some, None, is_some, unwrap_or, refl, ap, sym, subst, ◌∙◌, arith}
use Rattle.run_clock.specs.Counted.{Mark, pause, resume, mark_of, IsInOrder, counted_time, is_paused as is_open}
use Rattle.run_clock.specs.Stopwatch.{Watch, started_at, active_by, Times}
use Rattle.run_clock.proofs.CountedLemmas.{later_order}
use Rattle.run_model.specs.declared.unit_turn.UnitTurn.TheVariants.{Answered}
use Rattle.run_model.specs.declared.unit_view.AttemptTerms.{AttemptTerms}
use Rattle.run_model.specs.declared.unit_view.Timers.{Timers}
use Rattle.run_model.specs.Pauses.{watch_paused, watch_closed, watch_resumed, all_paused}
use Rattle.run_model.specs.Story.{OwnTurn}
use Rattle.run_model.specs.Timing.{pause_at, pauses_in}
use Rattle.run_model.specs.Attempts.{is_settled, attempt_pauses}
use Rattle.run_laws.proofs.units.CaptureLemmas.{taken}
use Rattle.run_model.proofs.PauseLemmas.{times_started, times_paused, times_resumed, IsSoundBy, sound_started}
use Rattle.run_model.proofs.PauseLemmas.{sound_later}
use Rattle.run_model.proofs.PauseLemmas.{sound_paused, sound_resumed}

-- a stopwatch times an attempt by this moment: its pauses are those of the turns of a piece
pub record IsTimed (terms : AttemptTerms) (watch : Watch) (now : ℕ) (piece : List OwnTurn) : Type 0 where
  pub times : Times watch.start (attempt_pauses terms piece) watch
  pub order : IsInOrder watch.start (attempt_pauses terms piece) now
  pub sound : IsSoundBy watch now

-- by a later moment too
pub timed_later : (terms : AttemptTerms) (watch : Watch) (now later : ℕ) (piece : List OwnTurn) → now ≤ later
    → IsTimed terms watch now piece → IsTimed terms watch later piece
timed_later terms watch now later piece le h = record {
  times = h.times;
  order = later_order watch.start (attempt_pauses terms piece) now later h.order le;
  sound = sound_later watch now later le h.sound;
}

-- one that is let go now
pub timed_first : (terms : AttemptTerms) (now : ℕ)
    → IsTimed terms (started_at now) now (taken now (Answered true) None ∷ [])
timed_first terms now = let now_is : now ≤ now = omega arith in record {
  times = times_started now;
  order = now_is;
  sound = sound_started now;
}

-- the pauses after one more turn, by whether its child is done with after it
abbrev pauses_if : OwnTurn → List Mark → Bool → List Mark
pauses_if t past settled = (if settled then mark_of resume t.moment ∷ [] else pause_at t.moment t.request) ++ past

pub pauses_by : (terms : AttemptTerms) (t : OwnTurn) (piece : List OwnTurn) (settled : Bool)
    → is_settled terms (t ∷ piece) ≡ settled
    → attempt_pauses terms (t ∷ piece) ≡ pauses_if t (attempt_pauses terms piece) settled
pauses_by terms t piece settled is = ap (pauses_if t (attempt_pauses terms piece)) is

-- while it isn't, they are those of its requests
pub pauses_unsettled : (terms : AttemptTerms) (t : OwnTurn) (piece : List OwnTurn)
    → is_settled terms (t ∷ piece) ≡ false
    → attempt_pauses terms piece ≡ pauses_in piece → attempt_pauses terms (t ∷ piece) ≡ pauses_in (t ∷ piece)
pauses_unsettled terms t piece still is =
    pauses_by terms t piece false still ∙ ap (λ past. pause_at t.moment t.request ++ past) is

timed_by : (terms : AttemptTerms) (watch : Watch) (now : ℕ) (piece : List OwnTurn) (past : List Mark)
    → attempt_pauses terms piece ≡ past → Times watch.start past watch → IsInOrder watch.start past now
    → IsSoundBy watch now
    → IsTimed terms watch now piece
timed_by terms watch now piece past is times order sound = record {
  times = subst (λ past. Times watch.start past watch) (sym is) times;
  order = subst (λ past. IsInOrder watch.start past now) (sym is) order;
  sound = sound;
}

-- a turn that takes no stop and no continue, and after which its child isn't done with, changes nothing of it
pub timed_still : (terms : AttemptTerms) (watch : Watch) (now : ℕ) (t : OwnTurn) (piece : List OwnTurn)
    → is_settled terms (t ∷ piece) ≡ false → pause_at t.moment t.request ≡ []
    → IsTimed terms watch now piece → IsTimed terms watch now (t ∷ piece)
timed_still terms watch now t piece still goes_on h =
    timed_by terms watch now (t ∷ piece) (attempt_pauses terms piece)
    (pauses_by terms t piece false still ∙ ap (λ marks. marks ++ attempt_pauses terms piece) goes_on)
    h.times h.order h.sound

-- a stop that is taken now pauses it
pub timed_stop : (terms : AttemptTerms) (watch : Watch) (t : OwnTurn) (piece : List OwnTurn)
    → is_settled terms (t ∷ piece) ≡ false → pause_at t.moment t.request ≡ mark_of pause t.moment ∷ []
    → IsTimed terms watch t.moment piece → IsTimed terms (watch_paused t.moment watch) t.moment (t ∷ piece)
timed_stop terms watch t piece still marks h =
    let now_is : t.moment ≤ t.moment = omega arith in
    timed_by terms (watch_paused t.moment watch) t.moment (t ∷ piece)
    (mark_of pause t.moment ∷ attempt_pauses terms piece)
    (pauses_by terms t piece false still ∙ ap (λ marks. marks ++ attempt_pauses terms piece) marks)
    (times_paused watch.start (attempt_pauses terms piece) watch t.moment h.times h.order)
    (now_is, h.order) (sound_paused watch t.moment h.sound)

-- the start of one that is resumed
pub resumed_start : (watch : Watch) (now : ℕ) → (watch_resumed now watch).start ≡ watch.start
resumed_start watch now = by_open watch.opened
  where
    by_open : (opened : Option ℕ) → (watch_closed now opened watch).start ≡ watch.start
    by_open None = refl
    by_open (Some opened) = refl

timed_resume : (terms : AttemptTerms) (watch : Watch) (t : OwnTurn) (piece : List OwnTurn)
    → attempt_pauses terms (t ∷ piece) ≡ mark_of resume t.moment ∷ attempt_pauses terms piece
    → IsTimed terms watch t.moment piece → IsTimed terms (watch_resumed t.moment watch) t.moment (t ∷ piece)
timed_resume terms watch t piece is h =
    let now_is : t.moment ≤ t.moment = omega arith in
    timed_by terms (watch_resumed t.moment watch) t.moment (t ∷ piece)
    (mark_of resume t.moment ∷ attempt_pauses terms piece) is
    (subst (λ start. Times start (mark_of resume t.moment ∷ attempt_pauses terms piece) (watch_resumed t.moment watch))
    (sym (resumed_start watch t.moment))
    (times_resumed watch.start (attempt_pauses terms piece) watch t.moment h.times h.sound h.order))
    (subst (λ start. IsInOrder start (mark_of resume t.moment ∷ attempt_pauses terms piece) t.moment)
    (sym (resumed_start watch t.moment)) (now_is, h.order))
    (sound_resumed watch t.moment h.sound)

-- a continue that is taken now lets it run, and so does a turn after which its child is done with
pub timed_continue : (terms : AttemptTerms) (watch : Watch) (t : OwnTurn) (piece : List OwnTurn)
    → is_settled terms (t ∷ piece) ≡ false → pause_at t.moment t.request ≡ mark_of resume t.moment ∷ []
    → IsTimed terms watch t.moment piece → IsTimed terms (watch_resumed t.moment watch) t.moment (t ∷ piece)
timed_continue terms watch t piece still marks h =
    timed_resume terms watch t piece
    (pauses_by terms t piece false still ∙ ap (λ marks. marks ++ attempt_pauses terms piece) marks) h

pub timed_settled : (terms : AttemptTerms) (watch : Watch) (t : OwnTurn) (piece : List OwnTurn)
    → is_settled terms (t ∷ piece) ≡ true
    → IsTimed terms watch t.moment piece → IsTimed terms (watch_resumed t.moment watch) t.moment (t ∷ piece)
timed_settled terms watch t piece done h = timed_resume terms watch t piece (pauses_by terms t piece true done) h

-- the active time at such a turn is the counted time up to it
pub time_settled : (terms : AttemptTerms) (watch : Watch) (t : OwnTurn) (piece : List OwnTurn)
    → is_settled terms (t ∷ piece) ≡ true → IsTimed terms watch t.moment piece
    → active_by watch t.moment ≡ counted_time watch.start (attempt_pauses terms (t ∷ piece)) t.moment
time_settled terms watch t piece done h =
    h.times.active_is t.moment h.order
    ∙ later
    ∙ ap (λ past. counted_time watch.start past t.moment) (sym (pauses_by terms t piece true done))
  where
    later : counted_time watch.start (attempt_pauses terms piece) t.moment
        ≡ counted_time watch.start (mark_of resume t.moment ∷ attempt_pauses terms piece) t.moment
    later = omega arith

-- a pause of it is open where one of its requests is, while its child isn't done with
pub timed_open : (terms : AttemptTerms) (watch : Watch) (now : ℕ) (piece : List OwnTurn)
    → IsTimed terms watch now piece → attempt_pauses terms piece ≡ pauses_in piece
    → is_some watch.opened ≡ is_open (pauses_in piece)
timed_open terms watch now piece h is = h.times.paused_is ∙ ap is_open is

-- timers that are held: their stopwatch, its start, and how often the attempt was slow
pub held_watch : (now : ℕ) (stopped : Bool) (t : Timers)
    → (if stopped then all_paused now t else t).stopwatch ≡ (if stopped then watch_paused now
    t.stopwatch else t.stopwatch)
held_watch now true t = refl
held_watch now false t = refl

pub held_start : (now : ℕ) (stopped : Bool) (t : Timers)
    → (if stopped then all_paused now t else t).stopwatch.start ≡ t.stopwatch.start
held_start now true t = refl
held_start now false t = refl

pub held_count : (now : ℕ) (stopped : Bool) (t : Timers)
    → (if stopped then all_paused now t else t).slow_count ≡ t.slow_count
held_count now true t = refl
held_count now false t = refl

-- a stopwatch that is paused, and is paused once more, times what it did
paused_twice : (start : ℕ) (past : List Mark) (watch : Watch) (opened : Option ℕ) (now : ℕ) → watch.opened ≡ opened
    → is_some opened ≡ true → Times start past watch → Times start past (watch_paused now watch)
paused_twice start past watch None now is some h = cc
paused_twice start past watch (Some opened) now is some h = record {
  start_is = h.start_is;
  paused_is = ap is_some (sym is) ∙ h.paused_is;
  active_is = λ later at.
      ap (λ o. unwrap_or o now - watch.start - watch.paused) is
      ∙ ap (λ o. unwrap_or o later - watch.start - watch.paused) (sym is)
      ∙ h.active_is later at;
}

pub timed_held : (terms : AttemptTerms) (watch : Watch) (now : ℕ) (piece : List OwnTurn) (stopped : Bool)
    → is_some watch.opened ≡ stopped → IsTimed terms watch now piece
    → IsTimed terms (if stopped then watch_paused now watch else watch) now piece
timed_held terms watch now piece false is h = h
timed_held terms watch now piece true is h = record {
  times = paused_twice watch.start (attempt_pauses terms piece) watch watch.opened now refl is h.times;
  order = h.order;
  sound = sound_paused watch now h.sound;
}
