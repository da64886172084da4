-- A list of turns has one course at most with a reporter.
use Rattle.std.proofs.Common.{◌≡◌, ℕ, zero, suc, ◌+◌, ◌<◌, nat_lt, List, [], ◌∷◌, ◌++◌, length, map, take, reverse}
use Rattle.std.proofs.Common.{get_or, slice_get, Bool, true, false, not, if◌then◌else◌, Option, Some, None, refl, ap}
use Rattle.std.proofs.Common.{sym, subst, ◌∙◌, arith, length-append}
use Rattle.std.specs.List.{list_all}
use Rattle.std.specs.Cmp.{second_so}
use Rattle.std.proofs.lemmas.Option.{same_Some}
use Rattle.std.proofs.lemmas.List.{append-nil, append_assoc, reverse-append, reverse-reverse, map-append}
use Rattle.std.proofs.lemmas.List.{get_or_append_left, get_or-append-add, ext_get_or}
use Rattle.run_events.specs.Outcome.{outcome_of, summary}
use Rattle.run_events.specs.declared.settings.Settings.{Settings}
use Rattle.run_events.specs.declared.turn.Turn.{Turn}
use Rattle.run_events.specs.declared.outcome.RunOutcome.{RunOutcome}
use Rattle.run_model.specs.declared.entry.Entry.{Entry}
use Rattle.run_model.specs.declared.happening.Happening.{Happening}
use Rattle.run_model.specs.Words.{events_in, is_over, sub_run, stats}
use Rattle.run_model.specs.Turns.{enabled, happening}
use Rattle.run_model.specs.SubRuns.{outcome_in}
use Rattle.run_model.specs.Words.{ended_runs}
use Rattle.run_model.specs.Journal.{history, past_of, IsLegalBackward, outcome}
use Rattle.run_laws.specs.Course.{is_third_after, turns_of, refusals, none_refused, refuses_none, AreAnswersOf}
use Rattle.run_laws.specs.Course.{IsJournalOf, Stops, HasOneCourse}

pub refusals-append : (journal later : List Entry) → refusals (journal ++ later) ≡ refusals journal ++ refusals later
refusals-append [] later = refl
refusals-append (e ∷ journal) later =
    ap (λ rs. e.refused ++ rs) (refusals-append journal later)
    ∙ sym (append_assoc e.refused (refusals journal) (refusals later))

-- answers of a longer journal are answers of its front
answers_before : (refuses : ℕ → Bool) (journal later : List Entry) → AreAnswersOf refuses (journal ++ later)
    → AreAnswersOf refuses journal
answers_before refuses journal later h n below =
    sym (get_or_append_left (refusals journal) (refusals later) false n below)
    ∙ sym (ap (λ rs. get_or rs n false) (refusals-append journal later))
    ∙ h n (omega (arith, ap length (refusals-append journal later), length-append (refusals journal) (refusals later)))

-- and those of its last entry are the ones that come then
answers_last : (refuses : ℕ → Bool) (journal : List Entry) (e : Entry) → AreAnswersOf refuses (journal ++ e ∷ [])
    → (n : ℕ) → n < length e.refused → get_or e.refused n false ≡ refuses (length (refusals journal) + n)
answers_last refuses journal e h n below =
    let whole : refusals (journal ++ e ∷ []) ≡ refusals journal ++ e.refused =
    refusals-append journal (e ∷ []) ∙ ap (λ rs. refusals journal ++ rs) (append-nil e.refused) in
    sym (get_or-append-add (refusals journal) e.refused n false)
    ∙ sym (ap (λ rs. get_or rs (length (refusals journal) + n) false) whole)
    ∙ h (length (refusals journal) + n) (omega (arith, ap length whole, length-append (refusals journal) e.refused))

-- the last entry by its turn and its answers
same_entry : (a b : Entry) → a.turn ≡ b.turn → a.refused ≡ b.refused → a ≡ b
same_entry a b turn refused =
    ap (λ t. record { turn = t; refused = a.refused }) turn ∙ ap (λ rs. record { turn = b.turn; refused = rs }) refused

-- two legal journals with the same turns and a reporter, newest first, are one
one_backward : (p : Settings) (refuses : ℕ → Bool) (journal other : List Entry)
    → map (λ e. e.turn) other ≡ map (λ e. e.turn) journal
    → IsLegalBackward p journal → IsLegalBackward p other → AreAnswersOf refuses (reverse journal)
    → AreAnswersOf refuses (reverse other)
    → other ≡ journal
one_backward p refuses [] [] same legal legal_too answers answers_too = refl
one_backward p refuses [] (d ∷ other) same legal legal_too answers answers_too = cc
one_backward p refuses (e ∷ journal) [] same legal legal_too answers answers_too = cc
one_backward p refuses (e ∷ journal) (d ∷ other) same legal legal_too answers answers_too =
    let turn : d.turn ≡ e.turn = cc in
    let rest : map (λ e. e.turn) other ≡ map (λ e. e.turn) journal = cc in
    let last : AreAnswersOf refuses (reverse journal ++ e ∷ []) =
    subst (AreAnswersOf refuses) (reverse-append (e ∷ []) journal) answers in
    let last_too : AreAnswersOf refuses (reverse other ++ d ∷ []) =
    subst (AreAnswersOf refuses) (reverse-append (d ∷ []) other) answers_too in
    let before : other ≡ journal = one_backward p refuses journal other rest legal.2 legal_too.2
    (answers_before refuses (reverse journal) (e ∷ []) last)
    (answers_before refuses (reverse other) (d ∷ []) last_too) in
    let events : length (events_in (happening p (history p other) d))
    ≡ length (events_in (happening p (history p journal) e)) =
    ap (λ (es : List Entry). length (events_in (happening p (history p es) d))) before
    ∙ ap (λ (t : Turn). length (events_in (happening p (history p journal) (record { turn = t; refused = [] })))) turn
    in
    let as_many : length d.refused ≡ length e.refused = legal_too.1 ∙ events ∙ sym legal.1 in
    let start : length (refusals (reverse other)) ≡ length (refusals (reverse journal)) =
    ap (λ es. length (refusals (reverse es))) before in
    let refused : d.refused ≡ e.refused = ext_get_or false d.refused e.refused as_many
    (λ n below. answers_last refuses (reverse other) d last_too n below ∙ ap (λ m. refuses (m + n)) start
    ∙ sym (answers_last refuses (reverse journal) e last n (omega arith))) in
    ap (λ x. x ∷ other) (same_entry d e turn refused) ∙ ap (λ es. e ∷ es) before

map_reverse : {A B : Type 0} (f : A → B) (xs : List A) → map f (reverse xs) ≡ reverse (map f xs)
map_reverse f [] = refl
map_reverse f (x ∷ xs) =
    ap (map f) (reverse-append (x ∷ []) xs) ∙ map-append f (reverse xs) (x ∷ [])
    ∙ ap (λ ys. ys ++ f x ∷ []) (map_reverse f xs)
    ∙ sym (reverse-append (f x ∷ []) (map f xs))

one_journal : (p : Settings) (turns : List Turn) (refuses : ℕ → Bool) (journal other : List Entry)
    → IsJournalOf p turns refuses journal → IsJournalOf p turns refuses other → other ≡ journal
one_journal p turns refuses journal other j o =
    let forward : reverse (reverse journal) ≡ journal = reverse-reverse journal in
    let forward_too : reverse (reverse other) ≡ other = reverse-reverse other in
    sym forward_too
    ∙ ap reverse (one_backward p refuses (reverse journal) (reverse other)
    (map_reverse (λ (e : Entry). e.turn) other ∙ ap reverse (o.takes ∙ sym j.takes)
    ∙ sym (map_reverse (λ (e : Entry). e.turn) journal))
    j.legal o.legal (subst (AreAnswersOf refuses) (sym forward) j.answers)
    (subst (AreAnswersOf refuses) (sym forward_too) o.answers))
    ∙ forward

-- a journal at one of its turns
record Split (journal : List Entry) (place : ℕ) (turn : Turn) : Type 0 where
  before : List Entry
  entry : Entry
  after : List Entry
  whole : journal ≡ before ++ entry ∷ after
  earlier : turns_of before ≡ take place (turns_of journal)
  at : entry.turn ≡ turn

split_at : (journal : List Entry) (place : ℕ) (turn : Turn) → slice_get (turns_of journal) place ≡ Some turn
    → Split journal place turn
split_at [] place turn e = cc
split_at (d ∷ journal) zero turn e =
    record { before = []; entry = d; after = journal; whole = refl; earlier = refl; at = cc }
split_at (d ∷ journal) (suc place) turn e =
    let rest = split_at journal place turn e in
    record {
      before = d ∷ rest.before;
      entry = rest.entry;
      after = rest.after;
      whole = ap (λ es. d ∷ es) rest.whole;
      earlier = ap (λ turns. d.turn ∷ turns) rest.earlier;
      at = rest.at;
    }

-- each turn of a legal journal was enabled after the entries before it, which are legal
legal_at : (p : Settings) (newer older : List Entry) (e : Entry) → IsLegalBackward p (newer ++ e ∷ older)
    → IsLegalBackward p older × (enabled p (history p older) e.turn ≡ true)
legal_at p [] older e legal = (legal.2, legal.0)
legal_at p (d ∷ newer) older e legal = legal_at p newer older e legal.2

-- turns that a journal takes past a place don't stop there
passes : (p : Settings) (turns longer : List Turn) (refuses : ℕ → Bool) (place : ℕ) (third : Bool)
    (journal : List Entry)
    → IsJournalOf p longer refuses journal
    → slice_get longer place ≡ slice_get turns place → take place longer ≡ take place turns
    → Stops p turns refuses place third → ⊥
passes p turns longer refuses place third journal j at same (other, o, (turn, here, refused, is)) =
    let split = split_at journal place turn (ap (λ ts. slice_get ts place) j.takes ∙ at ∙ here) in
    let backward : reverse journal ≡ reverse split.after ++ split.entry ∷ reverse split.before =
    ap reverse split.whole ∙ reverse-append split.before (split.entry ∷ split.after)
    ∙ ap (λ es. es ++ reverse split.before) (reverse-append (split.entry ∷ []) split.after)
    ∙ append_assoc (reverse split.after) (split.entry ∷ []) (reverse split.before) in
    let was = legal_at p (reverse split.after) (reverse split.before) split.entry
    (subst (IsLegalBackward p) backward j.legal) in
    let front : IsJournalOf p (take place turns) refuses split.before = record {
      legal = was.0;
      takes = split.earlier ∙ ap (take place) j.takes ∙ same;
      answers = answers_before refuses split.before (split.entry ∷ split.after)
          (subst (AreAnswersOf refuses) split.whole j.answers);
    } in
    let one : other ≡ split.before = one_journal p (take place turns) refuses split.before other front o in
    let never_so : false ≡ true = sym refused ∙ ap (λ es. enabled p (past_of p es) turn) one
    ∙ ap (enabled p (past_of p split.before)) (sym split.at) ∙ was.1 in
    cc

-- what stands in the first items of a list stands there in the list
first_take : {X : Type 0} (xs : List X) (a b : ℕ) → a < b → slice_get (take b xs) a ≡ slice_get xs a
first_take [] a zero lt = absurd (omega arith)
first_take [] a (suc b) lt = refl
first_take (x ∷ xs) a zero lt = absurd (omega arith)
first_take (x ∷ xs) zero (suc b) lt = refl
first_take (x ∷ xs) (suc a) (suc b) lt = first_take xs a b (omega arith)

fewer_first : {X : Type 0} (xs : List X) (a b : ℕ) → a < b → take a (take b xs) ≡ take a xs
fewer_first [] a zero lt = absurd (omega arith)
fewer_first [] zero (suc b) lt = refl
fewer_first [] (suc a) (suc b) lt = refl
fewer_first (x ∷ xs) a zero lt = absurd (omega arith)
fewer_first (x ∷ xs) zero (suc b) lt = refl
fewer_first (x ∷ xs) (suc a) (suc b) lt = ap (λ ys. x ∷ ys) (fewer_first xs a b (omega arith))

passes_first : (p : Settings) (turns : List Turn) (refuses : ℕ → Bool) (a b : ℕ) (s t : Bool) → a < b
    → Stops p turns refuses a s → Stops p turns refuses b t → ⊥
passes_first p turns refuses a b s t lt first (journal, j, rest) =
    passes p turns (take b turns) refuses a s journal j (first_take turns a b lt) (fewer_first turns a b lt) first

-- a run with an outcome is over, and it has one
outcome_if : Settings → List Happening → Bool → Option RunOutcome
outcome_if p past over = if over then outcome_in p (ended_runs past) else None

pub one_course : (p : Settings) (turns : List Turn) (refuses : ℕ → Bool) → HasOneCourse p turns refuses
unfolding outcome_if
one_course p turns refuses = record {
  one_journal = one_journal p turns refuses;
  one_stop = λ a b s t one two. let here = by_part a b s t one two (nat_lt a b) refl in
      (here, same_kind a b s t here one two);
  stop_or_unfinished = λ a s stop g. passes p turns turns refuses a s g.0 g.1 refl refl stop;
  stop_or_end = λ a s o stop e. passes p turns turns refuses a s e.0 e.1 refl refl stop;
  unfinished_or_end = λ o g e.
      let one : e.0 ≡ g.0 = one_journal p turns refuses g.0 e.0 g.1 e.1 in
      let over : is_over (past_of p e.0) ≡ false = ap (λ es. is_over (past_of p es)) one ∙ g.2 in
      let none : None ≡ Some o = sym (ap (outcome_if p (past_of p e.0)) over) ∙ e.2 in cc;
  one_end = λ o u d e.
      let one : e.0 ≡ d.0 = one_journal p turns refuses d.0 e.0 d.1 e.1 in
      let same : Some u ≡ Some o = sym e.2 ∙ ap (λ es. outcome p (past_of p es)) one ∙ d.2 in cc;
}
  where
    by_other : (a b : ℕ) (s t : Bool) → Stops p turns refuses a s → Stops p turns refuses b t → (c : Bool)
        → nat_lt b a ≡ c → nat_lt a b ≡ false → a ≡ b
    by_other a b s t one two true lt ge = absurd (passes_first p turns refuses b a t s (grind arith) two one)
    by_other a b s t one two false lt ge = grind arith

    by_part : (a b : ℕ) (s t : Bool) → Stops p turns refuses a s → Stops p turns refuses b t → (c : Bool)
        → nat_lt a b ≡ c → a ≡ b
    by_part a b s t one two true lt = absurd (passes_first p turns refuses a b s t (grind arith) one two)
    by_part a b s t one two false ge = by_other a b s t one two (nat_lt b a) refl ge

    same_kind : (a b : ℕ) (s t : Bool) → a ≡ b → Stops p turns refuses a s → Stops p turns refuses b t → s ≡ t
    same_kind a b s t here (journal, j, (turn, at, off, is)) (other, o, (turn_too, at_too, off_too, is_too)) =
        let alike : IsJournalOf p (take a turns) refuses other =
        subst (λ n. IsJournalOf p (take n turns) refuses other) (sym here) o in
        let one : other ≡ journal = one_journal p (take a turns) refuses journal other j alike in
        let same_turn : turn_too ≡ turn =
        same_Some _ _ (sym at_too ∙ ap (slice_get turns) (sym here) ∙ at) in
        sym is ∙ sym (ap (λ es. is_third_after p (past_of p es) turn) one)
        ∙ sym (ap (is_third_after p (past_of p other)) same_turn) ∙ is_too

-- where no event was refused the reporter is the one that refuses none
none_at : (refused : List Bool) (n : ℕ) → list_all not refused ≡ true → n < length refused
    → get_or refused n false ≡ false
none_at [] n h below = refl
none_at (true ∷ refused) n h below = cc
none_at (false ∷ refused) zero h below = refl
none_at (false ∷ refused) (suc n) h below = none_at refused n (second_so true (list_all not refused) h) (omega arith)

pub unrefused : (journal : List Entry) → none_refused journal ≡ true → AreAnswersOf refuses_none journal
unrefused journal h n below = none_at (refusals journal) n h below
