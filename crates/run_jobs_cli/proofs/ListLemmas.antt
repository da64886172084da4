-- The lines after the first that were read so far.
use Rattle.std.proofs.Common.{◌≡◌, ◌∙◌, ℕ, ◌+◌, ◌≤◌, ◌<◌, List, [], ◌∷◌, ◌++◌, length, Option, Some, None, IsSome}
use Rattle.std.proofs.Common.{option_and_then}
use Rattle.std.proofs.Common.{refl, ap, sym, arith, length-append}
use Rattle.std.specs.List.{All}
use Rattle.std.proofs.lemmas.List.{append-nil, append_assoc}
use Rattle.std.proofs.lemmas.List.Elements.{All-nil, All-push}
use Rattle.std.proofs.lemmas.Option.{none-some, same_Some}
use Rattle.run_events.specs.declared.turn.Turn.{Turn}
use Rattle.run_input.specs.Lines.{lines_of}
use Rattle.run_input.specs.declared.errors.InputError.{InputError}
use Rattle.run_input.specs.declared.errors.InputError.TheVariants.{Line, OutOfMemory}
use Rattle.run_jobs.specs.Jobs.{Batch}
use Rattle.run_jobs_cli.specs.declared.wave_lines.Lists.{Lists}
use Rattle.run_jobs_cli.specs.JobsLine.{jobs_line_of}
use Rattle.run_jobs_cli.specs.Lists.{ended_lists, lists_ended_with, with_line}
use Rattle.run_jobs_cli.specs.Refused.{IsRefusedJobs, IsRefusedWaves}
use Rattle.run_jobs_cli.specs.WaveLines.{IsFirstBadAfter, SaysLists, put_first, wave_line_of, wave_lines_of, wave_lists}

-- what a line says and what the lines after it say
line_and_rest : (first : Option (Option Turn)) (rest : Option (List (Option Turn))) (said : List (Option Turn))
    → option_and_then (λ line. option_and_then (λ more. Some (line ∷ more)) rest) first ≡ Some said
    → (line : Option Turn) × (more : List (Option Turn)) × (first ≡ Some line) × (rest ≡ Some more)
    × (line ∷ more ≡ said)
line_and_rest None rest said e = absurd (none-some said e)
line_and_rest (Some line) None said e = absurd (none-some said e)
line_and_rest (Some line) (Some more) said e = (line, more, refl, refl, same_Some _ _ e)

lines_push : (lines : List (List ℕ)) (line : List ℕ) (said : List (Option Turn)) (last : Option Turn)
    → wave_lines_of lines ≡ Some said → wave_line_of line ≡ Some last
    → wave_lines_of (lines ++ line ∷ []) ≡ Some (said ++ last ∷ [])
lines_push [] line said last before is =
    let none : [] ≡ said = same_Some [] said before in rw is (ap (λ xs. Some (xs ++ last ∷ [])) none)
lines_push (first ∷ lines) line said last before is =
    let (one, others, is_one, are_others, whole) =
    line_and_rest (wave_line_of first) (wave_lines_of lines) said before in
    let more = lines_push lines line others last are_others is in
    rw (is_one, more) (ap (λ xs. Some (xs ++ last ∷ [])) whole)

-- the lists of turns that lines say after these turns
abbrev pub lists_in : List (Option Turn) → List Turn → List (List Turn)
lists_in [] [] = []
lists_in [] (turn ∷ turns) = (turn ∷ turns) ∷ []
lists_in (None ∷ said) turns = turns ∷ lists_in said []
lists_in (Some turn ∷ said) turns = lists_in said (turns ++ turn ∷ [])

-- turns at the front of the first list
abbrev put_all_first : List Turn → List (List Turn) → List (List Turn)
put_all_first [] lists = lists
put_all_first (turn ∷ turns) lists = put_first turn (put_all_first turns lists)

first_of_none : (turn : Turn) (turns : List Turn) → put_all_first (turn ∷ turns) [] ≡ (turn ∷ turns) ∷ []
first_of_none turn [] = refl
first_of_none turn (next ∷ turns) = ap (put_first turn) (first_of_none next turns)

first_of_some : (turns list : List Turn) (lists : List (List Turn))
    → put_all_first turns (list ∷ lists) ≡ (turns ++ list) ∷ lists
first_of_some [] list lists = refl
first_of_some (turn ∷ turns) list lists = ap (put_first turn) (first_of_some turns list lists)

first_of_both : (turns more : List Turn) (lists : List (List Turn))
    → put_all_first (turns ++ more) lists ≡ put_all_first turns (put_all_first more lists)
first_of_both [] more lists = refl
first_of_both (turn ∷ turns) more lists = ap (put_first turn) (first_of_both turns more lists)

lists_in_first : (said : List (Option Turn)) (turns : List Turn)
    → lists_in said turns ≡ put_all_first turns (wave_lists said)
lists_in_first [] [] = refl
lists_in_first [] (turn ∷ turns) = sym (first_of_none turn turns)
lists_in_first (None ∷ said) turns =
    ap (λ lists. turns ∷ lists) (lists_in_first said [])
    ∙ ap (λ list. list ∷ wave_lists said) (sym (append-nil turns)) ∙ sym (first_of_some turns [] (wave_lists said))
lists_in_first (Some turn ∷ said) turns =
    lists_in_first said (turns ++ turn ∷ []) ∙ first_of_both turns (turn ∷ []) (wave_lists said)

-- the lines before the rest say the lists, of which the last one hasn't ended, and the next line has this number
pub record ReadLists (bytes rest : List ℕ) (lists : Lists) (number : ℕ) : Type 0 where
  pub read : List (List ℕ)
  pub split : lines_of bytes ≡ read ++ lines_of rest
  pub says : List (Option Turn)
  pub said : wave_lines_of read ≡ Some says
  pub are : (more : List (Option Turn)) → lists_in (says ++ more) [] ≡ lists.whole ++ lists_in more lists.current
  pub counted : number ≡ length read + 2
  pub room : number + length rest ≤ length bytes + 2
  pub low : length lists.current + 2 ≤ number
  pub small : All (λ list. length list ≤ length bytes) lists.whole

pub no_lists : (bytes : List ℕ) → ReadLists bytes bytes (record { whole = []; current = [] }) 2
no_lists bytes = record {
  read = [];
  split = refl;
  says = [];
  said = refl;
  are = λ more. refl;
  counted = refl;
  room = omega arith;
  low = omega arith;
  small = All-nil (λ list. length list ≤ length bytes);
}

-- with what one more line says
with_more : (lists : Lists) (said : Option Turn) (more : List (Option Turn))
    → lists.whole ++ lists_in (said ∷ more) lists.current
    ≡ (with_line lists said).whole ++ lists_in more (with_line lists said).current
with_more lists (Some turn) more = refl
with_more lists None more = sym (append_assoc lists.whole (lists.current ∷ []) (lists_in more []))

with_low : (lists : Lists) (said : Option Turn) (number : ℕ) → length lists.current + 2 ≤ number
    → length (with_line lists said).current + 2 ≤ number + 1
with_low lists (Some turn) number low = omega (arith, length-append lists.current (turn ∷ []))
with_low lists None number low = omega arith

with_small : (lists : Lists) (said : Option Turn) (most : ℕ) → length lists.current ≤ most
    → All (λ list. length list ≤ most) lists.whole → All (λ list. length list ≤ most) (with_line lists said).whole
with_small lists (Some turn) most low small = small
with_small lists None most low small = All-push (λ list. length list ≤ most) lists.whole lists.current small low

pub lists_more : (bytes rest after line : List ℕ) (lists : Lists) (said : Option Turn) (number : ℕ)
    → ReadLists bytes rest lists number → lines_of rest ≡ line ∷ lines_of after → length after < length rest
    → wave_line_of line ≡ Some said → ReadLists bytes after (with_line lists said) (number + 1)
lists_more bytes rest after line lists said number so_far first shorter says = record {
  read = so_far.read ++ line ∷ [];
  split = so_far.split ∙ ap (λ lines. so_far.read ++ lines) first
      ∙ sym (append_assoc so_far.read (line ∷ []) (lines_of after));
  says = so_far.says ++ said ∷ [];
  said = lines_push so_far.read line so_far.says said so_far.said says;
  are = λ more. ap (λ xs. lists_in xs []) (append_assoc so_far.says (said ∷ []) more) ∙ so_far.are (said ∷ more)
      ∙ with_more lists said more;
  counted = omega (arith, so_far.counted, length-append so_far.read (line ∷ []));
  room = omega (arith, so_far.room);
  low = with_low lists said number so_far.low;
  small = with_small lists said (length bytes) (omega (arith, so_far.low, so_far.room)) so_far.small;
}

-- with no byte left
ended_is : (whole : List (List Turn)) (current : List Turn) → whole ++ lists_in [] current ≡ lists_ended_with
    whole current
ended_is whole [] = append-nil whole
ended_is whole (turn ∷ turns) = refl

ended_small : (whole : List (List Turn)) (current : List Turn) (most : ℕ) → length current ≤ most
    → All (λ list. length list ≤ most) whole → All (λ list. length list ≤ most) (lists_ended_with whole current)
ended_small whole [] most low small = small
ended_small whole (turn ∷ turns) most low small =
    All-push (λ list. length list ≤ most) whole (turn ∷ turns) small low

pub all_lists : (bytes rest : List ℕ) (lists : Lists) (number : ℕ) → ReadLists bytes rest lists number → rest ≡ []
    → SaysLists (lines_of bytes) (ended_lists lists)
all_lists bytes rest lists number so_far done = (
  so_far.says,
  ap wave_lines_of (so_far.split ∙ ap (λ left. so_far.read ++ lines_of left) done ∙ append-nil so_far.read)
      ∙ so_far.said,
  sym (sym (lists_in_first so_far.says []) ∙ ap (λ xs. lists_in xs []) (sym (append-nil so_far.says)) ∙ so_far.are []
      ∙ ended_is lists.whole lists.current),
)

pub all_small : (bytes rest : List ℕ) (lists : Lists) (number : ℕ) → ReadLists bytes rest lists number
    → All (λ list. length list ≤ length bytes) (ended_lists lists)
all_small bytes rest lists number so_far =
    ended_small lists.whole lists.current (length bytes) (omega (arith, so_far.low, so_far.room)) so_far.small

-- the next line is the first bad one where it says nothing
pub lists_bad : (bytes rest after line : List ℕ) (lists : Lists) (number : ℕ) → ReadLists bytes rest lists number
    → lines_of rest ≡ line ∷ lines_of after → wave_line_of line ≡ None → IsFirstBadAfter (lines_of bytes) number
lists_bad bytes rest after line lists number so_far first outside = record {
  before = so_far.read;
  bad = line;
  after = lines_of after;
  split = so_far.split ∙ ap (λ lines. so_far.read ++ lines) first;
  good = rw so_far.said refl;
  outside = outside;
  counted = so_far.counted;
}

-- what refuses the lines after the first refuses the input
pub refused_jobs : (lines others : List (List ℕ)) (line : List ℕ) (batch : Batch) (e : InputError)
    → lines ≡ line ∷ others → jobs_line_of line ≡ Some batch → IsRefusedWaves others e → IsRefusedJobs lines e
refused_jobs lines others line batch (Line number) split says bad = rw (split, says) bad
refused_jobs lines others line batch OutOfMemory split says bad = tt
