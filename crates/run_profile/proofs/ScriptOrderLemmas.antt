-- The order of setup scripts, line by line.
use Rattle.std.proofs.Common.{ℕ, zero, suc, ◌≡◌, ◌<◌, ◌≤◌, ◌+◌, ◌-◌, List, length, true}
use Rattle.std.proofs.Common.{Some, None, refl, arith, get_or}
use Rattle.std.specs.Str.{IsUtf8}
use Rattle.std.proofs.lemmas.Str.{lead_after_ascii}
use Rattle.std.proofs.lemmas.Bool.Decides.{nat_tests}
use Rattle.run_profile.specs.ScriptOrder.{is_after_line, order_from, with_line_end}

none_stays : (text : List ℕ) (left place : ℕ) → order_from text left place None ≡ None
none_stays text zero place = refl
none_stays text (suc left) place = none_stays text left (place + 1)

step : (text : List ℕ) (left place : ℕ) (seen : List (List ℕ)) → 0 < left
    → order_from text left place (Some seen) ≡ order_from text (left - 1) (place + 1) (with_line_end text place seen)
step text zero place seen some = absurd (omega arith)
step text (suc left) place seen some =
    let less : suc left - 1 ≡ left = omega arith in
    rw less

-- a line more
pub order_more : (text : List ℕ) (place : ℕ) (seen more : List (List ℕ)) → place < length text
    → with_line_end text (place + 1) seen ≡ Some more
    → order_from text (length text - place) (place + 1) (Some seen)
    ≡ order_from text (length text - (place + 1)) (place + 1 + 1) (Some more)
order_more text place seen more h e =
    let less : length text - place - 1 ≡ length text - (place + 1) = omega arith in
    rw (step text (length text - place) (place + 1) seen (omega arith), e, less)

-- a line that brings two
pub order_unknown : (text : List ℕ) (place : ℕ) (seen : List (List ℕ)) → place < length text
    → with_line_end text (place + 1) seen ≡ None
    → order_from text (length text - place) (place + 1) (Some seen) ≡ None
order_unknown text place seen h e =
    rw (step text (length text - place) (place + 1) seen (omega arith), e)
    (none_stays text (length text - place - 1) (place + 1 + 1))

-- no line more
pub order_done : (text : List ℕ) (left place : ℕ) (seen : List (List ℕ)) → left ≡ 0
    → order_from text left place (Some seen) ≡ Some seen
order_done text left place seen h = rw h

line_feed : (text : List ℕ) (i : ℕ) → suc i < length text → is_after_line text (suc i) ≡ true → get_or text i 0 ≡ 10
line_feed text i below after =
    let less : suc i - 1 ≡ i = omega arith in
    let h = rw less at after in
    grind (arith, nat_tests)

cut_at : (text : List ℕ) (i place : ℕ) → place ≡ i + 1 → IsUtf8 text → get_or text i 0 ≡ 10 → place < length text
    → 128 ≤ get_or text place 0 → 192 ≤ get_or text place 0
cut_at text i place same u ten below wide =
    rw same (lead_after_ascii text i u (omega arith) (rw same at below) (rw same at wide))

-- after a line a text may be cut
pub cut_after_line : (text : List ℕ) (place : ℕ) → IsUtf8 text → 0 < place → is_after_line text place ≡ true
    → place < length text → 128 ≤ get_or text place 0 → 192 ≤ get_or text place 0
cut_after_line text zero u some after below wide = absurd (omega arith)
cut_after_line text (suc i) u some after below wide =
    let ten : get_or text i 0 ≡ 10 = line_feed text i below after in
    cut_at text i (suc i) (omega arith) u ten below wide
