-- The steps of reading a predicate, at places of a text.
use Rattle.std.proofs.Common.{ℕ, ◌≡◌, ◌≢◌, ◌<◌, ◌≤◌, ◌-◌, sym, refl, subst, true, false, List}
use Rattle.std.proofs.Common.{Ok, Err, length, drop, take, nat_eq, arith, length-drop}
use Rattle.std.specs.Str.Lossy.{utf8_lossy}
use Rattle.run_filter.specs.declared.facts.Subject.{Subject}
use Rattle.run_filter.specs.declared.fault.FilterFault.{FilterFault}
use Rattle.run_filter.specs.declared.fault.FilterFault.TheVariants as faults
use Rattle.run_filter.specs.declared.fault.FilterError.{FilterError}
use Rattle.run_filter.specs.declared.fault.FilterError.TheVariants as errors
use Rattle.run_filter.specs.declared.filter.Matcher.{Matcher}
use Rattle.run_filter.specs.declared.signs.Sign.{Sign}
use Rattle.run_filter.specs.declared.signs.Meaning.{Meaning}
use Rattle.run_filter.specs.Tree.{Tree, is}
use Rattle.run_filter.specs.Signs.{skip, name_len, meaning_of, sign_of}
use Rattle.run_filter.specs.Grammar.{Left, Wrong, TextRead, opens, closes, closed}
use Rattle.run_filter.specs.Grammar.{text_start, after_text, matcher_of, text_of, with_text, asked_for}
use Rattle.run_filter.specs.Grammar.{predicate, named, operand, filter, filter_of, IsFilterOf}
use Rattle.run_filter.specs.Reads.{left_at, ReadsTree, ReadsText, MakesMatcher}

-- ---- the end of a predicate

pub closed-not : (t : Tree) (text : List ℕ) (next : ℕ) (at : ℕ) → drop at text ≡ skip (drop next text)
    → closes (drop at text) ≡ false → closed t (left_at text next) ≡ Err (faults.ExpectedClose, drop at text)
unfolding closed
closed-not t text next at e h = rw (← e) (rw h refl)

pub closed-here : (t : Tree) (text : List ℕ) (next : ℕ) (at place : ℕ) → drop at text ≡ skip (drop next text)
    → closes (drop at text) ≡ true → drop place text ≡ drop 1 (drop at text)
    → closed t (left_at text next) ≡ Ok (t, left_at text place)
unfolding closed
closed-here t text next at place e h g = rw (← e) (rw h (rw g refl))

-- ---- the text of a predicate

whole_less : (n k : ℕ) → k ≤ n → n - (n - k) ≡ k
whole_less n k h = omega arith

pub asked-text : (s : Subject) (u sign : Sign) (k start : ℕ) (text : List ℕ) (next : ℕ)
    → sign_of u (drop next text) ≡ (sign, k) → drop start text ≡ text_start sign (drop k (drop next text))
    → asked_for s u (left_at text next)
    ≡ with_text s sign (drop start text) (left_at text next) (text_of (length text - start) sign (drop start text))
unfolding asked_for
asked-text s u sign k start text next a b = rw a (rw (← b) (rw length-drop refl))

pub text-matcher : (s : Subject) (sign : Sign) (start : ℕ) (text : List ℕ) (next : ℕ) (bytes : List ℕ) (end : ℕ)
    (r : TextRead) (f : FilterFault)
    → start ≤ length text → r ≡ Ok (bytes, drop end text) → matcher_of sign (utf8_lossy bytes) start
    ≡ Err f
    → with_text s sign (drop start text) (left_at text next) r ≡ Err (f, drop start text)
text-matcher s sign start text next bytes end r f l h g =
    let n : length text - length (drop start text) ≡ start = rw length-drop (whole_less (length text) start l) in
    rw h (rw n (rw g refl))

pub text-closes : (s : Subject) (sign : Sign) (start : ℕ) (text : List ℕ) (next : ℕ) (bytes : List ℕ) (end : ℕ)
    (r : TextRead) (m : Matcher) (after : ℕ)
    → start ≤ length text → r ≡ Ok (bytes, drop end text) → matcher_of sign (utf8_lossy bytes) start ≡ Ok m
    → drop after text ≡ after_text sign (drop end text)
    → with_text s sign (drop start text) (left_at text next) r ≡ closed (is s m) (left_at text after)
text-closes s sign start text next bytes end r m after b h g q =
    let n : length text - length (drop start text) ≡ start = rw length-drop (whole_less (length text) start b) in
    rw h (rw n (rw g (rw q refl)))

-- ---- the name of a predicate

pub predicate-no_name : (text : List ℕ) (next : ℕ) → name_len (drop next text) ≡ 0
    → predicate (left_at text next) ≡ Err (faults.ExpectedFilter, drop next text)
unfolding predicate
predicate-no_name text next h = rw h refl

has_name : (n : ℕ) → n ≢ 0 → nat_eq n 0 ≡ false
has_name n h = grind arith

pub predicate-not_open : (text : List ℕ) (next : ℕ) (count p open_at : ℕ) → count ≡ name_len (drop next text)
    → count ≢ 0
    → drop p text ≡ drop count (drop next text) → drop open_at text ≡ skip (drop p text)
    → opens (drop open_at text) ≡ false
    → predicate (left_at text next) ≡ Err (faults.ExpectedOpen, drop open_at text)
unfolding predicate
predicate-not_open text next count p open_at k n a b h =
    let n' = has_name count n in
    rw (← k) (rw n' (rw (← a) (rw (← b) (rw h refl))))

pub predicate-named : (text : List ℕ) (next : ℕ) (count : ℕ) (meaning : Meaning) (p open_at q at : ℕ)
    → count ≡ name_len (drop next text) → count ≢ 0 → meaning ≡ meaning_of (take count (drop next text))
    → drop p text ≡ drop count (drop next text) → drop open_at text ≡ skip (drop p text)
    → opens (drop open_at text) ≡ true → drop q text ≡ drop 1 (drop open_at text) → drop at text ≡ skip (drop q text)
    → predicate (left_at text next) ≡ named meaning (drop next text) (left_at text at)
unfolding predicate
predicate-named text next count meaning p open_at q at k n m a b h c d =
    let n' = has_name count n in
    rw (← k) (rw n' (rw (← m) (rw (← a) (rw (← b) (rw h (rw (← c) (rw (← d) refl)))))))

-- ---- whole texts

pub filter_of-fails : (text : List ℕ) (w : Wrong) → filter (operand 65) (left_at text 0) ≡ Err w
    → filter_of text ≡ Err w
unfolding filter_of
filter_of-fails text w h = rw h refl

pub filter_of-rest : (text : List ℕ) (t : Tree) (end : ℕ) (at : ℕ) → filter (operand 65) (left_at text 0)
    ≡ Ok (t, left_at text end)
    → drop at text ≡ skip (drop end text) → at < length text → filter_of text ≡ Err
    (faults.ExpectedEnd, drop at text)
unfolding filter_of
filter_of-rest text t end at h e l =
    let n : nat_eq (length (drop at text)) 0 ≡ false = has_name (length (drop at text))
    (rw length-drop (λ k. omega arith)) in
    rw h (rw (← e) (rw n refl))

pub filter_of-ok : (text : List ℕ) (t : Tree) (end : ℕ) (at : ℕ) → filter (operand 65) (left_at text 0)
    ≡ Ok (t, left_at text end)
    → drop at text ≡ skip (drop end text) → length text ≤ at → filter_of text ≡ Ok t
unfolding filter_of
filter_of-ok text t end at h e l =
    let n : length (drop at text) ≡ 0 = rw length-drop (omega arith) in
    rw h (rw (← e) (rw n refl))

-- ---- what the calls answer

-- a fault in the text of a predicate
pub text_fails : (e : FilterError) (s : Subject) (sign : Sign) (start : List ℕ) (l : Left) (text : List ℕ)
    (r : TextRead)
    → ReadsText (Err e) text r → ReadsTree (Err e) text (with_text s sign start l r)
text_fails (errors.Wrong place fault) s sign start l text r h = (rw h.0 refl, h.1)
text_fails errors.OutOfMemory s sign start l text r h = tt

-- a text of which its sign makes no matcher
pub matcher_fails : (e : FilterError) (s : Subject) (sign : Sign) (start : ℕ) (text : List ℕ) (next : ℕ)
    (bytes : List ℕ) (end : ℕ) (r : TextRead)
    → start ≤ length text → r ≡ Ok (bytes, drop end text)
    → MakesMatcher (Err e) start (matcher_of sign (utf8_lossy bytes) start)
    → ReadsTree (Err e) text (with_text s sign (drop start text) (left_at text next) r)
matcher_fails (errors.Wrong place fault) s sign start text next bytes end r l h g =
    subst (λ (x : ℕ). ReadsTree (Err (errors.Wrong x fault)) text
    (with_text s sign (drop start text) (left_at text next) r)) (sym g.1)
    (text-matcher s sign start text next bytes end r fault l h g.0, l)
matcher_fails errors.OutOfMemory s sign start text next bytes end r l h g = tt

-- a fault in a whole text
pub filter_of-read_fails : (e : FilterError) (text : List ℕ) → ReadsTree (Err e) text
    (filter (operand 65) (left_at text 0))
    → IsFilterOf text (Err e)
filter_of-read_fails (errors.Wrong place fault) text h = (filter_of-fails text (fault, drop place text) h.0, h.1)
filter_of-read_fails errors.OutOfMemory text h = tt
