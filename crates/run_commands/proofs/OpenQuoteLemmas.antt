-- Where the machine finds an open quote, one is open.
use Rattle.std.proofs.Common.{◌≡◌, ◌⊎◌, inl, inr, Bool, true, false, ℕ, zero, suc, ◌+◌, ◌<◌, List, [], ◌∷◌, ◌++◌}
use Rattle.std.proofs.Common.{length, take, drop, Option, Some, None, Ok, Err, refl, ap, sym, subst, ◌∙◌, arith}
use Rattle.std.proofs.Math.Seq.{take-append_seam}
use Rattle.std.proofs.lemmas.List.{take-append-drop}
use Rattle.std.specs.List.{slice_get}
use Rattle.std.specs.Option.{IsSomeAnd}
use Rattle.run_commands.specs.declared.words.char_kind.CharKind.{CharKind}
use Rattle.run_commands.specs.declared.words.char_kind.CharKind.TheVariants as kinds
use Rattle.run_commands.specs.Words.{kind, IsQuote, IsOpenQuote, HasWords}
use Rattle.run_commands.specs.WordMachine.{Mode, Effect, Read, step, step_outside, step_escape, step_comment}
use Rattle.run_commands.specs.WordMachine.{step_single, step_double, step_double_escape, effects, with_effect, ending}
use Rattle.run_commands.specs.WordMachine.{reading}
use Rattle.run_commands.proofs.WordLemmas.{reading-step, reading-end, reads_all}
use Rattle.run_commands.proofs.WordSoundLemmas.{read_stands}

-- the place of the quote that is open, where one is
abbrev pub opened : Mode → Option ℕ
opened (Mode.outside inside) = None
opened (Mode.escape inside slash) = None
opened Mode.comment = None
opened (Mode.single quote) = Some quote
opened (Mode.double quote) = Some quote
opened (Mode.double_escape quote slash) = Some quote

-- an open quote is the end's error
opened_ends : (mode : Mode) (quote : ℕ) → opened mode ≡ Some quote → ending mode ≡ Err quote
opened_ends (Mode.outside inside) quote e = absurd (cc)
opened_ends (Mode.escape inside slash) quote e = absurd (cc)
opened_ends Mode.comment quote e = absurd (cc)
opened_ends (Mode.single at) quote e = cc
opened_ends (Mode.double at) quote e = cc
opened_ends (Mode.double_escape at slash) quote e = cc

-- the end's error is an open quote
ends_opened : (mode : Mode) (quote : ℕ) → ending mode ≡ Err quote → opened mode ≡ Some quote
ends_opened (Mode.outside false) quote e = absurd (cc)
ends_opened (Mode.outside true) quote e = absurd (cc)
ends_opened (Mode.escape inside slash) quote e = absurd (cc)
ends_opened Mode.comment quote e = absurd (cc)
ends_opened (Mode.single at) quote e = cc
ends_opened (Mode.double at) quote e = cc
ends_opened (Mode.double_escape at slash) quote e = cc

-- outside quotes a text may end
outside_ends : (inside : Bool) → (words : List (List ℕ)) × (ending (Mode.outside inside) ≡ Ok words)
outside_ends false = ([], refl)
outside_ends true = ([] ∷ [], refl)

-- a quote opens here
pub record OpensHere (mode : Mode) (place quote : ℕ) (k : CharKind) : Type 0 where
  pub here : place ≡ quote
  pub is_quote : IsQuote k
  pub words : List (List ℕ)
  pub ends : ending mode ≡ Ok words

-- a quote that is open after a byte outside quotes opens there
outside_opens : (k : CharKind) (inside : Bool) (place b quote : ℕ) → opened (step_outside k inside place (b ∷ [])).0
    ≡ Some quote
    → OpensHere (Mode.outside inside) place quote k
outside_opens kinds.Space inside place b quote e = absurd (cc)
outside_opens kinds.Newline inside place b quote e = absurd (cc)
outside_opens kinds.Hash true place b quote e = absurd (cc)
outside_opens kinds.Hash false place b quote e = absurd (cc)
outside_opens kinds.Backslash inside place b quote e = absurd (cc)
outside_opens kinds.SingleQuote inside place b quote e =
    let (words, ends) = outside_ends inside in record { here = cc; is_quote = tt; words = words; ends = ends }
outside_opens kinds.DoubleQuote inside place b quote e =
    let (words, ends) = outside_ends inside in record { here = cc; is_quote = tt; words = words; ends = ends }
outside_opens kinds.Expansion inside place b quote e = absurd (cc)
outside_opens kinds.Plain inside place b quote e = absurd (cc)

-- none opens after a backslash or in a comment, and between quotes none but theirs is open
escape_opens : (k : CharKind) (inside : Bool) (bytes : List ℕ) (quote : ℕ) → opened (step_escape k inside bytes).0
    ≡ Some quote → ⊥
escape_opens kinds.Newline inside bytes quote e = cc
escape_opens _ inside bytes quote e = cc

comment_opens : (k : CharKind) (quote : ℕ) → opened (step_comment k).0 ≡ Some quote → ⊥
comment_opens kinds.Newline quote e = cc
comment_opens _ quote e = cc

single_opens : (k : CharKind) (at : ℕ) (bytes : List ℕ) (quote : ℕ) → opened (step_single k at bytes).0 ≡ Some quote
    → Some at ≡ Some quote
single_opens kinds.SingleQuote at bytes quote e = absurd (cc)
single_opens _ at bytes quote e = e

double_opens : (k : CharKind) (at : ℕ) (bytes : List ℕ) (quote : ℕ) → opened (step_double k at bytes).0 ≡ Some quote
    → Some at ≡ Some quote
double_opens kinds.DoubleQuote at bytes quote e = absurd (cc)
double_opens _ at bytes quote e = e

double_escape_opens : (k : CharKind) (at : ℕ) (slash bytes : List ℕ) (quote : ℕ)
    → opened (step_double_escape k at slash bytes).0 ≡ Some quote
    → Some at ≡ Some quote
double_escape_opens kinds.Newline at slash bytes quote e = e
double_escape_opens _ at slash bytes quote e = e

-- a quote that is open after a byte was open before it, or opens there
step_opens : (mode : Mode) (place b quote : ℕ) (k : CharKind) → opened (step mode place (b ∷ []) k).0 ≡ Some quote
    → (opened mode ≡ Some quote) ⊎ OpensHere mode place quote k
step_opens (Mode.outside inside) place b quote k e = inr (outside_opens k inside place b quote e)
step_opens (Mode.escape inside slash) place b quote k e = absurd (escape_opens k inside (b ∷ []) quote e)
step_opens Mode.comment place b quote k e = absurd (comment_opens k quote e)
step_opens (Mode.single at) place b quote k e = inl (single_opens k at (b ∷ []) quote e)
step_opens (Mode.double at) place b quote k e = inl (double_opens k at (b ∷ []) quote e)
step_opens (Mode.double_escape at slash) place b quote k e = inl (double_escape_opens k at slash (b ∷ []) quote e)

-- the quote that is open isn't closed in this text, nor in any front of it
pub record StaysOpen (mode : Mode) (place : ℕ) (text : List ℕ) (quote : ℕ) : Type 0 where
  pub open_now : opened mode ≡ Some quote
  pub fronts : (front rest : List ℕ) → text ≡ front ++ rest → reading mode place front ≡ Err quote

-- a quote of this text opens, and isn't closed in any longer front of it
pub record OpensIn (mode : Mode) (place : ℕ) (text : List ℕ) (quote : ℕ) : Type 0 where
  pub before : List ℕ
  pub byte : ℕ
  pub more : List ℕ
  pub split : text ≡ before ++ byte ∷ more
  pub is_quote : IsQuote (kind byte)
  pub at : quote ≡ place + length before
  pub words : List (List ℕ)
  pub front : reading mode place before ≡ Ok words
  pub longer : (front rest : List ℕ) → more ≡ front ++ rest → reading mode place (before ++ byte ∷ front) ≡ Err quote

-- an effect before an error
effects_err : (effect : Effect) (r : Read) (quote : ℕ) → effects effect r ≡ Err quote → r ≡ Err quote
effects_err effect (Ok words) quote e = absurd (cc)
effects_err effect (Err place) quote e = e

-- one byte before a front that is read as an error
err_before : (mode : Mode) (place b quote : ℕ) (front : List ℕ)
    → reading (step mode place (b ∷ []) (kind b)).0 (suc place) front ≡ Err quote → reading mode place (b ∷ front)
    ≡ Err quote
err_before mode place b quote front e =
    reading-step mode place b front (kind b) refl ∙ ap (effects (step mode place (b ∷ []) (kind b)).1) e

-- a front of a text that begins with this byte is empty or begins with it
pub front_cases : (b : ℕ) (text front rest : List ℕ) → b ∷ text ≡ front ++ rest
    → (front ≡ []) ⊎ ((more : List ℕ) × (front ≡ b ∷ more) × (text ≡ more ++ rest))
front_cases b text [] rest e = inl refl
front_cases b text (x ∷ front) rest e = inr (front, cc, cc)

-- what stays open after a byte
stays_before : (mode : Mode) (place b quote : ℕ) (text : List ℕ) → opened mode ≡ Some quote
    → StaysOpen (step mode place (b ∷ []) (kind b)).0 (suc place) text quote → StaysOpen mode place (b ∷ text) quote
stays_before mode place b quote text open_before stays = record {
  open_now = open_before;
  fronts = λ front rest e. elim (front_cases b text front rest e) [
    | inl none ↦ ap (reading mode place) none ∙ reading-end mode place ∙ opened_ends mode quote open_before
    | inr some ↦ ap (reading mode place) some.1 ∙ err_before mode place b quote some.0 (stays.fronts some.0 rest some.2)
  ];
}

-- what opens at a byte
opens_at : (mode : Mode) (place b quote : ℕ) (text : List ℕ) → OpensHere mode place quote (kind b)
    → StaysOpen (step mode place (b ∷ []) (kind b)).0 (suc place) text quote → OpensIn mode place (b ∷ text) quote
opens_at mode place b quote text here stays = record {
  before = [];
  byte = b;
  more = text;
  split = refl;
  is_quote = here.is_quote;
  at = omega (arith, here.here);
  words = here.words;
  front = reading-end mode place ∙ here.ends;
  longer = λ front rest e. err_before mode place b quote front (stays.fronts front rest e);
}

-- what opens after a byte
opens_before : (mode : Mode) (place b quote : ℕ) (text : List ℕ)
    → OpensIn (step mode place (b ∷ []) (kind b)).0 (suc place) text quote → OpensIn mode place (b ∷ text) quote
opens_before mode place b quote text opens = record {
  before = b ∷ opens.before;
  byte = opens.byte;
  more = opens.more;
  split = ap (λ bytes. b ∷ bytes) opens.split;
  is_quote = opens.is_quote;
  at = omega (arith, opens.at);
  words = with_effect (step mode place (b ∷ []) (kind b)).1 opens.words;
  front = reading-step mode place b opens.before (kind b) refl
      ∙ ap (effects (step mode place (b ∷ []) (kind b)).1) opens.front;
  longer = λ front rest e. err_before mode place b quote (opens.before ++ opens.byte ∷ front)
      (opens.longer front rest e);
}

-- the error is the place of a quote that is open before the text, or opens in it
unclosed : (text : List ℕ) (mode : Mode) (place quote : ℕ) → reading mode place text ≡ Err quote
    → StaysOpen mode place text quote ⊎ OpensIn mode place text quote
unclosed [] mode place quote e =
    let ends : ending mode ≡ Err quote = sym (reading-end mode place) ∙ e in
    inl (record {
      open_now = ends_opened mode quote ends;
      fronts = λ front rest split. ap (reading mode place) (no_front front rest split) ∙ e;
    })
  where
    no_front : (front rest : List ℕ) → [] ≡ front ++ rest → front ≡ []
    no_front [] rest split = refl
    no_front (x ∷ front) rest split = absurd (cc)
unclosed (b ∷ text) mode place quote e =
    elim (unclosed text (step mode place (b ∷ []) (kind b)).0 (suc place) quote
    (effects_err _ _ quote (sym (reading-step mode place b text (kind b) refl) ∙ e))) [
      | inl stays ↦ elim (step_opens mode place b quote (kind b) stays.open_now) [
        | inl before ↦ inl (stays_before mode place b quote text before stays)
        | inr here ↦ inr (opens_at mode place b quote text here stays)
      ]
      | inr opens ↦ inr (opens_before mode place b quote text opens)
    ]

-- a longer front goes on after the quote
longer_front : (before : List ℕ) (byte : ℕ) (more : List ℕ) (n : ℕ) → length before < n
    → (front : List ℕ) × (rest : List ℕ) × (more ≡ front ++ rest)
    × (take n (before ++ byte ∷ more) ≡ before ++ byte ∷ front)
longer_front [] byte more zero longer = absurd (omega arith)
longer_front [] byte more (suc n) longer = (take n more, drop n more, sym (take-append-drop n more), refl)
longer_front (b ∷ before) byte more zero longer = absurd (omega arith)
longer_front (b ∷ before) byte more (suc n) longer =
    let (front, rest, split, e) = longer_front before byte more n (omega arith) in
    (front, rest, split, ap (λ bytes. b ∷ bytes) e)

-- the byte after a front
byte_after : (before : List ℕ) (byte : ℕ) (more : List ℕ) → slice_get (before ++ byte ∷ more) (length before)
    ≡ Some byte
byte_after [] byte more = refl
byte_after (b ∷ before) byte more = byte_after before byte more

-- what is read has no open quote
not_both : (r : Read) (words : List (List ℕ)) (quote : ℕ) → r ≡ Ok words → r ≡ Err quote → ⊥
not_both r words quote e f = cc

-- where the machine finds an open quote, one is open
opens_quote : (text : List ℕ) (quote : ℕ) → OpensIn (Mode.outside false) 0 text quote → IsOpenQuote text quote
opens_quote text quote opens =
    let at : length opens.before ≡ quote = omega (arith, opens.at) in
    subst (λ bytes. IsOpenQuote bytes quote) (sym opens.split) (record {
      quote = subst
          (λ place. IsSomeAnd (slice_get (opens.before ++ opens.byte ∷ opens.more) place) (λ b. IsQuote (kind b))) at
          (rw (byte_after opens.before opens.byte opens.more) opens.is_quote);
      before = opens.words;
      front = subst (λ place. HasWords (take place (opens.before ++ opens.byte ∷ opens.more)) opens.words) at
          (rw (take-append_seam opens.before (opens.byte ∷ opens.more))
          (read_stands opens.before opens.words opens.front));
      longest = λ n words longer within says.
          let (front, rest, split, e) = longer_front opens.before opens.byte opens.more n (omega (arith, at, longer)) in
          not_both (reading (Mode.outside false) 0 (take n (opens.before ++ opens.byte ∷ opens.more))) words quote
          (reads_all says 0) (ap (reading (Mode.outside false) 0) e ∙ opens.longer front rest split);
    })

-- where the machine finds an open quote, one is open
pub read_open : (text : List ℕ) (quote : ℕ) → reading (Mode.outside false) 0 text ≡ Err quote → IsOpenQuote text quote
read_open text quote e =
    elim (unclosed text (Mode.outside false) 0 quote e) [
      | inl stays ↦ absurd (none_open quote stays.open_now)
      | inr opens ↦ opens_quote text quote opens
    ]
  where
    none_open : (quote' : ℕ) → None ≡ Some quote' → ⊥
    none_open quote' f = cc
