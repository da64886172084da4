-- What the machine reads is what the grammar says: the grammar's side.
use Rattle.std.proofs.Common.{◌≡◌, ◌≢◌, Bool, true, false, ℕ, suc, List, [], ◌∷◌, ◌++◌, Ok, Err, refl, ap, sym, ◌∙◌}
use Rattle.std.proofs.Common.{append_assoc, append-nil}
use Rattle.run_commands.specs.declared.words.char_kind.CharKind.{CharKind}
use Rattle.run_commands.specs.declared.words.char_kind.CharKind.TheVariants as kinds
use Rattle.run_commands.specs.Words.{kind, IsBlank, IsPlainInWord, IsPlainInQuotes, IsEscaped, KeepsBackslash, Lacks}
use Rattle.run_commands.specs.Words.{IsQuoted, IsPiece, MayStand, EndsComment, Reads}
use Rattle.run_commands.specs.WordMachine.{Mode, Effect, Read, step, step_outside, effects, ending, reading}

-- one byte more
pub reading-step : (mode : Mode) (place b : ℕ) (text : List ℕ) (k : CharKind) → kind b ≡ k
    → reading mode place (b ∷ text)
    ≡ effects (step mode place (b ∷ []) k).1 (reading (step mode place (b ∷ []) k).0 (suc place) text)
unfolding reading
reading-step mode place b text k is =
    ap (λ k'. effects (step mode place (b ∷ []) k').1 (reading (step mode place (b ∷ []) k').0 (suc place) text)) is

-- the end
pub reading-end : (mode : Mode) (place : ℕ) → reading mode place [] ≡ ending mode
unfolding reading
reading-end mode place = refl

-- nothing is added
pub effects-pass : (r : Read) → effects Effect.pass r ≡ r
effects-pass (Ok words) = refl
effects-pass (Err place) = refl

-- no bytes are added
pub effects-add_nil : (r : Read) → effects (Effect.add []) r ≡ r
effects-add_nil (Ok []) = refl
effects-add_nil (Ok (word ∷ words)) = refl
effects-add_nil (Err place) = refl

-- bytes that are added one after another
pub effects-add_add : (xs ys : List ℕ) (r : Read) → effects (Effect.add xs) (effects (Effect.add ys) r)
    ≡ effects (Effect.add (xs ++ ys)) r
effects-add_add [] [] (Ok []) = refl
effects-add_add [] (y ∷ ys) (Ok []) = refl
effects-add_add (x ∷ xs) [] (Ok []) = ap (λ bytes. Ok ((x ∷ bytes) ∷ [])) (sym (append-nil xs))
effects-add_add (x ∷ xs) (y ∷ ys) (Ok []) = refl
effects-add_add xs ys (Ok (word ∷ words)) = ap (λ bytes. Ok (bytes ∷ words)) (sym (append_assoc xs ys word))
effects-add_add xs ys (Err place) = refl

-- a blank between words
after_blank : (k : CharKind) (b : ℕ) (text : List ℕ) (words : List (List ℕ)) (place : ℕ) → kind b ≡ k → IsBlank k
    → reading (Mode.outside false) (suc place) text ≡ Ok words → reading (Mode.outside false) place (b ∷ text)
    ≡ Ok words
after_blank kinds.Space b text words place is blank rest =
    reading-step (Mode.outside false) place b text kinds.Space is ∙ ap (effects Effect.pass) rest
after_blank kinds.Newline b text words place is blank rest =
    reading-step (Mode.outside false) place b text kinds.Newline is ∙ ap (effects Effect.pass) rest
after_blank _ b text words place is blank rest = absurd blank

-- a blank after a word
after_word : (k : CharKind) (b : ℕ) (text : List ℕ) (words : List (List ℕ)) (place : ℕ) → kind b ≡ k → IsBlank k
    → reading (Mode.outside false) (suc place) text ≡ Ok words → reading (Mode.outside true) place (b ∷ text)
    ≡ Ok ([] ∷ words)
after_word kinds.Space b text words place is blank rest =
    reading-step (Mode.outside true) place b text kinds.Space is ∙ ap (effects Effect.close) rest
after_word kinds.Newline b text words place is blank rest =
    reading-step (Mode.outside true) place b text kinds.Newline is ∙ ap (effects Effect.close) rest
after_word _ b text words place is blank rest = absurd blank

-- a byte of a comment
comment_step : (k : CharKind) (b : ℕ) (text : List ℕ) (place : ℕ) → kind b ≡ k → k ≢ kinds.Newline
    → reading Mode.comment place (b ∷ text) ≡ reading Mode.comment (suc place) text
comment_step kinds.Newline b text place is other = absurd (other refl)
comment_step kinds.Space b text place is other = reading-step Mode.comment place b text _ is ∙ effects-pass _
comment_step kinds.Hash b text place is other = reading-step Mode.comment place b text _ is ∙ effects-pass _
comment_step kinds.Backslash b text place is other = reading-step Mode.comment place b text _ is ∙ effects-pass _
comment_step kinds.SingleQuote b text place is other = reading-step Mode.comment place b text _ is ∙ effects-pass _
comment_step kinds.DoubleQuote b text place is other = reading-step Mode.comment place b text _ is ∙ effects-pass _
comment_step kinds.Expansion b text place is other = reading-step Mode.comment place b text _ is ∙ effects-pass _
comment_step kinds.Plain b text place is other = reading-step Mode.comment place b text _ is ∙ effects-pass _

-- a comment is skipped
comment_skips : (remark text : List ℕ) (place : ℕ) → Lacks kinds.Newline remark
    → (after : ℕ) × (reading Mode.comment place (remark ++ text) ≡ reading Mode.comment after text)
comment_skips [] text place lacks = (place, refl)
comment_skips (b ∷ remark) text place lacks =
    let (after, e) = comment_skips remark text (suc place) lacks.1 in
    (after, comment_step (kind b) b (remark ++ text) place refl lacks.0 ∙ e)

-- where a comment ends it is as between words
comment_ends : (text : List ℕ) (place : ℕ) → EndsComment text → reading Mode.comment place text
    ≡ reading (Mode.outside false) place text
comment_ends [] place ends = reading-end Mode.comment place ∙ sym (reading-end (Mode.outside false) place)
comment_ends (b ∷ text) place ends =
    reading-step Mode.comment place b text kinds.Newline ends
    ∙ sym (reading-step (Mode.outside false) place b text kinds.Newline ends)

-- a byte between single quotes
single_step : (k : CharKind) (quote b : ℕ) (text : List ℕ) (place : ℕ) → kind b ≡ k → k ≢ kinds.SingleQuote
    → reading (Mode.single quote) place (b ∷ text)
    ≡ effects (Effect.add (b ∷ [])) (reading (Mode.single quote) (suc place) text)
single_step kinds.SingleQuote quote b text place is other = absurd (other refl)
single_step kinds.Space quote b text place is other = reading-step (Mode.single quote) place b text _ is
single_step kinds.Newline quote b text place is other = reading-step (Mode.single quote) place b text _ is
single_step kinds.Hash quote b text place is other = reading-step (Mode.single quote) place b text _ is
single_step kinds.Backslash quote b text place is other = reading-step (Mode.single quote) place b text _ is
single_step kinds.DoubleQuote quote b text place is other = reading-step (Mode.single quote) place b text _ is
single_step kinds.Expansion quote b text place is other = reading-step (Mode.single quote) place b text _ is
single_step kinds.Plain quote b text place is other = reading-step (Mode.single quote) place b text _ is

-- bytes between single quotes are added
single_reads : (inner : List ℕ) (c : ℕ) (text : List ℕ) (quote place : ℕ) → Lacks kinds.SingleQuote inner
    → kind c ≡ kinds.SingleQuote
    → (after : ℕ)
    × (reading (Mode.single quote) place (inner ++ c ∷ text)
    ≡ effects (Effect.add inner) (reading (Mode.outside true) after text))
single_reads [] c text quote place lacks closes = (
  suc place,
  reading-step (Mode.single quote) place c text kinds.SingleQuote closes ∙ effects-pass _
      ∙ sym (effects-add_nil _),
)
single_reads (b ∷ inner) c text quote place lacks closes =
    let (after, e) = single_reads inner c text quote (suc place) lacks.1 closes in (
      after,
      single_step (kind b) quote b (inner ++ c ∷ text) place refl lacks.0 ∙ ap (effects (Effect.add (b ∷ []))) e
          ∙ effects-add_add (b ∷ []) inner _,
    )

-- a plain byte between double quotes
double_step : (k : CharKind) (quote b : ℕ) (text : List ℕ) (place : ℕ) → kind b ≡ k → IsPlainInQuotes k
    → reading (Mode.double quote) place (b ∷ text)
    ≡ effects (Effect.add (b ∷ [])) (reading (Mode.double quote) (suc place) text)
double_step kinds.Backslash quote b text place is plain = absurd plain
double_step kinds.DoubleQuote quote b text place is plain = absurd plain
double_step kinds.Space quote b text place is plain = reading-step (Mode.double quote) place b text _ is
double_step kinds.Newline quote b text place is plain = reading-step (Mode.double quote) place b text _ is
double_step kinds.Hash quote b text place is plain = reading-step (Mode.double quote) place b text _ is
double_step kinds.SingleQuote quote b text place is plain = reading-step (Mode.double quote) place b text _ is
double_step kinds.Expansion quote b text place is plain = reading-step (Mode.double quote) place b text _ is
double_step kinds.Plain quote b text place is plain = reading-step (Mode.double quote) place b text _ is

-- a backslash between double quotes
slash_step : (quote b : ℕ) (text : List ℕ) (place : ℕ) → kind b ≡ kinds.Backslash
    → reading (Mode.double quote) place (b ∷ text) ≡ reading (Mode.double_escape quote (b ∷ [])) (suc place) text
slash_step quote b text place is = reading-step (Mode.double quote) place b text kinds.Backslash is ∙ effects-pass _

-- a byte before which the backslash goes
escaped_step : (k : CharKind) (quote b c : ℕ) (text : List ℕ) (place : ℕ) → kind c ≡ k → IsEscaped k
    → reading (Mode.double_escape quote (b ∷ [])) place (c ∷ text)
    ≡ effects (Effect.add (c ∷ [])) (reading (Mode.double quote) (suc place) text)
escaped_step kinds.Backslash quote b c text place is escaped =
    reading-step (Mode.double_escape quote (b ∷ [])) place c text _ is
escaped_step kinds.DoubleQuote quote b c text place is escaped =
    reading-step (Mode.double_escape quote (b ∷ [])) place c text _ is
escaped_step kinds.Expansion quote b c text place is escaped =
    reading-step (Mode.double_escape quote (b ∷ [])) place c text _ is
escaped_step _ quote b c text place is escaped = absurd escaped

-- a byte before which the backslash stays
kept_step : (k : CharKind) (quote b c : ℕ) (text : List ℕ) (place : ℕ) → kind c ≡ k → KeepsBackslash k
    → reading (Mode.double_escape quote (b ∷ [])) place (c ∷ text)
    ≡ effects (Effect.add (b ∷ c ∷ [])) (reading (Mode.double quote) (suc place) text)
kept_step kinds.Space quote b c text place is keeps = reading-step (Mode.double_escape quote (b ∷ [])) place c text _ is
kept_step kinds.Hash quote b c text place is keeps = reading-step (Mode.double_escape quote (b ∷ [])) place c text _ is
kept_step kinds.SingleQuote quote b c text place is keeps =
    reading-step (Mode.double_escape quote (b ∷ [])) place c text _ is
kept_step kinds.Plain quote b c text place is keeps = reading-step (Mode.double_escape quote (b ∷ [])) place c text _ is
kept_step _ quote b c text place is keeps = absurd keeps

-- bytes between double quotes are added
double_reads : {source meaning : List ℕ} → IsQuoted source meaning → (c : ℕ) (text : List ℕ) (quote place : ℕ)
    → kind c ≡ kinds.DoubleQuote
    → (after : ℕ)
    × (reading (Mode.double quote) place (source ++ c ∷ text)
    ≡ effects (Effect.add meaning) (reading (Mode.outside true) after text))
double_reads IsQuoted.nothing c text quote place closes = (
  suc place,
  reading-step (Mode.double quote) place c text kinds.DoubleQuote closes ∙ effects-pass _
      ∙ sym (effects-add_nil _),
)
double_reads (IsQuoted.plain {b} {source} {meaning} plain more) c text quote place closes =
    let (after, e) = double_reads more c text quote (suc place) closes in (
      after,
      double_step (kind b) quote b (source ++ c ∷ text) place refl plain ∙ ap (effects (Effect.add (b ∷ []))) e
          ∙ effects-add_add (b ∷ []) meaning _,
    )
double_reads (IsQuoted.escaped {b} {c = d} {source} {meaning} slash escaped more) c text quote place closes =
    let (after, e) = double_reads more c text quote (suc (suc place)) closes in (
      after,
      slash_step quote b (d ∷ source ++ c ∷ text) place slash
          ∙ escaped_step (kind d) quote b d (source ++ c ∷ text) (suc place) refl escaped
          ∙ ap (effects (Effect.add (d ∷ []))) e
          ∙ effects-add_add (d ∷ []) meaning _,
    )
double_reads (IsQuoted.joined {b} {c = d} {source} {meaning} slash newline more) c text quote place closes =
    let (after, e) = double_reads more c text quote (suc (suc place)) closes in (
      after,
      slash_step quote b (d ∷ source ++ c ∷ text) place slash
          ∙ reading-step (Mode.double_escape quote (b ∷ [])) (suc place) d (source ++ c ∷ text) kinds.Newline newline
          ∙ effects-pass _ ∙ e,
    )
double_reads (IsQuoted.kept {b} {c = d} {source} {meaning} slash keeps more) c text quote place closes =
    let (after, e) = double_reads more c text quote (suc (suc place)) closes in (
      after,
      slash_step quote b (d ∷ source ++ c ∷ text) place slash
          ∙ kept_step (kind d) quote b d (source ++ c ∷ text) (suc place) refl keeps
          ∙ ap (effects (Effect.add (b ∷ d ∷ []))) e
          ∙ effects-add_add (b ∷ d ∷ []) meaning _,
    )

-- a plain byte of a word
plain_step : (k : CharKind) (inside : Bool) (b : ℕ) (text : List ℕ) (place : ℕ) → kind b ≡ k → IsPlainInWord k
    → MayStand inside (b ∷ [])
    → reading (Mode.outside inside) place (b ∷ text)
    ≡ effects (Effect.add (b ∷ [])) (reading (Mode.outside true) (suc place) text)
plain_step kinds.Hash true b text place is plain may = reading-step (Mode.outside true) place b text _ is
plain_step kinds.Hash false b text place is plain may = absurd (may is)
plain_step kinds.Expansion inside b text place is plain may = reading-step (Mode.outside inside) place b text _ is
plain_step kinds.Plain inside b text place is plain may = reading-step (Mode.outside inside) place b text _ is
plain_step _ inside b text place is plain may = absurd plain

-- a byte after a backslash outside quotes
escape_step : (k : CharKind) (inside : Bool) (slash : List ℕ) (c : ℕ) (text : List ℕ) (place : ℕ) → kind c ≡ k
    → k ≢ kinds.Newline
    → reading (Mode.escape inside slash) place (c ∷ text)
    ≡ effects (Effect.add (c ∷ [])) (reading (Mode.outside true) (suc place) text)
escape_step kinds.Newline inside slash c text place is other = absurd (other refl)
escape_step kinds.Space inside slash c text place is other = reading-step (Mode.escape inside slash) place c text _ is
escape_step kinds.Hash inside slash c text place is other = reading-step (Mode.escape inside slash) place c text _ is
escape_step kinds.Backslash inside slash c text place is other =
    reading-step (Mode.escape inside slash) place c text _ is
escape_step kinds.SingleQuote inside slash c text place is other =
    reading-step (Mode.escape inside slash) place c text _ is
escape_step kinds.DoubleQuote inside slash c text place is other =
    reading-step (Mode.escape inside slash) place c text _ is
escape_step kinds.Expansion inside slash c text place is other =
    reading-step (Mode.escape inside slash) place c text _ is
escape_step kinds.Plain inside slash c text place is other = reading-step (Mode.escape inside slash) place c text _ is

-- a byte outside quotes that adds nothing
outside_pass : (k : CharKind) (next : Mode) (inside : Bool) (b : ℕ) (text : List ℕ) (place : ℕ) → kind b ≡ k
    → step_outside k inside place (b ∷ []) ≡ (next, Effect.pass)
    → reading (Mode.outside inside) place (b ∷ text) ≡ reading next (suc place) text
outside_pass k next inside b text place is passes =
    reading-step (Mode.outside inside) place b text k is
    ∙ ap (λ (to : Mode × Effect). effects to.1 (reading to.0 (suc place) text)) passes
    ∙ effects-pass _

-- a piece of a word is added
piece_reads : {source meaning : List ℕ} → IsPiece source meaning → (inside : Bool) (text : List ℕ) (place : ℕ)
    → MayStand inside source
    → (after : ℕ)
    × (reading (Mode.outside inside) place (source ++ text)
    ≡ effects (Effect.add meaning) (reading (Mode.outside true) after text))
piece_reads (IsPiece.plain {b} plain) true text place may =
    (suc place, plain_step (kind b) true b text place refl plain tt)
piece_reads (IsPiece.plain {b} plain) false text place may =
    (suc place, plain_step (kind b) false b text place refl plain may)
piece_reads (IsPiece.escaped {b} {c} slash other) inside text place may = (
  suc (suc place),
  outside_pass kinds.Backslash (Mode.escape inside (b ∷ [])) inside b (c ∷ text) place slash refl
      ∙ escape_step (kind c) inside (b ∷ []) c text (suc place) refl other,
)
piece_reads (IsPiece.single_quoted {b} inner c opens lacks closes) inside text place may =
    let (after, e) = single_reads inner c text place (suc place) lacks closes in (
      after,
      ap (λ bytes. reading (Mode.outside inside) place (b ∷ bytes)) (append_assoc inner (c ∷ []) text)
          ∙ outside_pass kinds.SingleQuote (Mode.single place) inside b (inner ++ c ∷ text) place opens refl ∙ e,
    )
piece_reads (IsPiece.double_quoted {b} {inner} {meaning} c opens quoted closes) inside text place may =
    let (after, e) = double_reads quoted c text place (suc place) closes in (
      after,
      ap (λ bytes. reading (Mode.outside inside) place (b ∷ bytes)) (append_assoc inner (c ∷ []) text)
          ∙ outside_pass kinds.DoubleQuote (Mode.double place) inside b (inner ++ c ∷ text) place opens refl ∙ e,
    )

-- what is in the grammar is read
pub reads_all : {inside : Bool} {text : List ℕ} {words : List (List ℕ)} → Reads inside text words
    → (place : ℕ) → reading (Mode.outside inside) place text ≡ Ok words
reads_all Reads.end place = reading-end (Mode.outside false) place
reads_all Reads.end_of_word place = reading-end (Mode.outside true) place
reads_all (Reads.blank {b} {text} {words} blank rest) place =
    after_blank (kind b) b text words place refl blank (reads_all rest (suc place))
reads_all (Reads.blank_after_word {b} {text} {words} blank rest) place =
    after_word (kind b) b text words place refl blank (reads_all rest (suc place))
reads_all (Reads.comment {b} remark {text} {words} hash lacks ends rest) place =
    let (after, e) = comment_skips remark text (suc place) lacks in
    outside_pass kinds.Hash Mode.comment false b (remark ++ text) place hash refl ∙ e ∙ comment_ends text after ends
    ∙ reads_all rest after
reads_all (Reads.joined {inside} {b} {c} {text} {words} slash newline rest) place =
    outside_pass kinds.Backslash (Mode.escape inside (b ∷ [])) inside b (c ∷ text) place slash refl
    ∙ reading-step (Mode.escape inside (b ∷ [])) (suc place) c text kinds.Newline newline ∙ effects-pass _
    ∙ reads_all rest (suc (suc place))
reads_all (Reads.last {inside} {b} slash) place =
    outside_pass kinds.Backslash (Mode.escape inside (b ∷ [])) inside b [] place slash refl
    ∙ reading-end (Mode.escape inside (b ∷ [])) (suc place)
reads_all (Reads.piece {inside} {source} {meaning} {text} {word} {words} piece may rest) place =
    let (after, e) = piece_reads piece inside text place may in
    e ∙ ap (effects (Effect.add meaning)) (reads_all rest after)

-- one reading has one list of words
pub same_words : (r : Read) (words others : List (List ℕ)) → r ≡ Ok words → r ≡ Ok others → words ≡ others
same_words r words others e f = cc

-- a text has no two lists of words
pub one_reading : (text : List ℕ) (words others : List (List ℕ)) → Reads false text words → Reads false text others
    → words ≡ others
one_reading text words others one other =
    same_words (reading (Mode.outside false) 0 text) words others (reads_all one 0) (reads_all other 0)
