-- What the machine reads is what the grammar says: the machine's side.
use Rattle.std.proofs.Common.{◌≡◌, ◌≢◌, Bool, true, false, ℕ, suc, List, [], ◌∷◌, ◌++◌, Ok, Err, refl, ap, sym, subst}
use Rattle.std.proofs.Common.{◌∙◌, append_assoc, append-nil}
use Rattle.run_commands.specs.declared.words.char_kind.CharKind.{CharKind}
use Rattle.run_commands.specs.declared.words.char_kind.CharKind.TheVariants as kinds
use Rattle.run_commands.specs.Words.{kind, IsEscaped, KeepsBackslash, Lacks, IsQuoted, IsPiece, MayStand, Reads}
use Rattle.run_commands.specs.WordMachine.{Mode, Effect, Read, step, step_outside, step_escape, step_comment}
use Rattle.run_commands.specs.WordMachine.{step_single, step_double, step_double_escape, effects, with_effect, onto}
use Rattle.run_commands.specs.WordMachine.{ending, reading}
use Rattle.run_commands.proofs.WordLemmas.{reading-step, reading-end}

-- what the text from here on says, where the machine is in this mode
abbrev pub Stands : Mode → List ℕ → List (List ℕ) → Type 0
Stands (Mode.outside inside) text words = Reads inside text words
Stands (Mode.escape inside slash) text words = (b : ℕ) → slash ≡ b ∷ [] → kind b ≡ kinds.Backslash
    → Reads inside (b ∷ text) words
Stands Mode.comment text words = (b : ℕ) (remark : List ℕ) → kind b ≡ kinds.Hash → Lacks kinds.Newline remark
    → Reads false (b ∷ remark ++ text) words
Stands (Mode.single quote) text words = (inside : Bool) (b : ℕ) (inner : List ℕ) → kind b ≡ kinds.SingleQuote
    → Lacks kinds.SingleQuote inner
    → Reads inside (b ∷ inner ++ text) (onto inner words)
Stands (Mode.double quote) text words = (inside : Bool) (b : ℕ) (source meaning : List ℕ) → kind b ≡ kinds.DoubleQuote
    → IsQuoted source meaning
    → Reads inside (b ∷ source ++ text) (onto meaning words)
Stands (Mode.double_escape quote slash) text words = (inside : Bool) (b : ℕ) (source meaning : List ℕ) (c : ℕ)
    → slash ≡ c ∷ []
    → kind b ≡ kinds.DoubleQuote → IsQuoted source meaning → kind c ≡ kinds.Backslash
    → Reads inside (b ∷ source ++ c ∷ text) (onto meaning words)

-- in a word there is a first one
first_word : {text : List ℕ} {words : List (List ℕ)} → Reads true text words
    → (word : List ℕ) × (others : List (List ℕ)) × (words ≡ word ∷ others)
first_word Reads.end_of_word = ([], [], refl)
first_word (Reads.blank_after_word {words} blank rest) = ([], words, refl)
first_word (Reads.joined slash newline rest) = first_word rest
first_word (Reads.last {b} slash) = (b ∷ [], [], refl)
first_word (Reads.piece {meaning} {word} {words} piece may rest) = (meaning ++ word, words, refl)

-- a piece before what is left of a word
piece_before : (inside : Bool) (source meaning text : List ℕ) (words : List (List ℕ)) → IsPiece source meaning
    → MayStand inside source
    → Reads true text words → Reads inside (source ++ text) (onto meaning words)
piece_before inside source meaning text words piece may rest =
    let (word, others, e) = first_word rest in
    subst (λ ws. Reads inside (source ++ text) (onto meaning ws)) (sym e)
    (Reads.piece piece may (subst (λ ws. Reads true text ws) e rest))

-- a piece that doesn't begin with `#` may stand anywhere
may_stand : (inside : Bool) (b : ℕ) (source : List ℕ) (k : CharKind) → kind b ≡ k → k ≢ kinds.Hash
    → MayStand inside (b ∷ source)
may_stand true b source k is other = tt
may_stand false b source k is other = λ hash. other (sym is ∙ hash)

-- more bytes without one of this kind
lacks_more : (k : CharKind) (bytes : List ℕ) (b : ℕ) → Lacks k bytes → kind b ≢ k → Lacks k (bytes ++ b ∷ [])
lacks_more k [] b lacks other = (other, tt)
lacks_more k (x ∷ bytes) b lacks other = (lacks.0, lacks_more k bytes b lacks.1 other)

-- more between double quotes
quoted_more : {source meaning : List ℕ} {more said : List ℕ} → IsQuoted source meaning → IsQuoted more said
    → IsQuoted (source ++ more) (meaning ++ said)
quoted_more IsQuoted.nothing after = after
quoted_more (IsQuoted.plain plain before) after = IsQuoted.plain plain (quoted_more before after)
quoted_more (IsQuoted.escaped slash escaped before) after = IsQuoted.escaped slash escaped (quoted_more before after)
quoted_more (IsQuoted.joined slash newline before) after = IsQuoted.joined slash newline (quoted_more before after)
quoted_more (IsQuoted.kept slash keeps before) after = IsQuoted.kept slash keeps (quoted_more before after)

-- bytes onto the first word, one after another
pub onto_both : (xs ys : List ℕ) (words : List (List ℕ)) → onto (xs ++ ys) words ≡ onto xs (onto ys words)
onto_both [] [] [] = refl
onto_both [] (y ∷ ys) [] = refl
onto_both (x ∷ xs) [] [] = ap (λ bytes. (x ∷ bytes) ∷ []) (append-nil xs)
onto_both (x ∷ xs) (y ∷ ys) [] = refl
onto_both xs ys (word ∷ words) = ap (λ bytes. bytes ∷ words) (append_assoc xs ys word)

-- no bytes onto the first word
pub onto_none : (words : List (List ℕ)) → onto [] words ≡ words
onto_none [] = refl
onto_none (word ∷ words) = refl

-- outside quotes
stands_outside : (k : CharKind) (inside : Bool) (place b : ℕ) (text : List ℕ) (words : List (List ℕ)) → kind b ≡ k
    → Stands (step_outside k inside place (b ∷ [])).0 text words
    → Reads inside (b ∷ text) (with_effect (step_outside k inside place (b ∷ [])).1 words)
stands_outside kinds.Space true place b text words is rest = Reads.blank_after_word (rw is tt) rest
stands_outside kinds.Space false place b text words is rest = Reads.blank (rw is tt) rest
stands_outside kinds.Newline true place b text words is rest = Reads.blank_after_word (rw is tt) rest
stands_outside kinds.Newline false place b text words is rest = Reads.blank (rw is tt) rest
stands_outside kinds.Hash true place b text words is rest =
    piece_before true (b ∷ []) (b ∷ []) text words (IsPiece.plain (rw is tt)) tt rest
stands_outside kinds.Hash false place b text words is rest = rest b [] is tt
stands_outside kinds.Backslash inside place b text words is rest = rest b refl is
stands_outside kinds.SingleQuote inside place b text words is rest =
    subst (λ ws. Reads inside (b ∷ text) ws) (onto_none words) (rest inside b [] is tt)
stands_outside kinds.DoubleQuote inside place b text words is rest =
    subst (λ ws. Reads inside (b ∷ text) ws) (onto_none words) (rest inside b [] [] is IsQuoted.nothing)
stands_outside kinds.Expansion inside place b text words is rest =
    piece_before inside (b ∷ []) (b ∷ []) text words (IsPiece.plain (rw is tt))
    (may_stand inside b [] kinds.Expansion is (λ e. cc)) rest
stands_outside kinds.Plain inside place b text words is rest =
    piece_before inside (b ∷ []) (b ∷ []) text words (IsPiece.plain (rw is tt))
    (may_stand inside b [] kinds.Plain is (λ e. cc)) rest

-- after a backslash outside quotes, a byte other than LF
escaped_piece : (k : CharKind) (inside : Bool) (slash : List ℕ) (b : ℕ) (text : List ℕ) (words : List (List ℕ))
    → kind b ≡ k → k ≢ kinds.Newline
    → Reads true text words → Stands (Mode.escape inside slash) (b ∷ text) (onto (b ∷ []) words)
escaped_piece k inside slash b text words is other rest = λ s slash_is escapes.
    piece_before inside (s ∷ b ∷ []) (b ∷ []) text words (IsPiece.escaped escapes (λ newline. other (sym is ∙ newline)))
    (may_stand inside s (b ∷ []) kinds.Backslash escapes (λ e. cc)) rest

-- after a backslash outside quotes
stands_escape : (k : CharKind) (inside : Bool) (slash : List ℕ) (b : ℕ) (text : List ℕ) (words : List (List ℕ))
    → kind b ≡ k
    → Stands (step_escape k inside (b ∷ [])).0 text words
    → Stands (Mode.escape inside slash) (b ∷ text) (with_effect (step_escape k inside (b ∷ [])).1 words)
stands_escape kinds.Newline inside slash b text words is rest = λ s slash_is escapes. Reads.joined escapes is rest
stands_escape kinds.Space inside slash b text words is rest =
    escaped_piece _ inside slash b text words is (λ e. cc) rest
stands_escape kinds.Hash inside slash b text words is rest = escaped_piece _ inside slash b text words is (λ e. cc) rest
stands_escape kinds.Backslash inside slash b text words is rest =
    escaped_piece _ inside slash b text words is (λ e. cc) rest
stands_escape kinds.SingleQuote inside slash b text words is rest =
    escaped_piece _ inside slash b text words is (λ e. cc) rest
stands_escape kinds.DoubleQuote inside slash b text words is rest =
    escaped_piece _ inside slash b text words is (λ e. cc) rest
stands_escape kinds.Expansion inside slash b text words is rest =
    escaped_piece _ inside slash b text words is (λ e. cc) rest
stands_escape kinds.Plain inside slash b text words is rest =
    escaped_piece _ inside slash b text words is (λ e. cc) rest

-- a byte of a comment other than LF
remark_more : (k : CharKind) (b : ℕ) (text : List ℕ) (words : List (List ℕ)) → kind b ≡ k → k ≢ kinds.Newline
    → Stands Mode.comment text words → Stands Mode.comment (b ∷ text) words
remark_more k b text words is other rest = λ h remark hash lacks.
    subst (λ bytes. Reads false (h ∷ bytes) words) (append_assoc remark (b ∷ []) text)
    (rest h (remark ++ b ∷ []) hash (lacks_more kinds.Newline remark b lacks (λ newline. other (sym is ∙ newline))))

-- in a comment
stands_comment : (k : CharKind) (b : ℕ) (text : List ℕ) (words : List (List ℕ)) → kind b ≡ k
    → Stands (step_comment k).0 text words → Stands Mode.comment (b ∷ text) (with_effect (step_comment k).1 words)
stands_comment kinds.Newline b text words is rest =
    λ h remark hash lacks. Reads.comment remark hash lacks is (Reads.blank (rw is tt) rest)
stands_comment kinds.Space b text words is rest = remark_more _ b text words is (λ e. cc) rest
stands_comment kinds.Hash b text words is rest = remark_more _ b text words is (λ e. cc) rest
stands_comment kinds.Backslash b text words is rest = remark_more _ b text words is (λ e. cc) rest
stands_comment kinds.SingleQuote b text words is rest = remark_more _ b text words is (λ e. cc) rest
stands_comment kinds.DoubleQuote b text words is rest = remark_more _ b text words is (λ e. cc) rest
stands_comment kinds.Expansion b text words is rest = remark_more _ b text words is (λ e. cc) rest
stands_comment kinds.Plain b text words is rest = remark_more _ b text words is (λ e. cc) rest

-- a byte between single quotes other than the quote
single_more : (k : CharKind) (quote b : ℕ) (text : List ℕ) (words : List (List ℕ)) → kind b ≡ k → k ≢ kinds.SingleQuote
    → Stands (Mode.single quote) text words → Stands (Mode.single quote) (b ∷ text) (onto (b ∷ []) words)
single_more k quote b text words is other rest = λ inside q inner opens lacks.
    subst (λ bytes. Reads inside (q ∷ bytes) (onto inner (onto (b ∷ []) words))) (append_assoc inner (b ∷ []) text)
    (subst (λ ws. Reads inside (q ∷ (inner ++ b ∷ []) ++ text) ws) (onto_both inner (b ∷ []) words)
    (rest inside q (inner ++ b ∷ []) opens
    (lacks_more kinds.SingleQuote inner b lacks (λ closes. other (sym is ∙ closes)))))

-- between single quotes
stands_single : (k : CharKind) (quote b : ℕ) (text : List ℕ) (words : List (List ℕ)) → kind b ≡ k
    → Stands (step_single k quote (b ∷ [])).0 text words
    → Stands (Mode.single quote) (b ∷ text) (with_effect (step_single k quote (b ∷ [])).1 words)
stands_single kinds.SingleQuote quote b text words is rest = λ inside q inner opens lacks.
    subst (λ bytes. Reads inside (q ∷ bytes) (onto inner words)) (append_assoc inner (b ∷ []) text)
    (piece_before inside (q ∷ inner ++ b ∷ []) inner text words (IsPiece.single_quoted inner b opens lacks is)
    (may_stand inside q (inner ++ b ∷ []) kinds.SingleQuote opens (λ e. cc)) rest)
stands_single kinds.Space quote b text words is rest = single_more _ quote b text words is (λ e. cc) rest
stands_single kinds.Newline quote b text words is rest = single_more _ quote b text words is (λ e. cc) rest
stands_single kinds.Hash quote b text words is rest = single_more _ quote b text words is (λ e. cc) rest
stands_single kinds.Backslash quote b text words is rest = single_more _ quote b text words is (λ e. cc) rest
stands_single kinds.DoubleQuote quote b text words is rest = single_more _ quote b text words is (λ e. cc) rest
stands_single kinds.Expansion quote b text words is rest = single_more _ quote b text words is (λ e. cc) rest
stands_single kinds.Plain quote b text words is rest = single_more _ quote b text words is (λ e. cc) rest

-- more bytes between double quotes
double_more : (quote : ℕ) (more said text : List ℕ) (words : List (List ℕ)) → IsQuoted more said
    → Stands (Mode.double quote) text words → Stands (Mode.double quote) (more ++ text) (onto said words)
double_more quote more said text words quoted rest = λ inside q source meaning opens before.
    subst (λ bytes. Reads inside (q ∷ bytes) (onto meaning (onto said words))) (append_assoc source more text)
    (subst (λ ws. Reads inside (q ∷ (source ++ more) ++ text) ws) (onto_both meaning said words)
    (rest inside q (source ++ more) (meaning ++ said) opens (quoted_more before quoted)))

-- between double quotes
stands_double : (k : CharKind) (quote b : ℕ) (text : List ℕ) (words : List (List ℕ)) → kind b ≡ k
    → Stands (step_double k quote (b ∷ [])).0 text words
    → Stands (Mode.double quote) (b ∷ text) (with_effect (step_double k quote (b ∷ [])).1 words)
stands_double kinds.DoubleQuote quote b text words is rest = λ inside q source meaning opens quoted.
    subst (λ bytes. Reads inside (q ∷ bytes) (onto meaning words)) (append_assoc source (b ∷ []) text)
    (piece_before inside (q ∷ source ++ b ∷ []) meaning text words (IsPiece.double_quoted b opens quoted is)
    (may_stand inside q (source ++ b ∷ []) kinds.DoubleQuote opens (λ e. cc)) rest)
stands_double kinds.Backslash quote b text words is rest =
    λ inside q source meaning opens quoted. rest inside q source meaning b refl opens quoted is
stands_double kinds.Space quote b text words is rest =
    double_more quote (b ∷ []) (b ∷ []) text words (IsQuoted.plain (rw is tt) IsQuoted.nothing) rest
stands_double kinds.Newline quote b text words is rest =
    double_more quote (b ∷ []) (b ∷ []) text words (IsQuoted.plain (rw is tt) IsQuoted.nothing) rest
stands_double kinds.Hash quote b text words is rest =
    double_more quote (b ∷ []) (b ∷ []) text words (IsQuoted.plain (rw is tt) IsQuoted.nothing) rest
stands_double kinds.SingleQuote quote b text words is rest =
    double_more quote (b ∷ []) (b ∷ []) text words (IsQuoted.plain (rw is tt) IsQuoted.nothing) rest
stands_double kinds.Expansion quote b text words is rest =
    double_more quote (b ∷ []) (b ∷ []) text words (IsQuoted.plain (rw is tt) IsQuoted.nothing) rest
stands_double kinds.Plain quote b text words is rest =
    double_more quote (b ∷ []) (b ∷ []) text words (IsQuoted.plain (rw is tt) IsQuoted.nothing) rest

-- a byte after a backslash between double quotes, and what the two mean
slash_more : (quote : ℕ) (slash : List ℕ) (b : ℕ) (said text : List ℕ) (words : List (List ℕ))
    → ((c : ℕ) → slash ≡ c ∷ [] → kind c ≡ kinds.Backslash → IsQuoted (c ∷ b ∷ []) said)
    → Stands (Mode.double quote) text words → Stands (Mode.double_escape quote slash) (b ∷ text) (onto said words)
slash_more quote slash b said text words quoted rest = λ inside q source meaning c slash_is opens before escapes.
    double_more quote (c ∷ b ∷ []) said text words (quoted c slash_is escapes) rest inside q source meaning opens before

-- a byte before which the backslash goes
slash_goes : (quote : ℕ) (slash : List ℕ) (b : ℕ) (text : List ℕ) (words : List (List ℕ)) → IsEscaped (kind b)
    → Stands (Mode.double quote) text words → Stands (Mode.double_escape quote slash) (b ∷ text) (onto (b ∷ []) words)
slash_goes quote slash b text words escaped rest =
    slash_more quote slash b (b ∷ []) text words
    (λ c slash_is escapes. IsQuoted.escaped escapes escaped IsQuoted.nothing) rest

-- a byte before which the backslash stays
slash_stays : (quote : ℕ) (slash : List ℕ) (b : ℕ) (text : List ℕ) (words : List (List ℕ)) → KeepsBackslash (kind b)
    → Stands (Mode.double quote) text words
    → Stands (Mode.double_escape quote slash) (b ∷ text) (onto (slash ++ b ∷ []) words)
slash_stays quote slash b text words keeps rest =
    slash_more quote slash b (slash ++ b ∷ []) text words
    (λ c slash_is escapes. subst (λ bytes. IsQuoted (c ∷ b ∷ []) (bytes ++ b ∷ [])) (sym slash_is)
    (IsQuoted.kept escapes keeps IsQuoted.nothing)) rest

-- after a backslash between double quotes
stands_double_escape : (k : CharKind) (quote : ℕ) (slash : List ℕ) (b : ℕ) (text : List ℕ) (words : List (List ℕ))
    → kind b ≡ k
    → Stands (step_double_escape k quote slash (b ∷ [])).0 text words
    → Stands (Mode.double_escape quote slash) (b ∷ text)
    (with_effect (step_double_escape k quote slash (b ∷ [])).1 words)
stands_double_escape kinds.Newline quote slash b text words is rest =
    λ inside q source meaning c slash_is opens before escapes.
    subst (λ ws. Reads inside (q ∷ source ++ c ∷ b ∷ text) (onto meaning ws)) (onto_none words)
    (double_more quote (c ∷ b ∷ []) [] text words (IsQuoted.joined escapes is IsQuoted.nothing) rest inside q source
    meaning opens before)
stands_double_escape kinds.Expansion quote slash b text words is rest =
    slash_goes quote slash b text words (rw is tt) rest
stands_double_escape kinds.DoubleQuote quote slash b text words is rest =
    slash_goes quote slash b text words (rw is tt) rest
stands_double_escape kinds.Backslash quote slash b text words is rest =
    slash_goes quote slash b text words (rw is tt) rest
stands_double_escape kinds.Space quote slash b text words is rest = slash_stays quote slash b text words (rw is tt) rest
stands_double_escape kinds.Hash quote slash b text words is rest = slash_stays quote slash b text words (rw is tt) rest
stands_double_escape kinds.SingleQuote quote slash b text words is rest =
    slash_stays quote slash b text words (rw is tt) rest
stands_double_escape kinds.Plain quote slash b text words is rest = slash_stays quote slash b text words (rw is tt) rest

-- one byte more
stands_before : (mode : Mode) (place b : ℕ) (text : List ℕ) (words : List (List ℕ))
    → Stands (step mode place (b ∷ []) (kind b)).0 text words
    → Stands mode (b ∷ text) (with_effect (step mode place (b ∷ []) (kind b)).1 words)
stands_before (Mode.outside inside) place b text words rest =
    stands_outside (kind b) inside place b text words refl rest
stands_before (Mode.escape inside slash) place b text words rest =
    stands_escape (kind b) inside slash b text words refl rest
stands_before Mode.comment place b text words rest = stands_comment (kind b) b text words refl rest
stands_before (Mode.single quote) place b text words rest = stands_single (kind b) quote b text words refl rest
stands_before (Mode.double quote) place b text words rest = stands_double (kind b) quote b text words refl rest
stands_before (Mode.double_escape quote slash) place b text words rest =
    stands_double_escape (kind b) quote slash b text words refl rest

-- what is added to nothing is what is read
same_read : (words others : List (List ℕ)) (r : Read) → r ≡ Ok words → r ≡ Ok others → words ≡ others
same_read words others r e f = cc

-- the end
stands_at_end : (mode : Mode) (words : List (List ℕ)) → ending mode ≡ Ok words → Stands mode [] words
stands_at_end (Mode.outside false) words e = subst (λ ws. Reads false [] ws) (same_read [] words _ refl e) Reads.end
stands_at_end (Mode.outside true) words e =
    subst (λ ws. Reads true [] ws) (same_read ([] ∷ []) words _ refl e) Reads.end_of_word
stands_at_end (Mode.escape inside slash) words e = λ b slash_is escapes.
    subst (λ ws. Reads inside (b ∷ []) ws) (ap (λ bytes. bytes ∷ []) (sym slash_is)
    ∙ same_read (slash ∷ []) words _ refl e) (Reads.last escapes)
stands_at_end Mode.comment words e = λ b remark hash lacks.
    subst (λ ws. Reads false (b ∷ remark ++ []) ws) (same_read [] words _ refl e)
    (Reads.comment remark hash lacks tt Reads.end)
stands_at_end (Mode.single quote) words e = absurd (cc)
stands_at_end (Mode.double quote) words e = absurd (cc)
stands_at_end (Mode.double_escape quote slash) words e = absurd (cc)

-- words with an effect before them
effects_ok : (effect : Effect) (r : Read) (words : List (List ℕ)) → effects effect r ≡ Ok words
    → (after : List (List ℕ)) × (r ≡ Ok after) × (with_effect effect after ≡ words)
effects_ok effect (Ok after) words e = (after, refl, same_read (with_effect effect after) words _ refl e)
effects_ok effect (Err place) words e = absurd (cc)

-- what the machine reads
stands : (text : List ℕ) (mode : Mode) (place : ℕ) (words : List (List ℕ)) → reading mode place text ≡ Ok words
    → Stands mode text words
stands [] mode place words e = stands_at_end mode words (sym (reading-end mode place) ∙ e)
stands (b ∷ text) mode place words e =
    let (after, rest, same) = effects_ok _ _ words (sym (reading-step mode place b text (kind b) refl) ∙ e) in
    subst (λ ws. Stands mode (b ∷ text) ws) same
    (stands_before mode place b text after (stands text (step mode place (b ∷ []) (kind b)).0 (suc place) after rest))

-- what is read is in the grammar
pub read_stands : (text : List ℕ) (words : List (List ℕ)) → reading (Mode.outside false) 0 text ≡ Ok words
    → Reads false text words
read_stands text words e = stands text (Mode.outside false) 0 words e
