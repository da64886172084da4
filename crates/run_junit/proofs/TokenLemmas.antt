-- The bytes of tokens and of attributes.
use Rattle.std.proofs.Common.{◌≡◌, ℕ, List, [], ◌∷◌, ◌++◌, refl, sym, ap, ◌∙◌, append_assoc, append-nil, codes}
use Rattle.std.proofs.Common.{Some, Result, Ok, Err, OnOk}
use Rattle.std.proofs.Common.{◌+◌, ◌<◌, length, take, get_or}
use Rattle.std.proofs.lemmas.List.{take_more}
use Rattle.std.specs.List.{flat_map}
use Rattle.std.proofs.lemmas.List.Concat.{flat_map-append}
use Rattle.run_junit.specs.declared.tag.Key.{Key}
use Rattle.run_junit.specs.declared.tag.Tag.{Tag}
use Rattle.run_junit.specs.Tokens.{Attribute, Token, attribute_bytes, attributes_bytes, end, line, new_line_bytes}
use Rattle.run_junit.specs.Tokens.{start}
use Rattle.run_junit.specs.Tokens.{declaration, tag_name, token_bytes, tokens_bytes, written}
use Rattle.run_junit.specs.Cases.{stream_tokens}
use Rattle.run_junit.specs.Escape.{body_text}

-- attributes, and one more behind them
pub one_attribute_more : (front : List ℕ) (xs : List Attribute) (x : Attribute)
    → (front ++ attributes_bytes xs) ++ attribute_bytes x ≡ front ++ attributes_bytes (xs ++ x ∷ [])
unfolding attributes_bytes
one_attribute_more front xs x =
    append_assoc front _ _
    ∙ ap (λ bytes. front ++ (attributes_bytes xs ++ bytes)) (sym (append-nil (attribute_bytes x)))
    ∙ ap (λ bytes. front ++ bytes) (sym (flat_map-append attribute_bytes xs (x ∷ [])))

-- attributes, and others behind them
pub attributes_two : (front : List ℕ) (xs ys : List Attribute)
    → (front ++ attributes_bytes xs) ++ attributes_bytes ys ≡ front ++ attributes_bytes (xs ++ ys)
unfolding attributes_bytes
attributes_two front xs ys =
    append_assoc front _ _ ∙ ap (λ bytes. front ++ bytes) (sym (flat_map-append attribute_bytes xs ys))

-- two attributes, and others behind them
pub two_attributes : (front : List ℕ) (x y : Attribute) (zs : List Attribute)
    → ((front ++ attribute_bytes x) ++ attribute_bytes y) ++ attributes_bytes zs
    ≡ front ++ attributes_bytes (x ∷ y ∷ zs)
unfolding attributes_bytes
two_attributes front x y zs =
    append_assoc (front ++ attribute_bytes x) _ _ ∙ append_assoc front _ _

-- two attributes
pub both_attributes : (front : List ℕ) (x y : Attribute)
    → (front ++ attribute_bytes x) ++ attribute_bytes y ≡ front ++ attributes_bytes (x ∷ y ∷ [])
unfolding attributes_bytes
both_attributes front x y =
    append_assoc front _ _
    ∙ ap (λ bytes. front ++ (attribute_bytes x ++ bytes)) (sym (append-nil (attribute_bytes y)))

-- an element that begins on a line of its own
pub line_start : (depth : ℕ) (tag : Tag) (said : List Attribute)
    → ((new_line_bytes depth ++ (60 ∷ tag_name tag)) ++ attributes_bytes said) ++ codes ">"
    ≡ tokens_bytes (line depth ∷ start tag said ∷ [])
unfolding tokens_bytes
line_start depth tag said =
    append_assoc (new_line_bytes depth ++ (60 ∷ tag_name tag)) _ _
    ∙ append_assoc (new_line_bytes depth) _ _
    ∙ ap (λ bytes. new_line_bytes depth ++ bytes) (sym (append-nil _))

-- the same without attributes
pub bare_start : (depth : ℕ) (tag : Tag)
    → (new_line_bytes depth ++ (60 ∷ tag_name tag)) ++ codes ">" ≡ tokens_bytes (line depth ∷ start tag [] ∷ [])
unfolding tokens_bytes attributes_bytes
bare_start depth tag =
    append_assoc (new_line_bytes depth) _ _ ∙ ap (λ bytes. new_line_bytes depth ++ bytes) (sym (append-nil _))

-- tokens, and others behind them
pub tokens_two : (front : List ℕ) (xs ys : List Token)
    → (front ++ tokens_bytes xs) ++ tokens_bytes ys ≡ front ++ tokens_bytes (xs ++ ys)
unfolding tokens_bytes
tokens_two front xs ys =
    append_assoc front _ _ ∙ ap (λ bytes. front ++ bytes) (sym (flat_map-append token_bytes xs ys))

-- the same with nothing before them
pub tokens_join : (xs ys : List Token) → tokens_bytes xs ++ tokens_bytes ys ≡ tokens_bytes (xs ++ ys)
tokens_join xs ys = tokens_two [] xs ys

-- where an element ends
pub end_bytes : (tag : Tag) → 60 ∷ 47 ∷ (tag_name tag ++ codes ">") ≡ tokens_bytes (end tag ∷ [])
unfolding tokens_bytes
end_bytes tag = sym (append-nil _)

-- an element on a line of its own
pub line_start_end : (depth : ℕ) (tag : Tag) (said : List Attribute)
    → (((new_line_bytes depth ++ (60 ∷ tag_name tag)) ++ attributes_bytes said) ++ codes ">")
    ++ (60 ∷ 47 ∷ (tag_name tag ++ codes ">"))
    ≡ tokens_bytes (line depth ∷ start tag said ∷ end tag ∷ [])
line_start_end depth tag said =
    ap (λ bytes. bytes ++ (60 ∷ 47 ∷ (tag_name tag ++ codes ">"))) (line_start depth tag said)
    ∙ ap (λ bytes. tokens_bytes (line depth ∷ start tag said ∷ []) ++ bytes) (end_bytes tag)
    ∙ tokens_join (line depth ∷ start tag said ∷ []) (end tag ∷ [])

-- no tokens
pub no_tokens : (front : List ℕ) → front ≡ front ++ tokens_bytes []
unfolding tokens_bytes
no_tokens front = sym (append-nil front)

-- three, four and five lists of tokens behind some bytes
pub tokens_three : (front : List ℕ) (xs ys zs : List Token)
    → ((front ++ tokens_bytes xs) ++ tokens_bytes ys) ++ tokens_bytes zs ≡ front ++ tokens_bytes (xs ++ (ys ++ zs))
tokens_three front xs ys zs = tokens_two (front ++ tokens_bytes xs) ys zs ∙ tokens_two front xs (ys ++ zs)

pub tokens_four : (front : List ℕ) (ws xs ys zs : List Token)
    → (((front ++ tokens_bytes ws) ++ tokens_bytes xs) ++ tokens_bytes ys) ++ tokens_bytes zs
    ≡ front ++ tokens_bytes (ws ++ (xs ++ (ys ++ zs)))
tokens_four front ws xs ys zs =
    tokens_three (front ++ tokens_bytes ws) xs ys zs ∙ tokens_two front ws (xs ++ (ys ++ zs))

pub tokens_five : (front : List ℕ) (vs ws xs ys zs : List Token)
    → ((((front ++ tokens_bytes vs) ++ tokens_bytes ws) ++ tokens_bytes xs) ++ tokens_bytes ys) ++ tokens_bytes zs
    ≡ front ++ tokens_bytes (vs ++ (ws ++ (xs ++ (ys ++ zs))))
tokens_five front vs ws xs ys zs =
    tokens_four (front ++ tokens_bytes vs) ws xs ys zs ∙ tokens_two front vs (ws ++ (xs ++ (ys ++ zs)))

-- an output
written_bytes : (bytes : List ℕ) → body_text bytes ≡ tokens_bytes (written bytes ∷ [])
unfolding tokens_bytes
written_bytes bytes = sym (append-nil (body_text bytes))

-- an output in its element
pub stream_bytes : (front : List ℕ) (depth : ℕ) (tag : Tag) (bytes : List ℕ)
    → ((front ++ tokens_bytes (line depth ∷ start tag [] ∷ [])) ++ body_text bytes) ++ tokens_bytes (end tag ∷ [])
    ≡ front ++ tokens_bytes (stream_tokens depth tag (Some bytes))
stream_bytes front depth tag bytes =
    ap (λ text. ((front ++ tokens_bytes (line depth ∷ start tag [] ∷ [])) ++ text) ++ tokens_bytes (end tag ∷ []))
    (written_bytes bytes)
    ∙ tokens_three front (line depth ∷ start tag [] ∷ []) (written bytes ∷ []) (end tag ∷ [])

-- an attribute before others
one_first : (x : Attribute) (ys : List Attribute)
    → attribute_bytes x ++ attributes_bytes ys ≡ attributes_bytes (x ∷ ys)
unfolding attributes_bytes
one_first x ys = refl

-- a token before others
first_token : (x : Token) (ys : List Token) → token_bytes x ++ tokens_bytes ys ≡ tokens_bytes (x ∷ ys)
unfolding tokens_bytes
first_token x ys = refl

-- five attributes
pub attributes_of_five : (front : List ℕ) (v w x y z : Attribute)
    → ((((front ++ attribute_bytes v) ++ attribute_bytes w) ++ attribute_bytes x) ++ attribute_bytes y)
    ++ attribute_bytes z
    ≡ front ++ attributes_bytes (v ∷ w ∷ x ∷ y ∷ z ∷ [])
attributes_of_five front v w x y z =
    let four = ((front ++ attribute_bytes v) ++ attribute_bytes w) ++ attribute_bytes x in
    both_attributes four y z
    ∙ append_assoc ((front ++ attribute_bytes v) ++ attribute_bytes w) (attribute_bytes x) _
    ∙ ap (λ bytes. ((front ++ attribute_bytes v) ++ attribute_bytes w) ++ bytes) (one_first x (y ∷ z ∷ []))
    ∙ two_attributes front v w (x ∷ y ∷ z ∷ [])

-- where a document begins
pub document_start : (tag : Tag) (said : List Attribute)
    → (((token_bytes declaration ++ new_line_bytes 0) ++ (60 ∷ tag_name tag)) ++ attributes_bytes said) ++ codes ">"
    ≡ tokens_bytes (declaration ∷ line 0 ∷ start tag said ∷ [])
document_start tag said =
    let open_tag = 60 ∷ tag_name tag in
    let rest = attributes_bytes said ++ codes ">" in
    append_assoc ((token_bytes declaration ++ new_line_bytes 0) ++ open_tag) (attributes_bytes said) (codes ">")
    ∙ append_assoc (token_bytes declaration ++ new_line_bytes 0) open_tag rest
    ∙ append_assoc (token_bytes declaration) (new_line_bytes 0) (open_tag ++ rest)
    ∙ ap (λ bytes. token_bytes declaration ++ bytes)
    (sym (append_assoc (new_line_bytes 0) open_tag rest)
    ∙ sym (append_assoc (new_line_bytes 0 ++ open_tag) (attributes_bytes said) (codes ">"))
    ∙ line_start 0 tag said)
    ∙ first_token declaration (line 0 ∷ start tag said ∷ [])

-- where it ends
pub document_end : (tag : Tag)
    → (new_line_bytes 0 ++ (60 ∷ 47 ∷ (tag_name tag ++ codes ">"))) ++ new_line_bytes 0
    ≡ tokens_bytes (line 0 ∷ end tag ∷ line 0 ∷ [])
unfolding tokens_bytes
document_end tag =
    let close = 60 ∷ 47 ∷ (tag_name tag ++ codes ">") in
    append_assoc (new_line_bytes 0) close (new_line_bytes 0)
    ∙ ap (λ bytes. new_line_bytes 0 ++ (close ++ bytes)) (sym (append-nil (new_line_bytes 0)))

-- lists of tokens that are made one by one
pub flat_tokens_more : {X : Type 0} (f : X → List Token) (front : List ℕ) (xs : List X) (i : ℕ) (x : X) → i < length xs
    → x ≡ get_or xs i x
    → (front ++ tokens_bytes (flat_map f (take i xs))) ++ tokens_bytes (f x)
    ≡ front ++ tokens_bytes (flat_map f (take (i + 1) xs))
flat_tokens_more f front xs i x below same =
    let next : take (i + 1) xs ≡ take i xs ++ x ∷ [] =
    take_more xs i x below ∙ ap (λ y. take i xs ++ y ∷ []) (sym same) in
    tokens_two front (flat_map f (take i xs)) (f x)
    ∙ ap (λ tokens. front ++ tokens_bytes (flat_map f (take i xs) ++ tokens)) (sym (append-nil (f x)))
    ∙ ap (λ tokens. front ++ tokens_bytes tokens) (sym (flat_map-append f (take i xs) (x ∷ [])))
    ∙ ap (λ ys. front ++ tokens_bytes (flat_map f ys)) (sym next)

-- the same of texts that were made step by step

pub line_start_from : (depth : ℕ) (tag : Tag) (said : List Attribute) (a b c d e : List ℕ) → a ≡ []
    → b ≡ a ++ new_line_bytes depth → c ≡ b ++ (60 ∷ tag_name tag) → d ≡ c ++ attributes_bytes said → e ≡ d ++ codes ">"
    → e ≡ tokens_bytes (line depth ∷ start tag said ∷ [])
line_start_from depth tag said a b c d e first second third fourth fifth =
    fifth ∙ ap (λ bytes. bytes ++ codes ">") (fourth ∙ ap (λ bytes. bytes ++ attributes_bytes said)
    (third ∙ ap (λ bytes. bytes ++ (60 ∷ tag_name tag)) (second ∙ ap (λ bytes. bytes ++ new_line_bytes depth) first)))
    ∙ line_start depth tag said

pub line_start_end_from : (depth : ℕ) (tag : Tag) (said : List Attribute) (a b c d e f : List ℕ) → a ≡ []
    → b ≡ a ++ new_line_bytes depth → c ≡ b ++ (60 ∷ tag_name tag) → d ≡ c ++ attributes_bytes said → e ≡ d ++ codes ">"
    → f ≡ e ++ (60 ∷ 47 ∷ (tag_name tag ++ codes ">"))
    → f ≡ tokens_bytes (line depth ∷ start tag said ∷ end tag ∷ [])
line_start_end_from depth tag said a b c d e f first second third fourth fifth sixth =
    sixth ∙ ap (λ bytes. bytes ++ (60 ∷ 47 ∷ (tag_name tag ++ codes ">")))
    (line_start_from depth tag said a b c d e first second third fourth fifth)
    ∙ ap (λ bytes. tokens_bytes (line depth ∷ start tag said ∷ []) ++ bytes) (end_bytes tag)
    ∙ tokens_join (line depth ∷ start tag said ∷ []) (end tag ∷ [])

pub two_attributes_from : (x y : Attribute) (zs : List Attribute) (a b c d : List ℕ) → b ≡ a ++ attribute_bytes x
    → c ≡ b ++ attribute_bytes y → d ≡ c ++ attributes_bytes zs → d ≡ a ++ attributes_bytes (x ∷ y ∷ zs)
two_attributes_from x y zs a b c d first second third =
    third ∙ ap (λ bytes. bytes ++ attributes_bytes zs) (second ∙ ap (λ bytes. bytes ++ attribute_bytes y) first)
    ∙ two_attributes a x y zs

pub both_attributes_from : (x y : Attribute) (a b c : List ℕ) → b ≡ a ++ attribute_bytes x → c ≡ b ++ attribute_bytes y
    → c ≡ a ++ attributes_bytes (x ∷ y ∷ [])
both_attributes_from x y a b c first second =
    second ∙ ap (λ bytes. bytes ++ attribute_bytes y) first ∙ both_attributes a x y

pub five_attributes_from : (v w x y z : Attribute) (a b c d e f : List ℕ) → b ≡ a ++ attribute_bytes v
    → c ≡ b ++ attribute_bytes w → d ≡ c ++ attribute_bytes x → e ≡ d ++ attribute_bytes y → f ≡ e ++ attribute_bytes z
    → f ≡ a ++ attributes_bytes (v ∷ w ∷ x ∷ y ∷ z ∷ [])
five_attributes_from v w x y z a b c d e f first second third fourth fifth =
    fifth ∙ ap (λ bytes. bytes ++ attribute_bytes z) (fourth ∙ ap (λ bytes. bytes ++ attribute_bytes y)
    (third ∙ ap (λ bytes. bytes ++ attribute_bytes x) (second ∙ ap (λ bytes. bytes ++ attribute_bytes w) first)))
    ∙ attributes_of_five a v w x y z

pub document_start_from : (tag : Tag) (said : List Attribute) (a b c d e : List ℕ) → a ≡ token_bytes declaration
    → b ≡ a ++ new_line_bytes 0 → c ≡ b ++ (60 ∷ tag_name tag) → d ≡ c ++ attributes_bytes said → e ≡ d ++ codes ">"
    → e ≡ tokens_bytes (declaration ∷ line 0 ∷ start tag said ∷ [])
document_start_from tag said a b c d e first second third fourth fifth =
    fifth ∙ ap (λ bytes. bytes ++ codes ">") (fourth ∙ ap (λ bytes. bytes ++ attributes_bytes said)
    (third ∙ ap (λ bytes. bytes ++ (60 ∷ tag_name tag)) (second ∙ ap (λ bytes. bytes ++ new_line_bytes 0) first)))
    ∙ document_start tag said

pub document_end_from : (tag : Tag) (a b c d : List ℕ) → a ≡ [] → b ≡ a ++ new_line_bytes 0
    → c ≡ b ++ (60 ∷ 47 ∷ (tag_name tag ++ codes ">")) → d ≡ c ++ new_line_bytes 0
    → d ≡ tokens_bytes (line 0 ∷ end tag ∷ line 0 ∷ [])
document_end_from tag a b c d first second third fourth =
    fourth ∙ ap (λ bytes. bytes ++ new_line_bytes 0) (third
    ∙ ap (λ bytes. bytes ++ (60 ∷ 47 ∷ (tag_name tag ++ codes ">"))) (second
    ∙ ap (λ bytes. bytes ++ new_line_bytes 0) first))
    ∙ document_end tag

-- the same where the last step may have failed

pub two_attributes_made : {T E : Type 0} (x y : Attribute) (zs : List Attribute) (a b c d : List ℕ) (r : Result T E)
    → b ≡ a ++ attribute_bytes x → c ≡ b ++ attribute_bytes y → OnOk r (d ≡ c ++ attributes_bytes zs)
    → OnOk r (d ≡ a ++ attributes_bytes (x ∷ y ∷ zs))
two_attributes_made x y zs a b c d (Ok _) first second third = two_attributes_from x y zs a b c d first second third
two_attributes_made x y zs a b c d (Err _) first second third = third

pub both_attributes_made : {T E : Type 0} (key : Key) (y : Attribute) (name other a b c : List ℕ) (r : Result T E)
    → name ≡ other → b ≡ a ++ attribute_bytes (key, name) → OnOk r (c ≡ b ++ attribute_bytes y)
    → OnOk r (c ≡ a ++ attributes_bytes ((key, other) ∷ y ∷ []))
both_attributes_made key y name other a b c (Ok _) same first second =
    both_attributes_from (key, name) y a b c first second
    ∙ ap (λ (n : List ℕ). a ++ attributes_bytes ((key, n) ∷ y ∷ [])) same
both_attributes_made key y name other a b c (Err _) same first second = second

pub five_attributes_made : {T E : Type 0} (v w x y z : Attribute) (a b c d e f : List ℕ) (r : Result T E)
    → b ≡ a ++ attribute_bytes v → c ≡ b ++ attribute_bytes w → d ≡ c ++ attribute_bytes x → e ≡ d ++ attribute_bytes y
    → OnOk r (f ≡ e ++ attribute_bytes z) → OnOk r (f ≡ a ++ attributes_bytes (v ∷ w ∷ x ∷ y ∷ z ∷ []))
five_attributes_made v w x y z a b c d e f (Ok _) first second third fourth fifth =
    five_attributes_from v w x y z a b c d e f first second third fourth fifth
five_attributes_made v w x y z a b c d e f (Err _) first second third fourth fifth = fifth
