-- The text of plain data is read as that data.
use Rattle.std.proofs.Common.{◌≡◌, ◌∙◌, ℕ, suc, ◌≤◌, max, Bool, true, false, List, [], ◌∷◌, Some, Option, pos, negsuc}
use Rattle.std.proofs.Common.{IsUtf8, decimal, option_map, option_and_then, refl, sym, ap, ap₂, arith, append-nil}
use Rattle.std.proofs.Common.{nat_cmp, Less, Greater}
use Rattle.std.specs.Prelude.{⊤}
use Rattle.std.specs.Fmt.{signed_decimal}
use Rattle.std.specs.Ordering.{ordering_reverse}
use Rattle.std.specs.Cmp.Lexicographic.{slice_cmp}
use Rattle.std.proofs.lemmas.Cmp.{nat_list_cmp_total}
use Rattle.std.proofs.lemmas.Str.{IsUtf8-append, IsUtf8-nil, IsUtf8-from_ascii, is_utf8-from_IsUtf8}
use Rattle.std.proofs.lemmas.Fmt.{IsAscii-decimal, IsAscii-signed}
use Rattle.json.specs.Json as json
use Rattle.json.specs.Tree as tree
use Rattle.json.specs.Print.{token_text}
use Rattle.json.specs.Token.{Token}
use Rattle.json.proofs.Printed.Trees.{value-json_tokens, ArePrintable-json_tokens}
use Rattle.json.proofs.Printed.Tokens.{tokens-print}
use Rattle.json.proofs.Printed.Decimals.{IsNumber-decimal, IsNumber-signed_decimal}
use Rattle.json.proofs.Printed.Utf8.{IsUtf8-are_ascii, IsUtf8-quoted, IsUtf8-boolean}
use Rattle.serde_json.specs.Data.{Num, unsigned, negative, float, Data, null, boolean, number, string, array, object}
use Rattle.serde_json.specs.Data.{Items, no_items, item, Members, no_members, member, put, depth, items_depth}
use Rattle.serde_json.specs.Data.{members_depth}
use Rattle.serde_json.specs.Read.{read, max_depth, of_json, of_items, of_members, number_of}
use Rattle.serde_json.specs.Written.{compact_text, items_text, members_text, outline, items_outline, members_outline}
use Rattle.serde_json.specs.Written.{has_float, number_text, comma_if, items_have_float, members_have_float}
use Rattle.serde_json.proofs.Numbers.{number_of-decimal, number_of-negative}
use Rattle.serde_json.proofs.Texts.{print-outline}
use Rattle.run_text_laws.specs.Plain.{IsWholeNumber, IsBelowAll, IsPlain, ArePlain, MembersArePlain, IsRead}

-- ---- members one after another

-- the members of the one, then of the other
abbrev joined : Members → Members → Members
joined no_members ms = ms
joined (member k d more) ms = member k d (joined more ms)

-- the order of joining is the same
joined-assoc : (a b c : Members) → joined (joined a b) c ≡ joined a (joined b c)
joined-assoc no_members b c = refl
joined-assoc (member k d a) b c = ap (member k d) (joined-assoc a b c)

-- no members at the end add nothing
joined-none : (a : Members) → joined a no_members ≡ a
joined-none no_members = refl
joined-none (member k d a) = ap (member k d) (joined-none a)

-- each key stands before this one
abbrev AreBefore : Members → List ℕ → Type 0
AreBefore no_members k = ⊤
AreBefore (member l d ms) k = (slice_cmp nat_cmp l k ≡ Less) × AreBefore ms k

-- each key of the first stands before each of the second
abbrev Precede : Members → Members → Type 0
Precede found no_members = ⊤
Precede found (member k d ms) = AreBefore found k × Precede found ms

-- a member whose key comes last goes to the end
put_end : (found : Members) (k : List ℕ) (d : Data) → AreBefore found k
    → put k d found ≡ joined found (member k d no_members)
put_end no_members k d h = refl
put_end (member l e ms) k d h =
    let above : slice_cmp nat_cmp k l ≡ Greater = nat_list_cmp_total.antisymm k l ∙ ap ordering_reverse h.0 in
    rw above (ap (member l e) (put_end ms k d h.1))

-- keys stand before a key also with one more at the end that does
before_one_more : (found : Members) (k l : List ℕ) (d : Data) → AreBefore found l → slice_cmp nat_cmp k l ≡ Less
    → AreBefore (joined found (member k d no_members)) l
before_one_more no_members k l d h below = (below, tt)
before_one_more (member j e ms) k l d h below = (h.0, before_one_more ms k l d h.1 below)

-- members precede others also with one more at the end that does
precede_one_more : (found ms : Members) (k : List ℕ) (d : Data) → Precede found ms → IsBelowAll k ms
    → Precede (joined found (member k d no_members)) ms
precede_one_more found no_members k d h below = tt
precede_one_more found (member l e ms) k d h below =
    (before_one_more found k l d h.0 below.0, precede_one_more found ms k d h.1 below.1)

-- no members precede all
none_precedes : (ms : Members) → Precede no_members ms
none_precedes no_members = tt
none_precedes (member k d ms) = (tt, none_precedes ms)

-- ---- the outline is read as the data

-- the text of a whole number is that number
number_read : (n : Num) → IsWholeNumber n → number_of (number_text n) ≡ Some n
number_read (unsigned n) h = number_of-decimal n h
number_read (negative (pos n)) h = absurd h
number_read (negative (negsuc n)) h = number_of-negative n (omega (arith, h))
number_read (float x) h = absurd h

mutual
  -- the outline of a plain value is read as it
  of_outline : (d : Data) → IsPlain d → of_json (outline d) ≡ Some d
  of_outline null h = refl
  of_outline (boolean b) h = refl
  of_outline (number n) h = ap (option_map number) (number_read n h)
  of_outline (string s) h = refl
  of_outline (array ds) h = ap (option_map array) (of_items_outline ds h)
  of_outline (object ms) h = ap (option_map object) (of_members_outline no_members ms h (none_precedes ms))

  -- the outlines of plain items are read as these
  of_items_outline : (ds : Items) → ArePlain ds → of_items (items_outline ds) ≡ Some ds
  of_items_outline no_items h = refl
  of_items_outline (item d ds) h =
      ap (option_and_then (λ d. option_map (item d) (of_items (items_outline ds)))) (of_outline d h.0)
      ∙ ap (option_map (item d)) (of_items_outline ds h.1)

  -- the outlines of plain members are read as these, after those that were found
  of_members_outline : (found ms : Members) → MembersArePlain ms → Precede found ms
      → of_members (members_outline ms) found ≡ Some (joined found ms)
  of_members_outline found no_members h p = ap Some (sym (joined-none found))
  of_members_outline found (member k d ms) h p =
      ap (option_and_then (λ d. of_members (members_outline ms) (put k d found))) (of_outline d h.1)
      ∙ ap (of_members (members_outline ms)) (put_end found k d p.0)
      ∙ of_members_outline (joined found (member k d no_members)) ms h.3 (precede_one_more found ms k d p.1 h.2)
      ∙ ap Some (joined-assoc found (member k d no_members) ms)

-- ---- it has numbers, and is as deep

-- the text of a whole number is a number of JSON
number_is : (n : Num) → IsWholeNumber n → tree.HasNumbers (json.number (number_text n))
number_is (unsigned n) h = IsNumber-decimal n h
number_is (negative (pos n)) h = absurd h
number_is (negative (negsuc n)) h = IsNumber-signed_decimal (negsuc n) (omega (arith, h))
number_is (float x) h = absurd h

mutual
  -- each number in the outline of a plain value is one of JSON
  has_numbers : (d : Data) → IsPlain d → tree.HasNumbers (outline d)
  has_numbers null h = tt
  has_numbers (boolean b) h = tt
  has_numbers (number n) h = number_is n h
  has_numbers (string s) h = tt
  has_numbers (array ds) h = items_have_numbers ds h
  has_numbers (object ms) h = members_have_numbers ms h

  -- each number in the outlines of plain items is one of JSON
  items_have_numbers : (ds : Items) → ArePlain ds → tree.ItemsHaveNumbers (items_outline ds)
  items_have_numbers no_items h = tt
  items_have_numbers (item d ds) h = (has_numbers d h.0, items_have_numbers ds h.1)

  -- each number in the outlines of plain members is one of JSON
  members_have_numbers : (ms : Members) → MembersArePlain ms → tree.MembersHaveNumbers (members_outline ms)
  members_have_numbers no_members h = tt
  members_have_numbers (member k d ms) h = (has_numbers d h.1, members_have_numbers ms h.3)

mutual
  -- an outline is as deep as its value
  depth-outline : (d : Data) → tree.depth (outline d) ≡ depth d
  depth-outline null = refl
  depth-outline (boolean b) = refl
  depth-outline (number n) = refl
  depth-outline (string s) = refl
  depth-outline (array ds) = ap suc (depth-items ds)
  depth-outline (object ms) = ap suc (depth-members ms)

  -- outlines of items are as deep as these
  depth-items : (ds : Items) → tree.items_depth (items_outline ds) ≡ items_depth ds
  depth-items no_items = refl
  depth-items (item d ds) = ap₂ max (depth-outline d) (depth-items ds)

  -- outlines of members are as deep as these
  depth-members : (ms : Members) → tree.members_depth (members_outline ms) ≡ members_depth ms
  depth-members no_members = refl
  depth-members (member k d ms) = ap₂ max (depth-outline d) (depth-members ms)

-- ---- it has no float, and its text is UTF-8

mutual
  -- a plain value has no float
  floatless : (d : Data) → IsPlain d → has_float d ≡ false
  floatless null h = refl
  floatless (boolean b) h = refl
  floatless (number (unsigned n)) h = refl
  floatless (number (negative z)) h = refl
  floatless (number (float x)) h = absurd h
  floatless (string s) h = refl
  floatless (array ds) h = floatless_items ds h
  floatless (object ms) h = floatless_members ms h

  -- plain items have no float
  floatless_items : (ds : Items) → ArePlain ds → items_have_float ds ≡ false
  floatless_items no_items h = refl
  floatless_items (item d ds) h = rw (floatless d h.0) (floatless_items ds h.1)

  -- plain members have no float
  floatless_members : (ms : Members) → MembersArePlain ms → members_have_float ms ≡ false
  floatless_members no_members h = refl
  floatless_members (member k d ms) h = rw (floatless d h.1) (floatless_members ms h.3)

-- a byte that is UTF-8 before a text that is gives one that is
one : (x : ℕ) (xs : List ℕ) → IsUtf8 (x ∷ []) → IsUtf8 xs → IsUtf8 (x ∷ xs)
one x xs first rest = IsUtf8-append (x ∷ []) xs first rest

-- a comma, or nothing, is UTF-8
comma : (b : Bool) → IsUtf8 (comma_if b)
comma true = IsUtf8-are_ascii (44 ∷ []) refl
comma false = IsUtf8-nil

-- the text of a whole number is UTF-8
number_utf8 : (n : Num) → IsWholeNumber n → IsUtf8 (number_text n)
number_utf8 (unsigned n) h = IsUtf8-from_ascii (decimal n) (IsAscii-decimal n h)
number_utf8 (negative (pos n)) h = absurd h
number_utf8 (negative (negsuc n)) h =
    IsUtf8-from_ascii (signed_decimal (negsuc n)) (IsAscii-signed (negsuc n) (omega (arith, h)))
number_utf8 (float x) h = absurd h

mutual
  -- the text of a plain value is UTF-8
  text_utf8 : (d : Data) → IsPlain d → IsUtf8 (compact_text d)
  text_utf8 null h = IsUtf8-are_ascii (token_text Token.null) refl
  text_utf8 (boolean b) h = IsUtf8-boolean b
  text_utf8 (number n) h = number_utf8 n h
  text_utf8 (string s) h = IsUtf8-quoted s h
  text_utf8 (array ds) h = one 91 _ (IsUtf8-are_ascii (91 ∷ []) refl) (items_utf8 false ds h)
  text_utf8 (object ms) h = one 123 _ (IsUtf8-are_ascii (123 ∷ []) refl) (members_utf8 false ms h)

  -- the text of plain items is UTF-8
  items_utf8 : (later : Bool) (ds : Items) → ArePlain ds → IsUtf8 (items_text later ds)
  items_utf8 later no_items h = IsUtf8-are_ascii (93 ∷ []) refl
  items_utf8 later (item d ds) h =
      IsUtf8-append _ _ (comma later) (IsUtf8-append _ _ (text_utf8 d h.0) (items_utf8 true ds h.1))

  -- the text of plain members is UTF-8
  members_utf8 : (later : Bool) (ms : Members) → MembersArePlain ms → IsUtf8 (members_text later ms)
  members_utf8 later no_members h = IsUtf8-are_ascii (125 ∷ []) refl
  members_utf8 later (member k d ms) h =
      IsUtf8-append _ _ (comma later) (IsUtf8-append _ _ (IsUtf8-quoted k h.0)
      (one 58 _ (IsUtf8-are_ascii (58 ∷ []) refl) (IsUtf8-append _ _ (text_utf8 d h.1) (members_utf8 true ms h.3))))

-- ---- together

-- the value of what was read, if nothing follows it
abbrev whole : Option (json.Json × List Token) → Option Data
whole o = option_and_then of_json (option_and_then (λ p. json.if_last p.0 p.1) o)

-- the text of a plain value is read as that value
read_back : (d : Data) → IsPlain d → depth d ≤ max_depth → read (compact_text d) ≡ Some d
read_back d h shallow =
    let ts = tree.json_tokens (outline d) in
    ap read (sym (print-outline d))
    ∙ ap (λ us. whole (json.value max_depth us))
    (tokens-print ts (ArePrintable-json_tokens (outline d) (has_numbers d h)) ∙ sym (append-nil ts))
    ∙ ap whole (value-json_tokens (outline d) max_depth [] (omega (arith, shallow, depth-outline d)))
    ∙ of_outline d h

-- the text of each plain value is read back
pub all_read : (d : Data) → IsPlain d → depth d ≤ max_depth → IsRead d
all_read d h shallow = record {
  utf8 = is_utf8-from_IsUtf8 (compact_text d) (text_utf8 d h);
  read = read_back d h shallow;
  whole = floatless d h;
}
