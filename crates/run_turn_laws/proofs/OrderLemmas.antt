-- The text of fields in the order in which they stand is read as the object of these fields.
use Rattle.std.proofs.Common.{◌≡◌, ◌∙◌, ℕ, ◌≤◌, Bool, true, false, List, [], ◌∷◌, Option, Some, None, pos, negsuc}
use Rattle.std.proofs.Common.{IsUtf8, option_map, option_and_then, refl, sym, ap, arith, append-nil}
use Rattle.std.proofs.lemmas.Fmt.{IsAscii-decimal, IsAscii-signed}
use Rattle.std.proofs.lemmas.Str.{IsUtf8-append, IsUtf8-nil, IsUtf8-from_ascii, is_utf8-from_IsUtf8}
use Rattle.std.specs.Str.{is_utf8}
use Rattle.json.specs.Json as json
use Rattle.json.specs.Print.{token_text}
use Rattle.json.specs.Token.{Token}
use Rattle.json.specs.Tree as tree
use Rattle.json.proofs.Printed.Decimals.{IsNumber-decimal, IsNumber-signed_decimal}
use Rattle.json.proofs.Printed.Tokens.{tokens-print}
use Rattle.json.proofs.Printed.Trees.{value-json_tokens, ArePrintable-json_tokens}
use Rattle.json.proofs.Printed.Utf8.{IsUtf8-are_ascii, IsUtf8-quoted, IsUtf8-boolean}
use Rattle.serde_json.specs.Data.{Num, unsigned, negative, float, Data, null, boolean, number, string, array, object}
use Rattle.serde_json.specs.Data.{Members, no_members, put, depth}
use Rattle.serde_json.specs.Read.{read, max_depth, of_json, of_members}
use Rattle.serde_json.specs.Written.{compact_text, members_text, outline, members_outline, comma_if}
use Rattle.serde_json.proofs.Numbers.{number_of-decimal, number_of-negative}
use Rattle.serde_json.proofs.Texts.{print-outline}
use Rattle.run_output.specs.Fields.{put_all, object_of}
use Rattle.run_text_laws.specs.Objects.{ArePlainFields, AreShallow}
use Rattle.run_text_laws.specs.Plain.{IsWholeNumber, IsPlain}
use Rattle.run_turn_laws.specs.Order.{members_in_order, text_in_order}

-- what the text of a value is: it is read as that value, its number is one of JSON, and it is UTF-8
record IsText (d : Data) : Type 0 where
  again : of_json (outline d) ≡ Some d
  numbers : tree.HasNumbers (outline d)
  flat : tree.depth (outline d) ≡ 0
  utf8 : IsUtf8 (compact_text d)

-- a whole number is such a value
number_text_is : (n : Num) → IsWholeNumber n → IsText (number n)
number_text_is (unsigned n) h = record {
  again = ap (option_map number) (number_of-decimal n h);
  numbers = IsNumber-decimal n h;
  flat = refl;
  utf8 = IsUtf8-from_ascii _ (IsAscii-decimal n h);
}
number_text_is (negative (pos n)) h = absurd h
number_text_is (negative (negsuc n)) h = record {
  again = ap (option_map number) (number_of-negative n (omega (arith, h)));
  numbers = IsNumber-signed_decimal (negsuc n) (omega (arith, h));
  flat = refl;
  utf8 = IsUtf8-from_ascii _ (IsAscii-signed (negsuc n) (omega (arith, h)));
}
number_text_is (float x) h = absurd h

-- each plain value that nests nothing is such a value
text_is : (d : Data) → IsPlain d → depth d ≤ 0 → IsText d
text_is null h low = record {
  again = refl;
  numbers = tt;
  flat = refl;
  utf8 = IsUtf8-are_ascii (token_text Token.null) refl;
}
text_is (boolean b) h low = record { again = refl; numbers = tt; flat = refl; utf8 = IsUtf8-boolean b }
text_is (number n) h low = number_text_is n h
text_is (string s) h low = record { again = refl; numbers = tt; flat = refl; utf8 = IsUtf8-quoted s h }
text_is (array ds) h low = absurd (omega (arith, low))
text_is (object ms) h low = absurd (omega (arith, low))

-- members are read one after another, each put to those before it
members_again : (fields : List (List ℕ × Option Data)) (found : Members) → ArePlainFields fields → AreShallow 0 fields
    → of_members (members_outline (members_in_order fields)) found ≡ Some (put_all fields found)
members_again [] found h low = refl
members_again ((key, None) ∷ fields) found h low = members_again fields found h.2 low.1
members_again ((key, Some d) ∷ fields) found h low =
    ap (option_and_then (λ d. of_members (members_outline (members_in_order fields)) (put key d found)))
    (text_is d h.1 low.0).again
    ∙ members_again fields (put key d found) h.2 low.1

-- their numbers are numbers of JSON
members_numbers : (fields : List (List ℕ × Option Data)) → ArePlainFields fields → AreShallow 0 fields
    → tree.MembersHaveNumbers (members_outline (members_in_order fields))
members_numbers [] h low = tt
members_numbers ((key, None) ∷ fields) h low = members_numbers fields h.2 low.1
members_numbers ((key, Some d) ∷ fields) h low =
    ((text_is d h.1 low.0).numbers, members_numbers fields h.2 low.1)

-- they nest nothing
members_flat : (fields : List (List ℕ × Option Data)) → ArePlainFields fields → AreShallow 0 fields
    → tree.members_depth (members_outline (members_in_order fields)) ≡ 0
members_flat [] h low = refl
members_flat ((key, None) ∷ fields) h low = members_flat fields h.2 low.1
members_flat ((key, Some d) ∷ fields) h low =
    omega (arith, (text_is d h.1 low.0).flat, members_flat fields h.2 low.1)

-- a byte that is UTF-8 before a text that is gives one that is
after_byte : (x : ℕ) (xs : List ℕ) → IsUtf8 (x ∷ []) → IsUtf8 xs → IsUtf8 (x ∷ xs)
after_byte x xs first rest = IsUtf8-append (x ∷ []) xs first rest

-- a comma, or nothing, is UTF-8
comma_utf8 : (later : Bool) → IsUtf8 (comma_if later)
comma_utf8 true = IsUtf8-are_ascii (44 ∷ []) refl
comma_utf8 false = IsUtf8-nil

-- their text is UTF-8
members_utf8 : (later : Bool) (fields : List (List ℕ × Option Data)) → ArePlainFields fields → AreShallow 0 fields
    → IsUtf8 (members_text later (members_in_order fields))
members_utf8 later [] h low = IsUtf8-are_ascii (125 ∷ []) refl
members_utf8 later ((key, None) ∷ fields) h low = members_utf8 later fields h.2 low.1
members_utf8 later ((key, Some d) ∷ fields) h low =
    IsUtf8-append _ _ (comma_utf8 later) (IsUtf8-append _ _ (IsUtf8-quoted key h.0)
    (after_byte 58 _ (IsUtf8-are_ascii (58 ∷ []) refl)
    (IsUtf8-append _ _ (text_is d h.1 low.0).utf8 (members_utf8 true fields h.2 low.1))))

-- the value of what was read, if nothing follows it
abbrev whole : Option (json.Json × List Token) → Option Data
whole o = option_and_then of_json (option_and_then (λ p. json.if_last p.0 p.1) o)

-- their object is read as the object of the fields
read_as_object : (fields : List (List ℕ × Option Data)) → ArePlainFields fields → AreShallow 0 fields
    → read (text_in_order fields) ≡ Some (object_of fields)
read_as_object fields h low =
    let d : Data = object (members_in_order fields) in
    let ts = tree.json_tokens (outline d) in
    ap read (sym (print-outline d))
    ∙ ap (λ us. whole (json.value max_depth us))
    (tokens-print ts (ArePrintable-json_tokens (outline d) (members_numbers fields h low)) ∙ sym (append-nil ts))
    ∙ ap whole (value-json_tokens (outline d) max_depth [] (omega (arith, members_flat fields h low)))
    ∙ ap (option_map object) (members_again fields no_members h low)

-- the text of an object of plain fields that nest nothing is UTF-8, and is read as that object
pub record IsReadInOrder (fields : List (List ℕ × Option Data)) : Type 0 where
  pub utf8 : is_utf8 (text_in_order fields) ≡ true
  pub read : read (text_in_order fields) ≡ Some (object_of fields)

pub read_in_order : (fields : List (List ℕ × Option Data)) → ArePlainFields fields → AreShallow 0 fields
    → IsReadInOrder fields
read_in_order fields h low = record {
  utf8 = is_utf8-from_IsUtf8 _ (after_byte 123 _ (IsUtf8-are_ascii (123 ∷ []) refl) (members_utf8 false fields h low));
  read = read_as_object fields h low;
}
