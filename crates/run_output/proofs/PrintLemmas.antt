-- Values, and their tokens.
use Rattle.std.proofs.Common.{◌≡◌, refl, ap, sym, arith, ◌∙◌, ℕ, ℤ, pos, negsuc, zero, suc, ◌+◌, ◌<◌, ◌≤◌, ◌==◌}
use Rattle.std.proofs.Common.{List, [], ◌∷◌, ◌++◌, length, drop, get_or, map, append_assoc}
use Rattle.std.proofs.Common.{Option, Some, None, is_none, false, ◌&&◌}
use Rattle.std.proofs.lemmas.List.{append-nil, drop_more, drop_all}
use Rattle.std.specs.Borrow.{Bor}
use Rattle.std.specs.Fmt.{signed_decimal}
use Rattle.json.specs.Token.{Token, begin_array, end_array, begin_object, end_object}
use Rattle.json.specs.Token as token
use Rattle.json.specs.Print.{print}
use Rattle.json.specs.Tree.{json_tokens, items_tokens, members_tokens}
use Rattle.serde_json.specs.Data.{Data, array, string, object, Members}
use Rattle.serde_json.specs.View.{items_of}
use Rattle.serde_json.specs.Written.{outline, items_outline, members_outline, compact_text}
use Rattle.serde_json.proofs.Texts.{print-outline}
use Rattle.run_output.specs.Fields.{signed, nonzero, texts}
use Rattle.run_commands.specs.declared.errors.SetupScriptOutputError.{SetupScriptOutputError}
use Rattle.run_output.specs.Errors.{fault_errors, errors_data}
use Rattle.run_output.specs.Printer.{data_tokens, each_tokens, or_null}
use Rattle.run_output.specs.Rows.{members_from}
use Rattle.run_progress.proofs.SummaryLemmas.{not_zero}

-- a number that may be below 0
pub signed_tokens : (n : ℤ) (old new : List Token) → new ≡ old ++ token.number (signed_decimal n) ∷ []
    → new ≡ old ++ data_tokens (signed n)
unfolding data_tokens
signed_tokens (pos n) old new more = more
signed_tokens (negsuc n) old new more = more

-- the text of a value's tokens
pub print_data : (value : Data) → print (data_tokens value) ≡ compact_text value
unfolding data_tokens
print_data value = print-outline value

-- an object's tokens
pub object_tokens : (held : Members)
    → data_tokens (object held) ≡ begin_object ∷ members_tokens (members_outline held)
unfolding data_tokens
object_tokens held = refl

items_end : (list : List Data) → items_tokens (items_outline (items_of list)) ≡ each_tokens list ++ end_array ∷ []
unfolding data_tokens
items_end [] = refl
items_end (value ∷ later) = ap (λ ts. json_tokens (outline value) ++ ts) (items_end later)
    ∙ sym (append_assoc (json_tokens (outline value)) (each_tokens later) (end_array ∷ []))

-- an array's tokens
pub array_tokens : (list : List Data)
    → data_tokens (array (items_of list)) ≡ begin_array ∷ (each_tokens list ++ end_array ∷ [])
unfolding data_tokens
array_tokens list = ap (λ ts. begin_array ∷ ts) (items_end list)

-- ---- loops that print one after another

-- one more value of an array
pub next_printed : {X : Type 0} (f : X → Data) (list : List X) (i : ℕ) (x : X) (old new : List Token)
    → x ≡ get_or list i x → i < length list → new ≡ old ++ data_tokens (f x)
    → new ++ each_tokens (map f (drop (i + 1) list)) ≡ old ++ each_tokens (map f (drop i list))
next_printed f list i x old new is below more =
    let rest = each_tokens (map f (drop (i + 1) list)) in
    ap (λ ts. ts ++ rest) more ∙ append_assoc old (data_tokens (f x)) rest
    ∙ ap (λ y. old ++ (data_tokens (f y) ++ rest)) is
    ∙ ap (λ l. old ++ each_tokens (map f l)) (sym (drop_more list i x below))

-- the array as a whole
pub array_printed : {X : Type 0} (f : X → Data) (list : List X) (i : ℕ) (start opened out done : List Token)
    → opened ≡ start ++ begin_array ∷ []
    → out ++ each_tokens (map f (drop i list)) ≡ opened ++ each_tokens (map f list) → length list ≤ i
    → done ≡ out ++ end_array ∷ []
    → done ≡ start ++ data_tokens (array (items_of (map f list)))
array_printed f list i start opened out done begun before end ended =
    let all : out ≡ opened ++ each_tokens (map f list) =
    sym (append-nil out) ∙ ap (λ l. out ++ each_tokens (map f l)) (sym (drop_all i list end)) ∙ before in
    ended ∙ ap (λ ts. ts ++ end_array ∷ []) (all ∙ ap (λ ts. ts ++ each_tokens (map f list)) begun)
    ∙ append_assoc (start ++ begin_array ∷ []) (each_tokens (map f list)) (end_array ∷ [])
    ∙ append_assoc start (begin_array ∷ []) (each_tokens (map f list) ++ end_array ∷ [])
    ∙ ap (λ ts. start ++ ts) (sym (array_tokens (map f list)))

-- one more member of an object
pub row_printed : {F : Type 0} (printed : F → Option Data) (rows : List (Bor (List ℕ) × F)) (i : ℕ)
    (row : Bor (List ℕ) × F) (old named new : List Token)
    → row ≡ get_or rows i row → i < length rows → named ≡ old ++ token.key row.0.now ∷ []
    → new ≡ named ++ data_tokens (or_null (printed row.1))
    → new ++ members_tokens (members_outline (members_from printed (drop (i + 1) rows)))
    ≡ old ++ members_tokens (members_outline (members_from printed (drop i rows)))
unfolding data_tokens
row_printed printed rows i row old named new is below key value =
    let rest = members_tokens (members_outline (members_from printed (drop (i + 1) rows))) in
    let tokens = data_tokens (or_null (printed row.1)) in
    ap (λ ts. ts ++ rest) (value ∙ ap (λ ts. ts ++ tokens) key)
    ∙ append_assoc (old ++ token.key row.0.now ∷ []) tokens rest
    ∙ append_assoc old (token.key row.0.now ∷ []) (tokens ++ rest)
    ∙ ap (λ (r : Bor (List ℕ) × _). old ++ token.key r.0.now ∷ (data_tokens (or_null (printed r.1)) ++ rest)) is
    ∙ ap (λ l. old ++ members_tokens (members_outline (members_from printed l))) (sym (drop_more rows i row below))

-- the object as a whole
pub object_printed : {F : Type 0} (printed : F → Option Data) (rows : List (Bor (List ℕ) × F)) (i : ℕ)
    (start opened out done : List Token) → opened ≡ start ++ begin_object ∷ []
    → out ++ members_tokens (members_outline (members_from printed (drop i rows)))
    ≡ opened ++ members_tokens (members_outline (members_from printed rows)) → length rows ≤ i
    → done ≡ out ++ end_object ∷ []
    → done ≡ start ++ data_tokens (object (members_from printed rows))
object_printed printed rows i start opened out done begun before end ended =
    let all = members_tokens (members_outline (members_from printed rows)) in
    ended ∙ ap (λ l. out ++ members_tokens (members_outline (members_from printed l))) (sym (drop_all i rows end))
    ∙ before ∙ ap (λ ts. ts ++ all) begun ∙ append_assoc start (begin_object ∷ []) all
    ∙ ap (λ ts. start ++ ts) (sym (object_tokens (members_from printed rows)))

-- two texts
pub pair_printed : (a b : List ℕ) (start opened one two done : List Token) → opened ≡ start ++ begin_array ∷ []
    → one ≡ opened ++ data_tokens (string a) → two ≡ one ++ data_tokens (string b) → done ≡ two ++ end_array ∷ []
    → done ≡ start ++ data_tokens (texts (a ∷ b ∷ []))
unfolding data_tokens
pair_printed a b start opened one two done begun first second ended =
    ended ∙ ap (λ ts. ts ++ end_array ∷ []) (second ∙ ap (λ ts. ts ++ token.string b ∷ [])
    (first ∙ ap (λ ts. ts ++ token.string a ∷ []) begun)) ∙ simp append_assoc

-- ---- errors

pub map_twice : {X Y Z : Type 0} (f : Y → Z) (g : X → Y) (xs : List X) → map f (map g xs) ≡ map (λ x. f (g x)) xs
map_twice f g [] = refl
map_twice f g (x ∷ xs) = ap (λ l. f (g x) ∷ l) (map_twice f g xs)

-- there is none
pub errors_absent : (errors : List (List ℕ)) (fault : Option SetupScriptOutputError)
    → is_none (errors_data (errors ++ fault_errors fault)) ≡ ((length errors == 0) && is_none fault)
errors_absent [] None = refl
errors_absent [] (Some fault) = refl
errors_absent (error ∷ errors) fault = ap (λ b. b && is_none fault) (sym (not_zero (length errors)))

errors_some : (errors : List (List ℕ)) → is_none (errors_data errors) ≡ false
    → or_null (errors_data errors) ≡ array (items_of (map string errors))
errors_some [] e = absurd (cc)
errors_some (error ∷ errors) e = refl

each_both : (xs ys : List (List ℕ))
    → each_tokens (map string xs) ++ each_tokens (map string ys) ≡ each_tokens (map string (xs ++ ys))
each_both [] ys = refl
each_both (x ∷ xs) ys =
    append_assoc (data_tokens (string x)) (each_tokens (map string xs)) (each_tokens (map string ys))
    ∙ ap (λ ts. data_tokens (string x) ++ ts) (each_both xs ys)

-- all of them
pub errors_printed : (errors faults : List (List ℕ)) (start opened one two done : List Token)
    → is_none (errors_data (errors ++ faults)) ≡ false → opened ≡ start ++ begin_array ∷ []
    → one ≡ opened ++ each_tokens (map string errors) → two ≡ one ++ each_tokens (map string faults)
    → done ≡ two ++ end_array ∷ []
    → done ≡ start ++ data_tokens (or_null (errors_data (errors ++ faults)))
errors_printed errors faults start opened one two done some begun first second ended =
    let all = each_tokens (map string (errors ++ faults)) in
    ended ∙ ap (λ ts. ts ++ end_array ∷ []) (second ∙ ap (λ ts. ts ++ each_tokens (map string faults)) first
    ∙ append_assoc opened (each_tokens (map string errors)) (each_tokens (map string faults))
    ∙ ap (λ ts. opened ++ ts) (each_both errors faults) ∙ ap (λ ts. ts ++ all) begun)
    ∙ append_assoc (start ++ begin_array ∷ []) all (end_array ∷ [])
    ∙ append_assoc start (begin_array ∷ []) (all ++ end_array ∷ [])
    ∙ ap (λ ts. start ++ ts) (sym (array_tokens (map string (errors ++ faults))))
    ∙ ap (λ value. start ++ data_tokens value) (sym (errors_some (errors ++ faults) some))

-- a number that is left out where it is 0
pub nonzero_absent : (n : ℕ) → is_none (nonzero n) ≡ (n == 0)
unfolding nonzero
nonzero_absent zero = refl
nonzero_absent (suc n) = sym (not_zero n)
