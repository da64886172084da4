-- A plan line of a wave is read as its plan.
use Rattle.std.proofs.Common.{◌≡◌, ◌∙◌, ℕ, suc, ◌+◌, ◌<◌, ◌≤◌, ◌^◌, List, [], ◌∷◌, map, length, refl, sym, ap, arith}
use Rattle.std.proofs.Common.{◌==◌, ◌&&◌, not, nat_eq}
use Rattle.std.specs.List.{starts_with}
use Rattle.std.proofs.Common.{cond, codes, lt-ltb, true, false, Some, None}
use Rattle.std.specs.Option.{option_and_then}
use Rattle.std.specs.Str.{IsUtf8, is_utf8}
use Rattle.std.proofs.lemmas.Str.{is_utf8-from_IsUtf8}
use Rattle.std.specs.BTreeMap.{insert_entry}
use Rattle.std.proofs.Common.{String, Global, string_bytes, string_cmp}
use Rattle.serde_json.specs.declared.value.Value.{Value}
use Rattle.serde_json.specs.View.{members_view, view}
use Rattle.serde_json.proofs.Views.{Entry, members_view-insert_entry}
use Rattle.serde_json.specs.Data.{put}
use Rattle.uuid.proofs.TextLemmas.{by_index_length}
use Rattle.serde_json.specs.Data.{Data, depth, items_depth, string}
use Rattle.serde_json.specs.Read.{max_depth, read}
use Rattle.serde_json.specs.View.{items_of}
use Rattle.serde_json.specs.Written.{compact_text, has_float, items_have_float}
use Rattle.uuid.specs.Text.{hyphenated_text, lower, parsed}
use Rattle.run_events.specs.declared.plan.PlanTest.{PlanTest}
use Rattle.run_input.specs.Fields.{texts_of}
use Rattle.run_input.specs.Input.{plan_line_of}
use Rattle.run_input.specs.PlanHead.{uuid_of}
use Rattle.run_input.specs.PlanLine.{plan_of, tests_from}
use Rattle.run_input.specs.PlanTest.{test_from}
use Rattle.run_input.specs.ValueOf.{json_value, unless_float}
use Rattle.run_output.specs.Fields.{texts}
use Rattle.run_wave_line.specs.WaveLine.{plain_test, test_object, wave_keys, wave_object, wave_plan, wave_text}

-- the members of a map with one more entry
pub put_entry : (old new : List Entry) (name : String Global) (value : Value) (key : List ℕ) → string_bytes name ≡ key
    → new ≡ insert_entry string_cmp old name value
    → members_view new ≡ put key (view value) (members_view old)
put_entry old new name value key named is =
    ap members_view is ∙ members_view-insert_entry old name value
    ∙ ap (λ k. put k (view value) (members_view old)) named

-- texts are read as they are
pub words_again : (words : List (List ℕ)) → texts_of (texts words) ≡ Some words
words_again [] = refl
words_again (word ∷ words) = ap (option_and_then (λ more. Some (word ∷ more))) (words_again words)

-- a test is read as it is
test_again : (test : PlanTest) → test_from 1 (test_object test) ≡ Some (plain_test test)
unfolding test_from
test_again test = rw (words_again test.command) refl

tests_again : (tests : List PlanTest) → tests_from 1 (items_of (map test_object tests)) ≡ Some (map plain_test tests)
tests_again [] = refl
tests_again (test ∷ tests) = rw (test_again test, tests_again tests) refl

length_plain : (tests : List PlanTest) → length (map plain_test tests) ≡ length tests
length_plain [] = refl
length_plain (test ∷ tests) = ap suc (length_plain tests)

-- the text of an id isn't as long as the urn form
length_id : (run_id : List ℕ) → length (hyphenated_text lower run_id) ≡ 36
length_id run_id = by_index_length 36 _

pub id_again : (run_id : List ℕ) → Some run_id ≡ parsed (hyphenated_text lower run_id)
    → uuid_of (hyphenated_text lower run_id) ≡ Some run_id
id_again run_id id =
    let text = hyphenated_text lower run_id in
    ap (λ n. cond ((n == 45) && not (starts_with nat_eq text (codes "urn:uuid:"))) None (parsed text))
    (length_id run_id)
    ∙ sym id

-- the line as a value
line_again : (threads : ℕ) (run_id : List ℕ) (tests : List PlanTest) → threads < 2 ^ 32 → length tests < 2 ^ 32
    → Some run_id ≡ parsed (hyphenated_text lower run_id)
    → plan_of (wave_object threads run_id tests) ≡ Some (wave_keys threads, wave_plan run_id tests)
unfolding plan_of
line_again threads run_id tests small few id =
    rw (id_again run_id id, tests_again tests, length_plain tests, lt-ltb _ _ small, lt-ltb _ _ few)
    (rw (length_plain tests, lt-ltb (0 + length tests) (2 ^ 32) (omega (arith, few))) refl)

-- it has no float, and isn't deep
pub words_whole : (words : List (List ℕ)) → items_have_float (items_of (map string words)) ≡ false
words_whole [] = refl
words_whole (word ∷ words) = words_whole words

tests_whole : (tests : List PlanTest) → items_have_float (items_of (map test_object tests)) ≡ false
tests_whole [] = refl
tests_whole (test ∷ tests) = rw (words_whole test.command) (tests_whole tests)

line_whole : (threads : ℕ) (run_id : List ℕ) (tests : List PlanTest)
    → has_float (wave_object threads run_id tests) ≡ false
line_whole threads run_id tests = rw (tests_whole tests) refl

pub words_flat : (words : List (List ℕ)) → items_depth (items_of (map string words)) ≤ 1
words_flat [] = omega arith
words_flat (word ∷ words) = omega (arith, words_flat words)

tests_flat : (tests : List PlanTest) → items_depth (items_of (map test_object tests)) ≤ 4
tests_flat [] = omega arith
tests_flat (test ∷ tests) = omega (arith, tests_flat tests, words_flat test.command)

line_flat : (threads : ℕ) (run_id : List ℕ) (tests : List PlanTest)
    → depth (wave_object threads run_id tests) ≤ max_depth
line_flat threads run_id tests = omega (arith, tests_flat tests)

-- a text that is read as a value says that value
pub value_of : (text : List ℕ) (d : Data) → is_utf8 text ≡ true → read text ≡ Some d → has_float d ≡ false
    → json_value text ≡ Some d
unfolding json_value
value_of text d utf8 is whole =
    ap (λ b. cond b (option_and_then unless_float (read text)) None) utf8 ∙ ap (option_and_then unless_float) is
    ∙ ap (λ b. cond b None (Some d)) whole

pub text_is : (threads : ℕ) (run_id : List ℕ) (tests : List PlanTest) (text : List ℕ) (d : Data)
    → d ≡ wave_object threads run_id tests → (has_float d ≡ false → text ≡ compact_text d)
    → text ≡ wave_text threads run_id tests
text_is threads run_id tests text d is written =
    written (ap has_float is ∙ line_whole threads run_id tests) ∙ ap compact_text is

pub line_says : (threads : ℕ) (run_id : List ℕ) (tests : List PlanTest) (text : List ℕ) (d : Data)
    → d ≡ wave_object threads run_id tests → IsUtf8 text → (depth d ≤ max_depth → read text ≡ Some d)
    → threads < 2 ^ 32 → length tests < 2 ^ 32 → Some run_id ≡ parsed (hyphenated_text lower run_id)
    → plan_line_of text ≡ Some (wave_keys threads, wave_plan run_id tests)
line_says threads run_id tests text d is utf8 reads small few id =
    let low : depth d ≤ max_depth = omega (arith, ap depth is, line_flat threads run_id tests) in
    ap (option_and_then plan_of)
    (value_of text d (is_utf8-from_IsUtf8 text utf8) (reads low) (ap has_float is ∙ line_whole threads run_id tests)
    ∙ ap Some is)
    ∙ line_again threads run_id tests small few id
