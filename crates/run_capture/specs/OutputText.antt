-- The description of a child's output as texts, and as a value of JSON.
use Rattle.std.specs.Prelude.{ℕ, ◌≡◌, refl, Bool, true, false, ◌&&◌, ◌||◌, if◌then◌else◌, List, nat_eq, Option, Some}
use Rattle.std.specs.Prelude.{None, option_map, option_and_then, unwrap_or, is_some, codes}
use lib.Pointwise.{pointwise}
use Rattle.hex.specs.Hex.{encode_lower}
use Rattle.serde_json.specs.Data.{Data, string, object, Members, no_members, member, put}
use Rattle.serde_json.specs.Find.{as_str, as_object, get}
use Rattle.run_capture.specs.declared.test_output.ChildOutput.{ChildOutput}
use Rattle.run_capture.specs.declared.test_output.ChildOutput.TheVariants.{Split, Combined}
use Rattle.run_capture.specs.declared.output_text.OutputText.{OutputText}

-- the output of each captured stream as hex, in lower case
abbrev pub described : ChildOutput → OutputText
described (Split split) = record {
  stdout = option_map encode_lower split.stdout;
  stderr = option_map encode_lower split.stderr;
  combined = None;
}
described (Combined output) = record { stdout = None; stderr = None; combined = Some (encode_lower output) }

-- a text is a member where it is there
abbrev pub put_text : List ℕ → Option (List ℕ) → Members → Members
put_text key None members = members
put_text key (Some text) members = put key (string text) members

-- the object of the texts that are there
abbrev pub data_of : OutputText → Data
data_of text = object (
    put_text (codes "stdout") text.stdout (
    put_text (codes "stderr") text.stderr (
    put_text (codes "combined") text.combined no_members)))

-- whether a key is one of the three
abbrev pub is_key : List ℕ → Bool
is_key key =
    pointwise nat_eq key (codes "combined") || pointwise nat_eq key (codes "stderr") || pointwise nat_eq key
    (codes "stdout")

-- whether each member is a text under one of the three keys
abbrev pub has_only_texts : Members → Bool
has_only_texts no_members = true
has_only_texts (member key d ms) = (is_key key && is_some (as_str d)) && has_only_texts ms

-- whether a value is an object of such members
abbrev pub is_description : Data → Bool
is_description d = unwrap_or (option_map has_only_texts (as_object d)) false

-- the text at a key
abbrev pub text_at : List ℕ → Data → Option (List ℕ)
text_at key d = option_and_then as_str (get key d)

-- the description that a value is, where it is one
abbrev pub of_data : Data → Option OutputText
of_data d =
    if is_description d
    then Some (record {
      stdout = text_at (codes "stdout") d;
      stderr = text_at (codes "stderr") d;
      combined = text_at (codes "combined") d;
    })
    else None

-- three texts, each of which may be missing, are read back from their value
texts_back : (stdout stderr combined : Option (List ℕ))
    → of_data (data_of (record { stdout = stdout; stderr = stderr; combined = combined }))
    ≡ Some (record { stdout = stdout; stderr = stderr; combined = combined })
texts_back None None None = refl
texts_back None None (Some c) = refl
texts_back None (Some b) None = refl
texts_back None (Some b) (Some c) = refl
texts_back (Some a) None None = refl
texts_back (Some a) None (Some c) = refl
texts_back (Some a) (Some b) None = refl
texts_back (Some a) (Some b) (Some c) = refl

-- a description is read back from its value
pub of_data-data_of : (text : OutputText) → of_data (data_of text) ≡ Some text
of_data-data_of text = texts_back text.stdout text.stderr text.combined
