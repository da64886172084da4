-- The order in which a file says its setup scripts: that in which its lines bring them.
use Rattle.std.specs.Prelude.{ℕ, zero, suc, ◌+◌, ◌-◌, ◌==◌, ◌||◌, Bool, List, [], ◌∷◌, ◌++◌, length, take, nat_le}
use Rattle.std.specs.Prelude.{slice_index, codes, Option, Some, None, option_and_then, if◌then◌else◌}
use Rattle.toml.specs.Data.{Members, no_members, member, as_table, get, get_member}
use Rattle.toml.specs.Parse.{parse_document}
use Rattle.run_profile.specs.Time.{one_of}

-- the setup scripts of the document that a text is, where it is one and has some
abbrev pub document_setup : Option Members → Option Members
document_setup document =
    option_and_then as_table
    (option_and_then (get (codes "setup")) (option_and_then (get_member (codes "scripts")) document))

-- the names of members that are not among those seen
abbrev pub unseen_names : List (List ℕ) → Members → List (List ℕ)
unseen_names seen no_members = []
unseen_names seen (member name d ms) =
    if one_of name seen then unseen_names seen ms else name ∷ unseen_names seen ms

abbrev pub unseen_scripts : List (List ℕ) → Option Members → List (List ℕ)
unseen_scripts seen None = []
unseen_scripts seen (Some members) = unseen_names seen members

-- after those seen one more, or none: of two that one line brings, the order isn't known
abbrev pub with_next : List (List ℕ) → List (List ℕ) → Option (List (List ℕ))
with_next seen next = if nat_le (length next) 1 then Some (seen ++ next) else None

-- whether a line ends before a place: with a line feed, or with the text
abbrev pub is_after_line : List ℕ → ℕ → Bool
is_after_line text place = slice_index text (place - 1) == 10 || place == length text

-- the scripts seen, and then those that a line brings which ends before a place: the text up to there is a document
-- that has them
abbrev pub with_line_end : List ℕ → ℕ → List (List ℕ) → Option (List (List ℕ))
with_line_end text place seen =
    if is_after_line text place
    then with_next seen (unseen_scripts seen (document_setup (parse_document (take place text))))
    else Some seen

-- the same of the lines that end before so many places from one on
abbrev pub order_from : List ℕ → ℕ → ℕ → Option (List (List ℕ)) → Option (List (List ℕ))
order_from text zero place seen = seen
order_from text (suc left) place seen =
    order_from text left (place + 1) (option_and_then (with_line_end text place) seen)

-- the setup scripts of a file in the order in which its lines bring them, where none brings two
unfoldable pub script_order : List ℕ → Option (List (List ℕ))
script_order text = order_from text (length text) 1 (Some [])
