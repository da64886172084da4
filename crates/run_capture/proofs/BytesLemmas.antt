-- Pieces that a sink takes, and a source gives, one after another.
use Rattle.std.proofs.Common.{◌≡◌, ℕ, ◌+◌, ◌-◌, List, ◌++◌, length, take, drop, Option, Some, None, option_map, ap, ◌∙◌}
use Rattle.std.proofs.Common.{append_assoc, sym, arith, length-drop}
use Rattle.std.proofs.Math.Seq.{take-add}
use Rattle.std.proofs.lemmas.List.{take_all, drop-drop, take-append-drop}
use Rattle.run_capture.specs.Bytes.{Takes, Gives}

-- two pieces taken are their join
pub takes_both : (before between after : Option (List ℕ)) (xs ys : List ℕ)
    → Takes before between xs → Takes between after ys → Takes before after (xs ++ ys)
takes_both None between after xs ys e f = f ∙ ap (option_map (λ t. t ++ ys)) e
takes_both (Some t) between after xs ys e f = f ∙ ap (option_map (λ t. t ++ ys)) e ∙ ap Some (append_assoc t xs ys)

-- what is left from a place on, as a range to the end
pub take-drop_all : (i : ℕ) (piece : List ℕ) → take (length piece - i) (drop i piece) ≡ drop i piece
take-drop_all i piece = take_all (length piece - i) (drop i piece) (omega (arith, length-drop i piece))

-- a front part of a piece, and then a front part of the rest of it
pub takes_more : (before between after : Option (List ℕ)) (i n : ℕ) (piece : List ℕ)
    → Takes before between (take i piece)
    → Takes between after (take n (take (length piece - i) (drop i piece)))
    → Takes before after (take (i + n) piece)
takes_more before between after i n piece e f =
    takes_both before between after (take i piece) (take n (drop i piece)) e (rw (take-drop_all i piece) at f)
    ∙ ap (λ bytes. option_map (λ t. t ++ bytes) before) (sym (take-add i n piece))

-- what is left is what is given, and what is left then
pub drop-given : (at n : ℕ) (bytes given : List ℕ)
    → given ≡ take n (take (length bytes - at) (drop at bytes))
    → drop at bytes ≡ given ++ drop (at + n) bytes
drop-given at n bytes given e =
    sym (take-append-drop n (drop at bytes))
    ∙ ap (λ rest. take n (drop at bytes) ++ rest) (drop-drop n at bytes)
    ∙ ap (λ front. front ++ drop (at + n) bytes) (sym (rw (take-drop_all at bytes) at e))

-- two pieces given are their join
pub gives_both : (before between after : Option (List ℕ)) (xs ys : List ℕ)
    → Gives before between xs → Gives between after ys → Gives before after (xs ++ ys)
gives_both before between None xs ys e f = e ∙ ap (option_map (λ left. xs ++ left)) f
gives_both before between (Some left) xs ys e f =
    e ∙ ap (option_map (λ left. xs ++ left)) f ∙ ap Some (sym (append_assoc xs ys left))
