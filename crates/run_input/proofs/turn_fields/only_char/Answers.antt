use Rattle.std.proofs.Common.{rules, ℕ, None, Some, List, [], ◌∷◌, slice_get, ◌≡◌, ap, sym, ◌∙◌}
use Rattle.std.specs.Str.{chars}
use Rattle.std.proofs.lemmas.Str.{chars_past_char}
use Rattle.run_input.specs.TurnLine.{only_one}
use Rattle.run_input.proofs.turn_fields.only_char.Goals as goal

alone : (rest : List ℕ) (first : ℕ) → None ≡ slice_get rest 0 → Some first ≡ only_one (first ∷ rest)
alone [] first none = search rules
alone (x ∷ rest) first none = search rules

followed : (rest : List ℕ) (first second : ℕ) → Some second ≡ slice_get rest 0 → None ≡ only_one (first ∷ rest)
followed [] first second some = search rules
followed (x ∷ rest) first second some = search rules

pub returns-in-Some : goal.returns-in-Some
returns-in-Some c =
    let rest = c.next-2.new.self.rest.now in
    let text = c.args.text.now in
    let splits : chars text ≡ c.in_ok-first.first ∷ chars c.next.new.self.rest.now =
    chars_past_char text c.next.new.self.rest.now c.in_ok-first.first (search rules) (search rules) in
    followed (chars c.next.new.self.rest.now) c.in_ok-first.first c.in-Some.field-0 (search rules)
    ∙ ap only_one (sym splits)

pub returns-in-None : goal.returns-in-None
returns-in-None c =
    let text = c.args.text.now in
    let splits : chars text ≡ c.in_ok-first.first ∷ chars c.next.new.self.rest.now =
    chars_past_char text c.next.new.self.rest.now c.in_ok-first.first (search rules) (search rules) in
    alone (chars c.next.new.self.rest.now) c.in_ok-first.first (search rules) ∙ ap only_one (sym splits)
