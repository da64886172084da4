use Rattle.std.proofs.Common.{rules, ◌≡◌, [], ◌∷◌, ◌++◌, sym, ◌∙◌, ap, subst}
use Rattle.hex.specs.Hex.{encode_lower}
use Rattle.json.specs.Token as token
use Rattle.run_output.specs.Fronts.{AreCut, IsFront, joined}
use Rattle.run_output.specs.Printer.{data_tokens}
use Rattle.run_output.proofs.FrontsLemmas.{is_front, joined_push, cut_push, cut_anew}
use Rattle.run_output.proofs.printer.Printer.output.Goals as goal

-- what was printed is a text before an output
front_is : (c : goal.In_ok-push) → IsFront (c.into_inner-front.result, c.args.output) c.self.inside.out.tokens
front_is c = is_front
    (c.into_inner-front.result, c.args.output) c.self.inside.out.tokens c.replace.result.tokens c.replace.result.before
    (search rules) (search rules) c.into_inner-front.ensures.items c.into_inner-front.ensures.reads_back
    c.into_inner-front.ensures.utf8 (search rules)

pub invariant_of-self-in_err-push : goal.invariant_of-self-in_err-push
invariant_of-self-in_err-push c =
    let next : c.replace.new.dest.tokens ≡ token.string [] ∷ [] = search rules in
    let same : c.push.new.self.items ≡ c.self.inside.fronts.items = search rules in (
      search rules,
      subst (AreCut c.push.new.self.items) (sym next)
          (subst (λ fronts. AreCut fronts (token.string [] ∷ [])) (sym same) (cut_anew _ _ c.self.invariant.1)),
    )

pub invariant_of-self-2 : goal.invariant_of-self-2
invariant_of-self-2 c =
    let next : c.replace.new.dest.tokens ≡ token.string [] ∷ [] = search rules in
    let more : c.push.new.self.items ≡ c.self.inside.fronts.items ++ (c.into_inner-front.result, c.args.output) ∷ []
    = search rules in (
      search rules,
      subst (AreCut c.push.new.self.items) (sym next)
          (subst (λ fronts. AreCut fronts (token.string [] ∷ [])) (sym more)
          (cut_push _ _ _ (front_is c) c.self.invariant.1)),
    )

pub returns : goal.returns
unfolding data_tokens
returns c =
    let next : c.replace.new.dest.tokens ≡ token.string [] ∷ [] = search rules in
    let more : c.push.new.self.items ≡ c.self.inside.fronts.items ++ (c.into_inner-front.result, c.args.output) ∷ []
    = search rules in
    ap (joined c.push.new.self.items) next ∙ ap (λ fronts. joined fronts (token.string [] ∷ [])) more
    ∙ joined_push _ _ _ (front_is c) c.self.invariant.1
    ∙ ap (λ ts. ts ++ token.string (encode_lower c.args.output) ∷ []) c.self.view_is
