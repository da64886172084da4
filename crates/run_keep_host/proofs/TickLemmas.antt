-- What came from outside, and ticks between, one after another.
use Rattle.std.proofs.Common.{List, [], ◌∷◌, ◌++◌, refl, sym, ap, ◌∙◌}
use Rattle.std.specs.List.{filter}
use Rattle.std.proofs.lemmas.List.{append-nil}
use Rattle.std.proofs.lemmas.List.Elements.{filter-append}
use Rattle.run_keep.specs.declared.outside.Came.{Came}
use Rattle.run_keep.specs.declared.outside.Came.TheVariants as came
use Rattle.run_keep_host.specs.Ticks.{is_given, HasComeTicking}

pub ticked_never : (Has : List Came → Type 0) → Has [] → HasComeTicking Has []
ticked_never Has h = ([], h, refl)

pub ticked_on : {W : Type 0} (has : W → List Came → Type 0) (w v : W)
    → ((xs : List Came) → has w xs → has v xs)
    → (xs : List Came) → HasComeTicking (has w) xs → HasComeTicking (has v) xs
ticked_on has w v says xs h = (h.0, says h.0 h.1, h.2)

pub ticked_more : {W : Type 0} (has : W → List Came → Type 0) (w v : W) (c : Came)
    → ((xs : List Came) → has w xs → has v (xs ++ c ∷ []))
    → (xs : List Came) → HasComeTicking (has w) xs → HasComeTicking (has v) (xs ++ c ∷ [])
ticked_more has w v c says xs h = (
  h.0 ++ c ∷ [],
  says h.0 h.1,
  filter-append is_given xs (c ∷ [])
      ∙ ap (λ (ys : List Came). ys ++ filter is_given (c ∷ [])) h.2
      ∙ sym (filter-append is_given h.0 (c ∷ [])),
)

pub ticked_once : {W : Type 0} (has : W → List Came → Type 0) (w v : W)
    → ((xs : List Came) → has w xs → has v xs)
    → (xs : List Came) → HasComeTicking (has w) xs → HasComeTicking (has v) (xs ++ came.Tick ∷ [])
ticked_once has w v says xs h =
    (h.0, says h.0 h.1, filter-append is_given xs (came.Tick ∷ []) ∙ append-nil (filter is_given xs) ∙ h.2)
