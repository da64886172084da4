-- What tells that two JSON values are the same tells it rightly.
use Rattle.std.proofs.Common.{◌≡◌, ◌∙◌, nat_eq, Option, Some, None, Bool, true, ◌&&◌, Float}
use Rattle.std.proofs.Common.{refl, sym, ap, ap₂, subst, true≢false}
use lib.Ieee.{nan, inf, fin}
use lib.Pointwise.{bytes_decides, pointwise, pointwise_decides}
use Rattle.std.proofs.lemmas.Bool.{and_from, and_parts}
use Rattle.std.proofs.lemmas.Bool.Decides.{Decides-eqb, Decides-int_eq}
use Rattle.std.specs.Cmp.{booleans_Decides}
use Rattle.std.specs.Option.{option_eq}
use Rattle.std.specs.Ordering.{int_eq}
use Rattle.std.proofs.Math.Bool.{beq}
use Rattle.serde_json.specs.Data.{Num, unsigned, negative, float, Data, null, boolean, number, string, array, object}
use Rattle.serde_json.specs.Data.{Items, no_items, item, Members, no_members, member}
use Rattle.run_audit_model.specs.Statuses.{Compared}
use Rattle.run_audit_machines.specs.SameData.{same_compared, same_data, same_float, same_items}
use Rattle.run_audit_machines.specs.SameData.{same_members, same_number}

sound_float : (x y : Float) → same_float x y ≡ true → x ≡ y
sound_float nan nan is = refl
sound_float nan (inf b) is = absurd (true≢false (sym is))
sound_float nan (fin b n f) is = absurd (true≢false (sym is))
sound_float (inf a) nan is = absurd (true≢false (sym is))
sound_float (inf a) (inf b) is = ap inf ((booleans_Decides a b).0 is)
sound_float (inf a) (fin b n f) is = absurd (true≢false (sym is))
sound_float (fin a m e) nan is = absurd (true≢false (sym is))
sound_float (fin a m e) (inf b) is = absurd (true≢false (sym is))
sound_float (fin a m e) (fin b n f) is =
    let parts = and_parts (beq a b) (nat_eq m n && int_eq e f) is in
    let rest = and_parts (nat_eq m n) (int_eq e f) parts.1 in
    ap (λ s. fin s m e) ((booleans_Decides a b).0 parts.0)
    ∙ ap₂ (λ x y. fin b x y) ((Decides-eqb m n).0 rest.0) ((Decides-int_eq e f).0 rest.1)

own_float : (x : Float) → same_float x x ≡ true
own_float nan = refl
own_float (inf a) = (booleans_Decides a a).1 refl
own_float (fin a m e) = and_from (beq a a) (nat_eq m m && int_eq e e) ((booleans_Decides a a).1 refl)
    (and_from (nat_eq m m) (int_eq e e) ((Decides-eqb m m).1 refl) ((Decides-int_eq e e).1 refl))

sound_number : (x y : Num) → same_number x y ≡ true → x ≡ y
sound_number (unsigned a) (unsigned b) is = ap unsigned ((Decides-eqb a b).0 is)
sound_number (unsigned a) (negative b) is = absurd (true≢false (sym is))
sound_number (unsigned a) (float b) is = absurd (true≢false (sym is))
sound_number (negative a) (unsigned b) is = absurd (true≢false (sym is))
sound_number (negative a) (negative b) is = ap negative ((Decides-int_eq a b).0 is)
sound_number (negative a) (float b) is = absurd (true≢false (sym is))
sound_number (float a) (unsigned b) is = absurd (true≢false (sym is))
sound_number (float a) (negative b) is = absurd (true≢false (sym is))
sound_number (float a) (float b) is = ap float (sound_float a b is)

own_number : (x : Num) → same_number x x ≡ true
own_number (unsigned a) = (Decides-eqb a a).1 refl
own_number (negative a) = (Decides-int_eq a a).1 refl
own_number (float a) = own_float a

mutual
  sound_data : (x y : Data) → same_data x y ≡ true → x ≡ y
  sound_data null null is = refl
  sound_data null (boolean b) is = absurd (true≢false (sym is))
  sound_data null (number b) is = absurd (true≢false (sym is))
  sound_data null (string b) is = absurd (true≢false (sym is))
  sound_data null (array b) is = absurd (true≢false (sym is))
  sound_data null (object b) is = absurd (true≢false (sym is))
  sound_data (boolean a) null is = absurd (true≢false (sym is))
  sound_data (boolean a) (boolean b) is = ap boolean ((booleans_Decides a b).0 is)
  sound_data (boolean a) (number b) is = absurd (true≢false (sym is))
  sound_data (boolean a) (string b) is = absurd (true≢false (sym is))
  sound_data (boolean a) (array b) is = absurd (true≢false (sym is))
  sound_data (boolean a) (object b) is = absurd (true≢false (sym is))
  sound_data (number a) null is = absurd (true≢false (sym is))
  sound_data (number a) (boolean b) is = absurd (true≢false (sym is))
  sound_data (number a) (number b) is = ap number (sound_number a b is)
  sound_data (number a) (string b) is = absurd (true≢false (sym is))
  sound_data (number a) (array b) is = absurd (true≢false (sym is))
  sound_data (number a) (object b) is = absurd (true≢false (sym is))
  sound_data (string a) null is = absurd (true≢false (sym is))
  sound_data (string a) (boolean b) is = absurd (true≢false (sym is))
  sound_data (string a) (number b) is = absurd (true≢false (sym is))
  sound_data (string a) (string b) is = ap string ((bytes_decides a b).0 is)
  sound_data (string a) (array b) is = absurd (true≢false (sym is))
  sound_data (string a) (object b) is = absurd (true≢false (sym is))
  sound_data (array a) null is = absurd (true≢false (sym is))
  sound_data (array a) (boolean b) is = absurd (true≢false (sym is))
  sound_data (array a) (number b) is = absurd (true≢false (sym is))
  sound_data (array a) (string b) is = absurd (true≢false (sym is))
  sound_data (array a) (array b) is = ap array (sound_items a b is)
  sound_data (array a) (object b) is = absurd (true≢false (sym is))
  sound_data (object a) null is = absurd (true≢false (sym is))
  sound_data (object a) (boolean b) is = absurd (true≢false (sym is))
  sound_data (object a) (number b) is = absurd (true≢false (sym is))
  sound_data (object a) (string b) is = absurd (true≢false (sym is))
  sound_data (object a) (array b) is = absurd (true≢false (sym is))
  sound_data (object a) (object b) is = ap object (sound_members a b is)

  sound_items : (x y : Items) → same_items x y ≡ true → x ≡ y
  sound_items no_items no_items is = refl
  sound_items no_items (item b others) is = absurd (true≢false (sym is))
  sound_items (item a more) no_items is = absurd (true≢false (sym is))
  sound_items (item a more) (item b others) is =
      let parts = and_parts (same_data a b) (same_items more others) is in
      ap₂ item (sound_data a b parts.0) (sound_items more others parts.1)

  sound_members : (x y : Members) → same_members x y ≡ true → x ≡ y
  sound_members no_members no_members is = refl
  sound_members no_members (member l b others) is = absurd (true≢false (sym is))
  sound_members (member k a more) no_members is = absurd (true≢false (sym is))
  sound_members (member k a more) (member l b others) is =
      let parts = and_parts (pointwise nat_eq k l) (same_data a b && same_members more others) is in
      let rest = and_parts (same_data a b) (same_members more others) parts.1 in
      ap (λ key. member key a more) ((bytes_decides k l).0 parts.0)
      ∙ ap₂ (λ d ms. member l d ms) (sound_data a b rest.0) (sound_members more others rest.1)

mutual
  own_data : (x : Data) → same_data x x ≡ true
  own_data null = refl
  own_data (boolean a) = (booleans_Decides a a).1 refl
  own_data (number a) = own_number a
  own_data (string a) = (bytes_decides a a).1 refl
  own_data (array a) = own_items a
  own_data (object a) = own_members a

  own_items : (x : Items) → same_items x x ≡ true
  own_items no_items = refl
  own_items (item a more) = and_from (same_data a a) (same_items more more) (own_data a) (own_items more)

  own_members : (x : Members) → same_members x x ≡ true
  own_members no_members = refl
  own_members (member k a more) = and_from (pointwise nat_eq k k) (same_data a a && same_members more more)
      ((bytes_decides k k).1 refl) (and_from (same_data a a) (same_members more more) (own_data a) (own_members more))

-- it decides, and so does what is made of it
abbrev IsRight : {X : Type 0} → (X → X → Bool) → Type 0
IsRight {X} same = (x y : X) → (same x y ≡ true → x ≡ y) × (x ≡ y → same x y ≡ true)

pub data_decides : (x y : Data) → (same_data x y ≡ true → x ≡ y) × (x ≡ y → same_data x y ≡ true)
data_decides x y = (sound_data x y, λ is. subst (λ d. same_data x d ≡ true) is (own_data x))

sound_option : {X : Type 0} (same : X → X → Bool) → IsRight same → (x y : Option X)
    → option_eq same x y ≡ true → x ≡ y
sound_option same right None None is = refl
sound_option same right None (Some b) is = absurd (true≢false (sym is))
sound_option same right (Some a) None is = absurd (true≢false (sym is))
sound_option same right (Some a) (Some b) is = ap Some ((right a b).0 is)

own_option : {X : Type 0} (same : X → X → Bool) → IsRight same → (x : Option X) → option_eq same x x ≡ true
own_option same right None = refl
own_option same right (Some a) = (right a a).1 refl

option_decides : {X : Type 0} (same : X → X → Bool) → IsRight same → IsRight (option_eq same)
option_decides same right x y =
    (sound_option same right x y, λ is. subst (λ o. option_eq same x o ≡ true) is (own_option same right x))

pub compared_decides : (x y : Compared) → (same_compared x y ≡ true → x ≡ y) × (x ≡ y → same_compared x y ≡ true)
compared_decides = option_decides (pointwise (option_eq same_data))
    (λ x y. pointwise_decides (option_decides same_data data_decides) x y)
