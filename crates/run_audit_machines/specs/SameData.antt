-- When two JSON values are the same.
use Rattle.std.specs.Prelude.{◌==◌, nat_eq, Bool, true, false, ◌&&◌, Float}
use lib.Ieee.{nan, inf, fin}
use lib.Pointwise.{pointwise}
use Rattle.std.proofs.Math.Bool.{beq}
use Rattle.std.specs.Option.{option_eq}
use Rattle.std.specs.Ordering.{int_eq}
use Rattle.serde_json.specs.Data.{Num, unsigned, negative, float, Data, null, boolean, number, string, array, object}
use Rattle.serde_json.specs.Data.{Items, no_items, item, Members, no_members, member}
use Rattle.run_audit_model.specs.Statuses.{Compared}

abbrev pub same_float : Float → Float → Bool
same_float nan nan = true
same_float (inf a) (inf b) = beq a b
same_float (fin a m e) (fin b n f) = beq a b && ((m == n) && int_eq e f)
same_float _ _ = false

abbrev pub same_number : Num → Num → Bool
same_number (unsigned a) (unsigned b) = a == b
same_number (negative a) (negative b) = int_eq a b
same_number (float a) (float b) = same_float a b
same_number _ _ = false

abbrev mutual
  pub same_data : Data → Data → Bool
  same_data null null = true
  same_data (boolean a) (boolean b) = beq a b
  same_data (number a) (number b) = same_number a b
  same_data (string a) (string b) = pointwise nat_eq a b
  same_data (array a) (array b) = same_items a b
  same_data (object a) (object b) = same_members a b
  same_data _ _ = false

  pub same_items : Items → Items → Bool
  same_items no_items no_items = true
  same_items (item a more) (item b others) = same_data a b && same_items more others
  same_items _ _ = false

  pub same_members : Members → Members → Bool
  same_members no_members no_members = true
  same_members (member k a more) (member l b others) =
      pointwise nat_eq k l && (same_data a b && same_members more others)
  same_members _ _ = false

-- when what is compared of two statuses is the same
abbrev pub same_compared : Compared → Compared → Bool
same_compared a b = option_eq (pointwise (option_eq same_data)) a b
