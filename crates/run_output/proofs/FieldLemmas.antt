-- Fields put one after another.
use Rattle.std.proofs.Common.{refl, ◌≡◌, ℕ, List, [], ◌∷◌, ◌++◌, Option}
use Rattle.serde_json.specs.Data.{Data, Members}
use Rattle.run_output.specs.Fields.{put_some, put_all}

-- fields, and then others
pub put_all_more : (fs gs : List (List ℕ × Option Data)) (ms : Members)
    → put_all (fs ++ gs) ms ≡ put_all gs (put_all fs ms)
put_all_more [] gs ms = refl
put_all_more (f ∷ fs) gs ms = put_all_more fs gs (put_some f.0 f.1 ms)
