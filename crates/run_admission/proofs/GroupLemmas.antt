-- What a test does to the limit of its group.
use Rattle.std.proofs.Common.{◌≡◌, ℕ, List, set, Some, ap, slice_get, option_map}
use Rattle.std.specs.Option.{option_map_or}
use Rattle.run_admission.specs.Kept.{Use, free_in, free_within, take_of, take_in, give_back, give_in}

-- what a test does to the limit of its group
pub free_is : (us : List Use) (g : ℕ) (u : Use) → slice_get us g ≡ Some u → free_within us (Some g) ≡ Some (free_in u)
free_is us g u e = ap (option_map free_in) e

pub take_is : (us : List Use) (g test weight : ℕ) (u : Use) → slice_get us g ≡ Some u
    → take_in us (Some g) test weight ≡ set us g (take_of u test weight)
take_is us g test weight u e = ap (λ o. option_map_or (λ u. set us g (take_of u test weight)) o us) e

pub give_is : (us : List Use) (g n weight : ℕ) (u : Use) → slice_get us g ≡ Some u
    → give_in us (Some g) (Some n) weight ≡ set us g (give_back u n weight)
give_is us g n weight u e = ap (λ o. option_map_or (λ u. set us g (give_back u n weight)) o us) e
