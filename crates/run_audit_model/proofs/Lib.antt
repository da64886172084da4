mod PlaceLemmas
