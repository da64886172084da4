-- A member put into plain members leaves them plain.
use Rattle.std.proofs.Common.{◌≡◌, ◌∙◌, ℕ, List, IsUtf8, refl, ap, nat_cmp, Less, Equal, Greater, Ordering}
use Rattle.std.specs.Ordering.{ordering_reverse, match_ordering}
use Rattle.std.specs.Cmp.Lexicographic.{slice_cmp}
use Rattle.std.proofs.lemmas.Cmp.{nat_list_cmp_total}
use Rattle.serde_json.specs.Data.{Data, Members, no_members, member, put}
use Rattle.run_text_laws.specs.Plain.{IsBelowAll, IsPlain, MembersArePlain}

-- a key before one that stands before all stands before all
before_all : (k l : List ℕ) (ms : Members) → slice_cmp nat_cmp k l ≡ Less → IsBelowAll l ms → IsBelowAll k ms
before_all k l no_members h later = tt
before_all k l (member j e ms) h later =
    (nat_list_cmp_total.trans k l j h later.0, before_all k l ms h later.1)

-- a key before all and before the new one stands before all, wherever the new one goes
before_put_at : (o : Ordering) (l k j : List ℕ) (d e : Data) (ms more : Members) → slice_cmp nat_cmp l k ≡ Less
    → IsBelowAll l (member j e ms) → IsBelowAll l more
    → IsBelowAll l (match_ordering o (member k d (member j e ms)) (member j d ms) (member j e more))
before_put_at Less l k j d e ms more h b later = (h, b)
before_put_at Equal l k j d e ms more h b later = b
before_put_at Greater l k j d e ms more h b later = (b.0, later)

-- a key before all and before the new one stands before all with the new one
before_put : (l k : List ℕ) (d : Data) (ms : Members) → slice_cmp nat_cmp l k ≡ Less → IsBelowAll l ms
    → IsBelowAll l (put k d ms)
before_put l k d no_members h b = (h, tt)
before_put l k d (member j e ms) h b =
    before_put_at (slice_cmp nat_cmp k j) l k j d e ms (put k d ms) h b (before_put l k d ms h b.1)

-- members stay plain, wherever a plain one goes
plain_put_at : (o : Ordering) (k l : List ℕ) (d e : Data) (ms : Members) → slice_cmp nat_cmp k l ≡ o → IsUtf8 k
    → IsPlain d → MembersArePlain (member l e ms) → MembersArePlain (put k d ms)
    → MembersArePlain (match_ordering o (member k d (member l e ms)) (member l d ms) (member l e (put k d ms)))
plain_put_at Less k l d e ms is u h p later = (u, h, (is, before_all k l ms is p.2), p)
plain_put_at Equal k l d e ms is u h p later = (p.0, h, p.2, p.3)
plain_put_at Greater k l d e ms is u h p later =
    let below : slice_cmp nat_cmp l k ≡ Less = nat_list_cmp_total.antisymm l k ∙ ap ordering_reverse is in
    (p.0, p.1, before_put l k d ms below p.2, later)

-- members stay plain with a plain one more
pub put_plain : (k : List ℕ) (d : Data) (ms : Members) → IsUtf8 k → IsPlain d → MembersArePlain ms
    → MembersArePlain (put k d ms)
put_plain k d no_members u h p = (u, h, tt, tt)
put_plain k d (member l e ms) u h p =
    plain_put_at (slice_cmp nat_cmp k l) k l d e ms refl u h p (put_plain k d ms u h p.3)
