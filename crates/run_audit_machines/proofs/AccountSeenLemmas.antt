-- Accounts of what stands for what is told; and the step of accounts of which one alone is told of.
use Rattle.std.proofs.Common.{◌≡◌, ◌∙◌, List, [], ◌∷◌, map, Option, Some, None, option_map, Bool, true, false, ◌&&◌}
use Rattle.std.proofs.Common.{if◌then◌else◌, refl, ap, ap₂}
use Rattle.std.specs.List.{list_all}
use Rattle.run_audit_machines.specs.Accounts.{account_after, account_seen, accounts_after, accounts_machine}
use Rattle.run_audit_machines.specs.Accounts.{accounts_seen}
use Rattle.run_audit_machines.specs.Accounts.{is_told_of, names_in, told_under}
use Rattle.run_audit_machines.specs.Machines.{IsSeenAs, both_there, due_after, is_none_due}
use Rattle.run_audit_machines.proofs.MachineLemmas.{due_seen, none_seen}

names_seen : {I Y X : Type 0} (f : Y → X) (accounts : List (I × List Y))
    → names_in (accounts_seen f accounts) ≡ names_in accounts
names_seen f [] = refl
names_seen f (account ∷ accounts) = ap (λ names. account.0 ∷ names) (names_seen f accounts)

-- one account, and all
paired : {I Y X : Type 0} (f : Y → X) (name : I) (a : Option (List Y))
    → option_map (λ due. (name, due)) (option_map (map f) a)
    ≡ option_map (account_seen f) (option_map (λ due. (name, due)) a)
paired f name None = refl
paired f name (Some due) = refl

account_step : {I Y X : Type 0} (one : I → I → Bool) (f : Y → X) (same : X → X → Bool) (o : Option (I × X))
    (account : I × List Y) → account_after one same o (account_seen f account)
    ≡ option_map (account_seen f) (account_after one (λ y x. same (f y) x) o account)
account_step one f same o account =
    ap (option_map (λ due. (account.0, due))) (due_seen f same account.1 (told_under one account.0 o))
    ∙ paired f account.0 (due_after (λ y x. same (f y) x) account.1 (told_under one account.0 o))

joined : {I Y X : Type 0} (f : Y → X) (a : Option (I × List Y)) (b : Option (List (I × List Y)))
    → option_map (λ p. p.0 ∷ p.1) (both_there (option_map (account_seen f) a) (option_map (accounts_seen f) b))
    ≡ option_map (accounts_seen f) (option_map (λ p. p.0 ∷ p.1) (both_there a b))
joined f None b = refl
joined f (Some account) None = refl
joined f (Some account) (Some accounts) = refl

accounts_step : {I Y X : Type 0} (one : I → I → Bool) (f : Y → X) (same : X → X → Bool) (o : Option (I × X))
    (accounts : List (I × List Y)) → accounts_after one same o (accounts_seen f accounts)
    ≡ option_map (accounts_seen f) (accounts_after one (λ y x. same (f y) x) o accounts)
accounts_step one f same o [] = refl
accounts_step one f same o (account ∷ accounts) =
    ap₂ (λ a b. option_map (λ p. p.0 ∷ p.1) (both_there a b)) (account_step one f same o account)
    (accounts_step one f same o accounts)
    ∙ joined f (account_after one (λ y x. same (f y) x) o account) (accounts_after one (λ y x. same (f y) x) o accounts)

done_seen : {I Y X : Type 0} (f : Y → X) (accounts : List (I × List Y))
    → list_all (λ account. is_none_due account.1) (accounts_seen f accounts)
    ≡ list_all (λ account. is_none_due account.1) accounts
done_seen f [] = refl
done_seen f (account ∷ accounts) = ap₂ (λ a b. a && b) (none_seen f account.1) (done_seen f accounts)

when_told : {S T : Type 0} (f : S → T) (b : Bool) (o : Option S)
    → (if b then option_map f o else None) ≡ option_map f (if b then o else None)
when_told f true o = refl
when_told f false o = refl

pub accounts_stand : {I Y X E : Type 0} (one : I → I → Bool) (f : Y → X) (same : X → X → Bool)
    (told : E → Option (I × X))
    → IsSeenAs (accounts_seen f) (accounts_machine one (λ y x. same (f y) x) told) (accounts_machine one same told)
accounts_stand one f same told = record {
  takes = λ s e. ap₂ (λ names o. if is_told_of one names (told e) then o else None) (names_seen f s)
      (accounts_step one f same (told e) s)
      ∙ when_told (accounts_seen f) (is_told_of one (names_in s) (told e))
      (accounts_after one (λ y x. same (f y) x) (told e) s);
  is_done = λ s. done_seen f s;
}
