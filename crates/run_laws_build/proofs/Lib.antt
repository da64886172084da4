mod FirstLemmas
mod RuleLemmas
mod RefusalLemmas
