mod RuleLemmas
mod PassLemmas
mod OpeningLemmas
