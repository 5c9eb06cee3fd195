mod NewestLemmas
