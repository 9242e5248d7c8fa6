mod FillLemmas
