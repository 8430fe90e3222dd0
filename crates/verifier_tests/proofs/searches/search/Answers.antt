use Rattle.verifier_tests.proofs.searches.search.Goals as goal

pub first_too_large-requires-clause-finite : goal.first_too_large-requires-clause-finite
first_too_large-requires-clause-finite c = c.in_ok-recursive.ensures.none c.in-None.is

pub first_cycle-requires-clause-finite : goal.first_cycle-requires-clause-finite
first_cycle-requires-clause-finite c = c.in_ok-recursive.ensures.none c.in-None.is
