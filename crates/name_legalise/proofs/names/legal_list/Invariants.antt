use Rattle.std.proofs.Common.{◌≡◌, ◌++◌, length, drop}
use Rattle.name_legalise.specs.Legal.{legal, legal_after}
use Rattle.name_legalise.specs.LegalViews.{legal_names}
use Rattle.name_legalise.proofs.names.legal_list.Given as goal

abbrev pub invariant-loop-text : goal.invariant-loop-text
invariant-loop-text l = record {
  count : length (legal_names l.names) ≡ l.text-index;
  copied : l.list.items ≡ legal_names l.names;
  whole : legal_names l.names ++ legal_after (legal_names l.names) (drop l.text-index l.wanted) ≡ legal l.wanted;
}
