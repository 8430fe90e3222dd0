use Rattle.std.proofs.Common.{◌≡◌, ◌+◌, ◌++◌, List, length, ap, ◌∙◌}
use Rattle.aiger_laws.specs.declared.tree.Latch.{Latch}
use Rattle.aiger_laws.specs.declared.tree.AndGate.{AndGate}
use Rattle.aiger_design.specs.Positions.{constants}
use Rattle.aiger_reader.specs.Kept.{tree_of}
use Rattle.aiger_text.specs.Places.{ends_from, place_behind, latch_lists, gate_lists}
use Rattle.aiger_text.proofs.UserEnds.{constants_count, ends_joined}
use Rattle.aiger_text.proofs.places.places_of.Goals as goal

pub returns : goal.returns
returns c =
    let first : c.from.result + c.from-2.result ≡ length (constants (tree_of c.args.text.now)) =
    constants_count (tree_of c.args.text.now) c.is_used-has_true.result c.is_used-has_false.result c.from.result c.from-2.result c.from.ensures c.from-2.ensures
    c.is_used-has_true.ensures c.is_used-has_false.ensures in
    record {
      has_true = c.is_used-has_true.ensures;
      has_false = c.is_used-has_false.ensures;
      ends = ends_joined (tree_of c.args.text.now) (c.from.result + c.from-2.result) c.in_ok-behind.behind c.in_ok-ends.ends.items c.add_latch_ends.new.ends.items c.add_gate_ends.new.ends.items
          c.in_ok-ends.ensures.items (c.in_ok-behind.ensures.ends ∙ ap (λ (ls : List Latch). c.in_ok-ends.ends.items ++ ends_from (c.from.result + c.from-2.result) (latch_lists ls)) c.deref.ensures.value)
          (c.in_ok-behind.ensures.place ∙ ap (λ (ls : List Latch). place_behind (c.from.result + c.from-2.result) (latch_lists ls)) c.deref.ensures.value)
          (c.in_ok-add_gate_ends.ensures ∙ ap (λ (gs : List AndGate). c.add_latch_ends.new.ends.items ++ ends_from c.in_ok-behind.behind (gate_lists gs)) c.deref-2.ensures.value) first;
    }
