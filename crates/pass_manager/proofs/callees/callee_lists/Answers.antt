use Rattle.std.proofs.Common.{◌≡◌, [], ◌∷◌, ◌++◌, map, ap, sym, ◌∙◌, rules}
use Rattle.std.proofs.lemmas.List.{length-map, map-append, append-nil, append_assoc, nil_from_length}
use Rattle.graphs.specs.Graphs.{lists_of}
use Rattle.pass_manager.proofs.CalleeLists.{fit_callees, count_lists}
use Rattle.pass_manager.proofs.callees.callee_lists.Goals as goal

pub loop-list-init : goal.loop-list-init
loop-list-init c = record {
  passed =
      let same : c.into_iter-list-iterator.result.rest.items ≡ c.in_ok-graph.graph.items = search rules in
      ap (λ xs. map (λ row. row.items) xs ++ lists_of c.into_iter-list-iterator.result.rest.items) c.in_ok-lists.ensures.items ∙ ap lists_of same ∙ c.in_ok-graph.ensures;
  left = search rules;
}

pub loop-list-preserved : goal.loop-list-preserved
loop-list-preserved c = record {
  passed =
      ap (λ xs. map (λ row. row.items) xs ++ lists_of c.next.new.self.rest.items) c.in_ok-push.ensures.items
      ∙ ap (λ xs. xs ++ lists_of c.next.new.self.rest.items) (map-append (λ row. row.items) c.loop-list.lists.items _)
      ∙ append_assoc (map (λ row. row.items) c.loop-list.lists.items) (c.in-Some.list.nodes.items ∷ []) (lists_of c.next.new.self.rest.items)
      ∙ ap (λ xs. map (λ row. row.items) c.loop-list.lists.items ++ xs) (sym (ap lists_of c.in-Some.ensures.steps.0))
      ∙ c.loop-list.invariant.passed;
  left = search rules;
}

pub returns-clause-are : goal.returns-clause-are
returns-clause-are c =
    fit_callees c.args.design.now (map (λ row. row.items) c.loop-list.lists.items) c.requires
    (sym (append-nil (map (λ row. row.items) c.loop-list.lists.items))
    ∙ ap (λ xs. map (λ row. row.items) c.loop-list.lists.items ++ lists_of xs) (sym (nil_from_length c.loop-list.list-iterator.rest.items (sym c.loop-list.invariant.left ∙ c.in-None.ensures.steps.0)))
    ∙ c.loop-list.invariant.passed)

pub returns-clause-count : goal.returns-clause-count
returns-clause-count c =
    sym (length-map c.loop-list.lists.items (λ row. row.items))
    ∙ count_lists c.args.design.now (map (λ row. row.items) c.loop-list.lists.items)
    (sym (append-nil (map (λ row. row.items) c.loop-list.lists.items))
    ∙ ap (λ xs. map (λ row. row.items) c.loop-list.lists.items ++ lists_of xs) (sym (nil_from_length c.loop-list.list-iterator.rest.items (sym c.loop-list.invariant.left ∙ c.in-None.ensures.steps.0)))
    ∙ c.loop-list.invariant.passed)

pub returns-clause-lists : goal.returns-clause-lists
returns-clause-lists c =
    sym (append-nil (map (λ row. row.items) c.loop-list.lists.items))
    ∙ ap (λ xs. map (λ row. row.items) c.loop-list.lists.items ++ lists_of xs) (sym (nil_from_length c.loop-list.list-iterator.rest.items (sym c.loop-list.invariant.left ∙ c.in-None.ensures.steps.0)))
    ∙ c.loop-list.invariant.passed
