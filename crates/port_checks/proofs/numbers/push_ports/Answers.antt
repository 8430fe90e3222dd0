use Rattle.std.proofs.Common.{◌++◌, ◌∷◌, [], replicate, ap, ◌∙◌, append_assoc}
use Rattle.std.proofs.lemmas.List.{map_push, replicate_more}
use Rattle.graphs.specs.declared.graph.NodeList.{NodeList}
use Rattle.graphs.specs.Graphs.{lists_of}
use Rattle.port_checks.proofs.numbers.push_ports.Goals as goal

pub loop-port-preserved : goal.loop-port-preserved
loop-port-preserved c =
    ap lists_of c.in_ok-push.ensures.items
    ∙ map_push (λ (p : NodeList). p.nodes.items) c.loop-port.joined.items (record { nodes = c.new.result })
    ∙ ap (λ ns. lists_of c.loop-port.joined.items ++ ns ∷ []) c.new.ensures.items
    ∙ ap (λ ls. ls ++ [] ∷ []) c.loop-port.invariant
    ∙ append_assoc (lists_of c.args.joined.now.items) (replicate c.loop-port._port []) ([] ∷ [])
    ∙ ap (λ ls. lists_of c.args.joined.now.items ++ ls) (replicate_more c.loop-port._port [])
