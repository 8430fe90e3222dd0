use Rattle.std.proofs.Common.{◌≡◌, refl, ap, subst, ◌∙◌, ℕ, ◌<◌, List, map, length, get_or, slice_get, Some, option_map, arith}
use Rattle.std.proofs.lemmas.Option.{slice_get-map, slice_get_read}
use Rattle.ir_store.specs.declared.design.Port.{Port}
use Rattle.ir_store.specs.Designs.{port_of}
use Rattle.flat_steps.proofs.start.first_ports.Goals as goal

port_there : (items : List Port) (i : ℕ) (p : Port) → i < length items → p ≡ get_or items i p → slice_get (map port_of items) i ≡ Some (port_of p)
port_there items i p below is = slice_get-map port_of items i ∙ ap (option_map port_of) (slice_get_read items (length items) i p refl below is)

pub first_word-requires-clause-least : goal.first_word-requires-clause-least
first_word-requires-clause-least c =
    (c.requires c.loop-port.port-index (port_of c.port-item.result)
    (port_there c.args.ports.now.ports.items c.loop-port.port-index c.port-item.result (omega arith)
    (subst (λ xs. c.port-item.result ≡ get_or xs c.loop-port.port-index c.port-item.result) c.deref-port-items.ensures.value c.port-item.is))).0

pub first_word-requires-clause-most : goal.first_word-requires-clause-most
first_word-requires-clause-most c =
    (c.requires c.loop-port.port-index (port_of c.port-item.result)
    (port_there c.args.ports.now.ports.items c.loop-port.port-index c.port-item.result (omega arith)
    (subst (λ xs. c.port-item.result ≡ get_or xs c.loop-port.port-index c.port-item.result) c.deref-port-items.ensures.value c.port-item.is))).1
