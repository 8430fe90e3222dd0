use Rattle.std.proofs.Common.{◌≡◌, length, map, arith, length-append}
use Rattle.std.proofs.lemmas.List.{map-append, length-map}
use Rattle.ir_store.specs.declared.design.Module.{Module}
use Rattle.ir_store.specs.Designs.{module_of}
use Rattle.ir_store.proofs.DesignLemmas.{position_push}
use Rattle.ir_store.proofs.design.Design.add_module.Goals as goal

pub invariant_of-self-2 : goal.invariant_of-self-2
invariant_of-self-2 c =
    let n : c.len-count.result ≡ length (map (λ (m : Module). m.symbol) c.args.self.now.modules.items) =
    omega (arith, c.len-count.ensures, c.args.self.now.modules.ok.0, length-map c.args.self.now.modules.items (λ (m : Module). m.symbol)) in
    record {
      small = rw (c.push_reserved.ensures.items, c.reserve.ensures.items) (omega (arith, c.requires, length-append {A = Module}, length-map c.args.self.now.modules.items module_of));
      found = λ q.
          let pushed = position_push q c.args.added.symbol (map (λ (m : Module). m.symbol) c.args.self.now.modules.items) in
          let noted = rw (c.args.self.now.found q, c.as_bytes.ensures, n) at (c.in_ok-note_symbol.ensures.ok q) in
          rw (c.push_reserved.ensures.items, c.reserve.ensures.items, map-append, pushed) noted;
    }
