use Rattle.std.proofs.Common.{ap, ◌∙◌, sym, subst}
use Rattle.wiring.specs.Lists.{total}
use Rattle.gates.specs.Circuits.{Circuit}
use Rattle.gates.specs.Order.{AreInOrder}
use Rattle.ir_store.specs.Designs.{design_of, numbered_module, module_of}
use Rattle.miter_blast.proofs.Formulas.{leaves_total, widths_are, formula_within, built_from, leaves_from}
use Rattle.miter_blast.proofs.building.built.Goals as goal

pub difference-requires : goal.difference-requires
difference-requires c =
    let alone = c.requires.ready.alone in
    let widths = widths_are (design_of c.args.first.now.design) alone.one (numbered_module (module_of c.module_in.result.now)) c.args.held.items c.in_ok-widths.widths.items c.as_slice.result.now
    c.extend_from_slice.new.self.items c.module_in.ensures alone.first_is c.in_ok-widths.ensures c.as_slice.ensures.value c.in_ok-extend_from_slice.ensures.items c.requires.ready.held_are in
    record {
      alone = alone;
      inputs = ap (λ (g : Circuit). g.inputs) c.new-gates.ensures ∙ c.in_ok-total_of.ensures ∙ ap total (c.as_slice-2.ensures.value ∙ widths)
          ∙ leaves_total (design_of c.args.first.now.design) alone.one alone.first_plain;
      order = subst (λ (g : Circuit). AreInOrder g.inputs g.gates) (sym c.new-gates.ensures) tt;
    }

pub formula_of-requires-clause-order : goal.formula_of-requires-clause-order
formula_of-requires-clause-order c = c.in_ok-differ.ensures.order

pub formula_of-requires-clause-within : goal.formula_of-requires-clause-within
formula_of-requires-clause-within c =
    let alone = c.requires.ready.alone in
    let widths = widths_are (design_of c.args.first.now.design) alone.one (numbered_module (module_of c.module_in.result.now)) c.args.held.items c.in_ok-widths.widths.items c.as_slice.result.now
    c.extend_from_slice.new.self.items c.module_in.ensures alone.first_is c.in_ok-widths.ensures c.as_slice.ensures.value c.in_ok-extend_from_slice.ensures.items c.requires.ready.held_are in
    formula_within (design_of c.args.first.now.design) (design_of c.args.second.now.design) alone c.new-gates.result c.difference.new.gates c.in_ok-differ.differ c.in_ok-differ.ensures.difference
    (ap (λ (g : Circuit). g.gates) c.new-gates.ensures)
    (ap (λ (g : Circuit). g.inputs) c.new-gates.ensures ∙ c.in_ok-total_of.ensures ∙ ap total (c.as_slice-2.ensures.value ∙ widths)
    ∙ leaves_total (design_of c.args.first.now.design) alone.one alone.first_plain)

pub invariant_of-result : goal.invariant_of-result
invariant_of-result c =
    let alone = c.requires.ready.alone in
    let widths = widths_are (design_of c.args.first.now.design) alone.one (numbered_module (module_of c.module_in.result.now)) c.args.held.items c.in_ok-widths.widths.items c.as_slice.result.now
    c.extend_from_slice.new.self.items c.module_in.ensures alone.first_is c.in_ok-widths.ensures c.as_slice.ensures.value c.in_ok-extend_from_slice.ensures.items c.requires.ready.held_are in
    leaves_from (design_of c.args.first.now.design) (design_of c.args.second.now.design) alone c.new-gates.result c.difference.new.gates c.in_ok-differ.differ c.in_ok-differ.ensures.difference
    (ap (λ (g : Circuit). g.gates) c.new-gates.ensures)
    (ap (λ (g : Circuit). g.inputs) c.new-gates.ensures ∙ c.in_ok-total_of.ensures ∙ ap total (c.as_slice-2.ensures.value ∙ widths)
    ∙ leaves_total (design_of c.args.first.now.design) alone.one alone.first_plain)
    (record { formula = c.in_ok-cnf.cnf; widths = c.extend_from_slice.new.self.items }) c.in_ok-cnf.ensures widths

pub returns : goal.returns
returns c =
    let alone = c.requires.ready.alone in
    let widths = widths_are (design_of c.args.first.now.design) alone.one (numbered_module (module_of c.module_in.result.now)) c.args.held.items c.in_ok-widths.widths.items c.as_slice.result.now
    c.extend_from_slice.new.self.items c.module_in.ensures alone.first_is c.in_ok-widths.ensures c.as_slice.ensures.value c.in_ok-extend_from_slice.ensures.items c.requires.ready.held_are in
    built_from (design_of c.args.first.now.design) (design_of c.args.second.now.design) alone c.new-gates.result c.difference.new.gates c.in_ok-differ.differ c.in_ok-differ.ensures.difference
    (ap (λ (g : Circuit). g.gates) c.new-gates.ensures)
    (ap (λ (g : Circuit). g.inputs) c.new-gates.ensures ∙ c.in_ok-total_of.ensures ∙ ap total (c.as_slice-2.ensures.value ∙ widths)
    ∙ leaves_total (design_of c.args.first.now.design) alone.one alone.first_plain)
    (record { formula = c.in_ok-cnf.cnf; widths = c.extend_from_slice.new.self.items }) c.in_ok-cnf.ensures widths
