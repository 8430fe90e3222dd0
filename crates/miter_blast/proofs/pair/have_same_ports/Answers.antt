use Rattle.std.proofs.Common.{◌≡◌, map, ap, ◌∙◌, subst, sym, true, false}
use Rattle.std.specs.Cmp.Lexicographic.{pointwise}
use Rattle.ir_store.specs.Designs.{ports_in, port_of}
use Rattle.hw_model.specs.TypeViews.{type_of}
use Rattle.hw_model.specs.SameType.{same_type}
use Rattle.hw_model.specs.Sound.{input_types, output_types}
use Rattle.miter_blast.proofs.SamePorts.{told_first, told_second}
use Rattle.miter_blast.proofs.pair.have_same_ports.Goals as goal

pub returns-then-not-are_types : goal.returns-then-not-are_types
returns-then-not-are_types c =
    told_first (ports_in c.args.one.now) (ports_in c.args.two.now) (map type_of c.deref.result.now) (ap (map type_of) c.deref.ensures.value ∙ c.in_ok-inputs.ensures)
    (subst (λ x. pointwise same_type (map type_of c.deref.result.now) (input_types (map port_of x)) ≡ false) c.deref-2.ensures.value (sym c.are_types.ensures ∙ c.if-not-are_types.true))

pub returns : goal.returns
returns c =
    told_second (ports_in c.args.one.now) (ports_in c.args.two.now) (map type_of c.deref.result.now) (map type_of c.deref-3.result.now) c.are_types-2.result
    (ap (map type_of) c.deref.ensures.value ∙ c.in_ok-inputs.ensures) (ap (map type_of) c.deref-3.ensures.value ∙ c.in_ok-outputs.ensures)
    (subst (λ x. pointwise same_type (map type_of c.deref.result.now) (input_types (map port_of x)) ≡ true) c.deref-2.ensures.value (sym c.are_types.ensures ∙ c.if-not-are_types.false))
    (subst (λ x. c.are_types-2.result ≡ pointwise same_type (map type_of c.deref-3.result.now) (output_types (map port_of x))) c.deref-4.ensures.value c.are_types-2.ensures)
