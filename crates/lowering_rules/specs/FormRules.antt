-- The rules by which operations are lowered, as code tells them.
use Rattle.std.specs.Prelude.{length}
use Rattle.hw_model.specs.Types.{width, leaves}
use Rattle.hw_model.specs.Kinds.{Kind}
use Rattle.hw_model.specs.KindViews.{reset_of, literals_in, instance_of}
use Rattle.hw_model.specs.Value.{nth_type}
use Rattle.hw_model.specs.Design.{Op, RegisterForm}
use Rattle.aggregate_laws.specs.Rules.{Rule}
use Rattle.aggregate_laws.specs.OperationRules.{unnamed, join_rule, extract_rule, inject_rule, mux_rule, constant_rule, stays_rule, register_rule, register_stays_rule, spread_rule}
use Rattle.aggregate_laws.specs.Choices.{get_rule, slice_rule, array_inject_rule}
use Rattle.aggregate_laws.specs.Bitcasts.{bitcast_rule}
use Rattle.aggregate_laws.specs.Aggregates.{first_type, array_length, element_type, index_bits, own_names}
use Rattle.hw_model.specs.Kinds.Kind.{instance, output}
use Rattle.lowering_rules.specs.declared.forms.Form.{Form}
use Rattle.lowering_rules.specs.declared.forms.Form.TheVariants.{Stays, Wires, Join, Extract, Inject, Mux, Constant, Get, Slice, ArrayInject, Bitcast, OneRegister, Registers, Instance, Output}
use Rattle.lowering_rules.specs.declared.forms.RegisterForm.{RegisterForm as CodeForm}

-- the form of a register
abbrev pub register_form_of : CodeForm → RegisterForm
register_form_of f = record { has_enable = f.enable; reset = reset_of f.reset }

-- the rule
abbrev pub form_rule : (Op → Kind) → Form → Op → Rule
form_rule named Stays o = stays_rule o
form_rule named Wires o = join_rule o (own_names o)
form_rule named Join o = join_rule o unnamed
form_rule named (Extract name) o = extract_rule o name.now
form_rule named (Inject name) o = inject_rule o name.now
form_rule named Mux o = mux_rule o
form_rule named (Constant ls) o = constant_rule o (literals_in ls.now)
form_rule named Get o = get_rule o (array_length (nth_type o.types 0)) (width (nth_type o.types 1))
form_rule named Slice o =
    slice_rule o (array_length (nth_type o.types 0)) (array_length (first_type o)) (length (leaves (element_type (nth_type o.types 0)))) (index_bits (array_length (nth_type o.types 0)))
form_rule named ArrayInject o =
    array_inject_rule o (array_length (nth_type o.types 0)) (length (leaves (element_type (nth_type o.types 0)))) (width (nth_type o.types 1))
form_rule named Bitcast o = bitcast_rule o (nth_type o.types 0)
form_rule named (OneRegister f) o = register_stays_rule o (register_form_of f)
form_rule named (Registers f) o = register_rule o (register_form_of f) (own_names o)
form_rule named (Instance i) o = spread_rule o (named (record o { kind = instance (instance_of i.now) }))
form_rule named Output o = spread_rule o output
