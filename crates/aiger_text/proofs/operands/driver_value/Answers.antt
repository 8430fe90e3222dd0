use Rattle.std.proofs.Common.{rules, ◌≡◌, ◌+◌, ◌<◌, ◌≤◌, ◌^◌, length, sym, ap, subst, ◌∙◌, arith}
use Rattle.std.specs.Prelude.{Some}
use Rattle.hw_model.specs.Design.Ref.{result}
use Rattle.ir_store.specs.Numbered.{ref_by}
use Rattle.aiger_design.specs.Positions.{driver_ref}
use Rattle.aiger_reader.specs.declared.drivers.Driver.{Driver}
use Rattle.aiger_reader.specs.Kept.{driver_in, tree_of}
use Rattle.aiger_reader.specs.Told.{line_count}
use Rattle.aiger_text.specs.Places.{IsThere}
use Rattle.aiger_text.proofs.UserEnds.{own_end, place_there, place_is}
use Rattle.aiger_text.proofs.operands.driver_value.Goals as goal

pub input_port-requires : goal.input_port-requires
input_port-requires c =
    let low : c.in-Input.place < length c.args.text.now.inputs.items = subst (λ (d : Driver). IsThere (tree_of c.args.text.now) (driver_in (Some d))) c.in-Input.is c.requires.there in
    let few : line_count (tree_of c.args.text.now) ≤ 2 ^ 26 = c.requires.ready.few in
    omega (arith, low, few)

pub own_value-requires : goal.own_value-requires
own_value-requires c =
    let low : c.in-Latch.place < length c.args.text.now.latches.items = subst (λ (d : Driver). IsThere (tree_of c.args.text.now) (driver_in (Some d))) c.in-Latch.is c.requires.there in
    place_there (tree_of c.args.text.now) c.args.places.now c.requires.ready.places c.in-Latch.place (omega (arith, low))

pub overflow_add-len : goal.overflow_add-len
overflow_add-len c =
    let low : c.in-Gate.place < length c.args.text.now.gates.items = subst (λ (d : Driver). IsThere (tree_of c.args.text.now) (driver_in (Some d))) c.in-Gate.is c.requires.there in
    let few : line_count (tree_of c.args.text.now) ≤ 2 ^ 26 = c.requires.ready.few in
    let count : c.len.result ≡ length c.args.text.now.latches.items = search rules in
    omega (arith, low, few, count)

pub own_value-requires-in-Gate : goal.own_value-requires-in-Gate
own_value-requires-in-Gate c =
    let low : c.in-Gate.place < length c.args.text.now.gates.items = subst (λ (d : Driver). IsThere (tree_of c.args.text.now) (driver_in (Some d))) c.in-Gate.is c.requires.there in
    let count : c.len.result ≡ length c.args.text.now.latches.items = search rules in
    place_there (tree_of c.args.text.now) c.args.places.now c.requires.ready.places (c.len.result + c.in-Gate.place) (omega (arith, low, count))

pub returns-in-Latch : goal.returns-in-Latch
returns-in-Latch c =
    let low : c.in-Latch.place < length c.args.text.now.latches.items = subst (λ (d : Driver). IsThere (tree_of c.args.text.now) (driver_in (Some d))) c.in-Latch.is c.requires.there in
    ap (ref_by (λ i. i)) c.own_value.ensures
    ∙ ap (λ i. result i 0) (place_is (tree_of c.args.text.now) c.args.places.now c.requires.ready.places c.in-Latch.place (omega (arith, low)))
    ∙ sym (ap (λ (d : Driver). driver_ref (tree_of c.args.text.now) (driver_in (Some d))) c.in-Latch.is)

pub returns-in-Gate : goal.returns-in-Gate
returns-in-Gate c =
    let low : c.in-Gate.place < length c.args.text.now.gates.items = subst (λ (d : Driver). IsThere (tree_of c.args.text.now) (driver_in (Some d))) c.in-Gate.is c.requires.there in
    let count : c.len.result ≡ length c.args.text.now.latches.items = search rules in
    ap (ref_by (λ i. i)) c.own_value-in-Gate.ensures
    ∙ ap (λ i. result i 0)
    (place_is (tree_of c.args.text.now) c.args.places.now c.requires.ready.places (c.len.result + c.in-Gate.place) (omega (arith, low, count))
    ∙ ap (λ n. own_end (tree_of c.args.text.now) (n + c.in-Gate.place)) count)
    ∙ sym (ap (λ (d : Driver). driver_ref (tree_of c.args.text.now) (driver_in (Some d))) c.in-Gate.is)
