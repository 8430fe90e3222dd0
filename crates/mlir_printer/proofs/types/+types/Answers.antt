use Rattle.std.proofs.Common.{◌≡◌, ◌++◌, ap, ◌∙◌, sym, map, arith}
use Rattle.std.specs.Prelude.{codes}
use Rattle.hw_model.specs.TypeViews.{field_of, fields_of, fields_in}
use Rattle.hw_model.proofs.FieldSums.{fields_open}
use Rattle.mlir_printer.specs.Strings.{name_bytes}
use Rattle.mlir_printer.specs.Types.{type_bytes, fields_from}
use Rattle.mlir_printer.specs.Commas.{items_from}
use Rattle.wiring.proofs.Joined.{three_added}
use Rattle.mlir_printer.proofs.steps.Steps.{items_end, fields_items}
use Rattle.mlir_printer.proofs.types.+types.Goals as goal

pub push_fields-returns : goal.push_fields-returns
push_fields-returns t c =
    let fields = c.args.fields.now in
    items_end (λ x. name_bytes (field_of x).name ++ (codes ": " ++ type_bytes (field_of x).type)) c.loop-i.i fields c.loop-i.i c.loop-i.out
    (c.args.out.now ++ items_from (λ x. name_bytes (field_of x).name ++ (codes ": " ++ type_bytes (field_of x).type)) 0 fields)
    (omega (arith, c.loop-i-test.false)) c.loop-i.invariant
    ∙ ap (λ r. c.args.out.now ++ r) (fields_items field_of 0 fields)

pub push_struct-returns : goal.push_struct-returns
push_struct-returns t c =
    let e : fields_in c.args.list.now ≡ fields_of (map field_of c.deref.result.now) =
    fields_open c.args.list.now ∙ ap (λ xs. fields_of (map field_of xs)) (sym c.deref.ensures.value) in
    three_added c.args.out.now c.push_bytes.new.self c.push_fields.new.out c.push_bytes-2.new.self (codes "!hw.struct<") (fields_from 0 (fields_in c.args.list.now)) (codes ">")
    c.in_ok-push_bytes.ensures.ok (c.in_ok-push_fields.ensures ∙ ap (λ fs. c.push_bytes.new.self ++ fields_from 0 fs) (sym e)) c.in_ok-push_bytes-2.ensures.ok
