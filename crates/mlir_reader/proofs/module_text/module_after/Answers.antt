-- A module is read piece by piece, and its parts make the module of its text.
use Rattle.std.proofs.Common.{map, refl, subst, Vec, Global}
use Rattle.mlir_reader.specs.Meanings.{meanings_of}
use Rattle.mlir_operations.specs.ModuleText.{ModuleText, module_after}
use Rattle.mlir_reader.specs.ModuleViews.{IsBodyText, IsHead, IsModule}
use Rattle.mlir_operations.specs.Views.{port_text_of}
use Rattle.mlir_operations.specs.declared.syntax.PortText.{PortText}
use Rattle.mlir_reader.proofs.BodyTexts.{passed_for, passed_held, room_left}
use Rattle.mlir_reader.proofs.module_text.module_after.Goals as goal

pub returns-in_err-symbol-clause-gives : goal.returns-in_err-symbol-clause-gives
unfolding module_after
returns-in_err-symbol-clause-gives c =
    rw c.private_text-private.ensures.gives
    (passed_for (λ (name : _). name) IsModule c.from_residual.result c.in_err-symbol.field-0.0 c.module_symbol.new.self _ _ _ c.from_residual.ensures.1 c.in_err-symbol.ensures.gives)

pub returns-in_err-ports-clause-gives : goal.returns-in_err-ports-clause-gives
unfolding module_after
returns-in_err-ports-clause-gives c =
    rw (c.private_text-private.ensures.gives, c.in_ok-symbol.ensures.gives)
    (passed_for {A = Vec PortText Global} (λ ports. map port_text_of ports.items) IsModule c.from_residual-in_err-ports.result c.in_err-ports.field-0.0 c.ports_text.new.reader _ _ _
    c.from_residual-in_err-ports.ensures.1 c.in_err-ports.ensures.gives)

pub returns-in_err-body-clause-gives : goal.returns-in_err-body-clause-gives
unfolding module_after
returns-in_err-body-clause-gives c =
    rw (c.private_text-private.ensures.gives, c.in_ok-symbol.ensures.gives, c.in_ok-ports.ensures.gives)
    (passed_held (IsBodyText (meanings_of c.named_ports.new.names)) IsModule c.from_residual-in_err-body.result c.in_err-body.field-0.0 c.body_text.new.reader _ _ _
    c.from_residual-in_err-body.ensures.1 c.in_err-body.ensures.gives)

pub whole_module-requires-clause-count : goal.whole_module-requires-clause-count
whole_module-requires-clause-count c = room_left c.in_ok-body.ensures.gives.2.operations.body

pub returns-clause-gives : goal.returns-clause-gives
unfolding module_after
returns-clause-gives c =
    let read = c.in_ok-body.ensures.gives in
    let ports = map port_text_of c.in_ok-ports.ports.items in
    let text : ModuleText = record {
      symbol = c.in_ok-symbol.symbol;
      is_private = c.private_text-private.result;
      ports = ports;
      dictionary = read.0.dictionary;
      operations = read.0.operations;
      location = c.args.location;
      close = read.0.close;
    } in
    let head : IsHead text (record {
      symbol = c.in_ok-symbol.symbol;
      private = c.private_text-private.result;
      ports = c.in_ok-ports-2.ports.list;
      outputs = c.in_ok-ports-2.ports.outputs;
      location = c.args.location;
    }) = record { symbol = refl; private = refl; ports = c.in_ok-ports-2.ensures.list; outputs = c.in_ok-ports-2.ensures.outputs; location = refl } in
    let body = subst (λ seen. IsBodyText seen read.0 c.in_ok-body.body) c.in_ok-ports-2.ensures.names read.2 in (
      text,
      rw (c.private_text-private.ensures.gives, c.in_ok-symbol.ensures.gives, c.in_ok-ports.ensures.gives, read.1) refl,
      c.in_ok-whole_module.ensures text head body,
    )
