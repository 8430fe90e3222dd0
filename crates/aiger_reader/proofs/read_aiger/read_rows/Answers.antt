use Rattle.std.proofs.Common.{rules, ◌≡◌, ◌+◌, true, false, length, sym, ap, subst, ◌∙◌, arith}
use Rattle.std.specs.Prelude.{Option, Result, Ok, Err}
use Rattle.text_lines.specs.Lines.{lines}
use Rattle.aiger_laws.specs.declared.fault.Fault.{Fault}
use Rattle.aiger_laws.specs.Trees.{empty_tree}
use Rattle.aiger_laws.specs.Fields.{fields}
use Rattle.aiger_laws.specs.Rows.{row_added}
use Rattle.aiger_laws.specs.Grammar.{tree_from, when_ended}
use Rattle.aiger_reader.specs.declared.fail.ReadFail.{ReadFail}
use Rattle.aiger_reader.specs.Headers.{header_in}
use Rattle.aiger_reader.specs.Kept.{tree_of, Adds}
use Rattle.aiger_reader.specs.Told.{IsLineFail, line_count}
use Rattle.aiger_reader.proofs.LinesRead.{Grows, row_more, from_end, from_fault, from_more, from_done}
use Rattle.aiger_reader.proofs.read_aiger.read_rows.Goals as goal

pub returns-then-is_empty-clause-err : goal.returns-then-is_empty-clause-err
returns-then-is_empty-clause-err c =
    let none : length c.loop-header.rest.now ≡ 0 = search rules in
    subst (λ (e : ReadFail). IsLineFail (tree_from (header_in c.args.header) 2 empty_tree (lines c.args.source.now)) e) (sym c.refused.ensures)
    (sym c.loop-header.invariant.left
    ∙ from_end (header_in c.args.header) c.loop-header.line (tree_of c.loop-header.text) c.loop-header.rest.now (sym c.loop-header-test.ensures) none)

pub returns-in-Some-clause-err : goal.returns-in-Some-clause-err
returns-in-Some-clause-err c =
    let row : row_added (header_in c.args.header) (tree_of c.loop-header.text) (fields c.first_line.result.0.now) ≡ Err c.in-Some.fault =
    subst (λ (o : Option Fault). Adds (row_added (header_in c.args.header) (tree_of c.loop-header.text) (fields c.first_line.result.0.now)) o (tree_of c.add_row.new.self)) c.in-Some.is
    c.in_ok-fault.ensures.adds in
    subst (λ (e : ReadFail). IsLineFail (tree_from (header_in c.args.header) 2 empty_tree (lines c.args.source.now)) e) (sym c.refused-in-Some.ensures)
    (sym c.loop-header.invariant.left
    ∙ from_fault (header_in c.args.header) c.loop-header.line (tree_of c.loop-header.text) c.loop-header.rest.now c.first_line.result.0.now c.first_line.result.1.now c.in-Some.fault
    (sym c.loop-header-test.ensures) c.first_line.ensures.lines row)

pub loop-header-preserved : goal.loop-header-preserved
loop-header-preserved c =
    let row : row_added (header_in c.args.header) (tree_of c.loop-header.text) (fields c.first_line.result.0.now) ≡ Ok (tree_of c.add_row.new.self) =
    subst (λ (o : Option Fault). Adds (row_added (header_in c.args.header) (tree_of c.loop-header.text) (fields c.first_line.result.0.now)) o (tree_of c.add_row.new.self)) c.in_default.is
    c.in_ok-fault.ensures.adds in
    let grows : Grows (tree_of c.loop-header.text) (tree_of c.add_row.new.self) =
    row_more (header_in c.args.header) (tree_of c.loop-header.text) (tree_of c.add_row.new.self) (fields c.first_line.result.0.now) row in
    let count : line_count (tree_of c.add_row.new.self) ≡ line_count (tree_of c.loop-header.text) + 1 = grows.count in
    let before : line_count (tree_of c.loop-header.text) + 2 ≡ c.loop-header.line = c.loop-header.invariant.count in
    record {
      left =
          from_more (header_in c.args.header) c.loop-header.line (tree_of c.loop-header.text) (tree_of c.add_row.new.self) c.loop-header.rest.now c.first_line.result.0.now c.first_line.result.1.now
          (sym c.loop-header-test.ensures) c.first_line.ensures.lines row
          ∙ c.loop-header.invariant.left;
      knows = c.in_ok-fault.ensures.knows;
      count = omega (arith, count, before);
      room = omega (arith, c.loop-header.invariant.room, c.first_line.ensures.shorter);
    }

pub returns-in-None-clause-ok : goal.returns-in-None-clause-ok
returns-in-None-clause-ok c =
    sym c.loop-header.invariant.left
    ∙ from_done (header_in c.args.header) c.loop-header.line (tree_of c.loop-header.text) (lines c.loop-header.rest.now) (sym c.loop-header-test.ensures)
    ∙ ap (when_ended (tree_of c.loop-header.text)) (sym c.in-None.ensures)

pub returns-in-Some-no_symbol-clause-err : goal.returns-in-Some-no_symbol-clause-err
returns-in-Some-no_symbol-clause-err c =
    subst (λ (e : ReadFail). IsLineFail (tree_from (header_in c.args.header) 2 empty_tree (lines c.args.source.now)) e) (sym c.refused-in-Some-no_symbol.ensures)
    (sym c.loop-header.invariant.left
    ∙ from_done (header_in c.args.header) c.loop-header.line (tree_of c.loop-header.text) (lines c.loop-header.rest.now) (sym c.loop-header-test.ensures)
    ∙ ap (when_ended (tree_of c.loop-header.text)) (sym c.in-Some-no_symbol.ensures))
