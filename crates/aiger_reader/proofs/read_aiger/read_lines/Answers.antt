use Rattle.std.proofs.Common.{rules, ◌≡◌, ◌≤◌, ◌^◌, ℕ, length, sym, subst, ◌∙◌, arith}
use Rattle.std.specs.Prelude.{Result, Ok, IfOk, IfErr}
use Rattle.text_lines.specs.Lines.{lines}
use Rattle.aiger_laws.specs.declared.fault.Fault.{Fault}
use Rattle.aiger_laws.specs.Trees.{Aiger}
use Rattle.aiger_laws.specs.Fields.{fields}
use Rattle.aiger_laws.specs.Rows.{header_of}
use Rattle.aiger_laws.specs.Grammar.{tree_of_text}
use Rattle.aiger_reader.specs.declared.fail.ReadFail.{ReadFail}
use Rattle.aiger_reader.specs.Headers.{header_in}
use Rattle.aiger_reader.specs.Kept.{tree_of}
use Rattle.aiger_reader.specs.Told.{IsLineFail}
use Rattle.aiger_reader.proofs.LinesRead.{behind_told, behind_none, text_none, text_some}
use Rattle.aiger_reader.proofs.read_aiger.read_lines.Goals as goal

pub returns-then-is_empty-clause-err : goal.returns-then-is_empty-clause-err
returns-then-is_empty-clause-err c =
    let none : length c.args.source.now ≡ 0 = search rules in
    subst (λ (e : ReadFail). IsLineFail (tree_of_text c.args.source.now) e) (sym c.refused.ensures) (text_none c.args.source.now none)

pub returns-in-Some-clause-ok : goal.returns-in-Some-clause-ok
returns-in-Some-clause-ok c =
    let short : length c.first_line.result.1.now ≤ 2 ^ 26 = omega (arith, c.first_line.ensures.shorter, c.requires) in
    subst (λ (r : Result Aiger (ℕ × Fault)). IfOk c.read_rows.result (λ text. r ≡ Ok (tree_of text)))
    (behind_told (header_of (fields c.first_line.result.0.now)) (header_in c.in-Some.header) c.first_line.result.1.now c.in-Some.ensures.told short
    ∙ text_some c.args.source.now c.first_line.result.0.now c.first_line.result.1.now c.first_line.ensures.lines)
    c.read_rows.ensures.ok

pub returns-in-Some-clause-err : goal.returns-in-Some-clause-err
returns-in-Some-clause-err c =
    let short : length c.first_line.result.1.now ≤ 2 ^ 26 = omega (arith, c.first_line.ensures.shorter, c.requires) in
    subst (λ (r : Result Aiger (ℕ × Fault)). IfErr c.read_rows.result (IsLineFail r))
    (behind_told (header_of (fields c.first_line.result.0.now)) (header_in c.in-Some.header) c.first_line.result.1.now c.in-Some.ensures.told short
    ∙ text_some c.args.source.now c.first_line.result.0.now c.first_line.result.1.now c.first_line.ensures.lines)
    c.read_rows.ensures.err

pub returns-in-None-clause-err : goal.returns-in-None-clause-err
returns-in-None-clause-err c =
    subst (λ (e : ReadFail). IsLineFail (tree_of_text c.args.source.now) e) (sym c.refused-in-None.ensures)
    (sym (text_some c.args.source.now c.first_line.result.0.now c.first_line.result.1.now c.first_line.ensures.lines)
    ∙ behind_none (header_of (fields c.first_line.result.0.now)) (lines c.first_line.result.1.now) c.in-None.ensures.told)
