use Rattle.std.proofs.Common.{ℕ, ◌+◌, refl, sym, ap, subst}
use Rattle.std.specs.Prelude.{Option, MatchOption}
use Rattle.aiger_laws.specs.Drivers.{HasNoCycle}
use Rattle.aiger_laws.specs.Grammar.{IsFirstOnCycle}
use Rattle.aiger_reader.specs.declared.fail.ReadFail.{ReadFail}
use Rattle.aiger_reader.specs.Kept.{tree_of}
use Rattle.aiger_reader.specs.Told.{IsCycleFail}
use Rattle.aiger_reader.proofs.read_aiger.without_cycle.Goals as goal

pub returns-in-Some-clause-err : goal.returns-in-Some-clause-err
returns-in-Some-clause-err c =
    subst (λ (e : ReadFail). IsCycleFail (tree_of c.args.text) e) (sym c.refused.ensures) (
      c.in-Some.place,
      subst (λ (o : Option ℕ). MatchOption o (HasNoCycle (tree_of c.args.text)) (IsFirstOnCycle (tree_of c.args.text))) c.in-Some.is c.in_ok-place.ensures.first,
      ap (λ (n : ℕ). n + c.in-Some.place) c.gate_line.ensures,
      refl,
    )
