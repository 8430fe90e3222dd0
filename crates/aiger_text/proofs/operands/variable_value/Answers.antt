use Rattle.std.proofs.Common.{◌≡◌, sym, ap, subst, ◌∙◌}
use Rattle.std.specs.Prelude.{Some}
use Rattle.aiger_laws.specs.Drivers.{driver}
use Rattle.aiger_design.specs.Positions.{driver_ref}
use Rattle.aiger_reader.specs.Kept.{driver_in, tree_of}
use Rattle.aiger_text.specs.Places.{IsThere}
use Rattle.aiger_text.proofs.UserEnds.{driver_there}
use Rattle.aiger_text.proofs.operands.variable_value.Goals as goal

pub driver_value-requires-clause-there : goal.driver_value-requires-clause-there
driver_value-requires-clause-there c =
    let same : driver_in (Some c.in-Some.driver) ≡ driver (tree_of c.args.text.now) c.args.variable = sym (ap driver_in c.in-Some.is) ∙ c.driver.ensures ∙ c.requires.knows c.args.variable in
    subst (IsThere (tree_of c.args.text.now)) (sym same) (driver_there (tree_of c.args.text.now) c.args.variable)

pub returns-in-Some : goal.returns-in-Some
returns-in-Some c =
    let same : driver_in (Some c.in-Some.driver) ≡ driver (tree_of c.args.text.now) c.args.variable = sym (ap driver_in c.in-Some.is) ∙ c.driver.ensures ∙ c.requires.knows c.args.variable in
    c.driver_value.ensures ∙ ap (driver_ref (tree_of c.args.text.now)) same
