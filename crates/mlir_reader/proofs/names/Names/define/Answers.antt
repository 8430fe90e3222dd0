-- A plain number and another name are defined each in tables of their own.
use Rattle.std.proofs.Common.{◌≡◌, Bool, IfOk, is_some, sym, ap, subst, refl, ◌∙◌, None}
use Rattle.std.proofs.lemmas.Result.{on_ok_weaker}
use Rattle.mlir_reader.specs.Meanings.{definition}
use Rattle.mlir_reader.specs.PlainNumbers.{number_of}
use Rattle.mlir_reader.specs.Resolving.{with_definition}
use Rattle.mlir_reader.proofs.Tables.{same_tables, at_other_name, named_put}
use Rattle.mlir_reader.proofs.names.Names.define.Goals as goal

pub returns-in-Some-clause-again : goal.returns-in-Some-clause-again
returns-in-Some-clause-again c =
    subst (λ (b : Bool). IfOk c.define_number.result (λ again. again ≡ b)) (ap (λ means. is_some (means c.args.name.now)) (same_tables c.args.self.now _ refl refl refl)) c.define_number.ensures.again

pub returns-in-Some-clause-means : goal.returns-in-Some-clause-means
returns-in-Some-clause-means c =
    on_ok_weaker c.define_number.result
    (λ e. e ∙ ap (λ means. with_definition means (definition c.args.name.now c.args.defined)) (same_tables c.args.self.now _ refl refl refl)) c.define_number.ensures.means

other : (c : goal.After-define_listed) → number_of c.args.name.now ≡ None
other c = sym c.number_of.ensures ∙ c.in-None.is

pub returns-in-None-clause-again : goal.returns-in-None-clause-again
returns-in-None-clause-again c =
    subst (λ (b : Bool). IfOk c.define_listed.result (λ again. again ≡ b)) (sym (ap is_some (at_other_name c.args.self.now c.args.name.now (other c)))) c.define_listed.ensures.again

pub returns-in-None-clause-means : goal.returns-in-None-clause-means
returns-in-None-clause-means c =
    on_ok_weaker c.define_listed.result (named_put c.args.self.now _ c.args.name.now c.args.defined (other c) refl refl) c.define_listed.ensures.means
