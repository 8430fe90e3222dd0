-- Bodies of fit designs, once they have changed in a way that keeps their designs.
use Rattle.std.proofs.Common.{refl}
use Rattle.ir_store.specs.declared.body.Body.{Body}
use Rattle.edit_laws.specs.Laws.{with_body}
use Rattle.pass_laws.proofs.Steps.{Keeps, module_there}
use Rattle.body_edits.specs.FitBodies.{IsOfFit}
use Rattle.body_edits.specs.Views.{body_ops}

pub of_fit_kept : (before after : Body) (of : IsOfFit before) → Keeps of.design (with_body of.design of.number of.owner (body_ops after)) → IsOfFit after
of_fit_kept before after of keeps = record {
  design = with_body of.design of.number of.owner (body_ops after);
  fit = keeps.steady.fit;
  number = of.number;
  owner = record of.owner { body = body_ops after };
  there = module_there of.design of.number of.owner (body_ops after) of.there;
  is_body = refl;
}
