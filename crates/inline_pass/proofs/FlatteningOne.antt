-- One body of a design is worked on its own, with the flat bodies of the modules that it instances.
use Rattle.std.proofs.Common.{◌≡◌, ℕ, Option, Some, slice_get, sym, ap, ◌∙◌, option_map}
use Rattle.wiring.specs.Wiring.{In}
use Rattle.hw_model.specs.Types.{Name}
use Rattle.hw_model.specs.Design.{Module, Design, find_module}
use Rattle.hw_model.specs.Flat.{depth}
use Rattle.hw_model.specs.Hierarchy.{callee_symbols}
use Rattle.acceptance_laws.specs.Keeps.{IsFit}
use Rattle.ir_store.specs.declared.body.Body.{Body}
use Rattle.body_edits.specs.Views.{body_ops}
use Rattle.inline_pass.specs.Flattening.{private_found, by_symbol, inline_all, flat_body}
use Rattle.inline_pass.specs.Inlinable.{IsInlinable}
use Rattle.inline_pass.proofs.FlatteningDepth.{flat_module, flat_from_flat}
use Rattle.inline_pass.proofs.FlatteningProgress.{IsUpTo, still_there, private_flat, is_up_to}
use Rattle.inline_pass.proofs.InliningSteps.{private_is}

-- `look` gives the private modules that module m instances, with their flat bodies, and no others
pub record GivesFlat (d : Design) (m : Module) (look : Name → Option Module) : Type 0 where
  pub flat : (t : Name) → In t (callee_symbols m.body) → look t ≡ option_map (flat_module d) (private_found d t)
  pub named : (t : Name) (c : Module) → look t ≡ Some c → In t (callee_symbols m.body)

module _ (d : Design) (fit : IsFit d) (k : ℕ) (m : Module) (at : slice_get d k ≡ Some m) (look : Name → Option Module) (gives : GivesFlat d m look) (b : Body) (is : m.body ≡ body_ops b) where
  -- instances in it can be inlined
  pub one_inlinable : IsInlinable b look
  one_inlinable = go (is_up_to d fit k m at)
    where
      go : IsUpTo d k m → IsInlinable b look
      go up = record {
        of = record {
          design = up.design;
          fit = up.so_far.inlines.fit;
          number = k;
          owner = m;
          there = still_there d up.design up.marks fit up.so_far k m at up.unset up.callees;
          is_body = is;
        };
        found = λ s c apart given.
            let here : In s (callee_symbols m.body) = gives.named s c given in
            let now : private_found up.design s ≡ Some c = private_flat d up.design up.marks fit up.so_far k m at up.unset up.callees s here ∙ sym (gives.flat s here) ∙ given in
            private_is (find_module up.design s) c now;
      }

  -- that makes its flat body
  pub one_flat : (after : Body) → body_ops after ≡ inline_all (by_symbol look) (body_ops b) → body_ops after ≡ flat_body (depth d) d m.body
  one_flat after made = made ∙ ap (inline_all (by_symbol look)) (sym is) ∙ flat_from_flat d fit.valid.finite m look gives.flat
