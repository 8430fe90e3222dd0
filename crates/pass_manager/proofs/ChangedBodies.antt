-- Designs whose bodies a pass changes, one by one.
use Rattle.std.proofs.Common.{◌≡◌, ℕ, List, [], ◌∷◌, ◌++◌, map, length, Some, slice_get, refl, sym, ap, ap₂, subst, ◌∙◌}
use Rattle.std.proofs.lemmas.List.{append_assoc}
use Rattle.wiring.proofs.Lists.{slice_get-append_at}
use Rattle.hw_model.specs.Design.{Op, Module, Design}
use Rattle.edit_laws.specs.Laws.{with_body}
use Rattle.acceptance_laws.specs.Keeps.{IsFit}
use Rattle.ir_store.specs.declared.body.Body.{Body}
use Rattle.ir_store.specs.Bodies.{ops_of}
use Rattle.ir_store.specs.Designs.{StoredModule, numbered_module}
use Rattle.ir_store.specs.Numbered.{ops_by_position}
use Rattle.ir_store.proofs.StoredModules.{stored_at}
use Rattle.pass_laws.proofs.Steps.{Keeps, keeps_self, keeps_then}
use Rattle.body_edits.specs.FitBodies.{IsOfFit}
use Rattle.body_edits.specs.Views.{body_ops}
use Rattle.inline_pass.proofs.FlatteningBodies.{taken}
use Rattle.canonicalise.proofs.Dues.{set_here}
use Rattle.pass_manager.specs.Results.{AreModulesBy}

-- ---- the modules of a design

module _ (Makes : List Op → List Op → Type 0) where
  -- what is made of a body keeps its design
  abbrev pub Follows : Type 0
  Follows = (d : Design) (k : ℕ) (m : Module) (os : List Op) → IsFit d → slice_get d k ≡ Some m → Makes m.body os → Keeps d (with_body d k m os)

  -- the modules after the first ones get other bodies
  changed_from : Follows → (pre ms ns : Design) → IsFit (pre ++ ms) → AreModulesBy Makes ms ns → Keeps (pre ++ ms) (pre ++ ns)
  changed_from follows pre [] [] fit all = keeps_self (pre ++ []) fit
  changed_from follows pre [] (n ∷ ns) fit all = absurd all
  changed_from follows pre (m ∷ ms) [] fit all = absurd all
  changed_from follows pre (m ∷ ms) (n ∷ ns) fit (one, rest) =
      let at : slice_get (pre ++ m ∷ ms) (length pre) ≡ Some m = slice_get-append_at pre m ms in
      let first : Keeps (pre ++ m ∷ ms) (with_body (pre ++ m ∷ ms) (length pre) m n.body) = follows (pre ++ m ∷ ms) (length pre) m n.body fit at one.made in
      let changed : with_body (pre ++ m ∷ ms) (length pre) m n.body ≡ pre ++ n ∷ ms = set_here pre m (record m { body = n.body }) ms ∙ ap (λ z. pre ++ z ∷ ms) (sym one.kept) in
      let kept : Keeps (pre ++ m ∷ ms) (pre ++ n ∷ ms) = subst (Keeps (pre ++ m ∷ ms)) changed first in
      let shift : (zs : Design) → (pre ++ n ∷ []) ++ zs ≡ pre ++ n ∷ zs = (λ zs. append_assoc pre (n ∷ []) zs) in
      let next : Keeps ((pre ++ n ∷ []) ++ ms) ((pre ++ n ∷ []) ++ ns) = changed_from follows (pre ++ n ∷ []) ms ns (subst IsFit (sym (shift ms)) kept.steady.fit) rest in
      keeps_then (pre ++ m ∷ ms) (pre ++ n ∷ ms) (pre ++ n ∷ ns) kept (subst (Keeps (pre ++ n ∷ ms)) (shift ns) (subst (λ z. Keeps z ((pre ++ n ∷ []) ++ ns)) (shift ms) next))

  pub changed_keeps : Follows → (d e : Design) → IsFit d → AreModulesBy Makes d e → Keeps d e
  changed_keeps follows d e fit all = changed_from follows [] d e fit all

  pub modules_once : ((os a b : List Op) → Makes os a → Makes os b → a ≡ b) → (d e f : Design) → AreModulesBy Makes d e → AreModulesBy Makes d f → e ≡ f
  modules_once once [] [] [] all also = refl
  modules_once once [] [] (k ∷ f) all also = absurd also
  modules_once once [] (n ∷ e) f all also = absurd all
  modules_once once (m ∷ d) [] f all also = absurd all
  modules_once once (m ∷ d) (n ∷ e) [] all also = absurd also
  modules_once once (m ∷ d) (n ∷ e) (k ∷ f) (one, rest) (other, others) =
      let same : n ≡ k = one.kept ∙ ap (λ z. record m { body = z }) (once m.body n.body k.body one.made other.made) ∙ sym other.kept in
      ap₂ (λ x xs. x ∷ xs) same (modules_once once d e f rest others)

-- the body that is taken is that of a module of a fit design
pub of_fit : (ms : List StoredModule) (k : ℕ) (b : Body) → IsFit (map numbered_module ms) → Some (ops_of b) ≡ slice_get (map (λ (one : StoredModule). one.ops) ms) k → IsOfFit b
unfolding body_ops
of_fit ms k b fit at =
    let t = taken ms k (ops_of b) at in
    record { design = map numbered_module ms; fit = fit; number = k; owner = numbered_module t.one; there = stored_at ms k t.one t.there; is_body = ap ops_by_position t.is }
