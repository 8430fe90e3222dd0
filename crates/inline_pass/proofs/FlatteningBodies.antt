-- A body is taken out of a design, instances in it are inlined, and it is put back.
use Rattle.std.proofs.Common.{◌≡◌, ℕ, zero, suc, List, [], ◌∷◌, map, length, option_map, Option, Some, None, slice_get, refl, sym, ap, subst, ◌∙◌, option_and_then}
use Rattle.std.proofs.lemmas.Option.{slice_get-map}
use Rattle.wiring.specs.Wiring.{In}
use Rattle.hw_model.specs.Types.{Name}
use Rattle.hw_model.specs.Design.{Module, Design, find_module}
use Rattle.hw_model.specs.Hierarchy.{callee_symbols}
use Rattle.hw_model.specs.Sound.{body_of}
use Rattle.edit_laws.specs.Laws.{with_body}
use Rattle.edit_laws.proofs.Follows.{set_each}
use Rattle.edit_laws.proofs.ResetsKept.{find_symbol}
use Rattle.acceptance_laws.specs.Keeps.{IsFit}
use Rattle.ir_store.specs.declared.body.Body.{Body}
use Rattle.ir_store.specs.BodyOps.{BodyOp}
use Rattle.ir_store.specs.Bodies.{ops_of}
use Rattle.ir_store.specs.Designs.{StoredModule, numbered_module, with_ops}
use Rattle.ir_store.specs.Numbered.{ops_by_position}
use Rattle.ir_store.proofs.StoredModules.{stored_at}
use Rattle.body_edits.specs.Views.{body_ops}
use Rattle.inline_pass.specs.Flattening.{if_private, private_found, by_symbol, inline_all, private_callee}
use Rattle.inline_pass.specs.FlatBodies.{HasInlinedAt}
use Rattle.inline_pass.specs.Inlinable.{IsInlinable}
use Rattle.inline_pass.proofs.InliningSteps.{private_is}
use Rattle.inline_pass.proofs.FlatteningWork.{work_alike}
use Rattle.inline_pass.proofs.FlatteningDepth.{private_by_symbol}

-- ---- modules in code

numbered_with_ops : (k : ℕ) (ops : List BodyOp) (ms : List StoredModule) (m : Module) → slice_get (map numbered_module ms) k ≡ Some m
    → map numbered_module (with_ops k ops ms) ≡ with_body (map numbered_module ms) k m (ops_by_position ops)
numbered_with_ops k ops [] m at = cc
numbered_with_ops zero ops (one ∷ ms) m at =
    let same : numbered_module one ≡ m = cc in
    ap (λ (z : Module). record z { body = ops_by_position ops } ∷ map numbered_module ms) same
numbered_with_ops (suc k) ops (one ∷ ms) m at = ap (λ zs. numbered_module one ∷ zs) (numbered_with_ops k ops ms m at)

with_ops_twice : (k : ℕ) (a b : List BodyOp) (ms : List StoredModule) → with_ops k a (with_ops k b ms) ≡ with_ops k a ms
with_ops_twice k a b [] = refl
with_ops_twice zero a b (one ∷ ms) = refl
with_ops_twice (suc k) a b (one ∷ ms) = ap (λ zs. one ∷ zs) (with_ops_twice k a b ms)

pub length-with_ops : (k : ℕ) (ops : List BodyOp) (ms : List StoredModule) → length (with_ops k ops ms) ≡ length ms
length-with_ops k ops [] = refl
length-with_ops zero ops (one ∷ ms) = refl
length-with_ops (suc k) ops (one ∷ ms) = ap suc (length-with_ops k ops ms)

-- the module whose operations are taken
pub record Taken (ms : List StoredModule) (k : ℕ) (ops : List BodyOp) : Type 0 where
  pub one : StoredModule
  pub there : Some one ≡ slice_get ms k
  pub is : one.ops ≡ ops

pub taken : (ms : List StoredModule) (k : ℕ) (ops : List BodyOp) → Some ops ≡ slice_get (map (λ (one : StoredModule). one.ops) ms) k → Taken ms k ops
taken ms k ops at = go (slice_get ms k) refl (at ∙ slice_get-map (λ (one : StoredModule). one.ops) ms k)
  where
    go : (x : Option StoredModule) → slice_get ms k ≡ x → Some ops ≡ option_map (λ (one : StoredModule). one.ops) (slice_get ms k) → Taken ms k ops
    go None is e = let clash : Some ops ≡ None = e ∙ ap (option_map (λ (one : StoredModule). one.ops)) is in cc
    go (Some one) is e =
        let same : Some ops ≡ Some one.ops = e ∙ ap (option_map (λ (one : StoredModule). one.ops)) is in
        let ops_are : ops ≡ one.ops = cc in
        record { one = one; there = sym is; is = sym ops_are }

-- ---- what a body instances does not depend on that body

module _ (d : Design) (fit : IsFit d) (k : ℕ) (m : Module) (at : slice_get d k ≡ Some m) where
  found_without : (s : Name) → In s (callee_symbols m.body) → find_module (with_body d k m []) s ≡ find_module d s
  found_without s here =
      set_each (λ old new. (old ≡ Some m → ⊥) → new ≡ old) (λ old apart. refl) d k m (record m { body = [] }) at refl (λ apart. absurd (apart refl)) s
      (λ itself. fit.valid.finite s (0, (s, subst (λ o. In s (callee_symbols (body_of o))) (sym itself) here, refl)))

  inlined_without : inline_all (private_callee (with_body d k m [])) m.body ≡ inline_all (private_callee d) m.body
  inlined_without =
      ap (λ f. inline_all f m.body) (private_by_symbol (with_body d k m []))
      ∙ work_alike (private_found (with_body d k m [])) (private_found d) (length m.body) 0 m.body (λ s here. ap (λ x. option_and_then if_private x) (found_without s here))
      ∙ sym (ap (λ f. inline_all f m.body) (private_by_symbol d))

-- another module is found as it was
other_found : (d : Design) (k : ℕ) (m : Module) → slice_get d k ≡ Some m → (s : Name) (c : Module) → (s ≡ m.symbol → ⊥) → private_found (with_body d k m []) s ≡ Some c → find_module d s ≡ Some c
other_found d k m at s c apart is =
    sym
    (set_each (λ old new. (old ≡ Some m → ⊥) → new ≡ old) (λ old away. refl) d k m (record m { body = [] }) at refl (λ away. absurd (away refl)) s
    (λ itself. apart (sym (find_symbol d s m itself))))
    ∙ private_is (find_module (with_body d k m []) s) c is

-- ---- the body of a module

module _ (ms left : List StoredModule) (k : ℕ) (b : Body) (fit : IsFit (map numbered_module ms)) (at : Some (ops_of b) ≡ slice_get (map (λ (one : StoredModule). one.ops) ms) k)
    (is : left ≡ with_ops k [] ms) where
  from : Taken ms k (ops_of b)
  from = taken ms k (ops_of b) at

  there : slice_get (map numbered_module ms) k ≡ Some (numbered_module from.one)
  there = stored_at ms k from.one from.there

  left_is : map numbered_module left ≡ with_body (map numbered_module ms) k (numbered_module from.one) []
  left_is = ap (map numbered_module) is ∙ numbered_with_ops k [] ms (numbered_module from.one) there

  body_is : (numbered_module from.one).body ≡ body_ops b
  unfolding body_ops
  body_is = ap ops_by_position from.is

  -- instances in it can be inlined
  pub taken_inlinable : IsInlinable b (private_found (map numbered_module left))
  taken_inlinable = record {
    of = record { design = map numbered_module ms; fit = fit; number = k; owner = numbered_module from.one; there = there; is_body = body_is };
    found = λ s c apart is.
        other_found (map numbered_module ms) k (numbered_module from.one) there s c apart (ap (λ d. private_found d s) (sym left_is) ∙ is);
  }

  -- the design once it is put back
  pub has_inlined : (after : Body) (new : List StoredModule) → body_ops after ≡ inline_all (by_symbol (private_found (map numbered_module left))) (body_ops b)
      → new ≡ with_ops k (ops_of after) left → HasInlinedAt k (map numbered_module ms) (map numbered_module new)
  unfolding body_ops
  has_inlined after new made put = record {
    owner = numbered_module from.one;
    there = there;
    is =
        ap (map numbered_module) (put ∙ ap (with_ops k (ops_of after)) is ∙ with_ops_twice k (ops_of after) [] ms)
        ∙ numbered_with_ops k (ops_of after) ms (numbered_module from.one) there
        ∙ ap (with_body (map numbered_module ms) k (numbered_module from.one)) now;
  }
    where
      now : ops_by_position (ops_of after) ≡ inline_all (private_callee (map numbered_module ms)) (numbered_module from.one).body
      now =
          made ∙ ap (λ f. inline_all f (body_ops b)) (sym (private_by_symbol (map numbered_module left)))
          ∙ ap (λ e. inline_all (private_callee e) (body_ops b)) left_is
          ∙ ap (inline_all (private_callee (with_body (map numbered_module ms) k (numbered_module from.one) []))) (sym body_is)
          ∙ inlined_without (map numbered_module ms) fit k (numbered_module from.one) there
