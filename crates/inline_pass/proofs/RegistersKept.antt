-- The registers of a module are the same in a design that keeps what it instances.
use Rattle.std.proofs.Common.{◌≡◌, ℕ, zero, suc, ◌+◌, ◌<◌, ◌≤◌, List, [], ◌∷◌, ◌++◌, length, map, Option, refl, sym, ap, ap₂, subst, ◌∙◌, inl, arith}
use Rattle.std.proofs.lemmas.List.{length-map}
use Rattle.wiring.specs.Wiring.{In, IsHeight, HasHeights}
use Rattle.wiring.proofs.Heights.{FallsAlong-height, height-le}
use Rattle.wiring.proofs.Members.{In-append_left, In-append_right}
use Rattle.hw_model.specs.Types.{Name, HwType}
use Rattle.hw_model.specs.Design.{Op, Module, Design, find_module, instance_in}
use Rattle.hw_model.specs.Hierarchy.{callee_symbols, called_by, calls, HasNoRecursion}
use Rattle.hw_model.specs.Sound.{body_of}
use Rattle.hw_model.proofs.Content.{call_heights}
use Rattle.hw_model.proofs.Finite.{calls_within}
use Rattle.hw_model.proofs.Sorts.{Sort, sort_of}
use Rattle.hw_model.proofs.Sorts.Sort.{a_register, an_instance, an_output, a_made}
use Rattle.pass_laws.specs.PassLaw.{register_types}
use Rattle.pass_laws.specs.Steady.{op_held, body_held}
use Rattle.pass_laws.proofs.Shapes.{held_types, types_held}
use Rattle.inline_pass.proofs.HighestUnreached.{IsClosed}

-- what a body instances decides which registers it has
held_agree : (f g : Name → List (Option HwType)) (os : List Op) → ((s : Name) → In s (callee_symbols os) → f s ≡ g s) → body_held f os ≡ body_held g os
held_agree f g [] same = refl
held_agree f g (o ∷ os) same =
    ap₂ (λ a b. a ++ b) (here (sort_of o.kind)) (held_agree f g os (λ s there. same s (In-append_right s (called_by (instance_in o.kind)) (callee_symbols os) there)))
  where
    here : Sort o.kind → op_held f o ≡ op_held g o
    here (a_register x r i u) = simp (r, i)
    here (an_instance x r i u) =
        let named : In x.symbol (callee_symbols (o ∷ os)) = In-append_left x.symbol (called_by (instance_in o.kind)) (callee_symbols os) (simp i (inl refl)) in
        let equal : f x.symbol ≡ g x.symbol = same x.symbol named in
        simp (r, i) equal
    here (an_output r i u) = simp (r, i)
    here (a_made r i u) = simp (r, i)

-- the depth does not matter, where it is enough
module _ (d : Design) (h : Name → ℕ) (height : IsHeight (calls d) h) where
  held_steady : (m n : ℕ) (s : Name) → h s ≤ m → h s ≤ n → held_types m d s ≡ held_types n d s
  held_steady zero n s low also = let positive : h s ≡ suc _ = height s in absurd (omega arith)
  held_steady (suc m) zero s low also = let positive : h s ≡ suc _ = height s in absurd (omega arith)
  held_steady (suc m) (suc n) s low also =
      held_agree (held_types m d) (held_types n d) (body_of (find_module d s))
      (λ t named. let lower : h t < h s = FallsAlong-height (calls d) h height s t named in held_steady m n t (omega arith) (omega arith))

  whole_depth : (n : ℕ) (s : Name) → h s ≤ n → held_types (suc (length d)) d s ≡ held_types n d s
  whole_depth n s low =
      held_steady (suc (length d)) n s
      (subst (λ k. h s ≤ suc k) (length-map d (λ (m : Module). m.symbol)) (height-le (calls d) (map (λ (m : Module). m.symbol) d) (calls_within d) h height s)) low

module _ (P : Name → Type 0) (d e : Design) (closed : IsClosed P d) (found : (s : Name) → P s → find_module e s ≡ find_module d s) where
  held_kept : (n : ℕ) (s : Name) → P s → held_types n e s ≡ held_types n d s
  held_kept zero s meets = refl
  held_kept (suc n) s meets =
      ap (λ o. body_held (held_types n e) (body_of o)) (found s meets)
      ∙ held_agree (held_types n e) (held_types n d) (body_of (find_module d s)) (λ t named. held_kept n t (closed s t meets named))

  pub registers_kept : HasNoRecursion d → HasNoRecursion e → (s : Name) → P s → register_types e s ≡ register_types d s
  registers_kept finite finite' s meets =
      types_held (suc (length e)) e [] s
      ∙ whole_depth e below.0 below.1 enough s (omega arith)
      ∙ held_kept enough s meets
      ∙ sym (whole_depth d above.0 above.1 enough s (omega arith))
      ∙ sym (types_held (suc (length d)) d [] s)
    where
      above : HasHeights (calls d)
      above = call_heights d finite

      below : HasHeights (calls e)
      below = call_heights e finite'

      enough : ℕ
      enough = above.0 s + below.0 s
