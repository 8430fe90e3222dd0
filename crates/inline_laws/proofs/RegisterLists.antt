-- The registers of joined lists of operations, and of a module at any depth that is enough.
use Rattle.std.proofs.Common.{◌≡◌, ℕ, zero, suc, ◌+◌, ◌<◌, ◌≤◌, Bool, true, false, cond, List, [], ◌∷◌, ◌++◌, length, Some, None, refl, sym, ap, ap₂, ◌∙◌, inl, inr, arith, append_assoc, add-zero}
use Rattle.wiring.specs.Wiring.{In, IsHeight}
use Rattle.wiring.proofs.Heights.{FallsAlong-height}
use Rattle.hw_model.specs.Types.{Name}
use Rattle.hw_model.specs.Kinds.{Instance}
use Rattle.hw_model.specs.Design.{Op, Design, find_module, instance_in, is_instance, register_form}
use Rattle.hw_model.specs.Flat.{Path, Slot, instances, op_registers, body_registers, module_registers}
use Rattle.hw_model.specs.Hierarchy.{calls}
use Rattle.hw_model.specs.Sound.{body_of}
use Rattle.hw_model.proofs.Sorts.{Sort, sort_of}
use Rattle.hw_model.proofs.Sorts.Sort.{a_register, an_instance, an_output, a_made}
use Rattle.hw_model.proofs.Paths.{registers_body}
use Rattle.hw_model.proofs.Gone.{called_In}
use Rattle.inline_laws.proofs.Ends.{AreWires}

module _ (inner : Path → Name → List Slot) (p : Path) where
  pub registers-append : (u : ℕ) (xs ys : List Op) → body_registers inner p u (xs ++ ys) ≡ body_registers inner p u xs ++ body_registers inner p (u + length (instances xs)) ys
  registers-append u [] ys = ap (λ n. body_registers inner p n ys) (sym (add-zero u))
  registers-append u (o ∷ xs) ys =
      ap (λ ss. op_registers inner p u o ++ ss) (registers-append (cond (is_instance o) (suc u) u) xs ys ∙ ap (λ n. body_registers inner p (cond (is_instance o) (suc u) u) xs ++ body_registers inner p n ys) (go (is_instance o)))
      ∙ sym (append_assoc (op_registers inner p u o) (body_registers inner p (cond (is_instance o) (suc u) u) xs) (body_registers inner p (u + length (instances (o ∷ xs))) ys))
    where
      go : (b : Bool) → cond b (suc u) u + length (instances xs) ≡ u + length (cond b (o ∷ instances xs) (instances xs))
      go true = omega arith
      go false = refl

  pub wires_registers : (u : ℕ) (os : List Op) → AreWires os → body_registers inner p u os ≡ []
  wires_registers u [] are = refl
  wires_registers u (o ∷ os) are =
      ap₂ (λ xs ys. xs ++ ys) (plain o (ap register_form (are o (inl refl))) (ap instance_in (are o (inl refl)))) (wires_registers (cond (is_instance o) (suc u) u) os (λ y here. are y (inr here)))
    where
      plain : (o : Op) → register_form o.kind ≡ None → instance_in o.kind ≡ None → op_registers inner p u o ≡ []
      plain o r i = simp (r, i)

-- what a body instances decides which registers it has
registers_agree : (f g : Path → Name → List Slot) (p : Path) (u : ℕ) (os : List Op)
    → ((o : Op) (i : Instance) (q : Path) → In o os → instance_in o.kind ≡ Some i → f q i.symbol ≡ g q i.symbol) → body_registers f p u os ≡ body_registers g p u os
registers_agree f g p u [] agree = refl
registers_agree f g p u (o ∷ os) agree =
    ap₂ (λ xs ys. xs ++ ys) (go (sort_of o.kind)) (registers_agree f g p (cond (is_instance o) (suc u) u) os (λ x i q here inst. agree x i q (inr here) inst))
  where
    go : Sort o.kind → op_registers f p u o ≡ op_registers g p u o
    go (a_register x r i w) = simp (r, i)
    go (an_instance x r i w) = let equal : f (u ∷ p) x.symbol ≡ g (u ∷ p) x.symbol = agree o x (u ∷ p) (inl refl) i in simp (r, i) equal
    go (an_output r i w) = simp (r, i)
    go (a_made r i w) = simp (r, i)

-- the registers of a module do not depend on the depth, where it is enough
registers_steady : (d : Design) (h : Name → ℕ) → IsHeight (calls d) h → (m n : ℕ) (p : Path) (s : Name) → h s ≤ m → h s ≤ n → module_registers m d p s ≡ module_registers n d p s
registers_steady d h height zero n p s low also = let positive : h s ≡ suc _ = height s in absurd (omega arith)
registers_steady d h height (suc m) zero p s low also = let positive : h s ≡ suc _ = height s in absurd (omega arith)
registers_steady d h height (suc m) (suc n) p s low also =
    registers_body (module_registers m d) p (find_module d s)
    ∙ registers_agree (module_registers m d) (module_registers n d) p 0 (body_of (find_module d s))
    (λ o i q here inst.
    let lower : h i.symbol < h s = FallsAlong-height (calls d) h height s i.symbol (called_In (body_of (find_module d s)) o i here inst) in
    registers_steady d h height m n q i.symbol (omega arith) (omega arith))
    ∙ sym (registers_body (module_registers n d) p (find_module d s))

-- they are those of its body
pub registers_are : (d : Design) (h : Name → ℕ) → IsHeight (calls d) h → (n : ℕ) (p : Path) (s : Name) → h s ≤ n
    → module_registers n d p s ≡ body_registers (module_registers n d) p 0 (body_of (find_module d s))
registers_are d h height n p s low =
    registers_steady d h height n (suc n) p s low (omega arith) ∙ registers_body (module_registers n d) p (find_module d s)
