-- A body's registers, instances and outputs decide its instances, output values and register content.
use Rattle.std.proofs.Common.{◌≡◌, ℕ, zero, suc, pred, ◌+◌, List, [], ◌∷◌, ◌++◌, map, refl, sym, ap, ◌∙◌, zero-add}
use Rattle.hw_model.specs.Types.{Name}
use Rattle.hw_model.specs.Design.{Ref, Op, instance_in, output_refs}
use Rattle.hw_model.specs.Flat.{Path, Slot, instances, before_instance, body_state, op_state, held_width, body_registers}
use Rattle.hw_model.specs.Hierarchy.{callee_symbols, called_by}
use Rattle.hw_model.proofs.Sorts.{Sort, sort_of}
use Rattle.hw_model.proofs.Sorts.Sort.{a_register, an_instance, an_output, a_made}
use Rattle.edit_laws.specs.Edit.{retarget, anchors}

-- ---- of the anchors alone

pub instances-anchors : (os : List Op) → instances (anchors os) ≡ instances os
instances-anchors [] = refl
instances-anchors (o ∷ os) = go (sort_of o.kind) (instances-anchors os)
  where
    go : Sort o.kind → instances (anchors os) ≡ instances os → instances (anchors (o ∷ os)) ≡ instances (o ∷ os)
    go (a_register f r i u) rest = simp (r, i, u) rest
    go (an_instance n r i u) rest = simp (r, i, u) (ap (λ xs. o ∷ xs) rest)
    go (an_output r i u) rest = simp (r, i, u) rest
    go (a_made r i u) rest = simp (r, i, u) rest

pub output_refs-anchors : (os : List Op) → output_refs (anchors os) ≡ output_refs os
output_refs-anchors [] = refl
output_refs-anchors (o ∷ os) = go (sort_of o.kind) (output_refs-anchors os)
  where
    go : Sort o.kind → output_refs (anchors os) ≡ output_refs os → output_refs (anchors (o ∷ os)) ≡ output_refs (o ∷ os)
    go (a_register f r i u) rest = simp (r, i, u) rest
    go (an_instance n r i u) rest = simp (r, i, u) rest
    go (an_output r i u) rest = simp (r, i, u)
    go (a_made r i u) rest = simp (r, i, u) rest

pub body_state-anchors : (inner : Name → ℕ) (os : List Op) → body_state inner (anchors os) ≡ body_state inner os
body_state-anchors inner [] = refl
body_state-anchors inner (o ∷ os) = go (sort_of o.kind) (body_state-anchors inner os)
  where
    go : Sort o.kind → body_state inner (anchors os) ≡ body_state inner os → body_state inner (anchors (o ∷ os)) ≡ body_state inner (o ∷ os)
    go (a_register f r i u) rest = simp (r, i, u) (ap (λ n. held_width o + n) rest)
    go (an_instance n r i u) rest = simp (r, i, u) (ap (λ m. inner n.symbol + m) rest)
    go (an_output r i u) rest = simp (r, i, u) (ap (λ n. 0 + n) rest)
    go (a_made r i u) rest = simp (r, i, u) (rest ∙ sym (zero-add (body_state inner os)))

-- the content before an instance
pub before_instance-anchors : (inner : Name → ℕ) (n : ℕ) (os : List Op) → body_state inner (before_instance n (anchors os)) ≡ body_state inner (before_instance n os)
before_instance-anchors inner n [] = refl
before_instance-anchors inner n (o ∷ os) = go (sort_of o.kind) n (before_instance-anchors inner n os) (before_instance-anchors inner (pred n) os)
  where
    go : Sort o.kind → (n : ℕ) → body_state inner (before_instance n (anchors os)) ≡ body_state inner (before_instance n os)
        → body_state inner (before_instance (pred n) (anchors os)) ≡ body_state inner (before_instance (pred n) os)
        → body_state inner (before_instance n (anchors (o ∷ os))) ≡ body_state inner (before_instance n (o ∷ os))
    go (a_register f r i u) n rest fewer = simp (r, i, u) (ap (λ m. held_width o + m) rest)
    go (an_instance x r i u) zero rest fewer = simp (r, i, u)
    go (an_instance x r i u) (suc n) rest fewer = simp (r, i, u) (ap (λ m. inner x.symbol + m) fewer)
    go (an_output r i u) n rest fewer = simp (r, i, u) (ap (λ m. 0 + m) rest)
    go (a_made r i u) n rest fewer = simp (r, i, u) (rest ∙ sym (zero-add (body_state inner (before_instance n os))))

pub body_registers-anchors : (inner : Path → Name → List Slot) (p : Path) (n : ℕ) (os : List Op)
    → body_registers inner p n (anchors os) ≡ body_registers inner p n os
body_registers-anchors inner p n [] = refl
body_registers-anchors inner p n (o ∷ os) = go (sort_of o.kind) (body_registers-anchors inner p n os) (body_registers-anchors inner p (suc n) os)
  where
    go : Sort o.kind → body_registers inner p n (anchors os) ≡ body_registers inner p n os
        → body_registers inner p (suc n) (anchors os) ≡ body_registers inner p (suc n) os
        → body_registers inner p n (anchors (o ∷ os)) ≡ body_registers inner p n (o ∷ os)
    go (a_register f r i u) rest more = simp (r, i, u) (ap (λ xs. record { path = p; op = o } ∷ xs) rest)
    go (an_instance x r i u) rest more = simp (r, i, u) (ap (λ xs. inner (n ∷ p) x.symbol ++ xs) more)
    go (an_output r i u) rest more = simp (r, i, u) rest
    go (a_made r i u) rest more = simp (r, i, u) rest

pub called-anchors : (os : List Op) → callee_symbols (anchors os) ≡ callee_symbols os
called-anchors [] = refl
called-anchors (o ∷ os) = go (sort_of o.kind) (called-anchors os)
  where
    go : Sort o.kind → callee_symbols (anchors os) ≡ callee_symbols os → callee_symbols (anchors (o ∷ os)) ≡ callee_symbols (o ∷ os)
    go (a_register f r i u) rest = simp (r, i) rest
    go (an_instance x r i u) rest = simp (r, i) (ap (λ xs. x.symbol ∷ xs) rest)
    go (an_output r i u) rest = simp (r, i, u) rest
    go (a_made r i u) rest = simp (r, i, u) rest

-- ---- with other operands

module _ (f : Ref → Ref) where
  pub instances-retarget : (os : List Op) → instances (map (retarget f) os) ≡ map (retarget f) (instances os)
  instances-retarget [] = refl
  instances-retarget (o ∷ os) = go (sort_of o.kind) (instances-retarget os)
    where
      go : Sort o.kind → instances (map (retarget f) os) ≡ map (retarget f) (instances os)
          → instances (map (retarget f) (o ∷ os)) ≡ map (retarget f) (instances (o ∷ os))
      go (a_register x r i u) rest = simp i rest
      go (an_instance x r i u) rest = simp i (ap (λ xs. retarget f o ∷ xs) rest)
      go (an_output r i u) rest = simp i rest
      go (a_made r i u) rest = simp i rest

  pub output_refs-retarget : (os : List Op) → output_refs (map (retarget f) os) ≡ map f (output_refs os)
  output_refs-retarget [] = refl
  output_refs-retarget (o ∷ os) = go (sort_of o.kind) (output_refs-retarget os)
    where
      go : Sort o.kind → output_refs (map (retarget f) os) ≡ map f (output_refs os)
          → output_refs (map (retarget f) (o ∷ os)) ≡ map f (output_refs (o ∷ os))
      go (a_register x r i u) rest = simp u rest
      go (an_instance x r i u) rest = simp u rest
      go (an_output r i u) rest = simp u
      go (a_made r i u) rest = simp u rest

  pub body_state-retarget : (inner : Name → ℕ) (os : List Op) → body_state inner (map (retarget f) os) ≡ body_state inner os
  body_state-retarget inner [] = refl
  body_state-retarget inner (o ∷ os) = ap (λ n. op_state inner o + n) (body_state-retarget inner os)

  pub called-retarget : (os : List Op) → callee_symbols (map (retarget f) os) ≡ callee_symbols os
  called-retarget [] = refl
  called-retarget (o ∷ os) = ap (λ xs. called_by (instance_in o.kind) ++ xs) (called-retarget os)

  pub before_instance-retarget : (n : ℕ) (os : List Op) → before_instance n (map (retarget f) os) ≡ map (retarget f) (before_instance n os)
  before_instance-retarget n [] = refl
  before_instance-retarget n (o ∷ os) = go (sort_of o.kind) n (before_instance-retarget n os) (before_instance-retarget (pred n) os)
    where
      go : Sort o.kind → (n : ℕ) → before_instance n (map (retarget f) os) ≡ map (retarget f) (before_instance n os)
          → before_instance (pred n) (map (retarget f) os) ≡ map (retarget f) (before_instance (pred n) os)
          → before_instance n (map (retarget f) (o ∷ os)) ≡ map (retarget f) (before_instance n (o ∷ os))
      go (a_register x r i u) n rest fewer = simp i (ap (λ xs. retarget f o ∷ xs) rest)
      go (an_instance x r i u) zero rest fewer = simp i
      go (an_instance x r i u) (suc n) rest fewer = simp i (ap (λ xs. retarget f o ∷ xs) fewer)
      go (an_output r i u) n rest fewer = simp i (ap (λ xs. retarget f o ∷ xs) rest)
      go (a_made r i u) n rest fewer = simp i (ap (λ xs. retarget f o ∷ xs) rest)

-- ---- what two bodies have in common where one's anchors are the other's with other operands

module _ (os os' : List Op) (f : Ref → Ref) (same : anchors os' ≡ map (retarget f) (anchors os)) where
  pub instances_follow : instances os' ≡ map (retarget f) (instances os)
  instances_follow =
      sym (instances-anchors os') ∙ ap instances same ∙ instances-retarget f (anchors os) ∙ ap (map (retarget f)) (instances-anchors os)

  pub output_refs_follow : output_refs os' ≡ map f (output_refs os)
  output_refs_follow =
      sym (output_refs-anchors os') ∙ ap output_refs same ∙ output_refs-retarget f (anchors os) ∙ ap (map f) (output_refs-anchors os)

  pub called_follow : callee_symbols os' ≡ callee_symbols os
  called_follow = sym (called-anchors os') ∙ ap callee_symbols same ∙ called-retarget f (anchors os) ∙ called-anchors os

  pub body_state_follows : (inner : Name → ℕ) → body_state inner os' ≡ body_state inner os
  body_state_follows inner =
      sym (body_state-anchors inner os') ∙ ap (body_state inner) same ∙ body_state-retarget f inner (anchors os) ∙ body_state-anchors inner os

  pub before_instance_follows : (inner : Name → ℕ) (n : ℕ) → body_state inner (before_instance n os') ≡ body_state inner (before_instance n os)
  before_instance_follows inner n =
      sym (before_instance-anchors inner n os') ∙ ap (λ xs. body_state inner (before_instance n xs)) same
      ∙ ap (body_state inner) (before_instance-retarget f n (anchors os))
      ∙ body_state-retarget f inner (before_instance n (anchors os)) ∙ before_instance-anchors inner n os
