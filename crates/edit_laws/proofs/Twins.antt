-- Bodies that differ only in how registers take their next values.
use Rattle.std.proofs.Common.{◌≡◌, ℕ, zero, suc, pred, ◌+◌, Bool, true, false, cond, List, [], ◌∷◌, ◌++◌, take, set, slice_get, is_some, Option, Some, None, refl, sym, ap, ap₂, subst, ◌∙◌, add-zero, add-suc, suc-add, option_and_then}
use Rattle.bits_core.specs.Word.{Word}
use Rattle.hw_model.specs.Types.{Name}
use Rattle.hw_model.specs.Design.{Ref, Port, Op, instance_in, is_instance, is_register, is_output_op, result_type, output_refs}
use Rattle.hw_model.specs.Design.Ref.{port, result, undefined}
use Rattle.hw_model.specs.Flat.{instances, before_instance, if_zero, body_state, op_state, instance_state, held_width, width_of, register_in, async_reset_in}
use Rattle.hw_model.specs.Meaning.{next_value}
use Rattle.hw_model.specs.Sound.{type_in}
use Rattle.hw_model.specs.Hierarchy.{callee_symbols, called_by}
use Rattle.hw_model.proofs.Sorts.{Sort, sort_of}
use Rattle.hw_model.proofs.Sorts.Sort.{a_register, an_instance, an_output, a_made}
use Rattle.edit_laws.specs.Edit.{Holds}
use Rattle.edit_laws.specs.Follows.{Wide}

-- the operations at one position of two bodies: the same, or registers that are reset and load the same; `os` is the
-- first body
pub data Twin (ports : List Port) (os : List Op) (j : ℕ) (o o' : Op) : Type 0 where
  one : o' ≡ o → Twin ports os j o o'
  two : is_register o ≡ true → is_register o' ≡ true → ((k : ℕ) → result_type o' k ≡ result_type o k) → async_reset_in o' ≡ async_reset_in o
      → ((τ : Ref → Word) → Holds os τ → Wide ports os τ → (old : Word) → τ (result j 0) ≡ old → next_value (register_in o') τ old ≡ next_value (register_in o) τ old)
      → Twin ports os j o o'

-- a register is nothing else
pub register_only : (o : Op) → is_register o ≡ true → (instance_in o.kind ≡ None) × (is_output_op o ≡ false)
register_only o is = go (sort_of o.kind)
  where
    go : Sort o.kind → (instance_in o.kind ≡ None) × (is_output_op o ≡ false)
    go (a_register f r i u) = (i, u)
    go (an_instance x r i u) = let clash : false ≡ true = simp r at is in cc
    go (an_output r i u) = let clash : false ≡ true = simp r at is in cc
    go (a_made r i u) = let clash : false ≡ true = simp r at is in cc

module _ (ports : List Port) (whole : List Op) where
  abbrev pub Twins : ℕ → List Op → List Op → Type 0
  Twins j [] [] = Unit {0}
  Twins j [] (o' ∷ os') = ⊥
  Twins j (o ∷ os) [] = ⊥
  Twins j (o ∷ os) (o' ∷ os') = Twin ports whole j o o' × Twins (suc j) os os'

  pub twin_instance : (j : ℕ) (o o' : Op) → Twin ports whole j o o' → instance_in o'.kind ≡ instance_in o.kind
  twin_instance j o o' (one is) = ap (λ x. instance_in x.kind) is
  twin_instance j o o' (two old new types resets loads) = (register_only o' new).0 ∙ sym (register_only o old).0

  pub twin_register : (j : ℕ) (o o' : Op) → Twin ports whole j o o' → is_register o' ≡ is_register o
  twin_register j o o' (one is) = ap is_register is
  twin_register j o o' (two old new types resets loads) = new ∙ sym old

  pub twin_types : (j : ℕ) (o o' : Op) → Twin ports whole j o o' → (k : ℕ) → result_type o' k ≡ result_type o k
  twin_types j o o' (one is) k = ap (λ x. result_type x k) is
  twin_types j o o' (two old new types resets loads) k = types k

  pub twin_reset : (j : ℕ) (o o' : Op) → Twin ports whole j o o' → async_reset_in o' ≡ async_reset_in o
  twin_reset j o o' (one is) = ap async_reset_in is
  twin_reset j o o' (two old new types resets loads) = resets

  pub twin_state : (inner : Name → ℕ) (j : ℕ) (o o' : Op) → Twin ports whole j o o' → op_state inner o' ≡ op_state inner o
  twin_state inner j o o' twin =
      ap₂ (λ b x. cond b x (instance_state inner (instance_in o'.kind))) (twin_register j o o' twin) (ap width_of (twin_types j o o' twin 0))
      ∙ ap (λ x. cond (is_register o) (held_width o) (instance_state inner x)) (twin_instance j o o' twin)

  pub twins_instances : (j : ℕ) (os os' : List Op) → Twins j os os' → instances os' ≡ instances os
  twins_instances j [] [] twins = refl
  twins_instances j [] (o' ∷ os') twins = absurd twins
  twins_instances j (o ∷ os) [] twins = absurd twins
  twins_instances j (o ∷ os) (o' ∷ os') (twin, twins) = go twin (twins_instances (suc j) os os' twins)
    where
      go : Twin ports whole j o o' → instances os' ≡ instances os → instances (o' ∷ os') ≡ instances (o ∷ os)
      go (one is) rest = ap₂ (λ x xs. cond (is_instance x) (x ∷ xs) xs) is rest
      go (two old new types resets loads) rest =
          let mine : instance_in o.kind ≡ None = (register_only o old).0 in
          let theirs : instance_in o'.kind ≡ None = (register_only o' new).0 in
          simp (mine, theirs) rest

  pub twins_outputs : (j : ℕ) (os os' : List Op) → Twins j os os' → output_refs os' ≡ output_refs os
  twins_outputs j [] [] twins = refl
  twins_outputs j [] (o' ∷ os') twins = absurd twins
  twins_outputs j (o ∷ os) [] twins = absurd twins
  twins_outputs j (o ∷ os) (o' ∷ os') (twin, twins) = go twin (twins_outputs (suc j) os os' twins)
    where
      go : Twin ports whole j o o' → output_refs os' ≡ output_refs os → output_refs (o' ∷ os') ≡ output_refs (o ∷ os)
      go (one is) rest = ap₂ (λ x xs. cond (is_output_op x) x.operands xs) is rest
      go (two old new types resets loads) rest =
          ap (λ b. cond b o'.operands (output_refs os')) (register_only o' new).1 ∙ rest
          ∙ sym (ap (λ b. cond b o.operands (output_refs os)) (register_only o old).1)

  pub twins_called : (j : ℕ) (os os' : List Op) → Twins j os os' → callee_symbols os' ≡ callee_symbols os
  twins_called j [] [] twins = refl
  twins_called j [] (o' ∷ os') twins = absurd twins
  twins_called j (o ∷ os) [] twins = absurd twins
  twins_called j (o ∷ os) (o' ∷ os') (twin, twins) =
      ap₂ (λ x xs. called_by x ++ xs) (twin_instance j o o' twin) (twins_called (suc j) os os' twins)

  pub twins_state : (inner : Name → ℕ) (j : ℕ) (os os' : List Op) → Twins j os os' → body_state inner os' ≡ body_state inner os
  twins_state inner j [] [] twins = refl
  twins_state inner j [] (o' ∷ os') twins = absurd twins
  twins_state inner j (o ∷ os) [] twins = absurd twins
  twins_state inner j (o ∷ os) (o' ∷ os') (twin, twins) =
      ap₂ (λ a b. a + b) (twin_state inner j o o' twin) (twins_state inner (suc j) os os' twins)

  pub twins_take : (n j : ℕ) (os os' : List Op) → Twins j os os' → Twins j (take n os) (take n os')
  twins_take zero j os os' twins = tt
  twins_take (suc n) j [] [] twins = tt
  twins_take (suc n) j [] (o' ∷ os') twins = absurd twins
  twins_take (suc n) j (o ∷ os) [] twins = absurd twins
  twins_take (suc n) j (o ∷ os) (o' ∷ os') (twin, twins) = (twin, twins_take n (suc j) os os' twins)

  pub twins_before : (inner : Name → ℕ) (u j : ℕ) (os os' : List Op) → Twins j os os'
      → body_state inner (before_instance u os') ≡ body_state inner (before_instance u os)
  twins_before inner u j [] [] twins = refl
  twins_before inner u j [] (o' ∷ os') twins = absurd twins
  twins_before inner u j (o ∷ os) [] twins = absurd twins
  twins_before inner u j (o ∷ os) (o' ∷ os') (twin, twins) =
      ap (λ b. body_state inner (cond b (if_zero u [] (o' ∷ before_instance (pred u) os')) (o' ∷ before_instance u os'))) (ap is_some (twin_instance j o o' twin))
      ∙ go (is_instance o) u (twins_before inner u (suc j) os os' twins) (twins_before inner (pred u) (suc j) os os' twins)
    where
      go : (b : Bool) (u : ℕ) → body_state inner (before_instance u os') ≡ body_state inner (before_instance u os)
          → body_state inner (before_instance (pred u) os') ≡ body_state inner (before_instance (pred u) os)
          → body_state inner (cond b (if_zero u [] (o' ∷ before_instance (pred u) os')) (o' ∷ before_instance u os'))
          ≡ body_state inner (cond b (if_zero u [] (o ∷ before_instance (pred u) os)) (o ∷ before_instance u os))
      go true zero rest fewer = refl
      go true (suc u) rest fewer = ap₂ (λ a c. a + c) (twin_state inner j o o' twin) fewer
      go false u rest fewer = ap₂ (λ a c. a + c) (twin_state inner j o o' twin) rest

  -- what stands at a position of the two
  abbrev pub TwinOption : ℕ → Option Op → Option Op → Type 0
  TwinOption j None None = Unit {0}
  TwinOption j None (Some o') = ⊥
  TwinOption j (Some o) None = ⊥
  TwinOption j (Some o) (Some o') = Twin ports whole j o o'

  pub twins_at : (n j : ℕ) (os os' : List Op) → Twins j os os' → TwinOption (j + n) (slice_get os n) (slice_get os' n)
  twins_at n j [] [] twins = tt
  twins_at n j [] (o' ∷ os') twins = absurd twins
  twins_at n j (o ∷ os) [] twins = absurd twins
  twins_at zero j (o ∷ os) (o' ∷ os') (twin, twins) = subst (λ k. Twin ports whole k o o') (sym (add-zero j)) twin
  twins_at (suc n) j (o ∷ os) (o' ∷ os') (twin, twins) =
      subst (λ k. TwinOption k (slice_get os n) (slice_get os' n)) (suc-add j n ∙ sym (add-suc j n)) (twins_at n (suc j) os os' twins)

  -- the types of values are the same
  pub twins_type : (qs : List Port) (os os' : List Op) → Twins 0 os os' → (r : Ref) → type_in qs os' r ≡ type_in qs os r
  twins_type qs os os' twins (port j) = refl
  twins_type qs os os' twins undefined = refl
  twins_type qs os os' twins (result j k) = go (slice_get os j) (slice_get os' j) (twins_at j 0 os os' twins)
    where
      go : (x x' : Option Op) → TwinOption (0 + j) x x' → option_and_then (λ (o : Op). result_type o k) x' ≡ option_and_then (λ (o : Op). result_type o k) x
      go None None twin = refl
      go None (Some o') twin = absurd twin
      go (Some o) None twin = absurd twin
      go (Some o) (Some o') twin = twin_types (0 + j) o o' twin k

  -- a body and itself
  pub twins_self : (j : ℕ) (os : List Op) → Twins j os os
  twins_self j [] = tt
  twins_self j (o ∷ os) = (one refl, twins_self (suc j) os)

  -- a body and the body with one operation changed
  pub twins_set : (i j : ℕ) (os : List Op) (o o' : Op) → slice_get os i ≡ Some o → Twin ports whole (j + i) o o' → Twins j os (set os i o')
  twins_set i j [] o o' is twin = tt
  twins_set zero j (y ∷ ys) o o' is twin =
      let same : o ≡ y = cc in
      (subst (λ z. Twin ports whole j z o') same (subst (λ k. Twin ports whole k o o') (add-zero j) twin), twins_self (suc j) ys)
  twins_set (suc i) j (y ∷ ys) o o' is twin =
      (one refl, twins_set i (suc j) ys o o' is (subst (λ k. Twin ports whole k o o') (add-suc j i ∙ sym (suc-add j i)) twin))
