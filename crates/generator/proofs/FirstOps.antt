-- The operations that each module has first are no instances and no outputs, and their values are words.
use Rattle.std.proofs.Common.{◌≡◌, ℕ, zero, suc, ◌+◌, ◌*◌, ◌/◌, ◌%◌, ◌<◌, ◌≤◌, ◌^◌, true, cond, List, [], ◌∷◌, ◌++◌, slice_get, Some, None, refl, sym, ap, ◌∙◌, inl, inr, arith}
use Rattle.std.specs.Prelude.{is_some, slice_index_or}
use Rattle.hw_model.specs.Types.{Name}
use Rattle.hw_model.specs.Kinds.{Kind, Instance}
use Rattle.hw_model.specs.Design.{Ref, Op, instance_in, output_refs}
use Rattle.hw_model.specs.Design.Ref.{port, result}
use Rattle.hw_model.specs.Hierarchy.{called_by, callee_symbols}
use Rattle.hw_model.specs.Sound.{type_in}
use Rattle.hw_model.specs.Weight.{kind_weight, body_weight}
use Rattle.wiring.specs.Wiring.{In}
use Rattle.type_inference.specs.ResultTypes.{result_type, result_types}
use Rattle.op_verifier.specs.Headers.{has_output}
use Rattle.op_verifier.specs.OpChecks.{settled_type}
use Rattle.generator.specs.Draws.{state_after, number_drawn}
use Rattle.generator.specs.Generated.{word, generated_ports, module_symbol, chosen_kind, word_op, register_op, instance_op, first_ops, last_ops}
use Rattle.generator.proofs.ChosenKinds.{IsBinary, binary_chosen}

-- ---- what is drawn

-- a drawn number has at most 16 bits
pub drawn_small : (x n : ℕ) → number_drawn x (suc n) < 2 ^ 16
drawn_small x n = small (1664525 * state_after x n + 1013904223)
  where
    small : (y : ℕ) → (y % 2 ^ 32) / 65536 < 2 ^ 16
    small y = omega arith

-- the kinds that a module draws, x being the state before
abbrev pub first_kind : ℕ → Kind
first_kind x = chosen_kind (number_drawn x 2)

abbrev pub second_kind : ℕ → Kind
second_kind x = chosen_kind (number_drawn x 3)

abbrev pub third_kind : ℕ → Kind
third_kind x = chosen_kind (number_drawn x 4)

pub binary_first : (x : ℕ) → IsBinary (first_kind x)
binary_first x = binary_chosen (number_drawn x 2)

pub binary_second : (x : ℕ) → IsBinary (second_kind x)
binary_second x = binary_chosen (number_drawn x 3)

pub binary_third : (x : ℕ) → IsBinary (third_kind x)
binary_third x = binary_chosen (number_drawn x 4)

-- ---- values

-- a value of a body with these operations is a word
pub record IsWord (os : List Op) (r : Ref) : Type 0 where
  pub there : is_some (type_in generated_ports os r) ≡ true
  pub settled : settled_type generated_ports os r ≡ Some word

module _ (x : ℕ) (rest : List Op) where
  abbrev pub body : List Op
  body = first_ops x ++ rest

  pub word_a : IsWord body (port 2)
  word_a = record { there = refl; settled = refl }

  pub word_b : IsWord body (port 3)
  word_b = record { there = refl; settled = refl }

  pub word_constant : IsWord body (result 0 0)
  unfolding result_types result_type
  word_constant = record { there = refl; settled = refl }

  pub word_first : IsWord body (result 1 0)
  word_first = record { there = refl; settled = ap (λ ts. slice_index_or ts 0 None) (binary_first x).settles }

  pub word_second : IsWord body (result 2 0)
  word_second = record { there = refl; settled = ap (λ ts. slice_index_or ts 0 None) (binary_second x).settles }

  pub word_third : IsWord body (result 3 0)
  word_third = record { there = refl; settled = ap (λ ts. slice_index_or ts 0 None) (binary_third x).settles }

  pub word_register : IsWord body (result 4 0)
  unfolding result_types result_type
  word_register = record { there = refl; settled = refl }

  -- ---- what stands after each of the drawn operations

  abbrev pub after_third : List Op
  after_third = register_op ∷ rest

  abbrev pub after_second : List Op
  after_second = word_op (third_kind x) (result 2 0 ∷ result 1 0 ∷ []) ∷ after_third

  abbrev pub after_first : List Op
  after_first = word_op (second_kind x) (result 1 0 ∷ result 0 0 ∷ []) ∷ after_second

  -- ---- instances and outputs stand after them

  pub calls_rest : callee_symbols body ≡ callee_symbols rest
  calls_rest =
      ap (λ i. called_by i ++ callee_symbols after_first) (binary_first x).no_instance
      ∙ ap (λ i. called_by i ++ callee_symbols after_second) (binary_second x).no_instance
      ∙ ap (λ i. called_by i ++ callee_symbols after_third) (binary_third x).no_instance

  pub outputs_rest : output_refs body ≡ output_refs rest
  outputs_rest =
      ap (λ b. cond b (port 2 ∷ port 3 ∷ []) (output_refs after_first)) (binary_first x).no_output
      ∙ ap (λ b. cond b (result 1 0 ∷ result 0 0 ∷ []) (output_refs after_second)) (binary_second x).no_output
      ∙ ap (λ b. cond b (result 2 0 ∷ result 1 0 ∷ []) (output_refs after_third)) (binary_third x).no_output

  pub has_output_rest : has_output body ≡ has_output rest
  has_output_rest =
      ap (λ b. cond b true (has_output after_first)) (binary_first x).no_output
      ∙ ap (λ b. cond b true (has_output after_second)) (binary_second x).no_output
      ∙ ap (λ b. cond b true (has_output after_third)) (binary_third x).no_output

  -- they weigh 17
  pub weight_rest : (inner : Name → ℕ) → body_weight inner body ≡ 17 + body_weight inner rest
  weight_rest inner =
      let one : kind_weight inner (first_kind x) (word ∷ []) 2 ≡ 3 = (binary_first x).weighs inner in
      let two : kind_weight inner (second_kind x) (word ∷ []) 2 ≡ 3 = (binary_second x).weighs inner in
      let three : kind_weight inner (third_kind x) (word ∷ []) 2 ≡ 3 = (binary_third x).weighs inner in
      omega (arith, one, two, three)

-- ---- the only instance

is_call : (o p : Op) (i : Instance) → o ≡ p → instance_in p.kind ≡ None → instance_in o.kind ≡ Some i → ⊥
is_call o p i same none inst = let e : None ≡ Some i = sym none ∙ ap (λ (z : Op). instance_in z.kind) (sym same) ∙ inst in cc

-- an instance in module k is the one of the module of half the number before k
pub record IsCall (k : ℕ) (o : Op) : Type 0 where
  pub before : ℕ
  pub is_next : k ≡ suc before
  pub is : o ≡ instance_op (before / 2)

pub only_call : (x k : ℕ) (o : Op) (i : Instance) → In o (first_ops x ++ last_ops k) → instance_in o.kind ≡ Some i → IsCall k o
only_call x k o i (inl same) inst = absurd (is_call o _ i same refl inst)
only_call x k o i (inr (inl same)) inst = absurd (is_call o _ i same (binary_first x).no_instance inst)
only_call x k o i (inr (inr (inl same))) inst = absurd (is_call o _ i same (binary_second x).no_instance inst)
only_call x k o i (inr (inr (inr (inl same)))) inst = absurd (is_call o _ i same (binary_third x).no_instance inst)
only_call x k o i (inr (inr (inr (inr (inl same))))) inst = absurd (is_call o _ i same refl inst)
only_call x k o i (inr (inr (inr (inr (inr later))))) inst = go k later
  where
    go : (k : ℕ) → In o (last_ops k) → IsCall k o
    go zero (inl same) = absurd (is_call o _ i same refl inst)
    go zero (inr (inl same)) = absurd (is_call o _ i same refl inst)
    go zero (inr (inr never)) = absurd never
    go (suc k) (inl same) = record { before = k; is_next = refl; is = same }
    go (suc k) (inr (inl same)) = absurd (is_call o _ i same refl inst)
    go (suc k) (inr (inr (inl same))) = absurd (is_call o _ i same refl inst)
    go (suc k) (inr (inr (inr never))) = absurd never

at_call : (p o : Op) (i : Instance) → Some p ≡ Some o → instance_in p.kind ≡ None → instance_in o.kind ≡ Some i → ⊥
at_call p o i there none inst = let same : p ≡ o = cc in is_call o p i (sym same) none inst

-- it stands after the first five operations
pub late_call : (x k j : ℕ) (o : Op) (i : Instance) → slice_get (first_ops x ++ last_ops k) j ≡ Some o → instance_in o.kind ≡ Some i → 5 ≤ j
late_call x k zero o i there inst = absurd (at_call _ o i there refl inst)
late_call x k (suc zero) o i there inst = absurd (at_call _ o i there (binary_first x).no_instance inst)
late_call x k (suc (suc zero)) o i there inst = absurd (at_call _ o i there (binary_second x).no_instance inst)
late_call x k (suc (suc (suc zero))) o i there inst = absurd (at_call _ o i there (binary_third x).no_instance inst)
late_call x k (suc (suc (suc (suc zero)))) o i there inst = absurd (at_call _ o i there refl inst)
late_call x k (suc (suc (suc (suc (suc j))))) o i there inst = omega arith

-- ---- what a module instances, and its output

pub calls_first : (x : ℕ) → callee_symbols (first_ops x ++ last_ops zero) ≡ []
calls_first x = calls_rest x (last_ops zero)

pub calls_next : (x k : ℕ) → callee_symbols (first_ops x ++ last_ops (suc k)) ≡ module_symbol (k / 2) ∷ []
calls_next x k = calls_rest x (last_ops (suc k))

-- the output is the result of operation 5 or 6
pub output_of : (x k m : ℕ) (r : Ref) → slice_get (output_refs (first_ops x ++ last_ops k)) m ≡ Some r → (q : ℕ) × (r ≡ result q 0) × (q ≤ 6)
output_of x k m r is = go k m (ap (λ rs. slice_get rs m) (sym (outputs_rest x (last_ops k))) ∙ is)
  where
    go : (k m : ℕ) → slice_get (output_refs (last_ops k)) m ≡ Some r → (q : ℕ) × (r ≡ result q 0) × (q ≤ 6)
    go zero zero same = (5, cc, omega arith)
    go zero (suc m) none = cc
    go (suc k) zero same = (6, cc, omega arith)
    go (suc k) (suc m) none = cc
