-- Words built operation by operation, in runs.
use Rattle.std.proofs.Common.{◌≡◌, refl, sym, ap, ap₂, subst, ◌∙◌, ℕ, zero, suc, ◌+◌, ◌<◌, true, false, List, [], ◌∷◌, ◌++◌, length, take, drop, slice_index_or, IfOk, Result, Ok, Err, Option, Some}
use Rattle.std.proofs.Common.{None, slice_get, arith, append_assoc, append-nil, length-set}
use Rattle.std.proofs.lemmas.Option.{slice_get_within}
use Rattle.wiring.proofs.Lists.{take-suc_some}
use Rattle.gates.specs.declared.signal.Signal.{Signal}
use Rattle.gates.specs.Build.{Build, done, and_then}
use Rattle.gates.specs.Circuits.{Circuit, Runs}
use Rattle.gates.proofs.Running.{runs-done, runs_then}
use Rattle.hw_model.specs.Design.{Ref, Op, OpResult}
use Rattle.hw_model.specs.Design.{is_register, is_output_op}
use Rattle.hw_model.specs.Flat.{held_width}
use Rattle.flat_module_gates.specs.FlatGateLists.{word_at, gate_list_in, starts_from, gate_list_at, with_first, with_word, results_by, no_words, OpTakes}

-- the circuit after a building
abbrev pub after : {A : Type 0} → Build A → Circuit → Circuit
after p s = record { inputs = s.inputs; gates = s.gates ++ (p s.inputs s.gates).gates }

pub runs_after : {A : Type 0} (p : Build A) (s : Circuit) → Runs p s (after p s) (p s.inputs s.gates).got
runs_after p s = record { inputs = refl; gates = refl; is = refl }

-- what follows a first building runs after it
pub runs_rest : {A B : Type 0} (p : Build A) (f : A → Build B) (s t : Circuit) (b : B) → Runs (and_then p f) s t b → Runs (f (p s.inputs s.gates).got) (after p s) t b
unfolding and_then
runs_rest p f s t b runs = record {
  inputs = runs.inputs;
  gates = runs.gates ∙ sym (append_assoc s.gates (p s.inputs s.gates).gates _);
  is = runs.is;
}

pub runs_none : {A : Type 0} (a b : A) (s t : Circuit) → Runs (done a) s t b → (t ≡ s) × (b ≡ a)
unfolding done
runs_none a b s t runs =
    let same : t.gates ≡ s.gates = runs.gates ∙ append-nil s.gates in
    (ap₂ (λ i gs. record { inputs = i; gates = gs }) runs.inputs same, runs.is)

module _ (os : List Op) (content : List Signal) (ports : List (List Signal)) where
  -- one more operation
  pub results_more : (order : List ℕ) (v : ℕ) (first results : List (List Signal)) (s t u : Circuit) (x : List Signal)
      → Runs (results_by os content ports order first) s t results → Runs (gate_list_at os content (word_at ports results) v) t u x
      → Runs (results_by os content ports (order ++ v ∷ []) first) s u (with_word (slice_get os v) v x results)
  unfolding results_by
  results_more [] v first results s t u x runs more =
      let same = runs_none first results s t runs in
      let gate_list : Runs (gate_list_at os content (word_at ports first) v) s u x =
      subst (λ r. Runs (gate_list_at os content (word_at ports r) v) s u x) same.1 (subst (λ a. Runs (gate_list_at os content (word_at ports results) v) a u x) same.0 more) in
      runs_then (λ y. done (with_word (slice_get os v) v y first)) gate_list
      (subst (λ r. Runs (done (with_word (slice_get os v) v x first)) u u (with_word (slice_get os v) v x r)) (sym same.1) runs-done)
  results_more (i ∷ order) v first results s t u x runs more =
      let p = gate_list_at os content (word_at ports first) i in
      let f : List Signal → Build (List (List Signal)) = λ y. results_by os content ports order (with_word (slice_get os i) i y first) in
      runs_then (λ y. results_by os content ports (order ++ v ∷ []) (with_word (slice_get os i) i y first)) (runs_after p s)
      (results_more order v (with_word (slice_get os i) i (p s.inputs s.gates).got first) results (after p s) t u x (runs_rest p f s t results runs) more)

  pub results_begin : (first : List (List Signal)) (s : Circuit) → Runs (results_by os content ports [] first) s s first
  unfolding results_by
  results_begin first s = runs-done

  pub results_next : (order : List ℕ) (i v : ℕ) (first results : List (List Signal)) (s t u : Circuit) (x : List Signal) → slice_get order i ≡ Some v
      → Runs (results_by os content ports (take i order) first) s t results → Runs (gate_list_at os content (word_at ports results) v) t u x
      → Runs (results_by os content ports (take (i + 1) order) first) s u (with_word (slice_get os v) v x results)
  results_next order i v first results s t u x at runs more =
      let next : suc i ≡ i + 1 = omega arith in
      subst (λ xs. Runs (results_by os content ports xs first) s u (with_word (slice_get os v) v x results)) (sym (take-suc_some order i v at) ∙ ap (λ (n : ℕ). take n order) next)
      (results_more (take i order) v first results s t u x runs more)

pub length-with_word : (o : Option Op) (i : ℕ) (x : List Signal) (results : List (List Signal)) → length (with_word o i x results) ≡ length results
length-with_word None i x results = refl
length-with_word (Some o) i x results = go o.results
  where
    go : (rs : List OpResult) → length (with_first rs i x results) ≡ length results
    go [] = refl
    go (r ∷ rs) = length-set results i x

pub takes_within : (os : List Op) (words : Ref → List Signal) (v : ℕ) → OpTakes words (slice_get os v) → v < length os
takes_within os words v takes = go (slice_get os v) refl takes
  where
    go : (o : Option Op) → slice_get os v ≡ o → OpTakes words o → v < length os
    go None at takes = absurd takes
    go (Some o) at takes = slice_get_within os v o at

-- ---- the word of one operation

module _ (os : List Op) (content : List Signal) (words : Ref → List Signal) (i : ℕ) (o : Op) (at : slice_get os i ≡ Some o) where
  pub gate_list_held : is_register o ≡ true → gate_list_at os content words i ≡ done (take (held_width o) (drop (slice_index_or (starts_from 0 os) i 0) content))
  gate_list_held is = ap (gate_list_in content words (slice_index_or (starts_from 0 os) i 0)) at ∙ simp is refl

  pub gate_list_given : is_register o ≡ false → is_output_op o ≡ true → gate_list_at os content words i ≡ done []
  gate_list_given is also = ap (gate_list_in content words (slice_index_or (starts_from 0 os) i 0)) at ∙ simp (is, also) refl

pub runs_is : {A E : Type 0} (a : A) (s : Circuit) (r : Result A E) → IfOk r (λ b. b ≡ a) → IfOk r (Runs (done a) s s)
runs_is a s (Ok b) is = subst (Runs (done a) s s) (sym is) runs-done
runs_is a s (Err e) is = is

pub length-none : (n : ℕ) → length (no_words n) ≡ n
length-none zero = refl
length-none (suc n) = ap suc (length-none n)
