-- The asynchronous resets of a flat module by positions: an input's signals and a constant's word.
use Rattle.std.proofs.Common.{◌≡◌, refl, sym, ap, subst, ◌∙◌, ℕ, zero, suc, ◌+◌, Bool, true, false, cond, List, [], take, drop, Option, Some, None, slice_get, inl, inr, arith, option_map}
use Rattle.gates.specs.declared.signal.Signal.{Signal}
use Rattle.hw_model.specs.Types.{Name, HwType, width}
use Rattle.hw_model.specs.Design.{Ref, Port, Op, OpResult, Module, Design, result_type}
use Rattle.hw_model.specs.Design.Ref.{port, result, undefined}
use Rattle.hw_model.specs.Flat.{net, source, width_of, input_width, input_of, held_of, made_of}
use Rattle.hw_model.specs.Flat.Source.{nowhere, input}
use Rattle.hw_model.proofs.Paths.{result_in}
use Rattle.net_gates.specs.RegisterGateLists.{input_signals, source_constant, constant_word}
use Rattle.net_gates.specs.RegisterMiters.{IsInput, IsConstantOf}
use Rattle.flat_module_laws.specs.Sides.{IsFlat}
use Rattle.flat_module_laws.proofs.FlatSources.{port_from, result_from, ResultFrom, result_is}
use Rattle.flat_module_laws.proofs.FlatSources.ResultFrom.{from_register, from_output, from_operands}
use Rattle.flat_module_gates.specs.FlatGateLists.{words_over, word_at}
use Rattle.flat_module_gates.specs.FlatSteps.{constant_in, constant_at}
use Rattle.flat_module_gates.proofs.Linking.{HasOne, AreSingle, word_of_port, words_over_at}

module _ (d : Design) (top : Name) (m : Module) (order : List ℕ) (flat : IsFlat d top m order) where
  -- ---- inputs

  -- no result is an input
  no_input : (inputs i k : ℕ) → IsInput inputs (source d top (net [] (result i k))) → ⊥
  no_input inputs i k is = go (slice_get m.body i) refl
    where
      by_held : (start : ℕ) (y : Option HwType) → IsInput inputs (held_of start y) → ⊥
      by_held start None never = never
      by_held start (Some t) never = never

      by_made : (o : Op) (y : Option HwType) → IsInput inputs (made_of [] o k y) → ⊥
      by_made o None never = never
      by_made o (Some t) never = never

      by_op : (o : Op) (at : slice_get m.body i ≡ Some o) → ResultFrom d top m order flat i o at k → ⊥
      by_op o at (from_register f r from) = by_held _ (result_type o k) (subst (IsInput inputs) from is)
      by_op o at (from_output u from) = subst (IsInput inputs) from is
      by_op o at (from_operands r n u from) = by_made o (result_type o k) (subst (IsInput inputs) from is)

      go : (y : Option Op) → slice_get m.body i ≡ y → ⊥
      go None at = subst (IsInput inputs) (result_from d top m order flat i k ∙ ap (result_in d top [] m.body i k) at) is
      go (Some o) at = by_op o at (result_is d top m order flat i o at k)

  -- an input's signals are those of its port
  pub input_word : (ins : List Signal) (inputs : ℕ) (r : Ref) → IsInput inputs (source d top (net [] r)) → (results : List (List Signal))
      → input_signals ins (source d top (net [] r)) ≡ word_at (words_over ins 0 m.ports) results r
  input_word ins inputs (port j) is results =
      ap (input_signals ins) (port_from d top m order flat j) ∙ go (slice_get m.ports j)
      ∙ sym (words_over_at ins m.ports 0 j ∙ ap (λ (n : ℕ). word_of_port ins n (slice_get m.ports j)) (let none : 0 + input_width (take j m.ports) ≡ input_width (take j m.ports) = omega arith in none))
    where
      start : ℕ
      start = input_width (take j m.ports)

      go : (y : Option Port) → input_signals ins (input_of y start) ≡ word_of_port ins start y
      go None = refl
      go (Some p) = by p.is_output
        where
          by : (b : Bool) → input_signals ins (cond b nowhere (input start (width p.type))) ≡ cond b [] (take (width p.type) (drop start ins))
          by true = refl
          by false = refl
  input_word ins inputs (result i k) is results = absurd (no_input inputs i k is)
  input_word ins inputs undefined is results = absurd is

  -- ---- constants

  module _ (single : AreSingle m.body) (w : ℕ) where
    -- no port is a constant
    no_constant : (j : ℕ) → IsConstantOf w (source d top (net [] (port j))) → ⊥
    no_constant j is = go (slice_get m.ports j) (subst (IsConstantOf w) (port_from d top m order flat j) is)
      where
        go : (y : Option Port) → IsConstantOf w (input_of y (input_width (take j m.ports))) → ⊥
        go None never = never
        go (Some p) never = by p.is_output never
          where
            by : (b : Bool) → IsConstantOf w (cond b nowhere (input (input_width (take j m.ports)) (width p.type))) → ⊥
            by true never = never
            by false never = never

    one_alone : (o : Op) → HasOne o → (k : ℕ) → result_type o (suc k) ≡ None
    one_alone o (inl (given, none)) k = ap (λ (rs : List OpResult). option_map (λ (z : OpResult). z.type) (slice_get rs (suc k))) none
    one_alone o (inr (r, one, given)) k = ap (λ (rs : List OpResult). option_map (λ (z : OpResult). z.type) (slice_get rs (suc k))) one

    -- the word of a constant that an operation makes
    made_word : (i k : ℕ) (o : Op) → slice_get m.body i ≡ Some o → (t : HwType) → result_type o k ≡ Some t → constant_word (width t) o.kind ≡ constant_at m.body (result i k)
    made_word i zero o at t typed =
        ap (λ (v : ℕ). constant_word v o.kind) (sym (ap width_of typed)) ∙ sym (ap constant_in at)
    made_word i (suc k) o at t typed = absurd (let no : None ≡ Some t = sym (one_alone o (single i o at) k) ∙ typed in let never : ⊥ = cc in never)

    result_word : (i k : ℕ) → IsConstantOf w (source d top (net [] (result i k))) → source_constant (source d top (net [] (result i k))) ≡ constant_at m.body (result i k)
    result_word i k is = go (slice_get m.body i) refl
      where
        by_held : (start : ℕ) (y : Option HwType) → IsConstantOf w (held_of start y) → ⊥
        by_held start None never = never
        by_held start (Some t) never = never

        by_made : (o : Op) → slice_get m.body i ≡ Some o → (y : Option HwType) → result_type o k ≡ y → IsConstantOf w (made_of [] o k y)
            → source_constant (made_of [] o k y) ≡ constant_at m.body (result i k)
        by_made o at None typed never = absurd never
        by_made o at (Some t) typed one = made_word i k o at t typed

        by_op : (o : Op) (at : slice_get m.body i ≡ Some o) → ResultFrom d top m order flat i o at k
            → source_constant (source d top (net [] (result i k))) ≡ constant_at m.body (result i k)
        by_op o at (from_register f r from) = absurd (by_held _ (result_type o k) (subst (IsConstantOf w) from is))
        by_op o at (from_output u from) = absurd (subst (IsConstantOf w) from is)
        by_op o at (from_operands r n u from) = ap source_constant from ∙ by_made o at (result_type o k) refl (subst (IsConstantOf w) from is)

        go : (y : Option Op) → slice_get m.body i ≡ y → source_constant (source d top (net [] (result i k))) ≡ constant_at m.body (result i k)
        go None at = absurd (subst (IsConstantOf w) (result_from d top m order flat i k ∙ ap (result_in d top [] m.body i k) at) is)
        go (Some o) at = by_op o at (result_is d top m order flat i o at k)

    -- a constant's word is that of its operation
    pub constant_is_at : (r : Ref) → IsConstantOf w (source d top (net [] r)) → source_constant (source d top (net [] r)) ≡ constant_at m.body r
    constant_is_at (port j) is = absurd (no_constant j is)
    constant_is_at (result i k) is = result_word i k is
    constant_is_at undefined is = absurd is
