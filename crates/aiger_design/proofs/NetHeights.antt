-- No net of an imported design needs itself without a register between, where no variable of its text does.
use Rattle.std.proofs.Common.{◌≡◌, ℕ, ◌+◌, ◌<◌, Bool, true, false, cond, List, [], ◌∷◌, map, length, take, get_or, slice_get, Option, Some, None, refl, sym, ap, subst, ◌∙◌, inl, inr, option_and_then}
use Rattle.std.specs.List.{filter}
use Rattle.std.proofs.lemmas.Bool.{true≢false}
use Rattle.wiring.specs.Wiring.{In, FallsAlong, HasHeights}
use Rattle.wiring.proofs.Heights.{heights, HasHeights-acyclic, FallsAlong-height, IsAcyclic-heights}
use Rattle.wiring.proofs.Members.{from_In-map, In-slice_get}
use Rattle.hw_model.specs.Types.{HwType, width}
use Rattle.hw_model.specs.Design.{Ref, Port, Op, Module, is_instance, is_register, is_output_op, result_type, callee}
use Rattle.hw_model.specs.Design.Ref.{port, result, undefined}
use Rattle.hw_model.specs.Flat.{Path, Net, net, instances, module_at, input_width, input_of, held_of, made_of, joined_ref, joined_at, given_ref, copy_of, result_source, base, state, body_state}
use Rattle.hw_model.specs.Flat.Source.{nowhere, input}
use Rattle.hw_model.specs.Meaning.{needs_of, needs, HasNoCycle}
use Rattle.hw_model.proofs.Paths.{result_in, result_here}
use Rattle.aiger_laws.specs.Trees.{Aiger, variable}
use Rattle.aiger_laws.specs.Drivers as laws
use Rattle.aiger_laws.specs.Grammar.{IsAiger}
use Rattle.aiger_laws.proofs.DriverPlaces.{needs_within}
use Rattle.aiger_laws.proofs.GateDrivers.{text_drives}
use Rattle.aiger_design.specs.Built.{imported_ports, imported_body, imported_symbol, imported_design}
use Rattle.aiger_design.proofs.Forms.{of_body}
use Rattle.aiger_design.proofs.Heights.{numbers, number_at, body_falls}

none_kept : {A : Type 0} (test : A → Bool) (xs : List A) → ((x : A) → In x xs → test x ≡ false) → filter test xs ≡ []
none_kept test [] fails = refl
none_kept test (x ∷ xs) fails = ap (λ b. cond b (x ∷ filter test xs) (filter test xs)) (fails x (inl refl)) ∙ none_kept test xs (λ y here. fails y (inr here))

-- an input port needs nothing
input_needs : (o : Option Port) (start : ℕ) (b : Net) → In b (needs_of (input_of o start)) → ⊥
input_needs None start b never = never
input_needs (Some q) start b need = go q.is_output need
  where
    go : (side : Bool) → In b (needs_of (cond side nowhere (input start (width q.type)))) → ⊥
    go true never = never
    go false never = never

module _ (t : Aiger) where
  -- no operation is an instance
  pub no_instance : (o : Op) → In o (imported_body t) → is_instance o ≡ false
  no_instance = of_body t (λ o. is_instance o ≡ false)
      (record { of_constants = λ b. refl; of_inverters = λ x. refl; of_registers = λ k xs low. refl; of_gates = λ xs. refl; of_outputs = λ xs. refl })

  pub no_instances : instances (imported_body t) ≡ []
  no_instances = none_kept is_instance (imported_body t) no_instance

  -- so there is no module within
  absent : (u : ℕ) (p : Path) → module_at (imported_design t) imported_symbol (u ∷ p) ≡ None
  absent u [] = ap (λ os. option_and_then (callee (imported_design t)) (slice_get os u)) no_instances
  absent u (v ∷ p) =
      ap (option_and_then (λ (m : Module). option_and_then (callee (imported_design t)) (slice_get (instances m.body) u))) (absent v p)

  no_port_needs : (p : Path) (j : ℕ) (b : Net) → In b (needs (imported_design t) imported_symbol (net p (port j))) → ⊥
  no_port_needs [] j b here = input_needs (slice_get (imported_ports t) j) (input_width (take j (imported_ports t))) b here
  no_port_needs (u ∷ []) j b here =
      subst (λ os. In b (needs_of (copy_of [] (option_and_then (joined_ref (imported_design t) j) (slice_get os u))))) no_instances here
  no_port_needs (u ∷ v ∷ p) j b here =
      subst (λ o. In b (needs_of (copy_of (v ∷ p) (option_and_then (joined_at (imported_design t) u j) o)))) (absent v p) here

  no_inner_needs : (u : ℕ) (p : Path) (r : Ref) (b : Net) → In b (needs (imported_design t) imported_symbol (net (u ∷ p) r)) → ⊥
  no_inner_needs u p (port j) b here = no_port_needs (u ∷ p) j b here
  no_inner_needs u p (result i k) b here = subst (λ o. In b (needs_of (result_source (imported_design t) imported_symbol (u ∷ p) i k o))) (absent u p) here
  no_inner_needs u p undefined b here = here

  module _ (h : ℕ → ℕ) (falls : FallsAlong (laws.needs t) h) (drives : laws.GatesDrive t) where
    -- what an operation makes its result of has lower numbers
    falls_result : (i k : ℕ) (b : Net) → In b (needs (imported_design t) imported_symbol (net [] (result i k))) → number_at (numbers h t) b.ref < get_or (numbers h t) i 0
    falls_result i k b here = by_op (slice_get (imported_body t) i) refl (subst (λ s. In b (needs_of s)) (result_here (imported_design t) imported_symbol [] i k) here)
      where
        by_held : (s : ℕ) (x : Option HwType) → In b (needs_of (held_of s x)) → ⊥
        by_held s None never = never
        by_held s (Some x) never = never

        by_made : (o : Op) (x : Option HwType) → slice_get (imported_body t) i ≡ Some o → is_register o ≡ false → is_output_op o ≡ false → In b (needs_of (made_of [] o k x))
            → number_at (numbers h t) b.ref < get_or (numbers h t) i 0
        by_made o None at first second never = absurd never
        by_made o (Some x) at first second need =
            let from = from_In-map (net []) b o.operands need in
            subst (λ (c : Net). number_at (numbers h t) c.ref < get_or (numbers h t) i 0) (sym from.2) (body_falls t h falls drives i o at first second from.0 from.1)

        by_sort : (o : Op) → slice_get (imported_body t) i ≡ Some o → (r n q : Bool) → is_register o ≡ r → is_instance o ≡ n → is_output_op o ≡ q
            → In b (needs_of (cond r (held_of (base (imported_design t) imported_symbol [] + body_state (state (imported_design t)) (take i (imported_body t))) (result_type o k))
            (cond n (copy_of (length (instances (take i (imported_body t))) ∷ []) (given_ref (imported_design t) k o)) (cond q nowhere (made_of [] o k (result_type o k))))))
            → number_at (numbers h t) b.ref < get_or (numbers h t) i 0
        by_sort o at true n q first second third need = absurd (by_held _ (result_type o k) need)
        by_sort o at false true q first second third need =
            let w : true ≡ false = sym second ∙ no_instance o (In-slice_get o (imported_body t) i at) in absurd (true≢false w)
        by_sort o at false false true first second third never = absurd never
        by_sort o at false false false first second third need = by_made o (result_type o k) at first third need

        by_op : (x : Option Op) → slice_get (imported_body t) i ≡ x → In b (needs_of (result_in (imported_design t) imported_symbol [] (imported_body t) i k x))
            → number_at (numbers h t) b.ref < get_or (numbers h t) i 0
        by_op None at never = absurd never
        by_op (Some o) at need = by_sort o at (is_register o) (is_instance o) (is_output_op o) refl refl refl need

    -- numbers fall along needs
    pub nets_fall : FallsAlong (needs (imported_design t) imported_symbol) (λ (a : Net). number_at (numbers h t) a.ref)
    nets_fall a b here = by_path a.path a.ref here
      where
        by_path : (p : Path) (r : Ref) → In b (needs (imported_design t) imported_symbol (net p r)) → number_at (numbers h t) b.ref < number_at (numbers h t) r
        by_path [] (port j) need = absurd (no_port_needs [] j b need)
        by_path [] (result i k) need = falls_result i k b need
        by_path [] undefined never = absurd never
        by_path (u ∷ p) r need = absurd (no_inner_needs u p r b need)

  -- nets have heights where variables have
  pub heights_with : laws.GatesDrive t → laws.HasNoCycle t → HasHeights (needs (imported_design t) imported_symbol)
  heights_with drives acyclic =
      let has = HasHeights-acyclic (laws.needs t) (map variable (laws.gate_literals t.gates)) (needs_within t) acyclic in
      heights (needs (imported_design t) imported_symbol) (λ (a : Net). number_at (numbers has.0 t) a.ref)
      (nets_fall has.0 (FallsAlong-height (laws.needs t) has.0 has.1) drives)

-- the nets of the design of a text have heights
pub imported_heights : (bytes : List ℕ) (t : Aiger) → IsAiger bytes t → HasHeights (needs (imported_design t) imported_symbol)
imported_heights bytes t says = heights_with t (text_drives bytes t says.reads) says.acyclic

-- so none needs itself
pub imported_acyclic : (bytes : List ℕ) (t : Aiger) → IsAiger bytes t → HasNoCycle (imported_design t) imported_symbol
imported_acyclic bytes t says = IsAcyclic-heights (needs (imported_design t) imported_symbol) (imported_heights bytes t says)
