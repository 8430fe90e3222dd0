-- Each net of a flat module has a gate list, within what its types say.
use Rattle.std.proofs.Common.{◌≡◌, refl, sym, ap, subst, ◌∙◌, ℕ, ◌+◌, ◌≤◌, Bool, true, false, cond, List, [], ◌∷◌, ◌++◌, map, flat_map, length, take, slice_get, Option, Some, None}
use Rattle.std.proofs.lemmas.Option.{slice_get-map}
use Rattle.bits_core.specs.Word.{Word}
use Rattle.hw_model.specs.Types.{Name, HwType, width}
use Rattle.hw_model.specs.Design.{Ref, Port, OpResult, Op, Module, Design, instance_in, register_form, is_output_kind, result_type}
use Rattle.hw_model.specs.Design.Ref.{port, result, undefined}
use Rattle.hw_model.specs.Flat.{Net, net, Source, input_width, input_of, held_of, made_of, body_state, state, source}
use Rattle.hw_model.specs.Flat.Source.{nowhere, input}
use Rattle.hw_model.specs.Meaning.{Settled}
use Rattle.hw_model.specs.Sound.{type_in, Fits}
use Rattle.hw_model.proofs.Paths.{result_in}
use Rattle.operation_gates.specs.Operands.{IsPlain, TakesWidths, IsShort}
use Rattle.operation_gates.proofs.Fitting.{takes_widths}
use Rattle.net_gates.specs.NetOrder.{HasGateList, HaveGateLists}
use Rattle.flat_module_laws.specs.Sides.{port_nets, result_number, result_nets, flat_nets, IsFlat}
use Rattle.graphs.specs.Orders.{numbers_from}
use Rattle.flat_module_laws.proofs.ScalarValues.{made_scalar}
use Rattle.flat_module_laws.proofs.PlainKinds.{made_plain, made_short}
use Rattle.flat_module_laws.proofs.FlatBodies.{flat_body, no_own_cause, values_scalar}
use Rattle.flat_module_laws.proofs.FlatWords.{words_have}
use Rattle.flat_module_laws.proofs.FlatSources.{inputs_within, port_from, result_from, held_within, ResultFrom, result_is}
use Rattle.flat_module_laws.proofs.FlatSources.ResultFrom.{from_register, from_output, from_operands}

module _ (d : Design) (top : Name) (m : Module) (order : List ℕ) (flat : IsFlat d top m order) (i k : ℕ) (o : Op) (at : slice_get m.body i ≡ Some o)
    (r : register_form o.kind ≡ None) (n : instance_in o.kind ≡ None) (u : is_output_kind o.kind ≡ false) (t : HwType) (typed : result_type o k ≡ Some t) where
  listed : slice_get (map (λ (y : OpResult). y.type) o.results) k ≡ Some t
  listed = slice_get-map (λ (y : OpResult). y.type) o.results k ∙ typed

  own_fits : Fits o.kind o.types (map (type_in m.ports m.body) o.operands) t k
  own_fits = (flat_body d top m order flat).ops i o at k t typed

  -- the operation makes its result of its operands: it is of a plain kind, and short where it shifts
  pub plain_kind : IsPlain o.kind
  plain_kind =
      made_plain _ _ _ _ o.types (map (λ (y : OpResult). y.type) o.results) (map (type_in m.ports m.body) o.operands) t k listed (made_scalar m flat.plain.scalar i k o t at typed)
      (values_scalar d top m order flat o.operands) o.kind r n u (no_own_cause d top m order flat i o at) own_fits

  short_kind : IsShort o.kind (width t)
  short_kind =
      made_short _ _ _ _ o.types (map (λ (y : OpResult). y.type) o.results) (map (type_in m.ports m.body) o.operands) t k listed (made_scalar m flat.plain.scalar i k o t at typed)
      (values_scalar d top m order flat o.operands) o.kind (no_own_cause d top m order flat i o at)

module _ (d : Design) (top : Name) (m : Module) (order : List ℕ) (flat : IsFlat d top m order)
    (x q : Word) (ρ : Net → Word) (settled : Settled d top x q ρ) where
  -- a source has a gate list
  abbrev pub GateListOf : Source → Type 0
  GateListOf s = HasGateList (input_width m.ports) (state d top) ρ s

  input_gate_list : (j : ℕ) (y : Option Port) → slice_get m.ports j ≡ y → GateListOf (input_of y (input_width (take j m.ports)))
  input_gate_list j None at = tt
  input_gate_list j (Some p) at = go p.is_output refl
    where
      go : (b : Bool) → p.is_output ≡ b → GateListOf (cond b nowhere (input (input_width (take j m.ports)) (width p.type)))
      go true way = tt
      go false way = inputs_within m.ports j p at way

  module _ (i k : ℕ) (o : Op) (at : slice_get m.body i ≡ Some o) where
    -- the operation's gate list, where it makes its result of its operands
    pub made_gate_list : register_form o.kind ≡ None → instance_in o.kind ≡ None → is_output_kind o.kind ≡ false → (t : HwType) → result_type o k ≡ Some t
        → TakesWidths o.kind (width t) (map length (map ρ (map (net []) o.operands))) × IsShort o.kind (width t)
    made_gate_list r n u t typed = (
      takes_widths o.kind o.types (map (type_in m.ports m.body) o.operands) t k (map ρ (map (net []) o.operands)) (plain_kind d top m order flat i k o at r n u t typed)
          (own_fits d top m order flat i k o at r n u t typed) (words_have d top m order flat x q ρ settled o.operands),
      short_kind d top m order flat i k o at r n u t typed,
    )

    held_gate_list : (y : Option HwType) → ((t : HwType) → y ≡ Some t → 0 + body_state (state d) (take i m.body) + width t ≤ state d top)
        → GateListOf (held_of (0 + body_state (state d) (take i m.body)) y)
    held_gate_list None within = tt
    held_gate_list (Some t) within = within t refl

    operands_gate_list : register_form o.kind ≡ None → instance_in o.kind ≡ None → is_output_kind o.kind ≡ false → (y : Option HwType) → result_type o k ≡ y
        → GateListOf (made_of [] o k y)
    operands_gate_list r n u None typed = tt
    operands_gate_list r n u (Some t) typed = made_gate_list r n u t typed

    result_gate_list : GateListOf (source d top (net [] (result i k)))
    result_gate_list = go (result_is d top m order flat i o at k)
      where
        go : ResultFrom d top m order flat i o at k → GateListOf (source d top (net [] (result i k)))
        go (from_register f is from) = subst GateListOf (sym from) (held_gate_list (result_type o k) (λ t typed. held_within d top m order flat i o at f is k t typed))
        go (from_output u from) = subst GateListOf (sym from) tt
        go (from_operands r n u from) = subst GateListOf (sym from) (operands_gate_list r n u (result_type o k) refl)

  pub value_gate_list : (r : Ref) → GateListOf (source d top (net [] r))
  value_gate_list (port j) = subst GateListOf (sym (port_from d top m order flat j)) (input_gate_list j (slice_get m.ports j) refl)
  value_gate_list (result i k) = go (slice_get m.body i) refl
    where
      go : (y : Option Op) → slice_get m.body i ≡ y → GateListOf (source d top (net [] (result i k)))
      go None at = subst GateListOf (sym (result_from d top m order flat i k ∙ ap (result_in d top [] m.body i k) at)) tt
      go (Some o) at = result_gate_list i k o at
  value_gate_list undefined = tt

  -- ---- lists of nets

  abbrev GateListsOf : List Net → Type 0
  GateListsOf ns = HaveGateLists d top (input_width m.ports) (state d top) ρ ns

  gate_lists_joined : (ns ms : List Net) → GateListsOf ns → GateListsOf ms → GateListsOf (ns ++ ms)
  gate_lists_joined [] ms have more = more
  gate_lists_joined (n ∷ ns) ms have more = (have.0, gate_lists_joined ns ms have.1 more)

  gate_lists_of_values : (f : ℕ → Ref) (js : List ℕ) → GateListsOf (map (λ j. net [] (f j)) js)
  gate_lists_of_values f [] = tt
  gate_lists_of_values f (j ∷ js) = (value_gate_list (f j), gate_lists_of_values f js)

  gate_lists_of_results : (is : List ℕ) → GateListsOf (flat_map (result_nets m.body) is)
  gate_lists_of_results [] = tt
  gate_lists_of_results (i ∷ is) =
      gate_lists_joined (result_nets m.body i) (flat_map (result_nets m.body) is)
      (gate_lists_of_values (result i) (numbers_from 0 (result_number (slice_get m.body i)))) (gate_lists_of_results is)

  pub flat_gate_lists : (is : List ℕ) → GateListsOf (flat_nets m.ports m.body is)
  flat_gate_lists is =
      gate_lists_joined (port_nets m.ports) (flat_map (result_nets m.body) is) (gate_lists_of_values port (numbers_from 0 (length m.ports))) (gate_lists_of_results is)
