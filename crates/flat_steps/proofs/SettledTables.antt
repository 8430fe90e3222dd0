-- Operation by operation, the tables of a flat module get the words of its nets.
use Rattle.std.proofs.Common.{◌≡◌, refl, sym, ap, ap₂, ◌∙◌, ℕ, ◌+◌, ◌<◌, Bool, true, false, cond, List, [], ◌∷◌, length, map, take, drop, slice_get, Option, Some, None, ◌⊎◌, inl, inr, arith}
use Rattle.std.specs.Prelude.{is_some, ◌==◌, ◌||◌, option_and_then}
use Rattle.std.proofs.lemmas.Bool.{eqb-true, eqb-false}
use Rattle.std.proofs.lemmas.Option.{slice_get_within}
use Rattle.wiring.specs.Wiring.{In}
use Rattle.bits_core.specs.Word.{Word, first}
use Rattle.hw_model.specs.Types.{Name, HwType, width}
use Rattle.hw_model.specs.Types.HwType.{int}
use Rattle.hw_model.specs.Kinds.{Kind}
use Rattle.hw_model.specs.Kinds.Kind.{aggregate_constant, on_array, on_struct, instance, output, register, async_firreg}
use Rattle.hw_model.specs.Design.{Ref, Op, Module, Design, is_register, is_output_op, result_type}
use Rattle.hw_model.specs.Design.Ref.{port, result, undefined}
use Rattle.hw_model.specs.Flat.{Net, net, held_width, width_of, held_of, made_of, body_state, state, source}
use Rattle.hw_model.specs.Flat.Source.{held, op_result}
use Rattle.hw_model.specs.Meaning.{Settled}
use Rattle.hw_model.specs.Value.{op_value}
use Rattle.operation_gates.specs.Operands.{IsPlain}
use Rattle.flat_module_laws.specs.Sides.{IsFlat}
use Rattle.flat_module_laws.specs.Orders.{IsSeen, ComesAfter, StandInOrder}
use Rattle.flat_module_laws.proofs.FlatBodies.{IsThere, operand_there}
use Rattle.flat_module_laws.proofs.FlatSources.{ResultFrom, result_is}
use Rattle.flat_module_laws.proofs.FlatSources.ResultFrom.{from_register, from_output, from_operands}
use Rattle.flat_module_laws.proofs.FlatGateLists.{plain_kind}
use Rattle.flat_module_laws.proofs.Positions.{is_in_order}
use Rattle.flat_module_gates.proofs.Linking.{AreSingle}
use Rattle.flat_module_gates.proofs.SingleResults.{plain_is_single}
use Rattle.flat_steps.specs.Tables.{cell, put, word_in, made, with_op, settled_results}
use Rattle.flat_steps.proofs.CellWords.{put_length, cell_same, cell_other}
use Rattle.flat_steps.proofs.RunNets.{from_source, port_net}
use Rattle.flat_steps.proofs.SingleValues.{value_first}
use Rattle.flat_steps.specs.Holds.{PortsHold, ResultsHold}

-- the value of a plain kind is decided by the width of its result
plain_value : (kind : Kind) (ts : List HwType) (t : HwType) (k : ℕ) (xs : List Word) → IsPlain kind → op_value kind [] (int (width t)) 0 xs ≡ op_value kind ts t k xs
plain_value (aggregate_constant ls) ts t k xs plain = absurd plain
plain_value (on_array a) ts t k xs plain = absurd plain
plain_value (on_struct s) ts t k xs plain = absurd plain
plain_value (instance i) ts t k xs plain = absurd plain
plain_value output ts t k xs plain = absurd plain
plain_value (register f r) ts t k xs plain = absurd plain
plain_value async_firreg ts t k xs plain = absurd plain
plain_value _ ts t k xs plain = refl

module _ (d : Design) (top : Name) (m : Module) (order : List ℕ) (flat : IsFlat d top m order) (single : AreSingle m.body)
    (x q : Word) (ρ : Net → Word) (settled : Settled d top x q ρ) (ports : List Word) (hold : PortsHold m.ports ports x) where
  -- the first results of the registers, and of the operations at the positions that were seen, have the words of their nets
  abbrev pub IsReady : List ℕ → List Word → Type 0
  IsReady seen results = (j : ℕ) (o : Op) (t : HwType) → slice_get m.body j ≡ Some o → result_type o 0 ≡ Some t → (is_register o ≡ true) ⊎ In j seen
      → cell results j ≡ ρ (net [] (result j 0))

  operand_word : (seen : List ℕ) (results : List Word) → IsReady seen results → (r : Ref) → IsThere m.ports m.body r → IsSeen seen r → word_in ports results r ≡ ρ (net [] r)
  operand_word seen results ready (port j) there among = port_net d top m order flat x q ρ settled ports hold j there.0 there.1
  operand_word seen results ready undefined there among = absurd (let no : None ≡ Some there.0 = there.1 in let never : ⊥ = cc in never)
  operand_word seen results ready (result j k) there among = go (slice_get m.body j) refl there.1
    where
      go : (y : Option Op) → slice_get m.body j ≡ y → option_and_then (λ (o : Op). result_type o k) y ≡ Some there.0 → cell results j ≡ ρ (net [] (result j k))
      go None at typed = absurd (let no : ⊥ = cc in no)
      go (Some o) at typed =
          let none : k ≡ 0 = (value_first o k there.0 (single j o at) typed).0 in
          ready j o there.0 at (ap (result_type o) (sym none) ∙ typed) (inr among) ∙ ap (λ (n : ℕ). ρ (net [] (result j n))) (sym none)

  pub operand_words : (seen : List ℕ) (results : List Word) → IsReady seen results → (rs : List Ref) → ((r : Ref) → In r rs → IsThere m.ports m.body r) → ((r : Ref) → In r rs → IsSeen seen r)
      → map (word_in ports results) rs ≡ map ρ (map (net []) rs)
  operand_words seen results ready [] there among = refl
  operand_words seen results ready (r ∷ rs) there among =
      ap₂ (λ (w : Word) (ws : List Word). w ∷ ws) (operand_word seen results ready r (there r (inl refl)) (among r (inl refl)))
      (operand_words seen results ready rs (λ s here. there s (inr here)) (λ s here. among s (inr here)))

  -- what an operation makes is the word of its first result's net
  made_word : (i : ℕ) (o : Op) (at : slice_get m.body i ≡ Some o) (t : HwType) → result_type o 0 ≡ Some t → is_register o ≡ false → is_output_op o ≡ false
      → (seen : List ℕ) (results : List Word) → IsReady seen results → ((r : Ref) → In r o.operands → IsSeen seen r)
      → made o (map (word_in ports results) o.operands) ≡ ρ (net [] (result i 0))
  made_word i o at t typed free given seen results ready among = go (result_is d top m order flat i o at 0)
    where
      go : ResultFrom d top m order flat i o at 0 → made o (map (word_in ports results) o.operands) ≡ ρ (net [] (result i 0))
      go (from_register f is from) = absurd (let no : ⊥ = cc in no)
      go (from_output u from) = absurd (let no : ⊥ = cc in no)
      go (from_operands r n u from) =
          let is : source d top (net [] (result i 0)) ≡ op_result o.kind o.types t 0 (map (net []) o.operands) = from ∙ ap (made_of [] o 0) typed in
          let wide : held_width o ≡ width t = ap width_of typed in
          ap (op_value o.kind [] (int (held_width o)) 0) (operand_words seen results ready o.operands (operand_there d top m order flat i o at) among)
          ∙ ap (λ (w : ℕ). op_value o.kind [] (int w) 0 (map ρ (map (net []) o.operands))) wide
          ∙ plain_value o.kind o.types t 0 (map ρ (map (net []) o.operands)) (plain_kind d top m order flat i 0 o at r n u t typed)
          ∙ sym (from_source d top m order flat x q ρ settled (net [] (result i 0)) (op_result o.kind o.types t 0 (map (net []) o.operands)) is)

  ready_stays : (seen : List ℕ) (results : List Word) (i j : ℕ) (o : Op) (t : HwType) → IsReady seen results → slice_get m.body j ≡ Some o → result_type o 0 ≡ Some t
      → (j ≡ i → is_register o ≡ true) → (is_register o ≡ true) ⊎ In j (i ∷ seen) → cell results j ≡ ρ (net [] (result j 0))
  ready_stays seen results i j o t ready at typed own (inl reg) = ready j o t at typed (inl reg)
  ready_stays seen results i j o t ready at typed own (inr (inl same)) = ready j o t at typed (inl (own same))
  ready_stays seen results i j o t ready at typed own (inr (inr here)) = ready j o t at typed (inr here)

  pub ready_more : (seen : List ℕ) (results : List Word) (i : ℕ) → length results ≡ length m.body → IsReady seen results → ComesAfter seen (slice_get m.body i)
      → IsReady (i ∷ seen) (with_op ports results i (slice_get m.body i))
  ready_more seen results i long ready after j o t at typed here = go (slice_get m.body i) refl after
    where
      same_op : (p : Op) → slice_get m.body i ≡ Some p → j ≡ i → p ≡ o
      same_op p there same = (let e : Some p ≡ Some o = sym there ∙ ap (slice_get m.body) (sym same) ∙ at in cc)

      unchanged : (p : Op) → slice_get m.body i ≡ Some p → (a b : Bool) → is_register p ≡ a → is_output_op p ≡ b → (a || b) ≡ true → j ≡ i → is_register o ≡ true
      unchanged p there true b ra rb either same = sym (ap is_register (same_op p there same)) ∙ ra
      unchanged p there false true ra rb either same =
          absurd (let other : is_output_op o ≡ true = sym (ap is_output_op (same_op p there same)) ∙ rb in
          let free : is_output_op o ≡ false = (value_first o 0 t (single j o at) typed).1 in
          let no : ⊥ = cc in no)
      unchanged p there false false ra rb either same = absurd (let no : ⊥ = cc in no)

      changed : (p : Op) (there : slice_get m.body i ≡ Some p) → is_register p ≡ false → is_output_op p ≡ false → ComesAfter seen (Some p) → (e : Bool) → (j == i) ≡ e
          → cell (put results i (made p (map (word_in ports results) p.operands))) j ≡ ρ (net [] (result j 0))
      changed p there ra rb after true e =
          let same : j ≡ i = eqb-true j i e in
          let one : p ≡ o = same_op p there same in
          let within : i < length m.body = slice_get_within m.body i p there in
          ap (cell (put results i (made p (map (word_in ports results) p.operands)))) same
          ∙ cell_same results i (made p (map (word_in ports results) p.operands)) (omega (arith, within, long))
          ∙ made_word i p there t (ap (λ (z : Op). result_type z 0) one ∙ typed) ra rb seen results ready (after ra rb)
          ∙ ap (λ (n : ℕ). ρ (net [] (result n 0))) (sym same)
      changed p there ra rb after false e =
          let other : j ≡ i → ⊥ = eqb-false j i e in
          cell_other results i j (made p (map (word_in ports results) p.operands)) other
          ∙ ready_stays seen results i j o t ready at typed (λ same. absurd (other same)) here

      by_kind : (p : Op) (there : slice_get m.body i ≡ Some p) → ComesAfter seen (Some p) → (a b : Bool) → is_register p ≡ a → is_output_op p ≡ b
          → cell (cond (a || b) results (put results i (made p (map (word_in ports results) p.operands)))) j ≡ ρ (net [] (result j 0))
      by_kind p there after true b ra rb = ready_stays seen results i j o t ready at typed (unchanged p there true b ra rb refl) here
      by_kind p there after false true ra rb = ready_stays seen results i j o t ready at typed (unchanged p there false true ra rb refl) here
      by_kind p there after false false ra rb = changed p there ra rb after (j == i) refl

      go : (y : Option Op) → slice_get m.body i ≡ y → ComesAfter seen y → cell (with_op ports results i y) j ≡ ρ (net [] (result j 0))
      go None there after =
          ready_stays seen results i j o t ready at typed (λ same. absurd (let e : None ≡ Some o = sym there ∙ ap (slice_get m.body) (sym same) ∙ at in let no : ⊥ = cc in no)) here
      go (Some p) there after = by_kind p there after (is_register p) (is_output_op p) refl refl

  -- the registers hold their bits of the content
  pub register_word : (results : List Word) → ResultsHold (state d) m.body results q → IsReady [] results
  register_word results holds j o t at typed (inr never) = absurd never
  register_word results holds j o t at typed (inl reg) = go (result_is d top m order flat j o at 0)
    where
      go : ResultFrom d top m order flat j o at 0 → cell results j ≡ ρ (net [] (result j 0))
      go (from_register f is from) =
          let wide : held_width o ≡ width t = ap width_of typed in
          let start : 0 + body_state (state d) (take j m.body) ≡ body_state (state d) (take j m.body) = omega arith in
          let own : source d top (net [] (result j 0)) ≡ held (0 + body_state (state d) (take j m.body)) (width t) = from ∙ ap (held_of (0 + body_state (state d) (take j m.body))) typed in
          holds j o at reg
          ∙ ap (λ (w : ℕ). first w (drop (body_state (state d) (take j m.body)) q)) wide
          ∙ ap (λ (n : ℕ). first (width t) (drop n q)) (sym start)
          ∙ sym (from_source d top m order flat x q ρ settled (net [] (result j 0)) (held (0 + body_state (state d) (take j m.body)) (width t)) own)
      go (from_output u from) = absurd (let free : is_output_op o ≡ false = (value_first o 0 t (single j o at) typed).1 in let no : ⊥ = cc in no)
      go (from_operands r n u from) = absurd (let e : false ≡ true = sym (ap is_some r) ∙ reg in let no : ⊥ = cc in no)

  pub op_length : (results : List Word) (i : ℕ) (y : Option Op) → length (with_op ports results i y) ≡ length results
  op_length results i None = refl
  op_length results i (Some o) = by_test (is_register o || is_output_op o)
    where
      by_test : (t : Bool) → length (cond t results (put results i (made o (map (word_in ports results) o.operands)))) ≡ length results
      by_test true = refl
      by_test false = put_length results i (made o (map (word_in ports results) o.operands))

  moved : (j i : ℕ) (seen is : List ℕ) (P : Type 0) → P ⊎ (In j seen ⊎ In j (i ∷ is)) → P ⊎ (In j (i ∷ seen) ⊎ In j is)
  moved j i seen is P (inl p) = inl p
  moved j i seen is P (inr (inl s)) = inr (inl (inr s))
  moved j i seen is P (inr (inr (inl same))) = inr (inl (inl same))
  moved j i seen is P (inr (inr (inr later))) = inr (inr later)

  settle : (is seen : List ℕ) (results : List Word) → length results ≡ length m.body → IsReady seen results → StandInOrder m.body seen is
      → (j : ℕ) (o : Op) (t : HwType) → slice_get m.body j ≡ Some o → result_type o 0 ≡ Some t → (is_register o ≡ true) ⊎ (In j seen ⊎ In j is)
      → cell (settled_results ports m.body is results) j ≡ ρ (net [] (result j 0))
  settle [] seen results long ready stand j o t at typed (inl reg) = ready j o t at typed (inl reg)
  settle [] seen results long ready stand j o t at typed (inr (inl s)) = ready j o t at typed (inr s)
  settle [] seen results long ready stand j o t at typed (inr (inr never)) = absurd never
  settle (i ∷ is) seen results long ready stand j o t at typed here =
      settle is (i ∷ seen) (with_op ports results i (slice_get m.body i)) (op_length results i (slice_get m.body i) ∙ long) (ready_more seen results i long ready stand.0) stand.1
      j o t at typed (moved j i seen is (is_register o ≡ true) here)

-- operation by operation, each result has the word of its net under the settled map of the inputs and the content that the tables hold
pub operations_settle : (d : Design) (top : Name) (m : Module) (order : List ℕ) → IsFlat d top m order → (x q : Word) (ρ : Net → Word) → Settled d top x q ρ
    → (ports results : List Word) → PortsHold m.ports ports x → ResultsHold (state d) m.body results q → length results ≡ length m.body
    → (j : ℕ) (o : Op) (t : HwType) → slice_get m.body j ≡ Some o → result_type o 0 ≡ Some t → cell (settled_results ports m.body order results) j ≡ ρ (net [] (result j 0))
operations_settle d top m order flat x q ρ settled ports results hold keeps long j o t at typed =
    settle d top m order flat (plain_is_single d top m flat.plain) x q ρ settled ports hold order [] results long
    (register_word d top m order flat (plain_is_single d top m flat.plain) x q ρ settled ports hold results keeps) flat.stands.stand j o t at typed
    (inr (inr (is_in_order (length m.body) order flat.stands.all j (slice_get_within m.body j o at))))
