-- The values of a flat module are words of 1 to 128 bits.
use Rattle.std.proofs.Common.{◌≡◌, refl, sym, ap, subst, ◌∙◌, ℕ, zero, suc, ◌≤◌, max, Bool, true, false, cond, not, List, [], ◌∷◌, map, length, slice_get, Option, Some, arith}
use Rattle.std.proofs.lemmas.Bool.{ltb-false}
use Rattle.std.specs.List.{list_any}
use Rattle.wiring.specs.Lists.{total}
use Rattle.hw_model.specs.Types.{Name, HwType, width}
use Rattle.hw_model.specs.Types.HwType.{int, clock, array, struct}
use Rattle.hw_model.specs.Kinds.{Kind}
use Rattle.hw_model.specs.Kinds.Kind.{variadic, sub, division, shift, icmp, parity, extract, concat, replicate, mux, constant, bitcast, wire, aggregate_constant, on_array, on_struct, instance, output, register, async_firreg}
use Rattle.hw_model.specs.Design.{Port, Module, Design}
use Rattle.hw_model.specs.Sound.{Fits}
use Rattle.aggregate_laws.specs.Aggregates.{is_scalar}
use Rattle.aggregate_laws.specs.Scalars.{has_aggregate_port, has_aggregate_result}
use Rattle.type_inference.specs.ResultTypes.{first_type, second_type, joined_width, kept_size, as_int, result_type, result_types, result_count}
use Rattle.op_checks.specs.TypeChecks.{is_outside, is_int}
use Rattle.op_checks.specs.TypeLists.{known_types, differ}
use Rattle.op_checks.specs.OperandChecks.{has_other_form}
use Rattle.op_checks.specs.LimitChecks.{is_too_wide, has_wide_concat}
use Rattle.op_checks.specs.CountChecks.{operands_written, operand_count, type_count}
use Rattle.op_checks.proofs.Agreeing.{single}
use Rattle.op_checks.proofs.FitIntegers.{joined_sum}
use Rattle.op_checks.proofs.NoOwnCause.{NoOwnCause}
use Rattle.op_checks.proofs.Widths.{neither}
use Rattle.op_verifier.specs.Headers.{has_port}
use Rattle.op_verifier.proofs.AcceptedDesigns.{no_fault}
use Rattle.op_verifier.proofs.Unrefused.{module_unrefused, no_header_cause}
use Rattle.operation_gates.specs.Operands.{IsPlain as IsPlainKind}
use Rattle.flat_module_laws.specs.Sides.{IsPlain}
use Rattle.flat_module_laws.proofs.PlainKinds.{word}
use Rattle.flat_steps.specs.Steps.{HaveWords}

-- ---- results

-- the one result is of the first type that is written, or of the second
first_inside : (ts rs : List HwType) (k : ℕ) (t : HwType) → length ts ≡ 1 → length rs ≡ 1 → differ (known_types rs) (first_type ts ∷ []) ≡ false → slice_get rs k ≡ Some t
    → list_any is_outside ts ≡ false → is_outside t ≡ false
first_inside [] rs k t n m d e inside = absurd (omega (arith, n))
first_inside (u ∷ ts) rs k t n m d e inside =
    let same : t ≡ u = single rs u t k m d e in
    ap is_outside same ∙ (neither (is_outside u) (list_any is_outside ts) inside).0

second_inside : (ts rs : List HwType) (k : ℕ) (t : HwType) → length ts ≡ 2 → length rs ≡ 1 → differ (known_types rs) (second_type ts ∷ []) ≡ false → slice_get rs k ≡ Some t
    → list_any is_outside ts ≡ false → is_outside t ≡ false
second_inside [] rs k t n m d e inside = absurd (omega (arith, n))
second_inside (u ∷ []) rs k t n m d e inside = absurd (omega (arith, n))
second_inside (u ∷ v ∷ ts) rs k t n m d e inside =
    let same : t ≡ v = single rs v t k m d e in
    let rest = (neither (is_outside u) (list_any is_outside (v ∷ ts)) inside).1 in
    ap is_outside same ∙ (neither (is_outside v) (list_any is_outside ts) rest).0

-- joined integers have a bit
some_bit : (ts : List HwType) → 1 ≤ length ts → list_any (λ (t : HwType). not (is_int t)) ts ≡ false → list_any is_outside ts ≡ false → 1 ≤ total (map width ts)
some_bit [] some form inside = absurd (omega (arith, some))
some_bit (int w ∷ ts) some form inside =
    let own : (1 ≤ w) × (w ≤ 128) = word (int w) refl (neither (is_outside (int w)) (list_any is_outside ts) inside).0 in
    omega (arith, own.0)
some_bit (clock ∷ ts) some form inside = cc
some_bit (array n t ∷ ts) some form inside = cc
some_bit (struct fs ∷ ts) some form inside = cc

some_written : (m n : ℕ) → n ≡ max 1 n → m ≡ n → 1 ≤ m
some_written m n most same = omega (arith, most, same)

kept : (n : ℕ) → n ≤ 128 → kept_size n ≡ n
kept n few = omega (arith, few)

joined_word : (ts rs : List HwType) (k : ℕ) (t : HwType) → 1 ≤ length ts → length rs ≡ 1 → list_any (λ (t : HwType). not (is_int t)) ts ≡ false → list_any is_outside ts ≡ false
    → is_too_wide (joined_width ts) ≡ false → differ (known_types rs) (as_int (joined_width ts) ∷ []) ≡ false → slice_get rs k ≡ Some t → (1 ≤ width t) × (width t ≤ 128)
joined_word ts rs k t some m form inside wide d e =
    let sum = joined_sum ts form in
    let few : total (map width ts) ≤ 128 = ltb-false 128 (total (map width ts)) (rw sum at wide) in
    let same : t ≡ int (kept_size (total (map width ts))) = single rs (int (kept_size (total (map width ts)))) t k m (rw sum at d) e in
    let is : width t ≡ total (map width ts) = ap width same ∙ kept (total (map width ts)) few in
    subst (λ (n : ℕ). (1 ≤ n) × (n ≤ 128)) (sym is) (some_bit ts some form inside, few)

one_bit : (t : HwType) → t ≡ int 1 → (1 ≤ width t) × (width t ≤ 128)
one_bit t is = subst (λ (u : HwType). (1 ≤ width u) × (width u ≤ 128)) (sym is) (omega arith, omega arith)

module _ (named n : ℕ) (ys : List (Option HwType)) (is_known : Bool) (ts rs : List HwType) (xs : List (Option HwType)) (t : HwType) (k : ℕ)
    (there : slice_get rs k ≡ Some t) (scalar : is_scalar t ≡ true) where
  -- what an operation of a plain kind makes is a word
  pub result_word : (kind : Kind) → IsPlainKind kind → NoOwnCause kind ts rs named n ys is_known → Fits kind ts xs t k → (1 ≤ width t) × (width t ≤ 128)
  unfolding result_types result_type result_count type_count operands_written operand_count has_other_form has_wide_concat
  result_word (variadic v) plain own fits = word t scalar (first_inside ts rs k t own.types own.results own.result there own.written)
  result_word sub plain own fits = word t scalar (first_inside ts rs k t own.types own.results own.result there own.written)
  result_word (division d) plain own fits = word t scalar (first_inside ts rs k t own.types own.results own.result there own.written)
  result_word (shift s) plain own fits = word t scalar (first_inside ts rs k t own.types own.results own.result there own.written)
  result_word (icmp p) plain own (u, is, bit) = one_bit t bit
  result_word parity plain own (u, is, bit) = one_bit t bit
  result_word (extract low) plain own fits = word t scalar (second_inside ts rs k t own.types own.results own.result there own.written)
  result_word concat plain own fits = joined_word ts rs k t (some_written (length ts) n own.operands own.types) own.results own.form own.written own.wide own.result there
  result_word replicate plain own fits = word t scalar (second_inside ts rs k t own.types own.results own.result there own.written)
  result_word mux plain own fits = word t scalar (first_inside ts rs k t own.types own.results own.result there own.written)
  result_word (constant z) plain own fits = word t scalar (first_inside ts rs k t own.types own.results own.result there own.written)
  result_word bitcast plain own fits = word t scalar (second_inside ts rs k t own.types own.results own.result there own.written)
  result_word wire plain own fits = word t scalar (first_inside ts rs k t own.types own.results own.result there own.written)
  result_word (aggregate_constant ls) plain own fits = absurd plain
  result_word (on_array a) plain own fits = absurd plain
  result_word (on_struct s) plain own fits = absurd plain
  result_word (instance i) plain own fits = absurd plain
  result_word output plain own fits = absurd plain
  result_word (register f r) plain own fits = absurd plain
  result_word async_firreg plain own fits = absurd plain

-- ---- ports

port_words : (ps : List Port) → has_aggregate_port ps ≡ false → has_port (λ (q : Port). is_outside q.type) ps ≡ false → HaveWords ps
port_words [] scalar inside j p there = absurd (let no : ⊥ = cc in no)
port_words (q ∷ ps) scalar inside j p there = go (is_scalar q.type) (is_outside q.type) refl refl scalar inside j there (port_words ps)
  where
    go : (a b : Bool) → is_scalar q.type ≡ a → is_outside q.type ≡ b → cond a (has_aggregate_port ps) true ≡ false → cond b true (has_port (λ (r : Port). is_outside r.type) ps) ≡ false
        → (j : ℕ) → slice_get (q ∷ ps) j ≡ Some p → (has_aggregate_port ps ≡ false → has_port (λ (r : Port). is_outside r.type) ps ≡ false → HaveWords ps)
        → (1 ≤ width p.type) × (width p.type ≤ 128)
    go false b sa sb scalar inside j there rest = absurd (let no : ⊥ = cc in no)
    go true true sa sb scalar inside j there rest = absurd (let no : ⊥ = cc in no)
    go true false sa sb scalar inside zero there rest =
        let same : q ≡ p = cc in
        subst (λ (r : Port). (1 ≤ width r.type) × (width r.type ≤ 128)) same (word q.type sa sb)
    go true false sa sb scalar inside (suc j) there rest = rest scalar inside j p there

no_aggregate_port : (ps : List Port) (b : Bool) → cond (has_aggregate_port ps) true b ≡ false → has_aggregate_port ps ≡ false
no_aggregate_port ps b none = go (has_aggregate_port ps) none
  where
    go : (a : Bool) → cond a true b ≡ false → a ≡ false
    go true is = absurd (let no : ⊥ = cc in no)
    go false is = refl

-- the ports of a plain module are of words
pub plain_ports : (d : Design) (top : Name) (m : Module) → IsPlain d top m → HaveWords m.ports
plain_ports d top m plain =
    let unrefused = module_unrefused d (no_fault d plain.accepted) top m plain.found in
    port_words m.ports (no_aggregate_port m.ports (has_aggregate_result m.body) plain.scalar) (no_header_cause d unrefused.number m unrefused.header).types
