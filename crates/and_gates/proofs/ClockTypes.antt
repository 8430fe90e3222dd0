-- The results of operations without aggregates and instances are no clocks.
use Rattle.std.proofs.Common.{◌≡◌, sym, ap, ◌∙◌, ℕ, zero, suc, Bool, true, false, List, [], ◌∷◌, map, slice_get, Option, Some, None, option_and_then}
use Rattle.std.specs.List.{list_any}
use Rattle.hw_model.specs.Types.{HwType}
use Rattle.hw_model.specs.Types.HwType.{int, clock}
use Rattle.hw_model.specs.Kinds.{Kind, Reset}
use Rattle.hw_model.specs.Kinds.Reset.{no_reset, sync_reset}
use Rattle.hw_model.specs.Kinds.Kind.{variadic, sub, division, shift, icmp, parity, extract, concat, replicate, mux, constant, aggregate_constant, on_array, on_struct, bitcast, wire, instance, output, register, async_firreg}
use Rattle.hw_model.specs.Design.{Ref, RegisterForm, takes_enable, register_form, is_output_kind}
use Rattle.hw_model.specs.Flat.{Register, register_parts}
use Rattle.hw_model.specs.Sound.{register_types, Fits}
use Rattle.type_inference.specs.ResultTypes.{first_type, second_type, joined_width, kept_size, as_int, result_type, result_types}
use Rattle.op_checks.specs.TypeChecks.{is_clock}
use Rattle.op_checks.specs.TypeLists.{known_types}
use Rattle.op_checks.proofs.Widths.{neither}
use Rattle.op_checks.proofs.NoOwnCause.{NoOwnCause}
use Rattle.op_checks.proofs.Settled.{settles}
use Rattle.operation_gates.specs.Operands.{IsPlain}

-- ---- types that are no clocks

first_no_clock : (ts : List HwType) (t : HwType) → list_any is_clock ts ≡ false → first_type ts ≡ Some t → is_clock t ≡ false
first_no_clock [] t free is = cc
first_no_clock (u ∷ ts) t free is =
    let same : u ≡ t = cc in
    sym (ap is_clock same) ∙ (neither (is_clock u) (list_any is_clock ts) free).0

second_no_clock : (ts : List HwType) (t : HwType) → list_any is_clock ts ≡ false → second_type ts ≡ Some t → is_clock t ≡ false
second_no_clock [] t free is = cc
second_no_clock (u ∷ ts) t free is = first_no_clock ts t (neither (is_clock u) (list_any is_clock ts) free).1 is

joined_no_clock : (x : Option ℕ) (t : HwType) → as_int x ≡ Some t → is_clock t ≡ false
joined_no_clock None t is = cc
joined_no_clock (Some w) t is = let same : int (kept_size w) ≡ t = cc in sym (ap is_clock same)

bit_no_clock : (t : HwType) → Some (int 1) ≡ Some t → is_clock t ≡ false
bit_no_clock t is = let same : int 1 ≡ t = cc in sym (ap is_clock same)

-- the one result's type
only_result : (x : Option HwType) (rs : List HwType) (k : ℕ) (t : HwType) → x ∷ [] ≡ known_types rs → slice_get rs k ≡ Some t → x ≡ Some t
only_result x [] k t same there = cc
only_result x (r ∷ []) zero t same there = cc
only_result x (r ∷ []) (suc k) t same there = cc
only_result x (r ∷ s ∷ rs) k t same there = cc

no_result : (rs : List HwType) (k : ℕ) (t : HwType) → [] ≡ known_types rs → slice_get rs k ≡ Some t → is_clock t ≡ false
no_result [] k t same there = cc
no_result (r ∷ rs) k t same there = cc

-- ---- results

module _ (named n : ℕ) (xs : List (Option HwType)) (is_known : Bool) (ts rs : List HwType) (k : ℕ) (t : HwType) (there : slice_get rs k ≡ Some t) where
  by_first : first_type ts ∷ [] ≡ known_types rs → list_any is_clock ts ≡ false → is_clock t ≡ false
  by_first settled free = first_no_clock ts t free (only_result (first_type ts) rs k t settled there)

  by_second : second_type ts ∷ [] ≡ known_types rs → list_any is_clock ts ≡ false → is_clock t ≡ false
  by_second settled free = second_no_clock ts t free (only_result (second_type ts) rs k t settled there)

  pub made_no_clock : (kind : Kind) → IsPlain kind → NoOwnCause kind ts rs named n xs is_known → is_clock t ≡ false
  unfolding result_types result_type
  made_no_clock (variadic v) plain own = by_first (settles (variadic v) ts rs own) own.clock_type
  made_no_clock sub plain own = by_first (settles sub ts rs own) own.clock_type
  made_no_clock (division d) plain own = by_first (settles (division d) ts rs own) own.clock_type
  made_no_clock (shift s) plain own = by_first (settles (shift s) ts rs own) own.clock_type
  made_no_clock (icmp p) plain own = bit_no_clock t (only_result (Some (int 1)) rs k t (settles (icmp p) ts rs own) there)
  made_no_clock parity plain own = bit_no_clock t (only_result (Some (int 1)) rs k t (settles parity ts rs own) there)
  made_no_clock (extract low) plain own = by_second (settles (extract low) ts rs own) own.clock_type
  made_no_clock concat plain own = joined_no_clock (joined_width ts) t (only_result (as_int (joined_width ts)) rs k t (settles concat ts rs own) there)
  made_no_clock replicate plain own = by_second (settles replicate ts rs own) own.clock_type
  made_no_clock mux plain own = by_first (settles mux ts rs own) own.clock_type
  made_no_clock (constant z) plain own = by_first (settles (constant z) ts rs own) own.clock_type
  made_no_clock bitcast plain own = by_second (settles bitcast ts rs own) own.clock_type
  made_no_clock wire plain own = by_first (settles wire ts rs own) own.clock_type
  made_no_clock (aggregate_constant ls) plain own = absurd plain
  made_no_clock (on_array a) plain own = absurd plain
  made_no_clock (on_struct s) plain own = absurd plain
  made_no_clock (instance i) plain own = absurd plain
  made_no_clock output plain own = absurd plain
  made_no_clock (register f r) plain own = absurd plain
  made_no_clock async_firreg plain own = absurd plain

  pub held_no_clock : (kind : Kind) (f : RegisterForm) → register_form kind ≡ Some f → NoOwnCause kind ts rs named n xs is_known → is_clock t ≡ false
  unfolding result_types result_type
  held_no_clock (register g x) f is own = by_first (settles (register g x) ts rs own) own.clock_type
  held_no_clock async_firreg f is own = by_first (settles async_firreg ts rs own) own.clock_type
  held_no_clock kind f is own = cc

  pub output_no_clock : (kind : Kind) → is_output_kind kind ≡ true → NoOwnCause kind ts rs named n xs is_known → is_clock t ≡ false
  unfolding result_types result_type
  output_no_clock output is own = no_result rs k t (settles output ts rs own) there
  output_no_clock kind is own = cc

-- ---- the clock of a register

module _ (type_of : Ref → Option HwType) where
  same_clock : (z r : Register) → Some z ≡ Some r → type_of z.clock ≡ Some clock → type_of r.clock ≡ Some clock
  same_clock z r is typed = let same : z ≡ r = cc in sym (ap (λ (y : Register). type_of y.clock) same) ∙ typed

  clock_of_parts : (t : HwType) (has_enable : Bool) (reset : Reset) (rs : List Ref) (r : Register) → map type_of rs ≡ register_types has_enable reset t
      → register_parts has_enable reset rs ≡ Some r → type_of r.clock ≡ Some clock
  clock_of_parts t false no_reset (d ∷ c ∷ []) r typed is = same_clock _ r is (let e : type_of c ≡ Some clock = cc in e)
  clock_of_parts t true no_reset (d ∷ c ∷ e ∷ []) r typed is = same_clock _ r is (let f : type_of c ≡ Some clock = cc in f)
  clock_of_parts t false sync_reset (d ∷ c ∷ p ∷ w ∷ []) r typed is = same_clock _ r is (let e : type_of c ≡ Some clock = cc in e)
  clock_of_parts t true sync_reset (d ∷ c ∷ e ∷ p ∷ w ∷ []) r typed is = same_clock _ r is (let f : type_of c ≡ Some clock = cc in f)
  clock_of_parts t has_enable reset rs r typed is = cc

  -- where a register fits its operands, its clock is a clock
  pub clock_typed : (kind : Kind) (ts : List HwType) (t : HwType) (k : ℕ) (rs : List Ref) (r : Register) → Fits kind ts (map type_of rs) t k
      → option_and_then (λ (f : RegisterForm). register_parts f.has_enable f.reset rs) (register_form kind) ≡ Some r → type_of r.clock ≡ Some clock
  clock_typed (register w x) ts t k rs r fits is = clock_of_parts t (takes_enable w) x rs r fits is
  clock_typed async_firreg ts t k rs r fits is = clock_of_parts t false sync_reset rs r fits is
  clock_typed kind ts t k rs r fits is = cc
