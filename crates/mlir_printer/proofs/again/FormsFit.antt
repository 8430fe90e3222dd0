-- The form of a printed operation takes just its operands and types.
use Rattle.std.proofs.Common.{◌≡◌, ℕ, zero, suc, ◌+◌, ◌-◌, ◌^◌, ◌<◌, ◌≤◌, max, Bool, true, false, cond, List, [], ◌∷◌, length, refl, sym, subst, arith}
use Rattle.std.proofs.lemmas.Nat.{pow_pos}
use Rattle.std.proofs.Math.Pow.{pow_mono}
use Rattle.std.proofs.lemmas.Bool.{and_parts}
use Rattle.std.specs.Prelude.{ℤ, pos, negsuc}
use Rattle.hw_model.specs.Types.{Name, HwType}
use Rattle.hw_model.specs.Types.HwType.{int, clock, array, struct}
use Rattle.hw_model.specs.Kinds.{Kind, Variadic, Division, Shift, Predicate, Literal, Literals, Instance}
use Rattle.hw_model.specs.Kinds.Reset.{no_reset, sync_reset}
use Rattle.hw_model.specs.Kinds.Literal.{leaf, parts}
use Rattle.hw_model.specs.Kinds.Literals.{no_literals, literal}
use Rattle.hw_model.specs.Kinds.ArrayOp.{array_create, array_concat, array_get, array_slice, array_inject}
use Rattle.hw_model.specs.Kinds.StructOp.{struct_create, struct_extract, struct_inject}
use Rattle.hw_model.specs.Kinds.RegisterOp.{compreg, compreg_ce, firreg}
use Rattle.hw_model.specs.Kinds.Kind.{variadic, sub, division, shift, icmp, extract, concat, replicate, mux, constant, aggregate_constant, on_array, on_struct, bitcast, instance, output, register, async_firreg}
use Rattle.hw_model.specs.Opcodes.{opcode_of, variadic_opcode, division_opcode, shift_opcode}
use Rattle.mlir_syntax.specs.Numerals.{count_limit}
use Rattle.mlir_operations.specs.ElementText.{InherentAttributes}
use Rattle.mlir_operations.specs.ElementText.InherentAttributes.{nothing, with_reset, with_async_reset, predicate, position, number, literals, field_name, child}
use Rattle.assembly_format.specs.Formats.{format_of}
use Rattle.assembly_format.specs.declared.elements.Format.{Format}
use Rattle.assembly_format.specs.declared.elements.Format.TheVariants as format
use Rattle.printing_laws.specs.Numbers.{is_negative, shown_number, shown_integer, shown_by_first, shown_literal, shown_literals, is_truth, is_one_bit, is_shown_as_truth}
use Rattle.mlir_printer.specs.Elements.{ValueText, Pending}
use Rattle.mlir_printer.specs.Operations.{format_shown, output_format, is_truth_view}
use Rattle.mlir_printer.specs.Texts.{inherent_shown}
use Rattle.mlir_printer.specs.Spellable.{IsOperand}
use Rattle.stored_form.specs.Bytes.{Each, AreBytes}
use Rattle.stored_form.specs.Limits.{IsInteger, IsAnyType, IsLiteral, AreLiterals}
use Rattle.mlir_printer.specs.SpellableModules.{IsViewAs}
use Rattle.op_checks.specs.CountChecks.{operands_written, type_count}
use Rattle.stored_form.specs.Kinds.{IsWritten, IsWrittenInstance}
use Rattle.mlir_printer.proofs.lexed.LexedLiterals.{one_bit}
use Rattle.mlir_printer.proofs.again.KindsKept.{negative_parts}
use Rattle.mlir_printer.proofs.again.ViewForms.{pending, says_variadic, says_binary, says_comparison, says_unary, says_extraction, says_joined, says_conversion, says_choice, says_truth, says_integer}
use Rattle.mlir_printer.proofs.again.ViewForms.{says_aggregate, says_element, says_slice, says_element_change, says_struct, says_field, says_field_change, says_instance, says_nothing, says_register}
use Rattle.mlir_printer.proofs.again.ViewForms.{says_reset_register, says_enabled, says_reset_enabled, says_clocked, says_reset_clocked, says_async_reset_clocked}

-- ---- lists of so many

of_none : {A : Type 0} (P : List A → Type 0) → P [] → (xs : List A) → length xs ≡ 0 → P xs
of_none P h [] e = h
of_none P h (x ∷ xs) e = absurd (omega (arith, e))

of_one : {A : Type 0} (P : List A → Type 0) → ((a : A) → P (a ∷ [])) → (xs : List A) → length xs ≡ 1 → P xs
of_one P h [] e = absurd (omega (arith, e))
of_one P h (x ∷ xs) e = of_none (λ r. P (x ∷ r)) (h x) xs (omega (arith, e))

of_two : {A : Type 0} (P : List A → Type 0) → ((a b : A) → P (a ∷ b ∷ [])) → (xs : List A) → length xs ≡ 2 → P xs
of_two P h [] e = absurd (omega (arith, e))
of_two P h (x ∷ xs) e = of_one (λ r. P (x ∷ r)) (h x) xs (omega (arith, e))

of_three : {A : Type 0} (P : List A → Type 0) → ((a b c : A) → P (a ∷ b ∷ c ∷ [])) → (xs : List A) → length xs ≡ 3 → P xs
of_three P h [] e = absurd (omega (arith, e))
of_three P h (x ∷ xs) e = of_two (λ r. P (x ∷ r)) (h x) xs (omega (arith, e))

of_four : {A : Type 0} (P : List A → Type 0) → ((a b c d : A) → P (a ∷ b ∷ c ∷ d ∷ [])) → (xs : List A) → length xs ≡ 4 → P xs
of_four P h [] e = absurd (omega (arith, e))
of_four P h (x ∷ xs) e = of_three (λ r. P (x ∷ r)) (h x) xs (omega (arith, e))

of_five : {A : Type 0} (P : List A → Type 0) → ((a b c d f : A) → P (a ∷ b ∷ c ∷ d ∷ f ∷ [])) → (xs : List A) → length xs ≡ 5 → P xs
of_five P h [] e = absurd (omega (arith, e))
of_five P h (x ∷ xs) e = of_four (λ r. P (x ∷ r)) (h x) xs (omega (arith, e))

-- ---- forms

-- operands and types that can be read, of a form
abbrev Fit : Format → InherentAttributes → List ValueText → List HwType → Type 0
Fit s e os ts = Each IsOperand os → Each IsAnyType ts → IsViewAs s (pending os ts e)

variadic_form : (os : List ValueText) (ts : List HwType) → 1 ≤ length os → length ts ≡ 1 → Fit format.Variadic nothing os ts
variadic_form os ts lo lt = of_one (λ ts. Fit format.Variadic nothing os ts) (λ t ho ht. says_variadic os t lo ho ht.0) ts lt

binary : (os : List ValueText) (ts : List HwType) → length os ≡ 2 → length ts ≡ 1 → Fit format.Binary nothing os ts
binary os ts lo lt =
    of_two (λ os. Fit format.Binary nothing os ts)
    (λ a b. of_one (λ ts. Fit format.Binary nothing (a ∷ b ∷ []) ts)
    (λ t ho ht. says_binary a b t ho.0 ho.1.0 ht.0) ts lt) os lo

comparison : (p : Predicate) (os : List ValueText) (ts : List HwType) → length os ≡ 2 → length ts ≡ 1 → Fit format.Comparison (predicate p) os ts
comparison p os ts lo lt =
    of_two (λ os. Fit format.Comparison (predicate p) os ts)
    (λ a b. of_one (λ ts. Fit format.Comparison (predicate p) (a ∷ b ∷ []) ts)
    (λ t ho ht. says_comparison p a b t ho.0 ho.1.0 ht.0) ts lt) os lo

unary : (os : List ValueText) (ts : List HwType) → length os ≡ 1 → length ts ≡ 1 → Fit format.Unary nothing os ts
unary os ts lo lt =
    of_one (λ os. Fit format.Unary nothing os ts)
    (λ a. of_one (λ ts. Fit format.Unary nothing (a ∷ []) ts) (λ t ho ht. says_unary a t ho.0 ht.0) ts lt) os lo

extraction : (n : ℕ) (os : List ValueText) (ts : List HwType) → n < count_limit → length os ≡ 1 → length ts ≡ 2
    → Fit format.Extraction (position n) os ts
extraction n os ts small lo lt =
    of_one (λ os. Fit format.Extraction (position n) os ts)
    (λ a. of_two (λ ts. Fit format.Extraction (position n) (a ∷ []) ts)
    (λ t u ho ht. says_extraction a n t u ho.0 small ht.0 ht.1.0) ts lt) os lo

joined : (os : List ValueText) (ts : List HwType) → 1 ≤ length os → length ts ≡ length os → Fit format.Joined nothing os ts
joined os ts lo lt ho ht = says_joined os ts lo ho lt ht

conversion : (os : List ValueText) (ts : List HwType) → length os ≡ 1 → length ts ≡ 2 → Fit format.Conversion nothing os ts
conversion os ts lo lt =
    of_one (λ os. Fit format.Conversion nothing os ts)
    (λ a. of_two (λ ts. Fit format.Conversion nothing (a ∷ []) ts)
    (λ t u ho ht. says_conversion a t u ho.0 ht.0 ht.1.0) ts lt) os lo

choice : (os : List ValueText) (ts : List HwType) → length os ≡ 3 → length ts ≡ 1 → Fit format.Choice nothing os ts
choice os ts lo lt =
    of_three (λ os. Fit format.Choice nothing os ts)
    (λ a b c. of_one (λ ts. Fit format.Choice nothing (a ∷ b ∷ c ∷ []) ts)
    (λ t ho ht. says_choice a b c t ho.0 ho.1.0 ho.1.1.0 ht.0) ts lt) os lo

whole_number : (z : ℤ) (os : List ValueText) (ts : List HwType) → IsInteger z → length os ≡ 0 → length ts ≡ 1 → Fit format.Integer (number z) os ts
whole_number z os ts small lo lt =
    of_none (λ os. Fit format.Integer (number z) os ts)
    (of_one (λ ts. Fit format.Integer (number z) [] ts) (λ t ho ht. says_integer z t small ht.0) ts lt) os lo

truth : (z : ℤ) (os : List ValueText) → is_truth z ≡ true → length os ≡ 0 → Fit format.Truth (number z) os (int 1 ∷ [])
truth z os one lo =
    of_none (λ os. Fit format.Truth (number z) os (int 1 ∷ [])) (λ ho ht. says_truth z one) os lo

aggregate : (ls : Literals) (os : List ValueText) (ts : List HwType) → AreLiterals ls 31 → length os ≡ 0 → length ts ≡ 1
    → Fit format.Aggregate (literals ls) os ts
aggregate ls os ts h lo lt =
    of_none (λ os. Fit format.Aggregate (literals ls) os ts)
    (of_one (λ ts. Fit format.Aggregate (literals ls) [] ts) (λ t ho ht. says_aggregate ls t h ht.0) ts lt) os lo

element : (os : List ValueText) (ts : List HwType) → length os ≡ 2 → length ts ≡ 2 → Fit format.Element nothing os ts
element os ts lo lt =
    of_two (λ os. Fit format.Element nothing os ts)
    (λ a b. of_two (λ ts. Fit format.Element nothing (a ∷ b ∷ []) ts)
    (λ t u ho ht. says_element a b t u ho.0 ho.1.0 ht.0 ht.1.0) ts lt) os lo

slice : (os : List ValueText) (ts : List HwType) → length os ≡ 2 → length ts ≡ 2 → Fit format.Slice nothing os ts
slice os ts lo lt =
    of_two (λ os. Fit format.Slice nothing os ts)
    (λ a b. of_two (λ ts. Fit format.Slice nothing (a ∷ b ∷ []) ts)
    (λ t u ho ht. says_slice a b t u ho.0 ho.1.0 ht.0 ht.1.0) ts lt) os lo

element_change : (os : List ValueText) (ts : List HwType) → length os ≡ 3 → length ts ≡ 2 → Fit format.ElementChange nothing os ts
element_change os ts lo lt =
    of_three (λ os. Fit format.ElementChange nothing os ts)
    (λ a b c. of_two (λ ts. Fit format.ElementChange nothing (a ∷ b ∷ c ∷ []) ts)
    (λ t u ho ht. says_element_change a b c t u ho.0 ho.1.0 ho.1.1.0 ht.0 ht.1.0) ts lt) os lo

group : (os : List ValueText) (ts : List HwType) → length ts ≡ 1 → Fit format.Struct nothing os ts
group os ts lt = of_one (λ ts. Fit format.Struct nothing os ts) (λ t ho ht. says_struct os t ho ht.0) ts lt

field_taken : (name : Name) (os : List ValueText) (ts : List HwType) → AreBytes name → length os ≡ 1 → length ts ≡ 1
    → Fit format.Field (field_name name) os ts
field_taken name os ts bytes lo lt =
    of_one (λ os. Fit format.Field (field_name name) os ts)
    (λ a. of_one (λ ts. Fit format.Field (field_name name) (a ∷ []) ts)
    (λ t ho ht. says_field a name t ho.0 bytes ht.0) ts lt) os lo

field_change : (name : Name) (os : List ValueText) (ts : List HwType) → AreBytes name → length os ≡ 2 → length ts ≡ 1
    → Fit format.FieldChange (field_name name) os ts
field_change name os ts bytes lo lt =
    of_two (λ os. Fit format.FieldChange (field_name name) os ts)
    (λ a b. of_one (λ ts. Fit format.FieldChange (field_name name) (a ∷ b ∷ []) ts)
    (λ t ho ht. says_field_change a b name t ho.0 ho.1.0 bytes ht.0) ts lt) os lo

no_values : (os : List ValueText) (ts : List HwType) → length os ≡ 0 → length ts ≡ 0 → Fit format.Nothing nothing os ts
no_values os ts lo lt =
    of_none (λ os. Fit format.Nothing nothing os ts)
    (of_none (λ ts. Fit format.Nothing nothing [] ts) (λ ho ht. says_nothing) ts lt) os lo

plain_register : (os : List ValueText) (ts : List HwType) → length os ≡ 2 → length ts ≡ 1 → Fit format.Register nothing os ts
plain_register os ts lo lt =
    of_two (λ os. Fit format.Register nothing os ts)
    (λ a b. of_one (λ ts. Fit format.Register nothing (a ∷ b ∷ []) ts)
    (λ t ho ht. says_register a b t ho.0 ho.1.0 ht.0) ts lt) os lo

reset_register : (os : List ValueText) (ts : List HwType) → length os ≡ 4 → length ts ≡ 1 → Fit format.Register with_reset os ts
reset_register os ts lo lt =
    of_four (λ os. Fit format.Register with_reset os ts)
    (λ a b c d. of_one (λ ts. Fit format.Register with_reset (a ∷ b ∷ c ∷ d ∷ []) ts)
    (λ t ho ht. says_reset_register a b c d t ho.0 ho.1.0 ho.1.1.0 ho.1.1.1.0 ht.0) ts lt) os lo

enabled_register : (os : List ValueText) (ts : List HwType) → length os ≡ 3 → length ts ≡ 1 → Fit format.EnabledRegister nothing os ts
enabled_register os ts lo lt =
    of_three (λ os. Fit format.EnabledRegister nothing os ts)
    (λ a b c. of_one (λ ts. Fit format.EnabledRegister nothing (a ∷ b ∷ c ∷ []) ts)
    (λ t ho ht. says_enabled a b c t ho.0 ho.1.0 ho.1.1.0 ht.0) ts lt) os lo

enabled_reset_register : (os : List ValueText) (ts : List HwType) → length os ≡ 5 → length ts ≡ 1 → Fit format.EnabledRegister with_reset os ts
enabled_reset_register os ts lo lt =
    of_five (λ os. Fit format.EnabledRegister with_reset os ts)
    (λ a b c d f. of_one (λ ts. Fit format.EnabledRegister with_reset (a ∷ b ∷ c ∷ d ∷ f ∷ []) ts)
    (λ t ho ht. says_reset_enabled a b c d f t ho.0 ho.1.0 ho.1.1.0 ho.1.1.1.0 ho.1.1.1.1.0 ht.0) ts lt) os lo

clocked_register : (os : List ValueText) (ts : List HwType) → length os ≡ 2 → length ts ≡ 1 → Fit format.ClockedRegister nothing os ts
clocked_register os ts lo lt =
    of_two (λ os. Fit format.ClockedRegister nothing os ts)
    (λ a b. of_one (λ ts. Fit format.ClockedRegister nothing (a ∷ b ∷ []) ts)
    (λ t ho ht. says_clocked a b t ho.0 ho.1.0 ht.0) ts lt) os lo

clocked_reset_register : (os : List ValueText) (ts : List HwType) → length os ≡ 4 → length ts ≡ 1 → Fit format.ClockedRegister with_reset os ts
clocked_reset_register os ts lo lt =
    of_four (λ os. Fit format.ClockedRegister with_reset os ts)
    (λ a b c d. of_one (λ ts. Fit format.ClockedRegister with_reset (a ∷ b ∷ c ∷ d ∷ []) ts)
    (λ t ho ht. says_reset_clocked a b c d t ho.0 ho.1.0 ho.1.1.0 ho.1.1.1.0 ht.0) ts lt) os lo

async_reset_register : (os : List ValueText) (ts : List HwType) → length os ≡ 4 → length ts ≡ 1 → Fit format.ClockedRegister with_async_reset os ts
async_reset_register os ts lo lt =
    of_four (λ os. Fit format.ClockedRegister with_async_reset os ts)
    (λ a b c d. of_one (λ ts. Fit format.ClockedRegister with_async_reset (a ∷ b ∷ c ∷ d ∷ []) ts)
    (λ t ho ht. says_async_reset_clocked a b c d t ho.0 ho.1.0 ho.1.1.0 ho.1.1.1.0 ht.0) ts lt) os lo

call : (i : Instance) (os : List ValueText) (ts : List HwType) → IsWrittenInstance i → length os ≡ length i.inputs
    → length ts ≡ length i.inputs + length i.outputs
    → Fit format.Instance (child i) os ts
call i os ts w lo lt ho ht =
    says_instance i os ts
    (record {
      name = w.name;
      inner = w.inner;
      symbol = w.symbol;
      inputs = w.inputs;
      outputs = w.outputs;
      operands = ho;
      types = ht;
      inputs_count = lo;
      types_count = lt;
    })

-- ---- constants

number_shown : (w : ℕ) (z : ℤ) → IsInteger z → IsInteger (shown_number w z)
number_shown w (negsuc n) h = h
number_shown w (pos n) h = go (is_negative w n) refl
  where
    go : (b : Bool) → is_negative w n ≡ b → IsInteger (cond b (negsuc (2 ^ w - 1 - n)) (pos n))
    go false e = h
    go true e =
        let p = negative_parts w n e in
        let narrow = p.1 in
        let low = p.2 in
        let wide : 2 ^ w ≤ 2 ^ 128 = pow_mono {i = w} {j = 128} (omega (arith, narrow)) in
        let some = pow_pos (w - 1) in
        omega (arith, low, wide, some)

integer_shown : (t : HwType) (z : ℤ) → IsInteger z → IsInteger (shown_integer t z)
integer_shown (int w) z h = number_shown w z h
integer_shown clock z h = h
integer_shown (array n t) z h = h
integer_shown (struct fs) z h = h

mutual
  literal_shown : (l : Literal) (room : ℕ) → IsLiteral l room → IsLiteral (shown_literal l) room
  literal_shown (leaf z t) room h = (integer_shown t z h.0, h.1)
  literal_shown (parts ls) zero h = h
  literal_shown (parts ls) (suc room) h = literals_shown ls room h

  literals_shown : (ls : Literals) (room : ℕ) → AreLiterals ls room → AreLiterals (shown_literals ls) room
  literals_shown no_literals room h = tt
  literals_shown (literal l ls) room h = (literal_shown l room h.0, literals_shown ls room h.1)

-- a number of a type that is read
constant_of : (y : ℤ) (t : HwType) (os : List ValueText) → IsInteger y → length os ≡ 0 → Each IsOperand os → Each IsAnyType (t ∷ [])
    → IsViewAs (cond (is_shown_as_truth t y) format.Truth format.Integer) (pending os (t ∷ []) (number y))
constant_of y t os small lo ho ht = go (is_shown_as_truth t y) refl
  where
    go : (b : Bool) → is_shown_as_truth t y ≡ b → IsViewAs (cond b format.Truth format.Integer) (pending os (t ∷ []) (number y))
    go false e = whole_number y os (t ∷ []) small lo refl ho ht
    go true e =
        let p = and_parts (is_one_bit t) (is_truth y) e in
        let i = one_bit t p.0 in
        subst (λ u. IsViewAs format.Truth (pending os (u ∷ []) (number y))) (sym i) (truth y os p.1 lo ho (subst (λ u. Each IsAnyType (u ∷ [])) i ht))

constant_fits : (z : ℤ) (os : List ValueText) (ts : List HwType) → IsInteger z → length os ≡ 0 → length ts ≡ 1 → Each IsOperand os → Each IsAnyType ts
    → IsViewAs (cond (is_truth_view ts (number (shown_by_first ts z))) format.Truth format.Integer) (pending os ts (number (shown_by_first ts z)))
constant_fits z os [] small lo lt ho ht = absurd (omega (arith, lt))
constant_fits z os (t ∷ u ∷ ts) small lo lt ho ht = absurd (omega (arith, lt))
constant_fits z os (t ∷ []) small lo lt ho ht = constant_of (shown_integer t z) t os (integer_shown t z small) lo ho ht

output_fits : (os : List ValueText) (ts : List HwType) → length ts ≡ length os → Each IsOperand os → Each IsAnyType ts
    → IsViewAs (output_format os) (pending os ts nothing)
output_fits [] ts lt = no_values [] ts refl lt
output_fits (o ∷ os) ts lt = joined (o ∷ os) ts (omega arith) lt

-- ---- kinds

some_there : (n : ℕ) → n ≡ max 1 n → 1 ≤ n
some_there n e = omega (arith, e)

-- the forms of families
variadic_format : (v : Variadic) (g : Pending) → format_shown (variadic_opcode v) g ≡ format.Variadic
unfolding format_shown format_of
variadic_format v g = grind arith

division_format : (d : Division) (g : Pending) → format_shown (division_opcode d) g ≡ format.Binary
unfolding format_shown format_of
division_format d g = grind arith

shift_format : (s : Shift) (g : Pending) → format_shown (shift_opcode s) g ≡ format.Binary
unfolding format_shown format_of
shift_format s g = grind arith

-- the form of an operation takes its operands and types
pub form_fits : (k : Kind) (os : List ValueText) (ts : List HwType) → length os ≡ operands_written k (length os)
    → length ts ≡ type_count k (length os)
    → IsWritten k → Each IsOperand os → Each IsAnyType ts
    → IsViewAs (format_shown (opcode_of k) (pending os ts (inherent_shown k ts))) (pending os ts (inherent_shown k ts))
unfolding format_shown format_of inherent_shown operands_written type_count
form_fits (variadic v) os ts lo lt w =
    subst (λ s. Fit s nothing os ts) (sym (variadic_format v (pending os ts nothing))) (variadic_form os ts (some_there (length os) lo) lt)
form_fits sub os ts lo lt w = binary os ts lo lt
form_fits (division d) os ts lo lt w = subst (λ s. Fit s nothing os ts) (sym (division_format d (pending os ts nothing))) (binary os ts lo lt)
form_fits (shift s) os ts lo lt w = subst (λ x. Fit x nothing os ts) (sym (shift_format s (pending os ts nothing))) (binary os ts lo lt)
form_fits (icmp p) os ts lo lt w = comparison p os ts lo lt
form_fits (extract low) os ts lo lt w = extraction low os ts w lo lt
form_fits concat os ts lo lt w = joined os ts (some_there (length os) lo) lt
form_fits replicate os ts lo lt w = conversion os ts lo lt
form_fits mux os ts lo lt w = choice os ts lo lt
form_fits (constant z) os ts lo lt w = constant_fits z os ts w lo lt
form_fits (aggregate_constant ls) os ts lo lt w = aggregate (shown_literals ls) os ts (literals_shown ls 31 w) lo lt
form_fits (on_array array_create) os ts lo lt w = variadic_form os ts (some_there (length os) lo) lt
form_fits (on_array array_concat) os ts lo lt w = joined os ts (some_there (length os) lo) lt
form_fits (on_array array_get) os ts lo lt w = element os ts lo lt
form_fits (on_array array_slice) os ts lo lt w = slice os ts lo lt
form_fits (on_array array_inject) os ts lo lt w = element_change os ts lo lt
form_fits (on_struct struct_create) os ts lo lt w = group os ts lt
form_fits (on_struct (struct_extract name)) os ts lo lt w = field_taken name os ts w lo lt
form_fits (on_struct (struct_inject name)) os ts lo lt w = field_change name os ts w lo lt
form_fits bitcast os ts lo lt w = conversion os ts lo lt
form_fits (instance i) os ts lo lt w = call i os ts w lo lt
form_fits output os ts lo lt w = output_fits os ts lt
form_fits (register compreg no_reset) os ts lo lt w = plain_register os ts lo lt
form_fits (register compreg sync_reset) os ts lo lt w = reset_register os ts lo lt
form_fits (register compreg_ce no_reset) os ts lo lt w = enabled_register os ts lo lt
form_fits (register compreg_ce sync_reset) os ts lo lt w = enabled_reset_register os ts lo lt
form_fits (register firreg no_reset) os ts lo lt w = clocked_register os ts lo lt
form_fits (register firreg sync_reset) os ts lo lt w = clocked_reset_register os ts lo lt
form_fits async_firreg os ts lo lt w = async_reset_register os ts lo lt
form_fits _ os ts lo lt w = unary os ts lo lt
