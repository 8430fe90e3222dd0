-- The value of each kind of operation has as many bits as its type, where its operands' words have as many as theirs.
use Rattle.std.proofs.Common.{◌≡◌, ℕ, zero, suc, ◌+◌, ◌*◌, ◌/◌, ◌<◌, ◌≤◌, Bool, true, false, cond, nat_lt, ◌==◌, List, [], ◌∷◌, ◌++◌, length, map, take, drop, slice_get, Option, Some, None, refl, sym}
use Rattle.std.proofs.Common.{ap, subst, ◌∙◌, inl, inr, arith, length-append, length-drop, length-take, zero-mul, suc-mul, add-mul}
use Rattle.std.proofs.Math.ListN.{length-replicate}
use Rattle.std.proofs.Math.Nat.{mul-div_cancel, mul-le-mul}
use Rattle.std.proofs.lemmas.Bool.{ltb-true}
use Rattle.wiring.specs.Lists.{total}
use Rattle.wiring.specs.Wiring.{In}
use Rattle.bits_core.specs.Word.{Word, number, copies, zeros, extract as bits_from}
use Rattle.bits_core.proofs.Numbers.{length-bits, length-copies, length-extract}
use Rattle.bits_core.proofs.Arithmetic.{length-sub, length-quotient, length-rest, length-signed_quotient, length-signed_rest}
use Rattle.bits_core.proofs.Bitwise.{length-bitwise}
use Rattle.bits_core.proofs.Complement.{length-bits_of_ℤ}
use Rattle.bits_core.proofs.Shifts.{length-shift_left, length-shift_right, length-shift_right_signed}
use Rattle.hw_model.specs.Types.{Name, HwType, FieldTypes, width, width_of_fields}
use Rattle.hw_model.specs.Types.HwType.{int, array, struct}
use Rattle.hw_model.specs.Types.FieldTypes.{no_fields, field}
use Rattle.hw_model.specs.Kinds.{Kind, Literal, Literals, Variadic, Division, Shift, ArrayOp, StructOp}
use Rattle.hw_model.specs.Kinds.Literal.{leaf, parts}
use Rattle.hw_model.specs.Kinds.Literals.{no_literals, literal}
use Rattle.hw_model.specs.Kinds.Variadic.{add, mul, and, or, xor}
use Rattle.hw_model.specs.Kinds.Division.{divu, modu, divs, mods}
use Rattle.hw_model.specs.Kinds.Shift.{shl, shru, shrs}
use Rattle.hw_model.specs.Kinds.ArrayOp.{array_create, array_concat, array_get, array_slice, array_inject}
use Rattle.hw_model.specs.Kinds.StructOp.{struct_create, struct_extract, struct_inject, struct_explode}
use Rattle.hw_model.specs.Kinds.Kind.{variadic, sub, division, shift, icmp, parity, extract, concat, replicate, mux, constant, aggregate_constant, on_array, on_struct, bitcast, wire, instance, output, register, async_firreg}
use Rattle.hw_model.specs.Design.{instance_in, register_form, same_name}
use Rattle.hw_model.specs.Value.{concat_words, is_high, and_all, or_all, xor_all, of_one, of_two, of_three, word_of_literal, word_of_literals, element, elements_from, slice_of, injected_below}
use Rattle.hw_model.specs.Value.{inject_element, field_of, with_field, field_at, fields, nth_type, variadic_value, division_value, shift_value, array_value, struct_value, op_value}
use Rattle.hw_model.specs.Sound.{HasWidth, HaveWidths, field_list, field_type, literal_width, literals_width, AllAre, ArrayFits, StructFits, Fits}

-- ---- operands of one type

all_widths : (t : HwType) (xs : List (Option HwType)) (ws : List Word) → AllAre t xs → HaveWidths xs ws → (w : Word) → In w ws → length w ≡ width t
all_widths t [] [] all have w here = absurd here
all_widths t [] (v ∷ ws) all have w here = absurd have
all_widths t (x ∷ xs) [] all have w here = absurd have
all_widths t (x ∷ xs) (v ∷ ws) all have w (inl same) =
    let first : HasWidth (Some t) v = subst (λ y. HasWidth y v) (all x (inl refl)) have.0 in
    ap length same ∙ first
all_widths t (x ∷ xs) (v ∷ ws) all have w (inr here) = all_widths t xs ws (λ y there. all y (inr there)) have.1 w here

and_width : (n : ℕ) (ws : List Word) → ((w : Word) → In w ws → length w ≡ n) → length (and_all n ws) ≡ n
and_width n [] all = length-replicate n true
and_width n (w ∷ ws) all =
    let first : length w ≡ n = all w (inl refl) in
    length-bitwise _ w (and_all n ws) (first ∙ sym (and_width n ws (λ v here. all v (inr here)))) ∙ first

or_width : (n : ℕ) (ws : List Word) → ((w : Word) → In w ws → length w ≡ n) → length (or_all n ws) ≡ n
or_width n [] all = length-replicate n false
or_width n (w ∷ ws) all =
    let first : length w ≡ n = all w (inl refl) in
    length-bitwise _ w (or_all n ws) (first ∙ sym (or_width n ws (λ v here. all v (inr here)))) ∙ first

xor_width : (n : ℕ) (ws : List Word) → ((w : Word) → In w ws → length w ≡ n) → length (xor_all n ws) ≡ n
xor_width n [] all = length-replicate n false
xor_width n (w ∷ ws) all =
    let first : length w ≡ n = all w (inl refl) in
    length-bitwise _ w (xor_all n ws) (first ∙ sym (xor_width n ws (λ v here. all v (inr here)))) ∙ first

-- ---- one, two or three operands

one_width : (f : Word → Word) (n : ℕ) (x : Option HwType) (xs : List (Option HwType)) (ws : List Word) → xs ≡ x ∷ [] → HaveWidths xs ws
    → ((a : Word) → HasWidth x a → length (f a) ≡ n) → length (of_one f ws) ≡ n
one_width f n x xs ws is have each = go ws (subst (λ ys. HaveWidths ys ws) is have)
  where
    go : (ws : List Word) → HaveWidths (x ∷ []) ws → length (of_one f ws) ≡ n
    go [] have = absurd have
    go (a ∷ []) have = each a have.0
    go (a ∷ b ∷ ws) have = absurd have.1

two_width : (f : Word → Word → Word) (n : ℕ) (x y : Option HwType) (xs : List (Option HwType)) (ws : List Word) → xs ≡ x ∷ y ∷ [] → HaveWidths xs ws
    → ((a b : Word) → HasWidth x a → HasWidth y b → length (f a b) ≡ n) → length (of_two f ws) ≡ n
two_width f n x y xs ws is have each = go ws (subst (λ ys. HaveWidths ys ws) is have)
  where
    go : (ws : List Word) → HaveWidths (x ∷ y ∷ []) ws → length (of_two f ws) ≡ n
    go [] have = absurd have
    go (a ∷ []) have = absurd have.1
    go (a ∷ b ∷ []) have = each a b have.0 have.1.0
    go (a ∷ b ∷ c ∷ ws) have = absurd have.1.1

three_width : (f : Word → Word → Word → Word) (n : ℕ) (x y z : Option HwType) (xs : List (Option HwType)) (ws : List Word) → xs ≡ x ∷ y ∷ z ∷ [] → HaveWidths xs ws
    → ((a b c : Word) → HasWidth x a → HasWidth y b → HasWidth z c → length (f a b c) ≡ n) → length (of_three f ws) ≡ n
three_width f n x y z xs ws is have each = go ws (subst (λ ys. HaveWidths ys ws) is have)
  where
    go : (ws : List Word) → HaveWidths (x ∷ y ∷ z ∷ []) ws → length (of_three f ws) ≡ n
    go [] have = absurd have
    go (a ∷ []) have = absurd have.1
    go (a ∷ b ∷ []) have = absurd have.1.1
    go (a ∷ b ∷ c ∷ []) have = each a b c have.0 have.1.0 have.1.1.0
    go (a ∷ b ∷ c ∷ e ∷ ws) have = absurd have.1.1.1

-- ---- joined words

joined_width : (ts : List HwType) (ws : List Word) → HaveWidths (map (λ (u : HwType). Some u) ts) ws → length (concat_words ws) ≡ total (map width ts)
joined_width [] [] have = refl
joined_width [] (w ∷ ws) have = absurd have
joined_width (t ∷ ts) [] have = absurd have
joined_width (t ∷ ts) (w ∷ ws) have =
    let first : length w ≡ width t = have.0 in
    let rest : length (concat_words ws) ≡ total (map width ts) = joined_width ts ws have.1 in
    omega (arith, length-append w (concat_words ws))

fields_total : (fs : FieldTypes) → total (map width (field_list fs)) ≡ width_of_fields fs
fields_total no_fields = refl
fields_total (field name t fs) = ap (λ n. width t + n) (fields_total fs)

elements_width : (t : HwType) (xs : List (Option HwType)) (ws : List Word) → AllAre t xs → HaveWidths xs ws → length (concat_words ws) ≡ length xs * width t
elements_width t [] [] all have = sym (zero-mul (width t))
elements_width t [] (w ∷ ws) all have = absurd have
elements_width t (x ∷ xs) [] all have = absurd have
elements_width t (x ∷ xs) (w ∷ ws) all have =
    let first : length w ≡ width t = all_widths t (x ∷ xs) (w ∷ ws) all have w (inl refl) in
    let rest : length (concat_words ws) ≡ length xs * width t = elements_width t xs ws (λ y there. all y (inr there)) have.1 in
    omega (arith, length-append w (concat_words ws), suc-mul (length xs) (width t))

arrays_width : (t : HwType) (ns : List ℕ) (ws : List Word) → HaveWidths (map (λ (n : ℕ). Some (array n t)) ns) ws → length (concat_words ws) ≡ total ns * width t
arrays_width t [] [] have = sym (zero-mul (width t))
arrays_width t [] (w ∷ ws) have = absurd have
arrays_width t (n ∷ ns) [] have = absurd have
arrays_width t (n ∷ ns) (w ∷ ws) have =
    let first : length w ≡ n * width t = have.0 in
    let rest : length (concat_words ws) ≡ total ns * width t = arrays_width t ns ws have.1 in
    omega (arith, length-append w (concat_words ws), add-mul n (total ns) (width t))

mutual
  literal_length : (l : Literal) → length (word_of_literal l) ≡ literal_width l
  literal_length (leaf z t) = length-bits_of_ℤ (width t) z
  literal_length (parts ls) = literals_length ls

  literals_length : (ls : Literals) → length (word_of_literals ls) ≡ literals_width ls
  literals_length no_literals = refl
  literals_length (literal l ls) =
      let first : length (word_of_literal l) ≡ literal_width l = literal_length l in
      let rest : length (word_of_literals ls) ≡ literals_width ls = literals_length ls in
      omega (arith, length-append (word_of_literal l) (word_of_literals ls))

-- ---- arrays

element_width : (n : ℕ) (t : HwType) (a : Word) (i : ℕ) → length a ≡ n * width t → length (element (array n t) a i) ≡ width t
element_width n t a i size = go (nat_lt i n) refl
  where
    go : (b : Bool) → nat_lt i n ≡ b → length (cond b (bits_from (i * width t) (width t) a) (zeros (width t))) ≡ width t
    go true is =
        let below : suc i ≤ n = ltb-true i n is in
        let room : suc i * width t ≤ n * width t = mul-le-mul below (omega arith) in
        length-extract (i * width t) (width t) a (omega (arith, suc-mul i (width t)))
    go false is = length-replicate (width t) false

elements_from_width : (n : ℕ) (t : HwType) (a : Word) (i m : ℕ) → length a ≡ n * width t → length (elements_from (array n t) a i m) ≡ m * width t
elements_from_width n t a i zero size = sym (zero-mul (width t))
elements_from_width n t a i (suc m) size =
    let first : length (element (array n t) a (i + m)) ≡ width t = element_width n t a (i + m) size in
    let rest : length (elements_from (array n t) a i m) ≡ m * width t = elements_from_width n t a i m size in
    omega (arith, length-append (element (array n t) a (i + m)) (elements_from (array n t) a i m), suc-mul m (width t))

slice_width : (written_type t : HwType) (n m : ℕ) (e : HwType) (a : Word) (i : ℕ) → written_type ≡ array n e → t ≡ array m e → length a ≡ n * width e
    → length (slice_of written_type a i t) ≡ width t
slice_width written_type t n m e a i is is' size =
    rw (is, is') (elements_from_width n e a i m size)

injected_below_width : (k n : ℕ) (t : HwType) (a : Word) (i : ℕ) (v : Word) → length a ≡ n * width t → length v ≡ width t
    → length (injected_below k (array n t) a i v) ≡ k * width t
injected_below_width zero n t a i v size value = sym (zero-mul (width t))
injected_below_width (suc k) n t a i v size value =
    let first : length (cond (k == i) v (element (array n t) a k)) ≡ width t = go (k == i) in
    let rest : length (injected_below k (array n t) a i v) ≡ k * width t = injected_below_width k n t a i v size value in
    omega (arith, length-append (cond (k == i) v (element (array n t) a k)) (injected_below k (array n t) a i v), suc-mul k (width t))
  where
    go : (b : Bool) → length (cond b v (element (array n t) a k)) ≡ width t
    go true = value
    go false = element_width n t a k size

injected_width : (written_type t : HwType) (n : ℕ) (e : HwType) (a : Word) (i : ℕ) (v : Word) → written_type ≡ t → t ≡ array n e
    → length a ≡ width t → length v ≡ width e → length (inject_element written_type a i v) ≡ width t
injected_width written_type t n e a i v is is' size value =
    let size' : length a ≡ n * width e = size ∙ ap width is' in
    rw (is, is') (injected_below_width n n e a i v size' value)

get_width : (written_type t : HwType) (n : ℕ) (a : Word) (i : ℕ) → written_type ≡ array n t → length a ≡ n * width t → length (element written_type a i) ≡ width t
get_width written_type t n a i is size = rw is (element_width n t a i size)

-- ---- structs

field_width : (fs : FieldTypes) (name : Name) (t : HwType) (s : Word) → field_type fs name ≡ Some t → length s ≡ width_of_fields fs
    → length (field_of fs name s) ≡ width t
field_width no_fields name t s is size = cc
field_width (field f u fs) name t s is size = go (same_name f name) is (field_width fs name t (drop (width u) s))
  where
    go : (b : Bool) → cond b (Some u) (field_type fs name) ≡ Some t
        → (field_type fs name ≡ Some t → length (drop (width u) s) ≡ width_of_fields fs → length (field_of fs name (drop (width u) s)) ≡ width t)
        → length (cond b (take (width u) s) (field_of fs name (drop (width u) s))) ≡ width t
    go true is rest =
        let same : u ≡ t = cc in
        let e : length (take (width u) s) ≡ width u = omega (arith, length-take (width u) s) in
        e ∙ ap width same
    go false is rest = rest is (omega (arith, length-drop (width u) s))

with_field_width : (fs : FieldTypes) (name : Name) (t : HwType) (s v : Word) → field_type fs name ≡ Some t → length s ≡ width_of_fields fs → length v ≡ width t
    → length (with_field fs name s v) ≡ width_of_fields fs
with_field_width no_fields name t s v is size value = cc
with_field_width (field f u fs) name t s v is size value = go (same_name f name) is (with_field_width fs name t (drop (width u) s) v)
  where
    go : (b : Bool) → cond b (Some u) (field_type fs name) ≡ Some t
        → (field_type fs name ≡ Some t → length (drop (width u) s) ≡ width_of_fields fs → length v ≡ width t → length (with_field fs name (drop (width u) s) v) ≡ width_of_fields fs)
        → length (cond b (v ++ drop (width u) s) (take (width u) s ++ with_field fs name (drop (width u) s) v)) ≡ width u + width_of_fields fs
    go true is rest =
        let same : u ≡ t = cc in
        let e : width u ≡ width t = ap width same in
        omega (arith, length-append v (drop (width u) s), length-drop (width u) s)
    go false is rest =
        let e : length (with_field fs name (drop (width u) s) v) ≡ width_of_fields fs = rest is (omega (arith, length-drop (width u) s)) value in
        omega (arith, length-append (take (width u) s) (with_field fs name (drop (width u) s) v), length-take (width u) s)

field_at_width : (fs : FieldTypes) (k : ℕ) (t : HwType) (s : Word) → slice_get (field_list fs) k ≡ Some t → length s ≡ width_of_fields fs
    → length (field_at fs k s) ≡ width t
field_at_width no_fields k t s is size = cc
field_at_width (field f u fs) zero t s is size =
    let same : u ≡ t = cc in
    let e : length (take (width u) s) ≡ width u = omega (arith, length-take (width u) s) in
    e ∙ ap width same
field_at_width (field f u fs) (suc k) t s is size = field_at_width fs k t (drop (width u) s) is (omega (arith, length-drop (width u) s))

-- the fields of a type that is a struct's
struct_field_width : (written_type : HwType) (fs : FieldTypes) (name : Name) (t : HwType) (s : Word) → written_type ≡ struct fs → field_type fs name ≡ Some t
    → length s ≡ width_of_fields fs → length (field_of (fields written_type) name s) ≡ width t
struct_field_width written_type fs name t s is found size = rw is (field_width fs name t s found size)

struct_with_width : (written_type t : HwType) (fs : FieldTypes) (name : Name) (e : HwType) (s v : Word) → written_type ≡ t → t ≡ struct fs → field_type fs name ≡ Some e
    → length s ≡ width t → length v ≡ width e → length (with_field (fields written_type) name s v) ≡ width t
struct_with_width written_type t fs name e s v is is' found size value =
    let size' : length s ≡ width_of_fields fs = size ∙ ap width is' in
    rw (is, is') (with_field_width fs name e s v found size' value)

struct_at_width : (written_type : HwType) (fs : FieldTypes) (k : ℕ) (t : HwType) (s : Word) → written_type ≡ struct fs → slice_get (field_list fs) k ≡ Some t
    → length s ≡ width_of_fields fs → length (field_at (fields written_type) k s) ≡ width t
struct_at_width written_type fs k t s is found size = rw is (field_at_width fs k t s found size)

-- ---- each kind

copies_width : (u n w : ℕ) (x : Word) → length x ≡ u → 0 < u → w ≡ n * u → length (copies (w / length x) x) ≡ w
copies_width u n w x size positive is =
    let times : w / length x ≡ n = rw (is, size) (mul-div_cancel n positive) in
    length-copies (w / length x) x ∙ rw (times, size) (sym is)

chosen_width : (n : ℕ) (b : Bool) (x y : Word) → length x ≡ n → length y ≡ n → length (cond b x y) ≡ n
chosen_width n true x y first second = first
chosen_width n false x y first second = second

length-division : (d : Division) (x y : Word) → length (division_value d x y) ≡ length x
length-division divu = length-quotient
length-division modu = length-rest
length-division divs = length-signed_quotient
length-division mods = length-signed_rest

length-shift : (s : Shift) (x : Word) (n : ℕ) → length (shift_value s x n) ≡ length x
length-shift shl = length-shift_left
length-shift shru = length-shift_right
length-shift shrs = length-shift_right_signed

variadic_width : (v : Variadic) (t : HwType) (ws : List Word) → ((w : Word) → In w ws → length w ≡ width t) → length (variadic_value v (width t) ws) ≡ width t
variadic_width add t ws all = length-bits (width t) _
variadic_width mul t ws all = length-bits (width t) _
variadic_width and t ws all = and_width (width t) ws all
variadic_width or t ws all = or_width (width t) ws all
variadic_width xor t ws all = xor_width (width t) ws all

array_width : (a : ArrayOp) (ts : List HwType) (xs : List (Option HwType)) (t : HwType) (ws : List Word) → ArrayFits a ts xs t → HaveWidths xs ws
    → length (array_value a (nth_type ts 0) t ws) ≡ width t
array_width array_create ts xs t ws (e, is, all) have = elements_width e xs ws all have ∙ sym (ap width is)
array_width array_concat ts xs t ws (e, ns, is, sum) have = arrays_width e ns ws (subst (λ ys. HaveWidths ys ws) is have) ∙ sym (ap width sum)
array_width array_get ts xs t ws (n, u, is, wrote) have =
    two_width (λ a j. element (nth_type ts 0) a (number j)) (width t) (Some (array n t)) (Some u) xs ws is have
    (λ a b x y. get_width (nth_type ts 0) t n a (number b) wrote x)
array_width array_slice ts xs t ws (n, m, e, u, is, wrote, is') have =
    two_width (λ a j. slice_of (nth_type ts 0) a (number j) t) (width t) (Some (array n e)) (Some u) xs ws is have
    (λ a b x y. slice_width (nth_type ts 0) t n m e a (number b) wrote is' x)
array_width array_inject ts xs t ws (n, e, u, is, wrote, is') have =
    three_width (λ a j v. inject_element (nth_type ts 0) a (number j) v) (width t) (Some t) (Some u) (Some e) xs ws is have
    (λ a b c x y z. injected_width (nth_type ts 0) t n e a (number b) c wrote is' x z)

struct_width : (s : StructOp) (ts : List HwType) (xs : List (Option HwType)) (t : HwType) (k : ℕ) (ws : List Word) → StructFits s ts xs t k → HaveWidths xs ws
    → length (struct_value s (fields (nth_type ts 0)) k ws) ≡ width t
struct_width struct_create ts xs t k ws (fs, is, all) have =
    joined_width (field_list fs) ws (subst (λ ys. HaveWidths ys ws) all have) ∙ fields_total fs ∙ sym (ap width is)
struct_width (struct_extract name) ts xs t k ws (fs, is, wrote, found) have =
    one_width (field_of (fields (nth_type ts 0)) name) (width t) (Some (struct fs)) xs ws is have
    (λ a x. struct_field_width (nth_type ts 0) fs name t a wrote found x)
struct_width (struct_inject name) ts xs t k ws (fs, e, is, wrote, is', found) have =
    two_width (with_field (fields (nth_type ts 0)) name) (width t) (Some t) (Some e) xs ws is have
    (λ a b x y. struct_with_width (nth_type ts 0) t fs name e a b wrote is' found x y)
struct_width struct_explode ts xs t k ws (fs, is, wrote, found) have =
    one_width (field_at (fields (nth_type ts 0)) k) (width t) (Some (struct fs)) xs ws is have
    (λ a x. struct_at_width (nth_type ts 0) fs k t a wrote found x)

pub fits_width : (kind : Kind) (ts : List HwType) (xs : List (Option HwType)) (t : HwType) (k : ℕ) (ws : List Word)
    → register_form kind ≡ None → instance_in kind ≡ None → Fits kind ts xs t k → HaveWidths xs ws → length (op_value kind ts t k ws) ≡ width t
fits_width (variadic v) ts xs t k ws r i fits have = variadic_width v t ws (all_widths t xs ws fits have)
fits_width sub ts xs t k ws r i fits have = two_width _ (width t) (Some t) (Some t) xs ws fits have (λ a b x y. length-sub a b ∙ x)
fits_width (division d) ts xs t k ws r i fits have = two_width _ (width t) (Some t) (Some t) xs ws fits have (λ a b x y. length-division d a b ∙ x)
fits_width (shift s) ts xs t k ws r i fits have = two_width _ (width t) (Some t) (Some t) xs ws fits have (λ a b x y. length-shift s a (number b) ∙ x)
fits_width (icmp p) ts xs t k ws r i (u, is, one) have = two_width _ (width t) (Some u) (Some u) xs ws is have (λ a b x y. sym (ap width one))
fits_width parity ts xs t k ws r i (u, is, one) have = one_width _ (width t) (Some u) xs ws is have (λ a x. sym (ap width one))
fits_width (extract low) ts xs t k ws r i (u, is, room) have =
    one_width (bits_from low (width t)) (width t) (Some u) xs ws is have (λ a x. length-extract low (width t) a (omega arith))
fits_width concat ts xs t k ws r i (us, is, sum) have = joined_width us ws (subst (λ ys. HaveWidths ys ws) is have) ∙ sym sum
fits_width replicate ts xs t k ws r i (u, n, is, positive, times) have =
    one_width _ (width t) (Some u) xs ws is have (λ a x. copies_width (width u) n (width t) a x positive times)
fits_width mux ts xs t k ws r i fits have =
    three_width (λ c x y. cond (is_high c) x y) (width t) (Some (int 1)) (Some t) (Some t) xs ws fits have
    (λ a b c x y z. chosen_width (width t) (is_high a) b c y z)
fits_width (constant v) ts xs t k ws r i fits have = length-bits_of_ℤ (width t) v
fits_width (aggregate_constant ls) ts xs t k ws r i (none, sum) have = literals_length ls ∙ sum
fits_width (on_array a) ts xs t k ws r i fits have = array_width a ts xs t ws fits have
fits_width (on_struct s) ts xs t k ws r i fits have = struct_width s ts xs t k ws fits have
fits_width bitcast ts xs t k ws r i (u, is, same) have = one_width _ (width t) (Some u) xs ws is have (λ a x. x ∙ same)
fits_width wire ts xs t k ws r i fits have = one_width _ (width t) (Some t) xs ws fits have (λ a x. x)
fits_width (instance x) ts xs t k ws r i fits have = cc
fits_width output ts xs t k ws r i fits have = absurd fits
fits_width (register f x) ts xs t k ws r i fits have = cc
fits_width async_firreg ts xs t k ws r i fits have = cc
