-- The test of kinds is true of a kind and itself, and of no other.
use Rattle.std.specs.Prelude.{◌≡◌, ℕ, ◌==◌, cond, true, ◌&&◌, ℤ, pos, negsuc, List, [], ◌∷◌, Option, Some, None, refl, ◌⊎◌}
use Rattle.std.proofs.Common.{sym, ap, ◌∙◌, inl, inr}
use Rattle.std.specs.Cmp.Lexicographic.{pointwise}
use Rattle.std.specs.Cmp.{IsPartialEquivalence, IsEquivalence, partial_equiv_from_equiv}
use Rattle.hw_model.specs.Types.{Name}
use Rattle.opcode.specs.Listed.{name_of_listed, first_named, listed_operations}
use Rattle.opcode.specs.declared.listed.Listed.{Listed}
use Rattle.opcode.specs.declared.listed.Listed.TheVariants as listed
use Rattle.hw_model.specs.Kinds.{Kind, Predicate, Reset, Literal, Literals, Instance, RegisterOp}
use Rattle.hw_model.specs.Kinds.Predicate.{eq, ne, slt, sle, sgt, sge, ult, ule, ugt, uge, ceq, cne, weq, wne}
use Rattle.hw_model.specs.Kinds.Reset.{no_reset, sync_reset}
use Rattle.hw_model.specs.Kinds.Literal.{leaf, parts}
use Rattle.hw_model.specs.Kinds.Literals.{no_literals, literal}
use Rattle.hw_model.specs.Kinds.Variadic.{add}
use Rattle.hw_model.specs.Kinds.Division.{divu}
use Rattle.hw_model.specs.Kinds.Shift.{shl}
use Rattle.hw_model.specs.Kinds.ArrayOp.{array_create}
use Rattle.hw_model.specs.Kinds.StructOp.{struct_extract, struct_inject}
use Rattle.hw_model.specs.Kinds.RegisterOp.{compreg, compreg_ce, firreg}
use Rattle.hw_model.specs.Kinds.Kind.{variadic, variadic, division, division, shift, shift, icmp, extract, constant, aggregate_constant, on_array, on_array, on_struct, on_struct, instance, register, register, async_firreg}
use Rattle.hw_model.specs.Design.{same_name}
use Rattle.hw_model.specs.Opcodes.{register_opcode, opcode_of, kind_named_by}
use Rattle.hw_model.specs.SameType.{same_type, type_self, type_from}
use Rattle.hw_model.specs.SameKind.{predicate_number, same_predicate, same_reset, same_integer, same_literal, same_literals, same_optional_name, same_instance, is_icmp, is_extract, is_constant}
use Rattle.hw_model.specs.SameKind.{is_aggregate_constant, is_struct_extract, is_struct_inject, is_instance, is_register, is_async_firreg, same_opcode, same_kind}
use Rattle.hw_model.specs.Equality.{TellsApart, by_view, both, both_of, number_self, number_from, name_self, name_from}
use Rattle.hw_model.specs.KindViews.{predicate_of, reset_of, integer_of, literals_in, kind_of}
use Rattle.hw_model.specs.declared.kinds.Predicate.{Predicate as OwnPredicate}
use Rattle.hw_model.specs.declared.kinds.Reset.{Reset as OwnReset}
use Rattle.hw_model.specs.declared.kinds.Integer.{Integer}
use Rattle.hw_model.specs.declared.kinds.LiteralList.{LiteralList}
use Rattle.hw_model.specs.declared.kinds.OpKind.{OpKind}

-- the predicate of a number
abbrev numbered_predicate : ℕ → Predicate
numbered_predicate n = cond (n == 0) eq (cond (n == 1) ne (cond (n == 2) slt (cond (n == 3) sle
    (cond (n == 4) sgt (cond (n == 5) sge (cond (n == 6) ult (cond (n == 7) ule (cond (n == 8) ugt (cond (n == 9) uge (cond (n == 10) ceq (cond (n == 11) cne (cond (n == 12) weq (wne)))))))))))))

predicate_back : (p : Predicate) → numbered_predicate (predicate_number p) ≡ p
predicate_back eq = refl
predicate_back ne = refl
predicate_back slt = refl
predicate_back sle = refl
predicate_back sgt = refl
predicate_back sge = refl
predicate_back ult = refl
predicate_back ule = refl
predicate_back ugt = refl
predicate_back uge = refl
predicate_back ceq = refl
predicate_back cne = refl
predicate_back weq = refl
predicate_back wne = refl

predicate_self : (p : Predicate) → same_predicate p p ≡ true
predicate_self p = number_self (predicate_number p)

predicate_from : (p q : Predicate) → same_predicate p q ≡ true → p ≡ q
predicate_from p q h =
    sym (predicate_back p) ∙ ap numbered_predicate (number_from (predicate_number p) (predicate_number q) h) ∙ predicate_back q

reset_self : (r : Reset) → same_reset r r ≡ true
reset_self no_reset = refl
reset_self sync_reset = refl

reset_from : (r s : Reset) → same_reset r s ≡ true → r ≡ s
reset_from no_reset no_reset h = refl
reset_from sync_reset sync_reset h = refl
reset_from no_reset sync_reset h = cc
reset_from sync_reset no_reset h = cc

integer_self : (z : ℤ) → same_integer z z ≡ true
integer_self (pos n) = number_self n
integer_self (negsuc n) = number_self n

integer_from : (y z : ℤ) → same_integer y z ≡ true → y ≡ z
integer_from (pos m) (pos n) h = ap pos (number_from m n h)
integer_from (negsuc m) (negsuc n) h = ap negsuc (number_from m n h)
integer_from (pos m) (negsuc n) h = cc
integer_from (negsuc m) (pos n) h = cc

mutual
  literal_self : (l : Literal) → same_literal l l ≡ true
  literal_self (leaf z t) = both (same_integer z z) (same_type t t) (integer_self z) (type_self t)
  literal_self (parts ls) = literals_self ls

  literals_self : (ls : Literals) → same_literals ls ls ≡ true
  literals_self no_literals = refl
  literals_self (literal l ls) = both (same_literal l l) (same_literals ls ls) (literal_self l) (literals_self ls)

mutual
  literal_from : (k l : Literal) → same_literal k l ≡ true → k ≡ l
  literal_from (leaf y t) (leaf z u) h =
      let p = both_of (same_integer y z) (same_type t u) h in
      let e : y ≡ z = integer_from y z p.0 in
      let f : t ≡ u = type_from t u p.1 in cc
  literal_from (parts ks) (parts ls) h = ap parts (literals_from ks ls h)
  literal_from (leaf y t) (parts ls) h = cc
  literal_from (parts ks) (leaf z u) h = cc

  literals_from : (ks ls : Literals) → same_literals ks ls ≡ true → ks ≡ ls
  literals_from no_literals no_literals h = refl
  literals_from no_literals (literal l ls) h = cc
  literals_from (literal k ks) no_literals h = cc
  literals_from (literal k ks) (literal l ls) h =
      let p = both_of (same_literal k l) (same_literals ks ls) h in
      let e : k ≡ l = literal_from k l p.0 in
      let f : ks ≡ ls = literals_from ks ls p.1 in cc

optional_self : (o : Option Name) → same_optional_name o o ≡ true
optional_self None = refl
optional_self (Some f) = name_self f

optional_from : (o p : Option Name) → same_optional_name o p ≡ true → o ≡ p
optional_from None None h = refl
optional_from (Some f) (Some g) h = ap (λ (x : Name). Some x) (name_from f g h)
optional_from None (Some g) h = cc
optional_from (Some f) None h = cc

names_self : (xs : List Name) → pointwise same_name xs xs ≡ true
names_self [] = refl
names_self (x ∷ xs) = both (same_name x x) (pointwise same_name xs xs) (name_self x) (names_self xs)

names_from : (xs ys : List Name) → pointwise same_name xs ys ≡ true → xs ≡ ys
names_from [] [] h = refl
names_from [] (y ∷ ys) h = cc
names_from (x ∷ xs) [] h = cc
names_from (x ∷ xs) (y ∷ ys) h =
    let p = both_of (same_name x y) (pointwise same_name xs ys) h in
    let e : x ≡ y = name_from x y p.0 in
    let f : xs ≡ ys = names_from xs ys p.1 in cc

instance_self : (i : Instance) → same_instance i i ≡ true
instance_self i =
    both (same_name i.name i.name) (same_optional_name i.inner_symbol i.inner_symbol && (same_name i.symbol i.symbol && (pointwise same_name i.inputs i.inputs && pointwise same_name i.outputs i.outputs)))
    (name_self i.name)
    (both (same_optional_name i.inner_symbol i.inner_symbol) (same_name i.symbol i.symbol && (pointwise same_name i.inputs i.inputs && pointwise same_name i.outputs i.outputs))
    (optional_self i.inner_symbol)
    (both (same_name i.symbol i.symbol) (pointwise same_name i.inputs i.inputs && pointwise same_name i.outputs i.outputs) (name_self i.symbol)
    (both (pointwise same_name i.inputs i.inputs) (pointwise same_name i.outputs i.outputs) (names_self i.inputs) (names_self i.outputs))))

instance_of_parts : Name → Option Name → Name → List Name → List Name → Instance
instance_of_parts n s m is os = record { name = n; inner_symbol = s; symbol = m; inputs = is; outputs = os }

instance_from : (i j : Instance) → same_instance i j ≡ true → i ≡ j
unfolding instance_of_parts
instance_from i j h =
    let p = both_of (same_name i.name j.name) (same_optional_name i.inner_symbol j.inner_symbol && (same_name i.symbol j.symbol && (pointwise same_name i.inputs j.inputs && pointwise same_name i.outputs j.outputs))) h in
    let q = both_of (same_optional_name i.inner_symbol j.inner_symbol) (same_name i.symbol j.symbol && (pointwise same_name i.inputs j.inputs && pointwise same_name i.outputs j.outputs)) p.1 in
    let r = both_of (same_name i.symbol j.symbol) (pointwise same_name i.inputs j.inputs && pointwise same_name i.outputs j.outputs) q.1 in
    let s = both_of (pointwise same_name i.inputs j.inputs) (pointwise same_name i.outputs j.outputs) r.1 in
    ap (λ (x : Name). instance_of_parts x i.inner_symbol i.symbol i.inputs i.outputs) (name_from i.name j.name p.0)
    ∙ ap (λ (x : Option Name). instance_of_parts j.name x i.symbol i.inputs i.outputs) (optional_from i.inner_symbol j.inner_symbol q.0)
    ∙ ap (λ (x : Name). instance_of_parts j.name j.inner_symbol x i.inputs i.outputs) (name_from i.symbol j.symbol r.0)
    ∙ ap (λ (x : List Name). instance_of_parts j.name j.inner_symbol j.symbol x i.outputs) (names_from i.inputs j.inputs s.0)
    ∙ ap (λ (x : List Name). instance_of_parts j.name j.inner_symbol j.symbol j.inputs x) (names_from i.outputs j.outputs s.1)

is_icmp_from : (own : Predicate) (k : Kind) → is_icmp own k ≡ true → icmp own ≡ k
is_icmp_from own (icmp other) h = ap icmp (predicate_from own other h)
is_icmp_from own _ h = cc

is_extract_from : (own : ℕ) (k : Kind) → is_extract own k ≡ true → extract own ≡ k
is_extract_from own (extract other) h = ap extract (number_from own other h)
is_extract_from own _ h = cc

is_constant_from : (own : ℤ) (k : Kind) → is_constant own k ≡ true → constant own ≡ k
is_constant_from own (constant other) h = ap constant (integer_from own other h)
is_constant_from own _ h = cc

is_aggregate_constant_from : (own : Literals) (k : Kind) → is_aggregate_constant own k ≡ true → aggregate_constant own ≡ k
is_aggregate_constant_from own (aggregate_constant other) h = ap aggregate_constant (literals_from own other h)
is_aggregate_constant_from own _ h = cc

is_struct_extract_from : (own : Name) (k : Kind) → is_struct_extract own k ≡ true → on_struct (struct_extract own) ≡ k
is_struct_extract_from own (on_struct (struct_extract other)) h = ap (λ name. on_struct (struct_extract name)) (name_from own other h)
is_struct_extract_from own _ h = cc

is_struct_inject_from : (own : Name) (k : Kind) → is_struct_inject own k ≡ true → on_struct (struct_inject own) ≡ k
is_struct_inject_from own (on_struct (struct_inject other)) h = ap (λ name. on_struct (struct_inject name)) (name_from own other h)
is_struct_inject_from own _ h = cc

is_instance_from : (own : Instance) (k : Kind) → is_instance own k ≡ true → instance own ≡ k
is_instance_from own (instance other) h = ap instance (instance_from own other h)
is_instance_from own _ h = cc

-- an opcode is found by its name
opcode_found : (a : Listed) → first_named (name_of_listed a) listed_operations ≡ Some a
unfolding name_of_listed
opcode_found listed.HwModule = refl
opcode_found _ = refl

opcode_self : (a : Listed) → same_opcode a a ≡ true
opcode_self a = name_self (name_of_listed a)

opcode_from : (a b : Listed) → same_opcode a b ≡ true → a ≡ b
opcode_from a b h =
    let e : Some a ≡ Some b = sym (opcode_found a) ∙ ap (λ name. first_named name listed_operations) (name_from (name_of_listed a) (name_of_listed b) h) ∙ opcode_found b in cc

registers_from : (f g : RegisterOp) → register_opcode f ≡ register_opcode g → f ≡ g
registers_from compreg compreg e = refl
registers_from compreg_ce compreg_ce e = refl
registers_from firreg firreg e = refl
registers_from _ _ e = cc

is_register_from : (f : RegisterOp) (own : Reset) (k : Kind) → is_register (register_opcode f) own k ≡ true → register f own ≡ k
is_register_from f own (register g other) h =
    let p = both_of (same_opcode (register_opcode f) (register_opcode g)) (same_reset own other) h in
    let e : f ≡ g = registers_from f g (opcode_from (register_opcode f) (register_opcode g) p.0) in
    let r : own ≡ other = reset_from own other p.1 in cc
is_register_from f own _ h = cc

is_async_firreg_from : (k : Kind) → is_async_firreg k ≡ true → async_firreg ≡ k
is_async_firreg_from async_firreg h = refl
is_async_firreg_from _ h = cc

-- an operation whose opcode alone tells its kind is found again by it
pub kind_found : (k : Kind) → (kind_named_by (opcode_of k) ≡ Some k) ⊎ (kind_named_by (opcode_of k) ≡ None)
kind_found (variadic add) = inl refl
kind_found (variadic _) = inl refl
kind_found (division divu) = inl refl
kind_found (division _) = inl refl
kind_found (shift shl) = inl refl
kind_found (shift _) = inl refl
kind_found (on_array array_create) = inl refl
kind_found (on_array _) = inl refl
kind_found (on_struct (struct_extract name)) = inr refl
kind_found (on_struct (struct_inject name)) = inr refl
kind_found (on_struct _) = inl refl
kind_found (icmp p) = inr refl
kind_found (extract low) = inr refl
kind_found (constant z) = inr refl
kind_found (aggregate_constant ls) = inr refl
kind_found (instance i) = inr refl
kind_found (register compreg r) = inr refl
kind_found (register _ r) = inr refl
kind_found async_firreg = inr refl
kind_found _ = inl refl

-- so two kinds of one opcode are one, where the opcode alone tells the first
plain_from : (j k : Kind) → kind_named_by (opcode_of j) ≡ Some j → same_opcode (opcode_of j) (opcode_of k) ≡ true → j ≡ k
plain_from j k found h =
    let e : opcode_of j ≡ opcode_of k = opcode_from (opcode_of j) (opcode_of k) h in
    let f : kind_named_by (opcode_of k) ≡ Some j = ap kind_named_by (sym e) ∙ found in
    elim (kind_found k) as (λ _. j ≡ k) [
      | inl g ↦ (let s : Some j ≡ Some k = sym f ∙ g in cc)
      | inr g ↦ (let s : Some j ≡ None = sym f ∙ g in cc)
    ]

kind_self : (k : Kind) → same_kind k k ≡ true
kind_self (icmp p) = predicate_self p
kind_self (extract low) = number_self low
kind_self (constant z) = integer_self z
kind_self (aggregate_constant ls) = literals_self ls
kind_self (on_struct (struct_extract name)) = name_self name
kind_self (on_struct (struct_inject name)) = name_self name
kind_self (instance i) = instance_self i
kind_self (register f r) = both (same_opcode (register_opcode f) (register_opcode f)) (same_reset r r) (opcode_self (register_opcode f)) (reset_self r)
kind_self async_firreg = refl
kind_self k = opcode_self (opcode_of k)

kind_from : (j k : Kind) → same_kind j k ≡ true → j ≡ k
kind_from (icmp p) k h = is_icmp_from p k h
kind_from (extract low) k h = is_extract_from low k h
kind_from (constant z) k h = is_constant_from z k h
kind_from (aggregate_constant ls) k h = is_aggregate_constant_from ls k h
kind_from (on_struct (struct_extract name)) k h = is_struct_extract_from name k h
kind_from (on_struct (struct_inject name)) k h = is_struct_inject_from name k h
kind_from (instance i) k h = is_instance_from i k h
kind_from (register f r) k h = is_register_from f r k h
kind_from async_firreg k h = is_async_firreg_from k h
kind_from (variadic add) k h = plain_from (variadic add) k refl h
kind_from (variadic v) k h = plain_from (variadic v) k refl h
kind_from (division divu) k h = plain_from (division divu) k refl h
kind_from (division d) k h = plain_from (division d) k refl h
kind_from (shift shl) k h = plain_from (shift shl) k refl h
kind_from (shift s) k h = plain_from (shift s) k refl h
kind_from (on_array array_create) k h = plain_from (on_array array_create) k refl h
kind_from (on_array a) k h = plain_from (on_array a) k refl h
kind_from j k h = plain_from j k refl h

pub predicates_apart : TellsApart same_predicate
predicates_apart = record { self = predicate_self; from = predicate_from }

pub predicate_equivalence : IsEquivalence (λ (a b : OwnPredicate). same_predicate (predicate_of a) (predicate_of b))
predicate_equivalence = by_view predicate_of same_predicate predicates_apart

pub predicate_laws : IsPartialEquivalence (λ (a b : OwnPredicate). same_predicate (predicate_of a) (predicate_of b))
predicate_laws = partial_equiv_from_equiv predicate_equivalence

pub resets_apart : TellsApart same_reset
resets_apart = record { self = reset_self; from = reset_from }

pub reset_equivalence : IsEquivalence (λ (a b : OwnReset). same_reset (reset_of a) (reset_of b))
reset_equivalence = by_view reset_of same_reset resets_apart

pub reset_laws : IsPartialEquivalence (λ (a b : OwnReset). same_reset (reset_of a) (reset_of b))
reset_laws = partial_equiv_from_equiv reset_equivalence

pub integers_apart : TellsApart same_integer
integers_apart = record { self = integer_self; from = integer_from }

pub integer_equivalence : IsEquivalence (λ (a b : Integer). same_integer (integer_of a) (integer_of b))
integer_equivalence = by_view integer_of same_integer integers_apart

pub integer_laws : IsPartialEquivalence (λ (a b : Integer). same_integer (integer_of a) (integer_of b))
integer_laws = partial_equiv_from_equiv integer_equivalence

pub literalss_apart : TellsApart same_literals
literalss_apart = record { self = literals_self; from = literals_from }

pub literals_equivalence : IsEquivalence (λ (a b : LiteralList). same_literals (literals_in a) (literals_in b))
literals_equivalence = by_view literals_in same_literals literalss_apart

pub literals_laws : IsPartialEquivalence (λ (a b : LiteralList). same_literals (literals_in a) (literals_in b))
literals_laws = partial_equiv_from_equiv literals_equivalence

pub kinds_apart : TellsApart same_kind
kinds_apart = record { self = kind_self; from = kind_from }

pub kind_equivalence : IsEquivalence (λ (a b : OpKind). same_kind (kind_of a) (kind_of b))
kind_equivalence = by_view kind_of same_kind kinds_apart

pub kind_laws : IsPartialEquivalence (λ (a b : OpKind). same_kind (kind_of a) (kind_of b))
kind_laws = partial_equiv_from_equiv kind_equivalence
