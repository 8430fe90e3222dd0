-- What stands at a position of a body.
use Rattle.std.proofs.Common.{◌≡◌, ℕ, zero, suc, false, is_some, map, option_map, option_copied, slice_get, slice_index_or, nat_lt, List, [], ◌∷◌, length, Option, Some, None, Bor, refl, sym, ◌∙◌, ap, arith}
use Prim.Native.Nat.compare
use Rattle.std.proofs.lemmas.Bool.{lt-ltb}
use Rattle.std.proofs.lemmas.Option.{slice_get-map}
use Rattle.std.proofs.lemmas.List.{length-map}
use Rattle.hw_model.specs.KindViews.{kind_of}
use Rattle.hw_model.specs.Design.{Port, OpResult}
use Rattle.hw_model.specs.Design.Ref.{result}
use Rattle.hw_model.specs.Resets.{is_constant}
use Rattle.hw_model.specs.Sound.{type_in}
use Rattle.ir_store.specs.Numbered.{op_by, ref_by}
use Rattle.ir_store.specs.OperationViews.{result_of}
use Rattle.ir_store.specs.ShortLists.{short_items}
use Rattle.op_verifier.specs.declared.entries.Entry.{Entry}
use Rattle.op_verifier.specs.Entries.{op_in, types_beside, settled_for, AreSettled}
use Rattle.op_verifier.specs.OpChecks.{settled_type, is_nonzero_kind, is_nonzero_op}
use Rattle.op_verifier.specs.ResetChecks.{is_constant_op}

pub copied_some : {A : Type 0} (r : Option (Bor A)) (o : Option A) (b : Bor A) → option_copied r ≡ o → r ≡ Some b → o ≡ Some b.now
copied_some r o b e is = sym e ∙ ap option_copied is

pub copied_none : {A : Type 0} (r : Option (Bor A)) (o : Option A) → option_copied r ≡ o → r ≡ None → o ≡ None
copied_none r o e is = sym e ∙ ap option_copied is

-- the operation at a position
pub op_there : (p : ℕ → ℕ) (es : List Entry) (i : ℕ) (o : Option Entry) → slice_get es i ≡ o → slice_get (map (op_by p) (map op_in es)) i ≡ option_map (λ (e : Entry). op_by p (op_in e)) o
op_there p es i o found = slice_get-map (op_by p) (map op_in es) i ∙ ap (option_map (op_by p)) (slice_get-map op_in es i) ∙ both (slice_get es i) ∙ ap (option_map (λ (e : Entry). op_by p (op_in e))) found
  where
    both : (o : Option Entry) → option_map (op_by p) (option_map op_in o) ≡ option_map (λ (e : Entry). op_by p (op_in e)) o
    both None = refl
    both (Some e) = refl

-- a list has a member at each position below its length
less_suc : (m n : ℕ) → nat_lt (suc m) (suc n) ≡ nat_lt m n
less_suc m n = rw (compare.suc-suc (suc m) n) refl

pub some_below : {A B C : Type 0} (f : B → C) (g : A → B) (xs : List A) (k : ℕ) → is_some (option_map f (slice_get (map g xs) k)) ≡ nat_lt k (length xs)
some_below f g [] zero = refl
some_below f g [] (suc k) = rw (compare.suc-zero (suc k)) refl
some_below f g (x ∷ xs) zero = sym (lt-ltb 0 (suc (length xs)) (omega arith))
some_below f g (x ∷ xs) (suc k) = some_below f g xs k ∙ sym (less_suc k (length xs))

-- whether a value is there
pub value_there : (ports : List Port) (p : ℕ → ℕ) (es : List Entry) (i k : ℕ) (e : Entry) → slice_get es i ≡ Some e
    → is_some (type_in ports (map (op_by p) (map op_in es)) (result i k)) ≡ nat_lt k (length (short_items e.op.results.now))
value_there ports p es i k e found = rw (op_there p es i (Some e) found) (some_below (λ (r : OpResult). r.type) result_of (short_items e.op.results.now) k)

pub value_gone : (ports : List Port) (p : ℕ → ℕ) (es : List Entry) (i k : ℕ) → slice_get es i ≡ None
    → is_some (type_in ports (map (op_by p) (map op_in es)) (result i k)) ≡ false
value_gone ports p es i k found = rw (op_there p es i None found) refl

-- beside the operation at a position stand the types that it settles
pub beside : (es : List Entry) (i : ℕ) (e : Entry) → AreSettled es → slice_get es i ≡ Some e → types_beside e ≡ settled_for (op_in e)
beside es i e all found = some_same (ap (option_map types_beside) (sym found) ∙ sym (slice_get-map types_beside es i) ∙ ap (λ (ts : List _). slice_get ts i) all
    ∙ slice_get-map settled_for (map op_in es) i ∙ ap (option_map settled_for) (slice_get-map op_in es i ∙ ap (option_map op_in) found))
  where
    some_same : {A : Type 0} {a b : A} → Some a ≡ Some b → a ≡ b
    some_same {a = a} h = ap (λ (o : Option _). value a o) h
      where
        value : {A : Type 0} → A → Option A → A
        value d None = d
        value d (Some x) = x

pub settled_there : (ports : List Port) (p : ℕ → ℕ) (es : List Entry) (i k : ℕ) (e : Entry) → AreSettled es → slice_get es i ≡ Some e
    → settled_type ports (map (op_by p) (map op_in es)) (result i k) ≡ slice_index_or (types_beside e) k None
settled_there ports p es i k e all found = rw (op_there p es i (Some e) found, beside es i e all found, length_refs p e) refl
  where
    length_refs : (p : ℕ → ℕ) (e : Entry) → length (op_by p (op_in e)).operands ≡ length (op_in e).operands
    length_refs p e = length-map e.op.operands.now (ref_by p)

pub settled_gone : (ports : List Port) (p : ℕ → ℕ) (es : List Entry) (i k : ℕ) → slice_get es i ≡ None
    → settled_type ports (map (op_by p) (map op_in es)) (result i k) ≡ None
settled_gone ports p es i k found = rw (op_there p es i None found) refl

pub nonzero_there : (p : ℕ → ℕ) (es : List Entry) (i : ℕ) (e : Entry) → slice_get es i ≡ Some e
    → is_nonzero_op (slice_get (map (op_by p) (map op_in es)) i) ≡ is_nonzero_kind (kind_of e.op.kind.now)
nonzero_there p es i e found = ap is_nonzero_op (op_there p es i (Some e) found)

pub nonzero_gone : (p : ℕ → ℕ) (es : List Entry) (i : ℕ) → slice_get es i ≡ None
    → is_nonzero_op (slice_get (map (op_by p) (map op_in es)) i) ≡ false
nonzero_gone p es i found = ap is_nonzero_op (op_there p es i None found)

-- whether a constant is there
pub constant_there : (p : ℕ → ℕ) (es : List Entry) (i : ℕ) (e : Entry) → slice_get es i ≡ Some e
    → is_constant_op (slice_get (map (op_by p) (map op_in es)) i) ≡ is_constant (kind_of e.op.kind.now)
constant_there p es i e found = ap is_constant_op (op_there p es i (Some e) found)

pub constant_gone : (p : ℕ → ℕ) (es : List Entry) (i : ℕ) → slice_get es i ≡ None
    → is_constant_op (slice_get (map (op_by p) (map op_in es)) i) ≡ false
constant_gone p es i found = ap is_constant_op (op_there p es i None found)
