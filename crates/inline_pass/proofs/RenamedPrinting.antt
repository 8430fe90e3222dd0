-- An operation that is renamed can be printed where it could be.
use Rattle.std.proofs.Common.{◌≡◌, ℕ, Bool, true, false, cond, ◌&&◌, List, [], ◌∷◌, ◌++◌, codes, length, map, refl, sym, ap, ap₂, subst, ◌∙◌, arith}
use Rattle.std.specs.Ordering.{nat_cmp, is_lt}
use Rattle.std.specs.Cmp.Lexicographic.{slice_cmp}
use Rattle.hw_model.specs.Types.{Name, HwType}
use Rattle.hw_model.specs.Kinds.{Kind}
use Rattle.hw_model.specs.Kinds.Kind.{instance}
use Rattle.hw_model.specs.Opcodes.{opcode_of}
use Rattle.hw_model.specs.Design.{Ref, Port, Attribute, Entry, Op, same_name}
use Rattle.hw_model.specs.Design.Attribute.{text_value}
use Rattle.type_inference.specs.ResultTypes.{result_types}
use Rattle.opcode.specs.declared.listed.Listed.{Listed}
use Rattle.op_checks.specs.CountChecks.{operands_written, type_count}
use Rattle.stored_form.specs.Bytes.{Each, AreBytes}
use Rattle.stored_form.specs.Dictionaries.{takes_bin, string_keys, is_empty_text, has_name, is_name_entry, is_dropped, AreInOrder, IsKeptDictionary}
use Rattle.stored_form.specs.Kinds.{KeepsConstants, IsWritten}
use Rattle.stored_form.specs.Limits.{IsValue, IsEntry}
use Rattle.printing_laws.specs.NameHints.{is_pack}
use Rattle.printing_laws.specs.Printable.{IsDefined, settled_result, IsPrintableOp}
use Rattle.inline_pass.specs.Renaming.{joined_name, renamed_kind, renamed_value, renamed_entry, renamed}
use Rattle.inline_pass.proofs.RenamedKinds.{kind_same, results_renamed}

-- ---- names

bytes_append : (xs ys : List ℕ) → AreBytes xs → AreBytes ys → AreBytes (xs ++ ys)
bytes_append [] ys first second = second
bytes_append (x ∷ xs) ys (here, first) second = (here, bytes_append xs ys first second)

name_bytes : (u n : Name) → AreBytes u → AreBytes n → AreBytes (joined_name u n)
name_bytes u [] first second = tt
name_bytes u (b ∷ n) first second = bytes_append u (codes "_" ++ (b ∷ n)) first (bytes_append (codes "_") (b ∷ n) (omega arith, tt) second)

-- ---- kinds

constants_renamed : (u : Name) (k : Kind) (ts : List HwType) → KeepsConstants k ts → KeepsConstants (renamed_kind u k) ts
constants_renamed u (instance i) ts was = tt
constants_renamed u k ts was = was

written_renamed : (u : Name) (k : Kind) → AreBytes u → IsWritten k → IsWritten (renamed_kind u k)
written_renamed u (instance i) bytes was = record {
  name = name_bytes u i.name bytes was.name;
  inner = was.inner;
  symbol = was.symbol;
  inputs = was.inputs;
  outputs = was.outputs;
}
written_renamed u k bytes was = was

operands_same : (u : Name) (k : Kind) (n : ℕ) → operands_written (renamed_kind u k) n ≡ operands_written k n
unfolding operands_written
operands_same u k n = kind_same (λ z. operands_written z n) (λ i m. refl) u k

types_same : (u : Name) (k : Kind) (n : ℕ) → type_count (renamed_kind u k) n ≡ type_count k n
unfolding type_count
types_same u k n = kind_same (λ z. type_count z n) (λ i m. refl) u k

opcode_same : (u : Name) (k : Kind) → opcode_of (renamed_kind u k) ≡ opcode_of k
opcode_same u k = kind_same opcode_of (λ i m. refl) u k

-- ---- dictionaries

value_renamed : (u : Name) (b : Bool) (v : Attribute) → AreBytes u → IsValue b v → IsValue b (renamed_value u v)
value_renamed u b (text_value n) bytes was = name_bytes u n bytes was
value_renamed u b v bytes was = was

empty_same : (u : Name) (v : Attribute) → is_empty_text (renamed_value u v) ≡ is_empty_text v
empty_same u (text_value []) = refl
empty_same u (text_value (b ∷ n)) = go u
  where
    go : (w : Name) → is_empty_text (text_value (w ++ (codes "_" ++ (b ∷ n)))) ≡ false
    go [] = refl
    go (x ∷ w) = refl
empty_same u v = refl

key_same : (u : Name) (e : Entry) → (renamed_entry u e).key ≡ e.key
key_same u e = go (same_name e.key (codes "sv.namehint"))
  where
    go : (b : Bool) → (cond b (record e { value = renamed_value u e.value }) e).key ≡ e.key
    go true = refl
    go false = refl

dropped_same : (u : Name) (o : Listed) (e : Entry) → is_dropped o (renamed_entry u e) ≡ is_dropped o e
dropped_same u o e = go (same_name e.key (codes "sv.namehint"))
  where
    go : (b : Bool) → is_dropped o (cond b (record e { value = renamed_value u e.value }) e) ≡ is_dropped o e
    go true = ap (λ z. cond (same_name (codes "sv.namehint") e.key && z) true (has_name o && is_name_entry e)) (empty_same u e.value)
    go false = refl

entry_renamed : (u : Name) (strings : List Name) (e : Entry) → AreBytes u → IsEntry strings e → IsEntry strings (renamed_entry u e)
entry_renamed u strings e bytes was = go (same_name e.key (codes "sv.namehint"))
  where
    go : (b : Bool) → IsEntry strings (cond b (record e { value = renamed_value u e.value }) e)
    go true = record { key = was.key; value = value_renamed u _ e.value bytes was.value }
    go false = was

order_same : (u : Name) (es : List Entry) → AreInOrder es → AreInOrder (map (renamed_entry u) es)
order_same u [] order = tt
order_same u (e ∷ []) order = tt
order_same u (e ∷ f ∷ es) (first, rest) = (ap₂ (λ a b. is_lt (slice_cmp nat_cmp a b)) (key_same u e) (key_same u f) ∙ first, order_same u (f ∷ es) rest)

each_map : {A : Type 0} (P : A → Type 0) (g : A → A) → ((x : A) → P x → P (g x)) → (xs : List A) → Each P xs → Each P (map g xs)
each_map P g keeps [] all = tt
each_map P g keeps (x ∷ xs) (first, rest) = (keeps x first, each_map P g keeps xs rest)

dictionary_renamed : (u : Name) (o : Listed) (strings : List Name) (es : List Entry) → AreBytes u → IsKeptDictionary o strings es
    → IsKeptDictionary o strings (map (renamed_entry u) es)
dictionary_renamed u o strings es bytes was = record {
  in_order = order_same u es was.in_order;
  kept = each_map (λ (e : Entry). is_dropped o e ≡ false) (renamed_entry u) (λ e h. dropped_same u o e ∙ h) es was.kept;
  entries = each_map (IsEntry strings) (renamed_entry u) (λ e h. entry_renamed u strings e bytes h) es was.entries;
}

-- ---- operations

-- with other operands, as many, that are values of a body
pub printable_renamed : (u : Name) → AreBytes u → (ports ports' : List Port) (os os' : List Op) (o : Op) (rs : List Ref) → length rs ≡ length o.operands
    → Each (IsDefined ports' os') rs → IsPrintableOp ports os o → IsPrintableOp ports' os' (renamed u (record o { operands = rs }))
printable_renamed u bytes ports ports' os os' o rs count defined was = record {
  defined = defined;
  operands = subst (λ n. n ≡ operands_written o.kind n) (sym count) was.operands ∙ sym (operands_same u o.kind (length rs));
  types = was.types ∙ ap (type_count o.kind) (sym count) ∙ sym (types_same u o.kind (length rs));
  readable = was.readable;
  results = was.results ∙ ap (λ n. map settled_result (result_types o.kind o.types n)) (sym count)
      ∙ ap (map settled_result) (sym (results_renamed u o.kind o.types (length rs)));
  named = was.named;
  few = λ h. was.few (sym (kind_same (λ z. is_pack z (length o.results)) (λ i n. refl) u o.kind) ∙ h);
  kept = constants_renamed u o.kind o.types was.kept;
  written = written_renamed u o.kind bytes was.written;
  nameless = λ h. ap (joined_name u) (was.nameless (ap has_name (sym (opcode_same u o.kind)) ∙ h));
  name = name_bytes u o.name bytes was.name;
  dictionary = subst (λ z. IsKeptDictionary z (string_keys z) (map (renamed_entry u) o.dictionary)) (sym (opcode_same u o.kind))
      (dictionary_renamed u (opcode_of o.kind) (string_keys (opcode_of o.kind)) o.dictionary bytes was.dictionary);
  bin = λ h. ap takes_bin (opcode_same u o.kind) ∙ was.bin h;
}
