-- Operations by themselves and in their bodies.
use Rattle.std.proofs.Common.{◌≡◌, ◌↔◌, IsTrue, ℕ, Bool, true, false, List, [], ◌∷◌, length, map, Some, refl, sym, subst, ◌∙◌}
use Rattle.std.proofs.lemmas.Bool.{false≢true}
use Rattle.std.proofs.lemmas.List.{length-map}
use Rattle.ir_store.specs.declared.operation.OpId.{OpId}
use Rattle.ir_store.specs.declared.body.Op as code
use Rattle.type_inference.specs.ResultTypes.{result_types}
use Rattle.ir_store.specs.BodyOps.{BodyOp, op_at, ids_in}
use Rattle.ir_store.specs.Bodies.{read_op}
use Rattle.ir_store.specs.Numbered.{op_by, ref_by, position_of, ops_by_position}
use Rattle.ir_store.proofs.Walks.{ops_at, walk}
use Rattle.stored_form.specs.Alone.{op_alone}
use Rattle.stored_form.specs.Bytes.{Each}
use Rattle.stored_form.specs.Canonical.{IsCanonicalOp}
use Rattle.stored_form.specs.ResultTypes.{HaveTypes}

-- which operation an operand names is not asked
pub moved : (f g : ℕ → ℕ) (o : BodyOp) → IsCanonicalOp (op_by f o) → IsCanonicalOp (op_by g o)
moved f g o h =
    let count : length (op_by f o).operands ≡ length (op_by g o).operands = length-map o.operands (ref_by f) ∙ sym (length-map o.operands (ref_by g)) in
    record {
      types = subst (λ (n : ℕ). HaveTypes o.parts.results (result_types o.parts.kind o.parts.types n)) count h.types;
      readable = h.readable;
      kept = h.kept;
      written = h.written;
      nameless = h.nameless;
      name = h.name;
      dictionary = h.dictionary;
      bin = h.bin;
      named = h.named;
    }

-- the same of each operation
pub each_moved : (f g : ℕ → ℕ) (ops : List BodyOp) → Each IsCanonicalOp (map (op_by f) ops) → Each IsCanonicalOp (map (op_by g) ops)
each_moved f g [] h = tt
each_moved f g (o ∷ ops) h = (moved f g o h.0, each_moved f g ops h.1)

-- all of a body, by their ids
abbrev pub AreCanonical : List BodyOp → Type 0
AreCanonical ops = Each IsCanonicalOp (map (op_by (λ (id : ℕ). id)) ops)

pub in_body : (ops : List BodyOp) → AreCanonical ops ↔ Each IsCanonicalOp (ops_by_position ops)
in_body ops = (each_moved (λ (id : ℕ). id) (position_of (ids_in ops)) ops, each_moved (position_of (ids_in ops)) (λ (id : ℕ). id) ops)

-- the operations that are left are in canonical form where all are
pub canonical_more : (ops : List BodyOp) (i : OpId) (before after : List OpId) (o : code.Op) (r : Bool)
    → op_at ops i.index ≡ Some (read_op i o) → before ≡ i ∷ after → (AreCanonical ops ↔ AreCanonical (ops_at ops before))
    → (IsTrue r ↔ IsCanonicalOp (op_alone o)) → r ≡ true → AreCanonical ops ↔ AreCanonical (ops_at ops after)
canonical_more ops i before after o r found steps left says is =
    let all : AreCanonical ops ↔ AreCanonical (read_op i o ∷ ops_at ops after) =
    subst (λ (os : List BodyOp). AreCanonical ops ↔ AreCanonical os) (walk ops i before after (read_op i o) found steps) left in
    (λ h. (all.0 h).1, λ h. all.1 (says.0 is, h))

pub not_canonical : (ops : List BodyOp) (i : OpId) (before after : List OpId) (o : code.Op) (r : Bool)
    → op_at ops i.index ≡ Some (read_op i o) → before ≡ i ∷ after → (AreCanonical ops ↔ AreCanonical (ops_at ops before))
    → (IsTrue r ↔ IsCanonicalOp (op_alone o)) → r ≡ false → IsTrue false ↔ Each IsCanonicalOp (ops_by_position ops)
not_canonical ops i before after o r found steps left says denied =
    let all : AreCanonical ops ↔ AreCanonical (read_op i o ∷ ops_at ops after) =
    subst (λ (os : List BodyOp). AreCanonical ops ↔ AreCanonical os) (walk ops i before after (read_op i o) found steps) left in
    (λ never. absurd (false≢true never), λ h. absurd (false≢true (sym denied ∙ says.1 (all.0 ((in_body ops).1 h)).0)))

-- none is left
pub all_canonical : (ops : List BodyOp) (left : List OpId) → left ≡ [] → (AreCanonical ops ↔ AreCanonical (ops_at ops left)) → IsTrue true ↔ Each IsCanonicalOp (ops_by_position ops)
all_canonical ops left none says =
    (λ _. (in_body ops).0 (says.1 (subst (λ (is : List OpId). AreCanonical (ops_at ops is)) (sym none) tt)), λ _. refl)
