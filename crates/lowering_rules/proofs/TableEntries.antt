-- What the tables of leaves have for each value.
use Rattle.std.proofs.Common.{◌≡◌, ℕ, zero, suc, ◌+◌, List, [], ◌∷◌, ◌++◌, length, map, take, flat_map, slice_get, Option, Some, None, refl, ap, ◌∙◌, arith, length-append, option_and_then, option_map}
use Rattle.std.proofs.lemmas.List.{length-map}
use Rattle.hw_model.specs.Types.{HwType, leaves}
use Rattle.hw_model.specs.Design.{Ref, Port, OpResult, Op, result_type}
use Rattle.aggregate_laws.specs.Leaves.{in_row, leaf_port, leaf_ports, leaf_start, parts_of_port, result_start}
use Rattle.aggregate_laws.specs.Rules.{Rule, Rules, count_by, begin, leaf_ref, leaf_refs, parts_of_result}
use Rattle.lowering_rules.specs.LeafTables.{or_none, port_table, result_table, body_table}

-- ---- ports

pub port_entry : (start : ℕ) (ps : List Port) (j : ℕ) → or_none (slice_get (port_table start ps) j) ≡ parts_of_port (start + leaf_start ps j) (slice_get ps j)
port_entry start [] j = refl
port_entry start (q ∷ ps) zero = let same : start ≡ start + 0 = omega arith in ap (λ n. parts_of_port n (Some q)) same
port_entry start (q ∷ ps) (suc j) =
    let both = length-append (leaf_ports q) (flat_map leaf_ports (take j ps)) in
    let own = length-map (leaves q.type) (leaf_port q.is_output) in
    let same : start + length (leaves q.type) + leaf_start ps j ≡ start + leaf_start (q ∷ ps) (suc j) = omega (arith, both, own) in
    port_entry (start + length (leaves q.type)) ps j ∙ ap (λ n. parts_of_port n (slice_get ps j)) same

-- ---- results

abbrev types_of : List OpResult → List HwType
types_of xs = map (λ (x : OpResult). x.type) xs

abbrev refs_at : Rule → ℕ → Op → ℕ → Option OpResult → Option (List Ref)
refs_at rule start o i x = option_map (λ (y : OpResult). in_row (leaf_ref rule start o) i (length (leaves y.type))) x

result_entry : (rule : Rule) (start : ℕ) (o : Op) (i : ℕ) (xs : List OpResult) (k : ℕ)
    → slice_get (result_table rule start o i xs) k ≡ refs_at rule start o (i + length (flat_map leaves (take k (types_of xs)))) (slice_get xs k)
result_entry rule start o i [] k = refl
result_entry rule start o i (x ∷ xs) zero = let same : i ≡ i + 0 = omega arith in ap (λ n. Some (in_row (leaf_ref rule start o) n (length (leaves x.type)))) same
result_entry rule start o i (x ∷ xs) (suc k) =
    let both = length-append (leaves x.type) (flat_map leaves (take k (types_of xs))) in
    let same : i + length (leaves x.type) + length (flat_map leaves (take k (types_of xs))) ≡ i + length (leaves x.type ++ flat_map leaves (take k (types_of xs))) = omega (arith, both) in
    result_entry rule start o (i + length (leaves x.type)) xs k ∙ ap (λ n. refs_at rule start o n (slice_get xs k)) same

refs_typed : (rule : Rule) (start : ℕ) (o : Op) (i : ℕ) (x : Option OpResult) → or_none (refs_at rule start o i x) ≡ leaf_refs rule start o i (option_map (λ (y : OpResult). y.type) x)
refs_typed rule start o i None = refl
refs_typed rule start o i (Some x) = refl

own_entry : (rule : Rule) (start : ℕ) (o : Op) (k : ℕ) → or_none (slice_get (result_table rule start o 0 o.results) k) ≡ leaf_refs rule start o (result_start o k) (result_type o k)
own_entry rule start o k =
    let same : 0 + result_start o k ≡ result_start o k = omega arith in
    ap or_none (result_entry rule start o 0 o.results k)
    ∙ refs_typed rule start o (0 + result_start o k) (slice_get o.results k)
    ∙ ap (λ n. leaf_refs rule start o n (result_type o k)) same

-- ---- operations

pub body_entry : (rules : Rules) (start : ℕ) (os : List Op) (j k : ℕ)
    → or_none (option_and_then (λ (rs : List (List Ref)). slice_get rs k) (slice_get (body_table rules start os) j)) ≡ parts_of_result rules (start + begin rules os j) k (slice_get os j)
body_entry rules start [] j k = refl
body_entry rules start (o ∷ os) zero k =
    let same : start ≡ start + 0 = omega arith in
    own_entry (rules.rule o) start o k ∙ ap (λ n. parts_of_result rules n k (Some o)) same
body_entry rules start (o ∷ os) (suc j) k =
    let same : start + count_by rules o + begin rules os j ≡ start + begin rules (o ∷ os) (suc j) = omega arith in
    body_entry rules (start + count_by rules o) os j k ∙ ap (λ n. parts_of_result rules n k (slice_get os j)) same
