-- The leaves of ports: where each stands, and what an instance joins to it.
use Rattle.std.proofs.Common.{◌≡◌, ℕ, zero, suc, ◌+◌, ◌<◌, ◌≤◌, Bool, true, false, cond, List, [], ◌∷◌, ◌++◌, length, map, take, flat_map, slice_get, Option, Some, None, refl, sym, ap, ap₂, ◌∙◌, arith, length-append, append-nil, option_map}
use Rattle.std.proofs.lemmas.List.{length-map, length-take-le}
use Rattle.std.proofs.lemmas.Option.{slice_get-map, slice_get_within}
use Rattle.wiring.proofs.Options.{option_map_some}
use Rattle.wiring.proofs.Lists.{slice_get_some}
use Rattle.hw_model.specs.Types.{HwType, width, leaves}
use Rattle.hw_model.specs.Design.{Ref, Port}
use Rattle.hw_model.specs.Flat.{port_ref, operand_for, input_count, input_width}
use Rattle.hw_model.specs.Sound.{input_types, output_types}
use Rattle.edit_laws.proofs.Positions.{take_map}
use Rattle.aggregate_laws.specs.Leaves.{leaf_port, leaf_ports, leaf_start}
use Rattle.aggregate_laws.proofs.Lists.{flat_map_at, flat_map_take, flat_map_position, flat_map_lengths}
use Rattle.aggregate_laws.proofs.Words.{widths, widths-append, leaves_width}

-- ---- leaves of one way

in_types : (ts : List HwType) (ps : List Port) → input_types (map (leaf_port false) ts ++ ps) ≡ ts ++ input_types ps
in_types [] ps = refl
in_types (t ∷ ts) ps = ap (λ us. t ∷ us) (in_types ts ps)

in_none : (ts : List HwType) (ps : List Port) → input_types (map (leaf_port true) ts ++ ps) ≡ input_types ps
in_none [] ps = refl
in_none (t ∷ ts) ps = in_none ts ps

out_types : (ts : List HwType) (ps : List Port) → output_types (map (leaf_port true) ts ++ ps) ≡ ts ++ output_types ps
out_types [] ps = refl
out_types (t ∷ ts) ps = ap (λ us. t ∷ us) (out_types ts ps)

out_none : (ts : List HwType) (ps : List Port) → output_types (map (leaf_port false) ts ++ ps) ≡ output_types ps
out_none [] ps = refl
out_none (t ∷ ts) ps = out_none ts ps

-- ---- all leaves

pub input_types_lowered : (ps : List Port) → input_types (flat_map leaf_ports ps) ≡ flat_map leaves (input_types ps)
input_types_lowered [] = refl
input_types_lowered (q ∷ ps) = go q.is_output (input_types_lowered ps)
  where
    go : (b : Bool) → input_types (flat_map leaf_ports ps) ≡ flat_map leaves (input_types ps)
        → input_types (map (leaf_port b) (leaves q.type) ++ flat_map leaf_ports ps) ≡ flat_map leaves (cond b (input_types ps) (q.type ∷ input_types ps))
    go true rest = in_none (leaves q.type) (flat_map leaf_ports ps) ∙ rest
    go false rest = in_types (leaves q.type) (flat_map leaf_ports ps) ∙ ap (λ us. leaves q.type ++ us) rest

pub output_types_lowered : (ps : List Port) → output_types (flat_map leaf_ports ps) ≡ flat_map leaves (output_types ps)
output_types_lowered [] = refl
output_types_lowered (q ∷ ps) = go q.is_output (output_types_lowered ps)
  where
    go : (b : Bool) → output_types (flat_map leaf_ports ps) ≡ flat_map leaves (output_types ps)
        → output_types (map (leaf_port b) (leaves q.type) ++ flat_map leaf_ports ps) ≡ flat_map leaves (cond b (q.type ∷ output_types ps) (output_types ps))
    go true rest = out_types (leaves q.type) (flat_map leaf_ports ps) ∙ ap (λ us. leaves q.type ++ us) rest
    go false rest = out_none (leaves q.type) (flat_map leaf_ports ps) ∙ rest

-- ---- counts and widths by types

count_types : (ps : List Port) → input_count ps ≡ length (input_types ps)
count_types [] = refl
count_types (q ∷ ps) = go q.is_output (count_types ps)
  where
    go : (b : Bool) → input_count ps ≡ length (input_types ps) → cond b (input_count ps) (suc (input_count ps)) ≡ length (cond b (input_types ps) (q.type ∷ input_types ps))
    go true rest = rest
    go false rest = ap suc rest

-- the inputs have as many bits as their types
pub width_types : (ps : List Port) → input_width ps ≡ widths (input_types ps)
width_types [] = refl
width_types (q ∷ ps) = go q.is_output (width_types ps)
  where
    go : (b : Bool) → input_width ps ≡ widths (input_types ps) → cond b (input_width ps) (width q.type + input_width ps) ≡ widths (cond b (input_types ps) (q.type ∷ input_types ps))
    go true rest = rest
    go false rest = ap (λ n. width q.type + n) rest

take_types : (ps : List Port) (n : ℕ) → input_types (take n ps) ≡ take (input_count (take n ps)) (input_types ps)
take_types ps zero = refl
take_types [] (suc n) = refl
take_types (q ∷ ps) (suc n) = go q.is_output (take_types ps n)
  where
    go : (b : Bool) → input_types (take n ps) ≡ take (input_count (take n ps)) (input_types ps)
        → cond b (input_types (take n ps)) (q.type ∷ input_types (take n ps)) ≡ take (cond b (input_count (take n ps)) (suc (input_count (take n ps)))) (cond b (input_types ps) (q.type ∷ input_types ps))
    go true rest = rest
    go false rest = ap (λ us. q.type ∷ us) rest

input_types-append : (ps qs : List Port) → input_types (ps ++ qs) ≡ input_types ps ++ input_types qs
input_types-append [] qs = refl
input_types-append (q ∷ ps) qs = go q.is_output (input_types-append ps qs)
  where
    go : (b : Bool) → input_types (ps ++ qs) ≡ input_types ps ++ input_types qs
        → cond b (input_types (ps ++ qs)) (q.type ∷ input_types (ps ++ qs)) ≡ cond b (input_types ps) (q.type ∷ input_types ps) ++ input_types qs
    go true rest = rest
    go false rest = ap (λ us. q.type ∷ us) rest

-- leaves have as many bits as what they are the leaves of
pub widths_lowered : (ts : List HwType) → widths (flat_map leaves ts) ≡ widths ts
widths_lowered [] = refl
widths_lowered (t ∷ ts) = widths-append (leaves t) (flat_map leaves ts) ∙ ap₂ (λ a b. a + b) (leaves_width t) (widths_lowered ts)

-- ---- the leaves of one port

module _ (ps : List Port) (j : ℕ) (q : Port) (there : slice_get ps j ≡ Some q) where
  pub leaf_port_at : (i : ℕ) (t : HwType) → slice_get (leaves q.type) i ≡ Some t → slice_get (flat_map leaf_ports ps) (leaf_start ps j + i) ≡ Some (leaf_port q.is_output t)
  leaf_port_at i t is =
      let below : i < length (leaves q.type) = slice_get_within (leaves q.type) i t is in
      flat_map_at leaf_ports ps j i q there (omega (arith, length-map (leaves q.type) (leaf_port q.is_output)))
      ∙ slice_get-map (leaf_port q.is_output) (leaves q.type) i ∙ ap (option_map (leaf_port q.is_output)) is

  module _ (inward : q.is_output ≡ false) where
    -- the types of the inputs before the i-th leaf
    types_before : (i : ℕ) → i ≤ length (leaves q.type) → input_types (take (leaf_start ps j + i) (flat_map leaf_ports ps)) ≡ flat_map leaves (input_types (take j ps)) ++ take i (leaves q.type)
    types_before i within =
        ap input_types (flat_map_take leaf_ports ps j i q there (omega (arith, length-map (leaves q.type) (leaf_port q.is_output))))
        ∙ input_types-append (flat_map leaf_ports (take j ps)) (take i (leaf_ports q))
        ∙ ap₂ (λ us vs. us ++ vs) (input_types_lowered (take j ps))
        (ap input_types (take_map (leaf_port q.is_output) i (leaves q.type)) ∙ ap (λ b. input_types (map (leaf_port b) (take i (leaves q.type)))) inward
        ∙ ap input_types (sym (append-nil (map (leaf_port false) (take i (leaves q.type))))) ∙ in_types (take i (leaves q.type)) [] ∙ append-nil (take i (leaves q.type)))

    pub width_before : (i : ℕ) → i ≤ length (leaves q.type)
        → input_width (take (leaf_start ps j + i) (flat_map leaf_ports ps)) ≡ input_width (take j ps) + widths (take i (leaves q.type))
    width_before i within =
        width_types (take (leaf_start ps j + i) (flat_map leaf_ports ps)) ∙ ap widths (types_before i within)
        ∙ widths-append (flat_map leaves (input_types (take j ps))) (take i (leaves q.type))
        ∙ ap (λ n. n + widths (take i (leaves q.type))) (widths_lowered (input_types (take j ps)) ∙ sym (width_types (take j ps)))

    count_before : (i : ℕ) → i ≤ length (leaves q.type)
        → input_count (take (leaf_start ps j + i) (flat_map leaf_ports ps)) ≡ length (flat_map leaves (take (input_count (take j ps)) (input_types ps))) + i
    count_before i within =
        count_types (take (leaf_start ps j + i) (flat_map leaf_ports ps)) ∙ ap length (types_before i within)
        ∙ length-append (flat_map leaves (input_types (take j ps))) (take i (leaves q.type))
        ∙ ap₂ (λ a b. a + b) (ap (λ us. length (flat_map leaves us)) (take_types ps j)) (length-take-le i (leaves q.type) within)

    -- what stands for the operand that an instance joins to the port is joined to its leaves
    pub port_ref_leaf : (parts : Ref → List Ref) (rs : List Ref) (r : Ref) → length rs ≡ length (input_types ps)
        → ((n : ℕ) (x : Ref) (t : HwType) → slice_get rs n ≡ Some x → slice_get (input_types ps) n ≡ Some t → length (parts x) ≡ length (leaves t))
        → slice_get rs (input_count (take j ps)) ≡ Some r → slice_get (input_types ps) (input_count (take j ps)) ≡ Some q.type
        → (i : ℕ) → i < length (leaves q.type)
        → port_ref (flat_map leaf_ports ps) (flat_map parts rs) (leaf_start ps j + i) ≡ slice_get (parts r) i
    port_ref_leaf parts rs r size each is typed i below =
        let found = slice_get_some (leaves q.type) i below in
        let shorter : i < length (parts r) = omega (arith, each (input_count (take j ps)) r q.type is typed) in
        ap₂ (λ x k. operand_for x (flat_map parts rs) k) (leaf_port_at i found.0 found.1 ∙ ap (λ b. Some (leaf_port b found.0)) inward)
        (count_before i (omega arith) ∙ ap (λ n. n + i) (sym (flat_map_lengths parts leaves rs (input_types ps) size each (input_count (take j ps)))))
        ∙ flat_map_at parts rs (input_count (take j ps)) i r is shorter

-- a leaf that is joined to something is one of an input
pub joined_port : (ps : List Port) (rs : List Ref) (j' : ℕ) (r' : Ref) → port_ref (flat_map leaf_ports ps) rs j' ≡ Some r'
    → (j : ℕ) × (q : Port) × (i : ℕ) × (slice_get ps j ≡ Some q) × (q.is_output ≡ false) × (i < length (leaves q.type)) × (j' ≡ leaf_start ps j + i)
joined_port ps rs j' r' is = go (slice_get (flat_map leaf_ports ps) j') refl is
  where
    go : (x : Option Port) → slice_get (flat_map leaf_ports ps) j' ≡ x → operand_for x rs (input_count (take j' (flat_map leaf_ports ps))) ≡ Some r'
        → (j : ℕ) × (q : Port) × (i : ℕ) × (slice_get ps j ≡ Some q) × (q.is_output ≡ false) × (i < length (leaves q.type)) × (j' ≡ leaf_start ps j + i)
    go None none h = cc
    go (Some y) here h =
        let found = flat_map_position leaf_ports ps j' y here in
        let q : Port = found.2 in
        let leaf = option_map_some (leaf_port q.is_output) (slice_get (leaves q.type) found.1) (sym (slice_get-map (leaf_port q.is_output) (leaves q.type) found.1) ∙ found.4) in
        let way : y.is_output ≡ q.is_output = ap (λ (z : Port). z.is_output) (sym leaf.2) in
        (found.0, q, found.1, found.3, sym way ∙ inward y.is_output h, slice_get_within (leaves q.type) found.1 leaf.0 leaf.1, found.5)
      where
        inward : (b : Bool) → cond b None (slice_get rs (input_count (take j' (flat_map leaf_ports ps)))) ≡ Some r' → b ≡ false
        inward true never = cc
        inward false here' = refl
