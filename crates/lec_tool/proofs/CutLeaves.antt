-- The words of leaves, cut of an assignment that begins with them.
use Rattle.std.proofs.Common.{◌≡◌, ℕ, ◌+◌, ◌≤◌, Bool, List, [], ◌∷◌, ◌++◌, length, drop, map, flat_map, Option, Some, None, refl, sym, ap, ap₂, ◌∙◌, arith}
use Rattle.std.proofs.lemmas.List.{map-append, length-append, length-drop, take-append-le, drop-append-le}
use Rattle.wiring.specs.Lists.{total}
use Rattle.wiring.proofs.Totals.{total-append}
use Rattle.bits_core.specs.Word.{Word}
use Rattle.gates.specs.declared.signal.Gate.{Gate}
use Rattle.gates.specs.Order.{evaluated}
use Rattle.gates.proofs.Evaluation.{evaluated_from}
use Rattle.hw_model.specs.Types.{Name, HwType, width, leaves}
use Rattle.hw_model.specs.Design.{Module, Design, find_module}
use Rattle.hw_model.specs.Flat.{input_width, width_of, state}
use Rattle.hw_model.specs.Sound.{ports_of, input_types}
use Rattle.hw_model.specs.Agreement.{input_bits}
use Rattle.aggregate_laws.proofs.Ports.{width_types, widths_lowered}
use Rattle.aggregate_laws.proofs.Words.{leaves_width}
use Rattle.pass_laws.specs.PassLaw.{leaf_types, register_types}
use Rattle.miter_blast.specs.Comparable.{register_widths}
use Rattle.miter_blast.proofs.CopyWidths.{state_by_widths}
use Rattle.miter_blast.specs.Cuts.{cut}
use Rattle.miter_blast.specs.Comparisons.{leaf_widths}

-- ---- how many bits there are

-- a type that there may be has as many bits as its leaves
known_wide : (us : List HwType) → total (map width_of (map (λ (u : HwType). Some u) us)) ≡ total (map width us)
known_wide [] = refl
known_wide (u ∷ us) = ap (λ n. width u + n) (known_wide us)

leaf_wide : (t : Option HwType) → total (map width_of (leaf_types t)) ≡ width_of t
leaf_wide None = refl
leaf_wide (Some t) = known_wide (leaves t) ∙ leaves_width t

-- and so do the leaves of several
leaf_types_wide : (ts : List (Option HwType)) → total (map width_of (flat_map leaf_types ts)) ≡ total (map width_of ts)
leaf_types_wide [] = refl
leaf_types_wide (t ∷ ts) =
    ap total (map-append width_of (leaf_types t) (flat_map leaf_types ts))
    ∙ total-append (map width_of (leaf_types t)) (map width_of (flat_map leaf_types ts))
    ∙ ap₂ (λ a b. a + b) (leaf_wide t) (leaf_types_wide ts)

-- the leaves of a module's inputs and registers have as many bits as its inputs and its content
leaves_total : (d : Design) (a : Name) (m : Module) → find_module d a ≡ Some m → total (leaf_widths d a m) ≡ input_bits d a + state d a
leaves_total d a m found =
    total-append (map width (flat_map leaves (input_types m.ports))) (register_widths d a)
    ∙ ap₂ (λ x y. x + y)
    (widths_lowered (input_types m.ports) ∙ sym (width_types m.ports) ∙ ap (λ o. input_width (ports_of o)) (sym found))
    (leaf_types_wide (register_types d a) ∙ sym (state_by_widths d a))

-- ---- cuts

-- words are cut of the bits that they have
cut_prefix : (ws : List ℕ) (xs ys : List Bool) → total ws ≤ length xs → cut ws (xs ++ ys) ≡ cut ws xs
cut_prefix [] xs ys enough = refl
cut_prefix (w ∷ ws) xs ys enough =
    let some : w ≤ length xs = omega (arith, enough) in
    let rest : total ws ≤ length (drop w xs) = omega (arith, enough, length-drop w xs) in
    ap₂ (λ u us. u ∷ us) (take-append-le w xs ys some) (ap (cut ws) (drop-append-le w xs ys some) ∙ cut_prefix ws (drop w xs) ys rest)

-- so are those of leaves of an assignment that goes on from inputs and content with the bits of gates
pub leaves_cut : (d : Design) (a : Name) (m : Module) (gates : List Gate) (input held : Word) (bits : List Bool) (ws : List ℕ) → find_module d a ≡ Some m
    → length input ≡ input_bits d a → length held ≡ state d a → bits ≡ evaluated (input ++ held) gates → ws ≡ leaf_widths d a m
    → cut ws bits ≡ cut (leaf_widths d a m) (input ++ held)
leaves_cut d a m gates input held bits ws found wide held_wide is widths =
    let rest = evaluated_from (input ++ held) gates in
    let enough : total (leaf_widths d a m) ≤ length (input ++ held) =
    omega (arith, leaves_total d a m found, length-append input held, wide, held_wide) in
    ap₂ cut widths (is ∙ rest.1) ∙ cut_prefix (leaf_widths d a m) (input ++ held) rest.0 enough
