-- What is refused of two modules before a copy of any is made.
use Rattle.std.proofs.Common.{◌≡◌, sym, ap, subst, ◌∙◌, ℕ, ◌+◌, ◌*◌, ◌<◌, ◌≤◌, List, map, slice_get, Some, min, arith}
use mathlib.Core.Path.{subst₂}
use Rattle.wiring.specs.Lists.{total}
use Rattle.diag.specs.declared.cause.Cause.TheVariants.{RegistersDiffer, TooManyGates}
use Rattle.hw_model.specs.Types.{Name, width}
use Rattle.hw_model.specs.Design.{Module, Design}
use Rattle.hw_model.specs.Flat.{state}
use Rattle.hw_model.specs.Sound.{output_types}
use Rattle.edit_laws.proofs.ResetsKept.{find_symbol}
use Rattle.op_verifier.specs.Verdict.{IsAccepted}
use Rattle.printing_laws.specs.Printable.{Printable}
use Rattle.aggregate_laws.proofs.Ports.{widths_lowered}
use Rattle.flat_module_laws.specs.FlatPrices.{module_price, output_bits}
use Rattle.run_lists.specs.Runs.{expanded, AreRunsOf}
use Rattle.run_lists.specs.declared.runs.Run.{Run}
use Rattle.module_sums.specs.RegisterWidths.{AreRegisterRuns}
use Rattle.miter_blast.specs.FlatCopy.{IsFlatCopyAt, KeepsFlat}
use Rattle.miter_blast.specs.Comparable.{register_widths}
use Rattle.miter_blast.specs.ComparisonPrices.{registers_total, comparison_price}
use Rattle.miter_blast.specs.Building.{most_gates, pair_price}
use Rattle.miter_blast.specs.Comparisons.{IsComparisonRefusal, registers as registers_apart}
use Rattle.miter_blast.specs.LightPairs.{least_price, HoldAlike, IsLight}
use Rattle.miter_blast.specs.Pairs.{IsPair, at_module}
use Rattle.miter_blast.proofs.CopyExists.{copy_there}
use Rattle.miter_blast.proofs.CopyWidths.{kept_outputs, kept_widths, state_by_widths}
use Rattle.miter_blast.proofs.RegisterLeaves.{register_leaves}
use Rattle.miter_blast.proofs.LeastPrices.{registers_least}
use Rattle.miter_blast.proofs.Compared.{first_keeps, second_keeps, price_is, refused_least}
use Rattle.miter_blast.proofs.Finding.{same_there}

-- the module of a number has a copy
numbered_copy : (d : Design) (i : ℕ) (m : Module) → IsAccepted d → Printable d → slice_get d i ≡ Some m → (c : Design) × IsFlatCopyAt d i c
numbered_copy d i m accepted printable at = let copy = copy_there d m.symbol accepted printable in (copy.0, (m, at, copy.1))

-- a copy has as many bits of content as the leaves of the registers, and as many bits of outputs
copy_state : (d c : Design) (m : Module) → KeepsFlat d m c → state c m.symbol ≡ total (register_widths d m.symbol)
copy_state d c m kept = state_by_widths c m.symbol ∙ ap total (kept_widths d c m kept)

copy_outputs : (d c : Design) (m : Module) (kept : KeepsFlat d m c) → output_bits kept.one ≡ total (map width (output_types m.ports))
copy_outputs d c m kept = ap (λ ts. total (map width ts)) (kept_outputs d c m kept) ∙ widths_lowered (output_types m.ports)

module _ (d : Design) (a : Name) (e : Design) (b : Name) (i j : ℕ) (pair : IsPair d a e b i j) where
  -- the widths of the leaves of registers differ
  pub early_registers : (register_widths d a ≡ register_widths e b → ⊥) → IsComparisonRefusal d a e b (at_module 1 pair.right.location RegistersDiffer)
  early_registers apart = registers_apart pair.left pair.right pair.found pair.ports apart

  module _ (d_accepted : IsAccepted d) (d_printable : Printable d) (e_accepted : IsAccepted e) (e_printable : Printable e) (same : register_widths d a ≡ register_widths e b) where
    first : (c : Design) × IsFlatCopyAt d i c
    first = numbered_copy d i pair.left d_accepted d_printable pair.left_at

    second : (f : Design) × IsFlatCopyAt e j f
    second = numbered_copy e j pair.right e_accepted e_printable pair.right_at

    abbrev one_keeps : KeepsFlat d pair.left first.0
    one_keeps = first_keeps d a e b i j pair d_accepted d_printable e_accepted e_printable first.0 first.1 second.0 second.1

    abbrev two_keeps : KeepsFlat e pair.right second.0
    two_keeps = second_keeps d a e b i j pair d_accepted d_printable e_accepted e_printable first.0 first.1 second.0 second.1

    left_is : pair.left.symbol ≡ a
    left_is = find_symbol d a pair.left pair.found.one

    right_is : pair.right.symbol ≡ b
    right_is = find_symbol e b pair.right pair.found.two

    least : least_price (register_widths d a) pair.left.ports ≤ pair_price first.0 second.0
    least =
        let price : pair_price first.0 second.0 ≡ comparison_price first.0 a one_keeps.one second.0 b two_keeps.one =
        price_is d a e b i j pair d_accepted d_printable e_accepted e_printable first.0 first.1 second.0 second.1 same in
        let held : state first.0 a ≡ total (register_widths d a) =
        subst (λ s. state first.0 s ≡ total (register_widths d s)) left_is (copy_state d first.0 pair.left one_keeps) in
        let held_too : state second.0 b ≡ total (register_widths e b) =
        subst (λ s. state second.0 s ≡ total (register_widths e s)) right_is (copy_state e second.0 pair.right two_keeps) in
        let both : total (register_widths e b) ≡ total (register_widths d a) = ap total (sym same) in
        let outputs : output_bits one_keeps.one ≡ total (map width (output_types pair.left.ports)) = copy_outputs d first.0 pair.left one_keeps in
        let one_dear : 3 * state first.0 a ≤ registers_total first.0 a = registers_least first.0 a in
        let two_dear : 3 * state second.0 b ≤ registers_total second.0 b = registers_least second.0 b in
        sum (pair_price first.0 second.0) (module_price one_keeps.one) (registers_total first.0 a) (module_price two_keeps.one) (registers_total second.0 b) (output_bits one_keeps.one)
        (state first.0 a) (state second.0 b) (total (register_widths d a)) (total (map width (output_types pair.left.ports))) price held (held_too ∙ both) outputs one_dear two_dear
      where
        sum : (p x r y t o s u w v : ℕ) → p ≡ x + r + (y + t) + 4 * (o + s) → s ≡ w → u ≡ w → o ≡ v → 3 * s ≤ r → 3 * u ≤ t → 10 * w + 4 * v ≤ p
        sum p x r y t o s u w v e1 e2 e3 e4 e5 e6 = omega arith

    -- outputs and registers alone take too many gates
    pub early_price : (p : ℕ) → p ≡ min (least_price (register_widths d a) pair.left.ports) 18446744073709551615 → most_gates < p
        → IsComparisonRefusal d a e b (at_module 0 pair.left.location TooManyGates)
    early_price p is many =
        refused_least d a e b i j pair d_accepted d_printable e_accepted e_printable first.0 first.1 second.0 second.1 same
        (least_price (register_widths d a) pair.left.ports) least (omega (arith, is, many))

-- ---- in code

-- the runs of a module's registers
pub registers_are : (d : Design) (n : ℕ) (m : Module) (rs : List Run) → slice_get d n ≡ Some m → AreRegisterRuns d n rs → AreRunsOf (register_widths d m.symbol) rs
registers_are d n m rs at are = subst (λ ws. AreRunsOf ws rs) (sym (register_leaves d m.symbol)) (are m at)

-- those of the modules of a pair
module _ (d : Design) (a : Name) (e : Design) (b : Name) (i j : ℕ) (pair : IsPair d a e b i j) (rs ss : List Run)
    (first : (m : Module) → slice_get d i ≡ Some m → AreRunsOf (register_widths d m.symbol) rs) (second : (m : Module) → slice_get e j ≡ Some m → AreRunsOf (register_widths e m.symbol) ss) where
  one_are : AreRunsOf (register_widths d a) rs
  one_are = subst (λ s. AreRunsOf (register_widths d s) rs) (find_symbol d a pair.left pair.found.one) (first pair.left pair.left_at)

  two_are : AreRunsOf (register_widths e b) ss
  two_are = subst (λ s. AreRunsOf (register_widths e s) ss) (find_symbol e b pair.right pair.found.two) (second pair.right pair.right_at)

  pub runs_apart : (expanded rs ≡ expanded ss → ⊥) → register_widths d a ≡ register_widths e b → ⊥
  runs_apart apart same = apart (one_are.numbers ∙ same ∙ sym two_are.numbers)

  pub runs_same : expanded rs ≡ expanded ss → register_widths d a ≡ register_widths e b
  runs_same same = sym one_are.numbers ∙ same ∙ two_are.numbers

  pub runs_price : (m : Module) → slice_get d i ≡ Some m → least_price (expanded rs) m.ports ≡ least_price (register_widths d a) pair.left.ports
  runs_price m at = ap (λ ws. least_price ws m.ports) one_are.numbers ∙ ap (λ (x : Module). least_price (register_widths d a) x.ports) (same_there d i m pair.left at pair.left_at)

-- the registers of the modules of a pair have the same widths where those of the modules of their numbers have
pub pair_held : (d : Design) (a : Name) (e : Design) (b : Name) (i j : ℕ) (pair : IsPair d a e b i j) → HoldAlike d e i j → register_widths d a ≡ register_widths e b
pair_held d a e b i j pair alike =
    subst₂ (λ s t. register_widths d s ≡ register_widths e t) (find_symbol d a pair.left pair.found.one) (find_symbol e b pair.right pair.found.two)
    (alike pair.left pair.right pair.left_at pair.right_at)

-- modules whose registers have the same runs, of few bits
pub light_pair : (d e : Design) (i j : ℕ) (rs ss : List Run)
    → ((m : Module) → slice_get d i ≡ Some m → AreRunsOf (register_widths d m.symbol) rs) → ((m : Module) → slice_get e j ≡ Some m → AreRunsOf (register_widths e m.symbol) ss)
    → expanded rs ≡ expanded ss → (m : Module) → slice_get d i ≡ Some m → (p : ℕ) → p ≡ min (least_price (expanded rs) m.ports) 18446744073709551615 → p ≤ most_gates → IsLight d e i j
light_pair d e i j rs ss first second same m at p is few = record {
  held = λ x y here there. sym (first x here).numbers ∙ same ∙ (second y there).numbers;
  few = λ x here. subst (λ (y : Module). least_price (register_widths d y.symbol) y.ports ≤ most_gates) (same_there d i m x at here) low;
}
  where
    low : least_price (register_widths d m.symbol) m.ports ≤ most_gates
    low = subst (λ ws. least_price ws m.ports ≤ most_gates) (first m at).numbers (omega (arith, is, few))
