-- How many names of bits there are.
use Rattle.std.proofs.Common.{◌≡◌, refl, ap, ℕ, zero, suc, ◌+◌, ◌≤◌, Bool, true, false, cond, List, [], ◌∷◌, map, length, arith, length-append}
use Rattle.std.specs.List.{filter}
use Rattle.wiring.specs.Lists.{total}
use Rattle.hw_model.specs.Types.{Name, width}
use Rattle.hw_model.specs.Design.{Port, Op, is_register}
use Rattle.hw_model.specs.Flat.{held_width}
use Rattle.hw_model.specs.Sound.{output_types}
use Rattle.net_gates.specs.ClockedInputs.{port_bits, free_bits}
use Rattle.flat_module_gates.specs.FlatSteps.{content_width}
use Rattle.miter_blast.specs.Leaves.{held_widths}
use Rattle.aiger_export.specs.BitNames.{bit_names, word_bits, given_bits}

bits_count : (name : Name) (w : ℕ) → length (bit_names name w) ≡ w
bits_count name zero = refl
bits_count name (suc w) = ap suc (bits_count name w)

-- there are no more names than bits
pub names_within : (names : List Name) (ws : List ℕ) → length (word_bits names ws) ≤ total ws
names_within [] ws = omega arith
names_within (n ∷ ns) [] = omega arith
names_within (n ∷ ns) (w ∷ ws) =
    let here = bits_count n w in
    let rest = names_within ns ws in
    let sum = length-append (bit_names n w) (word_bits ns ws) in
    omega (arith, here, rest, sum)

-- ---- how many bits

pub free_total : (ps : List Port) → total (map port_bits ps) ≡ free_bits ps
free_total [] = refl
free_total (p ∷ ps) = ap (λ n. port_bits p + n) (free_total ps)

pub given_total : (ps : List Port) → total (map given_bits ps) ≡ total (map width (output_types ps))
given_total [] = refl
given_total (p ∷ ps) = go p.is_output (given_total ps)
  where
    go : (b : Bool) → total (map given_bits ps) ≡ total (map width (output_types ps))
        → cond b (width p.type) 0 + total (map given_bits ps) ≡ total (map width (cond b (p.type ∷ output_types ps) (output_types ps)))
    go true rest = ap (λ n. width p.type + n) rest
    go false rest = omega (arith, rest)

pub held_total : (os : List Op) → total (held_widths os) ≡ content_width os
held_total [] = refl
held_total (o ∷ os) = go (is_register o) (held_total os)
  where
    go : (b : Bool) → total (held_widths os) ≡ content_width os
        → total (map held_width (cond b (o ∷ filter is_register os) (filter is_register os))) ≡ cond b (held_width o) 0 + content_width os
    go true rest = ap (λ n. held_width o + n) rest
    go false rest = omega (arith, rest)
