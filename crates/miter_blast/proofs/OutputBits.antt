-- How many bits outputs have, one port after another.
use Rattle.std.proofs.Common.{◌≡◌, ℕ, ◌+◌, ◌<◌, min, Bool, true, false, cond, List, [], ◌∷◌, ◌++◌, length, map, take, get_or, sym, arith}
use Rattle.std.proofs.lemmas.List.{map_more}
use Rattle.wiring.specs.Lists.{total}
use Rattle.hw_model.specs.Types.{width}
use Rattle.hw_model.specs.Design.{Port}
use Rattle.hw_model.specs.Sound.{output_types}
use Rattle.hw_model.proofs.FieldSums.{capped_more}
use Rattle.ir_store.specs.Designs.{port_of}
use Rattle.ir_store.specs.declared.design.Port.{Port as Stored}

-- those of one port
abbrev pub own_bits : Port → ℕ
own_bits p = cond p.is_output (width p.type) 0

-- those of ports
abbrev pub bits_of_outputs : List Port → ℕ
bits_of_outputs ps = total (map width (output_types ps))

outputs-push : (ps : List Port) (p : Port) → bits_of_outputs (ps ++ p ∷ []) ≡ bits_of_outputs ps + own_bits p
outputs-push [] p = go p.is_output
  where
    go : (b : Bool) → total (map width (cond b (p.type ∷ []) [])) ≡ 0 + cond b (width p.type) 0
    go true = omega arith
    go false = omega arith
outputs-push (q ∷ ps) p = go q.is_output (outputs-push ps p)
  where
    go : (b : Bool) → bits_of_outputs (ps ++ p ∷ []) ≡ bits_of_outputs ps + own_bits p
        → total (map width (cond b (q.type ∷ output_types (ps ++ p ∷ [])) (output_types (ps ++ p ∷ [])))) ≡ total (map width (cond b (q.type ∷ output_types ps) (output_types ps))) + own_bits p
    go true rest = omega (arith, rest)
    go false rest = rest

pub outputs_more : (xs : List Stored) (i : ℕ) (x : Stored) (sum now next m : ℕ) → i < length xs → x ≡ get_or xs i x → sum ≡ min (bits_of_outputs (map port_of (take i xs))) m
    → now ≡ min (own_bits (port_of x)) m → next ≡ min (sum + now) m → next ≡ min (bits_of_outputs (map port_of (take (i + 1) xs))) m
outputs_more xs i x sum now next m below is p q r =
    rw (map_more port_of xs i x below, outputs-push (map port_of (take i xs)) (port_of (get_or xs i x)), sym is)
    (capped_more (bits_of_outputs (map port_of (take i xs))) (own_bits (port_of x)) sum now next m p q r)
