-- The content of modules, by depth and by registers.
use Rattle.std.proofs.Common.{◌≡◌, ℕ, zero, suc, ◌-◌, ◌<◌, ◌≤◌, List, [], ◌∷◌, ◌++◌, drop, Some, ap, ap₂, ◌∙◌, inl, inr, arith}
use Rattle.wiring.specs.Wiring.{In}
use Rattle.bits_core.specs.Word.{Word, first}
use Rattle.hw_model.specs.Types.{Name}
use Rattle.hw_model.specs.Design.{Module, Design, find_module}
use Rattle.hw_model.specs.Flat.{Slot, registers, held_width, depth, state, body_state, state_of, module_state}
use Rattle.hw_model.specs.Meaning.{map_slots}
use Rattle.hw_model.proofs.Content.{slots_width, registers_width}
use Rattle.operation_values.specs.Suits.{IsCounted}
use Rattle.operation_values.proofs.Pieces.{piece_more}

-- the content of a module that is found, from that of the depth below
pub module_state_found : (n : ℕ) (d : Design) (s : Name) (m : Module) → 0 < n → find_module d s ≡ Some m
    → module_state n d s ≡ body_state (module_state (n - 1) d) m.body
module_state_found zero d s m positive is = absurd (omega arith)
module_state_found (suc n) d s m positive is = let e : suc n - 1 ≡ n = omega arith in rw e (ap (state_of (module_state n d)) is)

-- a register holds no more bits than all of them
slot_within : (s : Slot) (ss : List Slot) → In s ss → held_width s.op ≤ slots_width ss
slot_within s [] here = absurd here
slot_within s (x ∷ ss) (inl same) =
    let e : held_width s.op ≡ held_width x.op = ap (λ (y : Slot). held_width y.op) same in omega (arith, e)
slot_within s (x ∷ ss) (inr here) = let less = slot_within s ss here in omega (arith, less)

-- where a module's bits of content are counted, so are those of each of its registers
pub register_counted : (d : Design) (top : Name) → IsCounted (state d top) → (s : Slot) → In s (registers d top) → IsCounted (held_width s.op)
register_counted d top counted s here =
    let within = slot_within s (registers d top) here in
    let all : slots_width (registers d top) ≡ state d top = registers_width d (depth d) [] top in
    omega (arith, within, all, counted)

-- one register more of the content slot by slot, `each` giving what it holds from what it held
pub slot_more : (each : Slot → Word → Word) (s : Slot) (ss : List Slot) (word left whole held new after : Word) (w : ℕ) → w ≡ held_width s.op
    → held ≡ each s (first w left) → new ≡ word ++ first w held → after ≡ drop w left → word ++ map_slots each (s ∷ ss) left ≡ whole
    → new ++ map_slots each ss after ≡ whole
slot_more each s ss word left whole held new after w wide is put cut so_far =
    piece_more word (first w (each s (first w left))) (map_slots each ss after) new whole
    (ap₂ (λ k c. word ++ (first k (each s (first k left)) ++ map_slots each ss c)) wide (cut ∙ ap (λ k. drop k left) wide) ∙ so_far)
    (put ∙ ap (λ z. word ++ first w z) is)
