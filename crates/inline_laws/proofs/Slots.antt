-- The registers of the new design, each with the one of the old design from which it comes.
use Rattle.std.proofs.Common.{◌≡◌, ℕ, suc, ◌+◌, cond, List, [], ◌∷◌, ◌++◌, map, drop, slice_get, is_some, Some, refl, sym, ap, ap₂, subst, ◌∙◌, arith}
use mathlib.Core.Path.{fun_ext}
use Rattle.bits_core.specs.Word.{Word, first}
use Rattle.hw_model.specs.Types.{Name}
use Rattle.hw_model.specs.Kinds.{Instance}
use Rattle.hw_model.specs.Design.{Ref, Op, instance_in, register_form, is_instance}
use Rattle.hw_model.specs.Flat.{Path, Net, net, Slot, instances, instance_registers, op_registers, body_registers, held_width, width_of, register_in, async_reset_in}
use Rattle.hw_model.specs.Meaning.{Settled, map_slots, next_in, next_value, next_content, rise_in, rise_value, risen_content}
use Rattle.hw_model.proofs.Sorts.{Sort, sort_of}
use Rattle.hw_model.proofs.Sorts.Sort.{a_register, an_instance, an_output, a_made}
use Rattle.inline_laws.proofs.Moved.{IsMoved, by_kind, moved_type, moved_next, moved_rise}
use Rattle.inline_laws.proofs.Inlining.{Inlining}
use Rattle.inline_laws.proofs.Origins.{Leads}
use Rattle.inline_laws.proofs.Homes.{origin}
use Rattle.inline_laws.proofs.Carried.{leads_value}

module _ (S : Inlining) (top : Name) where
  -- a register of the new design is one of the old design, with operands that have the values of that one's
  pub record SlotComes (s' s : Slot) : Type 0 where
    pub move : Ref → Ref
    pub moves : IsMoved move s.op s'.op
    pub leads : (r : Ref) → Leads S.d top (net s.path r) (origin S top (net s'.path (move r)))

  -- each of them, in order
  abbrev pub SlotsCome : List Slot → List Slot → Type 0
  SlotsCome [] [] = Unit {0}
  SlotsCome [] (s ∷ ss) = ⊥
  SlotsCome (s' ∷ ss') [] = ⊥
  SlotsCome (s' ∷ ss') (s ∷ ss) = SlotComes s' s × SlotsCome ss' ss

  pub slots_append : (xs' xs ys' ys : List Slot) → SlotsCome xs' xs → SlotsCome ys' ys → SlotsCome (xs' ++ ys') (xs ++ ys)
  slots_append [] [] ys' ys first rest = rest
  slots_append [] (s ∷ xs) ys' ys first rest = absurd first
  slots_append (s' ∷ xs') [] ys' ys first rest = absurd first
  slots_append (s' ∷ xs') (s ∷ xs) ys' ys (one, more) rest = (one, slots_append xs' xs ys' ys more rest)

  -- ---- content

  module _ (each' each : Slot → Word → Word) (same : (s' s : Slot) → SlotComes s' s → (old : Word) → each' s' old ≡ each s old) where
    map_slots_come : (ss' ss : List Slot) → SlotsCome ss' ss → (content : Word) → map_slots each' ss' content ≡ map_slots each ss content
    map_slots_come [] [] come content = refl
    map_slots_come [] (s ∷ ss) come content = absurd come
    map_slots_come (s' ∷ ss') [] come content = absurd come
    map_slots_come (s' ∷ ss') (s ∷ ss) (one, more) content =
        ap (λ w. first w (each' s' (first w content)) ++ map_slots each' ss' (drop w content)) width_is
        ∙ ap₂ (λ x y. first (held_width s.op) x ++ y) (same s' s one (first (held_width s.op) content)) (map_slots_come ss' ss more (drop (held_width s.op) content))
      where
        width_is : held_width s'.op ≡ held_width s.op
        width_is = ap width_of (moved_type one.move s.op s'.op one.moves 0)

  -- the values of a register's operands
  operands_are : (inputs content : Word) (ρ : Net → Word) → Settled S.d top inputs content ρ → (s' s : Slot) (one : SlotComes s' s)
      → ◌≡◌ {A = Ref → Word} (λ r. ρ (origin S top (net s'.path (one.move r)))) (λ r. ρ (net s.path r))
  operands_are inputs content ρ settled s' s one =
      fun_ext (λ r. sym (leads_value S top inputs content ρ settled (net s.path r) (origin S top (net s'.path (one.move r))) (one.leads r)))

  pub next_carried : (inputs content : Word) (ρ : Net → Word) → Settled S.d top inputs content ρ → (ss' ss : List Slot) → SlotsCome ss' ss → (old : Word)
      → next_content ss' (λ a. ρ (origin S top a)) old ≡ next_content ss ρ old
  next_carried inputs content ρ settled ss' ss come old =
      map_slots_come (next_in (λ a. ρ (origin S top a))) (next_in ρ)
      (λ s' s one x.
      moved_next one.move s.op s'.op one.moves (λ r. ρ (origin S top (net s'.path r))) x
      ∙ ap (λ τ. next_value (register_in s.op) τ x) (operands_are inputs content ρ settled s' s one)) ss' ss come old

  pub rising_carried : (before inputs content : Word) (ρ σ : Net → Word) → Settled S.d top before content ρ → Settled S.d top inputs content σ
      → (ss' ss : List Slot) → SlotsCome ss' ss → (old : Word)
      → risen_content ss' (λ a. ρ (origin S top a)) (λ a. σ (origin S top a)) old ≡ risen_content ss ρ σ old
  rising_carried before inputs content ρ σ earlier settled ss' ss come old =
      map_slots_come (rise_in (λ a. ρ (origin S top a)) (λ a. σ (origin S top a))) (rise_in ρ σ)
      (λ s' s one x.
      moved_rise one.move s.op s'.op one.moves (λ r. ρ (origin S top (net s'.path r))) (λ r. σ (origin S top (net s'.path r))) x
      ∙ ap₂ (λ τ υ. rise_value (async_reset_in s.op) τ υ x) (operands_are before content ρ earlier s' s one) (operands_are inputs content σ settled s' s one)) ss' ss come old

  -- ---- the registers of a list of operations

  module _ (f : Ref → Ref) (g : Op → Op) (moves : (o : Op) → IsMoved f o (g o)) (q p : Path)
      (leads : (r : Ref) → Leads S.d top (net p r) (origin S top (net q (f r)))) (inner' inner : Path → Name → List Slot) where
    -- the instances' modules have registers that come from one another
    abbrev pub InnerCome : ℕ → ℕ → List Op → Type 0
    InnerCome u n os = (v w' w : ℕ) (y : Op) (i : Instance) → w' ≡ u + v → w ≡ n + v → slice_get (instances os) v ≡ Some y → instance_in y.kind ≡ Some i
        → SlotsCome (inner' (w' ∷ q) i.symbol) (inner (w ∷ p) i.symbol)

    pub body_come : (u n : ℕ) (os : List Op) → InnerCome u n os → SlotsCome (body_registers inner' q u (map g os)) (body_registers inner p n os)
    body_come u n [] come = tt
    body_come u n (o ∷ os) come =
        subst (λ slots. SlotsCome slots (op_registers inner p n o ++ body_registers inner p (cond (is_instance o) (suc n) n) os))
        (sym (by_kind (λ k. cond (is_some (register_form k)) (record { path = q; op = g o } ∷ []) (instance_registers inner' q u (instance_in k))
        ++ body_registers inner' q (cond (is_some (instance_in k)) (suc u) u) (map g os)) (λ i. refl) (g o).kind o.kind (moves o).kind_is))
        (go (sort_of o.kind) (body_come u n os) (body_come (suc u) (suc n) os))
      where
        go : Sort o.kind
            → (InnerCome u n os → SlotsCome (body_registers inner' q u (map g os)) (body_registers inner p n os))
            → (InnerCome (suc u) (suc n) os → SlotsCome (body_registers inner' q (suc u) (map g os)) (body_registers inner p (suc n) os))
            → SlotsCome (cond (is_some (register_form o.kind)) (record { path = q; op = g o } ∷ []) (instance_registers inner' q u (instance_in o.kind))
            ++ body_registers inner' q (cond (is_some (instance_in o.kind)) (suc u) u) (map g os))
            (op_registers inner p n o ++ body_registers inner p (cond (is_instance o) (suc n) n) os)
        go (a_register x r i w) rest more =
            simp (r, i) (record { move = f; moves = moves o; leads = leads }, rest (λ v w' w y z is' is at_v inst. come v w' w y z is' is (simp i at_v) inst))
        go (an_instance x r i w) rest more =
            simp (r, i) (slots_append (inner' (u ∷ q) x.symbol) (inner (n ∷ p) x.symbol) (body_registers inner' q (suc u) (map g os)) (body_registers inner p (suc n) os)
            (come 0 u n o x (omega arith) (omega arith) (simp i) i)
            (more (λ v w' w y z is' is at_v inst. come (suc v) w' w y z (omega arith) (omega arith) (simp i at_v) inst)))
        go (an_output r i w) rest more =
            simp (r, i) (rest (λ v w' w y z is' is at_v inst. come v w' w y z is' is (simp i at_v) inst))
        go (a_made r i w) rest more =
            simp (r, i) (rest (λ v w' w y z is' is at_v inst. come v w' w y z is' is (simp i at_v) inst))
