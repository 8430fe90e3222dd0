-- The registers of the flattened module: each becomes one for each leaf, in its place.
use Rattle.std.proofs.Common.{◌≡◌, ◌⊎◌, ℕ, zero, suc, ◌+◌, true, List, [], ◌∷◌, ◌++◌, length, map, flat_map, slice_get, Some, None, is_some, refl, sym, ap, ap₂, subst, ◌∙◌, inl, inr, arith, zero-add, option_and_then, option_map}
use Rattle.std.proofs.lemmas.Grind.{flat_map-append}
use Rattle.wiring.specs.Wiring.{In}
use Rattle.wiring.proofs.Members.{In-append_cases, position_of_In}
use Rattle.hw_model.specs.Types.{Name}
use Rattle.hw_model.specs.Kinds.{Kind, Instance}
use Rattle.hw_model.specs.Kinds.Kind.{instance}
use Rattle.hw_model.specs.Design.{Ref, Op, Design, find_module, instance_in, register_form, is_register, result_type}
use Rattle.hw_model.specs.Flat.{Path, Slot, instances, module_at, body_registers, module_registers, registers}
use Rattle.hw_model.specs.Sound.{body_of}
use Rattle.hw_model.proofs.Sorts.{Sort, sort_of}
use Rattle.hw_model.proofs.Sorts.Sort.{a_register, an_instance, an_output, a_made}
use Rattle.hw_model.proofs.Paths.{registers_body}
use Rattle.edit_laws.specs.Edit.{anchors}
use Rattle.edit_laws.proofs.Anchors.{instances-anchors, body_registers-anchors}
use Rattle.aggregate_laws.specs.Leaves.{bare_kind, leaf_operands, leaves_of, spread, lower_anchor}
use Rattle.aggregate_laws.specs.Lowered.{LoweredWell}
use Rattle.aggregate_laws.proofs.Bare.{called_symbol, form_bare, callee_by_symbol, bare_slot, body_registers_bare}
use Rattle.aggregate_laws.proofs.Anchors.{lowered_register, lowered_other, bare_form, bare_apart, leaf_slots}
use Rattle.aggregate_laws.proofs.Paths.{low, parts_at, called_same, instance_pair, inside, inside'}

bare_instance : (k : Kind) (x : Instance) → instance_in k ≡ Some x
    → instance_in (bare_kind k) ≡ Some (record { name = []; inner_symbol = None; symbol = x.symbol; inputs = []; outputs = [] })
bare_instance (instance y) x is = let same : y ≡ x = cc in ap (λ (z : Instance). Some (record { name = []; inner_symbol = None; symbol = z.symbol; inputs = []; outputs = [] })) same
bare_instance k x is = cc

bare_none : (k : Kind) → instance_in k ≡ None → instance_in (bare_kind k) ≡ None
bare_none (instance y) is = cc
bare_none k is = is

-- ---- each register stands in the body at its path

-- where a register of a body or of the instances in it comes from
abbrev FoundIn : (Path → Name → List Slot) → Path → Slot → ℕ → List Op → Type 0
FoundIn inner p x n os =
    ((o : Op) × In o os × (is_register o ≡ true) × (x ≡ record { path = p; op = o }))
    ⊎ ((v : ℕ) × (o : Op) × (s : Name) × (slice_get (instances os) v ≡ Some o) × (called_symbol o.kind ≡ Some s) × In x (inner ((n + v) ∷ p) s))

module _ (inner : Path → Name → List Slot) (p : Path) (x : Slot) where
  past_plain : (o : Op) (os : List Op) (n : ℕ) → instance_in o.kind ≡ None → FoundIn inner p x n os → FoundIn inner p x n (o ∷ os)
  past_plain o os n i (inl (y, within, register, is)) = inl (y, inr within, register, is)
  past_plain o os n i (inr (v, y, s, at_v, called, within)) = inr (v, y, s, simp i at_v, called, within)

  past_instance : (o : Op) (os : List Op) (n : ℕ) (z : Instance) → instance_in o.kind ≡ Some z → FoundIn inner p x (suc n) os → FoundIn inner p x n (o ∷ os)
  past_instance o os n z i (inl (y, within, register, is)) = inl (y, inr within, register, is)
  past_instance o os n z i (inr (v, y, s, at_v, called, within)) =
      let e : suc n + v ≡ n + suc v = omega arith in
      inr (suc v, y, s, simp i at_v, called, subst (λ m. In x (inner (m ∷ p) s)) e within)

  by_part : (o : Op) (os : List Op) (n : ℕ) (z : Instance) → instance_in o.kind ≡ Some z → (In x (body_registers inner p (suc n) os) → FoundIn inner p x (suc n) os)
      → In x (inner (n ∷ p) z.symbol) ⊎ In x (body_registers inner p (suc n) os) → FoundIn inner p x n (o ∷ os)
  by_part o os n z i rest (inl first) =
      let e : n ≡ n + 0 = omega arith in
      inr (0, o, z.symbol, simp i, ap (option_map (λ (y : Instance). y.symbol)) i, subst (λ m. In x (inner (m ∷ p) z.symbol)) e first)
  by_part o os n z i rest (inr later) = past_instance o os n z i (rest later)

  by_position : (o : Op) (os : List Op) (n : ℕ) → is_register o ≡ true → instance_in o.kind ≡ None → (In x (body_registers inner p n os) → FoundIn inner p x n os)
      → In x (record { path = p; op = o } ∷ body_registers inner p n os) → FoundIn inner p x n (o ∷ os)
  by_position o os n register i rest (inl same) = inl (o, inl refl, register, same)
  by_position o os n register i rest (inr later) = past_plain o os n i (rest later)

  from_registers : (os : List Op) (n : ℕ) → In x (body_registers inner p n os) → FoundIn inner p x n os
  from_registers [] n here = absurd here
  from_registers (o ∷ os) n here = go (sort_of o.kind) (from_registers os n) (from_registers os (suc n))
    where
      go : Sort o.kind → (In x (body_registers inner p n os) → FoundIn inner p x n os) → (In x (body_registers inner p (suc n) os) → FoundIn inner p x (suc n) os) → FoundIn inner p x n (o ∷ os)
      go (a_register f r i u) rest more = by_position o os n (ap is_some r) i rest (simp (r, i) at here)
      go (an_instance z r i u) rest more =
          let here' : In x (inner (n ∷ p) z.symbol ++ body_registers inner p (suc n) os) = simp (r, i) at here in
          by_part o os n z i more (In-append_cases x (inner (n ∷ p) z.symbol) (body_registers inner p (suc n) os) here')
      go (an_output r i u) rest more = past_plain o os n i (rest (simp (r, i) at here))
      go (a_made r i u) rest more = past_plain o os n i (rest (simp (r, i) at here))

-- ---- the two designs

module _ (scale : ℕ) (d d' : Design) (each : (s : Name) → LoweredWell scale (find_module d s) (find_module d' s)) (same : length d' ≡ length d) (top : Name) where
  -- the leaves of a register
  abbrev pub lower_slot : Slot → List Slot
  lower_slot s = map (λ (o : Op). record { path = s.path; op = o }) (lower_anchor (parts_at scale d d' each top s.path) s.op)

  -- the registers of the instances at their paths
  abbrev Alike : (inner inner' : Path → Name → List Slot) → Path → ℕ → List Op → Type 0
  Alike inner inner' p n os = (v w : ℕ) (o : Op) (s : Name) → w ≡ n + v → slice_get (instances os) v ≡ Some o → called_symbol o.kind ≡ Some s
      → inner' (w ∷ p) s ≡ flat_map lower_slot (inner (w ∷ p) s)

  registers_along : (inner inner' : Path → Name → List Slot) (p : Path) (os : List Op) (n : ℕ) → Alike inner inner' p n os
      → body_registers inner' p n (flat_map (lower_anchor (parts_at scale d d' each top p)) os) ≡ flat_map lower_slot (body_registers inner p n os)
  registers_along inner inner' p [] n alike = refl
  registers_along inner inner' p (o ∷ os) n alike =
      go (sort_of o.kind) (registers_along inner inner' p os n) (registers_along inner inner' p os (suc n))
    where
      parts : Ref → List Ref
      parts = parts_at scale d d' each top p

      others : List Op
      others = flat_map (lower_anchor (parts_at scale d d' each top p)) os

      plain : register_form o.kind ≡ None → instance_in o.kind ≡ None
          → (Alike inner inner' p n os → body_registers inner' p n (flat_map (lower_anchor (parts_at scale d d' each top p)) os) ≡ flat_map lower_slot (body_registers inner p n os))
          → body_registers inner' p n (flat_map (lower_anchor (parts_at scale d d' each top p)) (o ∷ os)) ≡ flat_map lower_slot (body_registers inner p n (o ∷ os))
      plain r i rest =
          ap (λ xs. body_registers inner' p n (xs ++ flat_map (lower_anchor (parts_at scale d d' each top p)) os)) (lowered_other (parts_at scale d d' each top p) o r)
          ∙ new_side (form_bare o.kind ∙ r) (bare_none o.kind i)
          ∙ rest (λ v w y s is at_v called. alike v w y s is (simp i at_v) called)
          ∙ simp (r, i)
        where
          new_side : register_form (bare_kind o.kind) ≡ None → instance_in (bare_kind o.kind) ≡ None
              → body_registers inner' p n (spread (parts_at scale d d' each top p) o ∷ flat_map (lower_anchor (parts_at scale d d' each top p)) os)
              ≡ body_registers inner' p n (flat_map (lower_anchor (parts_at scale d d' each top p)) os)
          new_side r' i' = simp (r', i')

      go : Sort o.kind
          → (Alike inner inner' p n os → body_registers inner' p n (flat_map (lower_anchor (parts_at scale d d' each top p)) os) ≡ flat_map lower_slot (body_registers inner p n os))
          → (Alike inner inner' p (suc n) os → body_registers inner' p (suc n) (flat_map (lower_anchor (parts_at scale d d' each top p)) os) ≡ flat_map lower_slot (body_registers inner p (suc n) os))
          → body_registers inner' p n (flat_map (lower_anchor (parts_at scale d d' each top p)) (o ∷ os)) ≡ flat_map lower_slot (body_registers inner p n (o ∷ os))
      go (a_register f r i u) rest more =
          ap (λ xs. body_registers inner' p n (xs ++ flat_map (lower_anchor (parts_at scale d d' each top p)) os)) (lowered_register (parts_at scale d d' each top p) o f r)
          ∙ leaf_slots (bare_kind o.kind) f (bare_form (parts_at scale d d' each top p) o f r) (bare_apart (parts_at scale d d' each top p) o f r).0 (bare_apart (parts_at scale d d' each top p) o f r).1
          (leaf_operands f.has_enable f.reset (map (parts_at scale d d' each top p) o.operands)) inner' p n 0 (leaves_of (result_type o 0)) (flat_map (lower_anchor (parts_at scale d d' each top p)) os)
          ∙ ap₂ (λ xs ys. map (λ (z : Op). record { path = p; op = z }) xs ++ ys) (sym (lowered_register (parts_at scale d d' each top p) o f r))
          (rest (λ v w y s is at_v called. alike v w y s is (simp i at_v) called))
          ∙ simp (r, i)
      go (an_instance x r i u) rest more =
          ap (λ xs. body_registers inner' p n (xs ++ flat_map (lower_anchor (parts_at scale d d' each top p)) os)) (lowered_other (parts_at scale d d' each top p) o r)
          ∙ new_side (form_bare o.kind ∙ r) (bare_instance o.kind x i)
          ∙ ap₂ (λ xs ys. xs ++ ys) (alike 0 n o x.symbol (omega arith) (simp i) (ap (option_map (λ (y : Instance). y.symbol)) i))
          (more (λ v w y s is at_v called. alike (suc v) w y s (omega arith) (simp i at_v) called))
          ∙ sym (flat_map-append lower_slot (inner (n ∷ p) x.symbol) (body_registers inner p (suc n) os))
          ∙ simp (r, i)
        where
          new_side : register_form (bare_kind o.kind) ≡ None
              → instance_in (bare_kind o.kind) ≡ Some (record { name = []; inner_symbol = None; symbol = x.symbol; inputs = []; outputs = [] })
              → body_registers inner' p n (spread (parts_at scale d d' each top p) o ∷ flat_map (lower_anchor (parts_at scale d d' each top p)) os)
              ≡ inner' (n ∷ p) x.symbol ++ body_registers inner' p (suc n) (flat_map (lower_anchor (parts_at scale d d' each top p)) os)
          new_side r' i' = simp (r', i')
      go (an_output r i u) rest more = plain r i rest
      go (a_made r i u) rest more = plain r i rest

  -- what an instance leads to
  leads_to : (p : Path) (w : ℕ) (o : Op) (s : Name) → slice_get (instances (body_of (module_at d top p))) w ≡ Some o → called_symbol o.kind ≡ Some s
      → (module_at d top (w ∷ p) ≡ find_module d s) × (module_at d' top (w ∷ p) ≡ find_module d' s)
  leads_to p w o s is called =
      let pair = instance_pair scale d d' each top p w o is in (
        inside scale d d' each top p w o is ∙ callee_by_symbol d o ∙ ap (λ x. option_and_then (find_module d) x) called,
        inside' scale d d' each top p w pair.0 pair.1 ∙ callee_by_symbol d' pair.0
            ∙ ap (λ x. option_and_then (find_module d') x) (called_same (parts_at scale d d' each top p) o pair.0 pair.2 ∙ called),
      )

  module_registers_same : (n : ℕ) (p : Path) (s : Name) → module_at d top p ≡ find_module d s → module_at d' top p ≡ find_module d' s
      → map bare_slot (module_registers n d' p s) ≡ flat_map lower_slot (module_registers n d p s)
  module_registers_same zero p s is is' = refl
  module_registers_same (suc n) p s is is' =
      ap (map bare_slot)
      (registers_body (module_registers n d') p (find_module d' s)
      ∙ ap (λ o. body_registers (module_registers n d') p 0 (body_of o)) (sym is')
      ∙ sym (body_registers-anchors (module_registers n d') p 0 os'))
      ∙ sym (body_registers_bare (module_registers n d') (λ q t. map bare_slot (module_registers n d' q t)) (λ q t. refl) p 0 (anchors os'))
      ∙ ap (body_registers (λ q t. map bare_slot (module_registers n d' q t)) p 0) (low scale d d' each top p).anchors_are
      ∙ registers_along (module_registers n d) (λ q t. map bare_slot (module_registers n d' q t)) p (anchors os) 0 (below (λ q t. module_registers_same n q t))
      ∙ ap (flat_map lower_slot)
      (body_registers-anchors (module_registers n d) p 0 os
      ∙ ap (λ o. body_registers (module_registers n d) p 0 (body_of o)) is
      ∙ sym (registers_body (module_registers n d) p (find_module d s)))
    where
      os : List Op
      os = body_of (module_at d top p)

      os' : List Op
      os' = body_of (module_at d' top p)

      below : ((q : Path) (t : Name) → module_at d top q ≡ find_module d t → module_at d' top q ≡ find_module d' t
          → map bare_slot (module_registers n d' q t) ≡ flat_map lower_slot (module_registers n d q t))
          → Alike (module_registers n d) (λ q t. map bare_slot (module_registers n d' q t)) p 0 (anchors (body_of (module_at d top p)))
      below inner v w o t sum at_v called =
          let here : slice_get (instances (body_of (module_at d top p))) w ≡ Some o = ap₂ slice_get (sym (instances-anchors (body_of (module_at d top p)))) (sum ∙ zero-add v) ∙ at_v in
          let leads = leads_to p w o t here called in
          inner (w ∷ p) t leads.0 leads.1

  pub registers_same : map bare_slot (registers d' top) ≡ flat_map lower_slot (registers d top)
  registers_same = ap (λ n. map bare_slot (module_registers (suc n) d' [] top)) same ∙ module_registers_same (suc (length d)) [] top refl refl

  -- ---- each register stands in the body at its path

  abbrev pub Stands : Slot → Type 0
  Stands x = (j : ℕ) × (slice_get (body_of (module_at d top x.path)) j ≡ Some x.op) × (is_register x.op ≡ true)

  registers_stand : (n : ℕ) (p : Path) (s : Name) → module_at d top p ≡ find_module d s → (x : Slot) → In x (module_registers n d p s) → Stands x
  registers_stand zero p s is x here = absurd here
  registers_stand (suc n) p s is x here =
      go (λ q t. registers_stand n q t) (from_registers (module_registers n d) p x (body_of (find_module d s)) 0 (subst (In x) (registers_body (module_registers n d) p (find_module d s)) here))
    where
      go : ((q : Path) (t : Name) → module_at d top q ≡ find_module d t → (y : Slot) → In y (module_registers n d q t) → Stands y)
          → ((o : Op) × In o (body_of (find_module d s)) × (is_register o ≡ true) × (x ≡ record { path = p; op = o }))
          ⊎ ((v : ℕ) × (o : Op) × (t : Name) × (slice_get (instances (body_of (find_module d s))) v ≡ Some o) × (called_symbol o.kind ≡ Some t) × In x (module_registers n d ((0 + v) ∷ p) t))
          → Stands x
      go inner (inl (o, within, register, same_slot)) =
          let position = position_of_In o (body_of (find_module d s)) within in
          let here' : Stands (record { path = p; op = o }) = (position.0, ap (λ m. slice_get (body_of m) position.0) is ∙ position.1, register) in
          subst Stands (sym same_slot) here'
      go inner (inr (v, o, t, at_v, called, within)) =
          let here' : slice_get (instances (body_of (module_at d top p))) v ≡ Some o = ap (λ m. slice_get (instances (body_of m)) v) is ∙ at_v in
          inner (v ∷ p) t (leads_to p v o t here' called).0 x (subst (λ m. In x (module_registers n d (m ∷ p) t)) (zero-add v) within)

  pub all_stand : (x : Slot) → In x (registers d top) → Stands x
  all_stand = registers_stand (suc (length d)) [] top refl
