-- What the leaves of a register hold after a step, joined, is what the register holds.
use Rattle.std.proofs.Common.{◌≡◌, ℕ, suc, ◌+◌, Bool, true, false, cond, List, [], ◌∷◌, ◌++◌, length, map, drop, flat_map, slice_get, Option, Some, None, is_some, refl, sym, ap, ap₂, subst, ◌∙◌, inl}
use Rattle.std.proofs.Common.{inr, arith, zero-add, add-zero, append-nil, length-append, option_and_then}
use Rattle.wiring.specs.Wiring.{In}
use Rattle.bits_core.specs.Word.{Word, first}
use Rattle.bits_core.proofs.First.{first_all, first-first}
use Rattle.hw_model.specs.Types.{Name, HwType, width, leaves}
use Rattle.hw_model.specs.Types.HwType.{int, clock}
use Rattle.hw_model.specs.Kinds.{Kind, Reset}
use Rattle.hw_model.specs.Kinds.Reset.{no_reset, sync_reset}
use Rattle.hw_model.specs.Kinds.Kind.{register, async_firreg}
use Rattle.hw_model.specs.Value.{concat_words, is_high}
use Rattle.hw_model.specs.Design.{Ref, Op, Design, RegisterForm, find_module, register_form, takes_enable, is_register, result_type}
use Rattle.hw_model.specs.Flat.{Path, Net, net, Slot, module_at, held_width, width_of, register_parts, has_async_reset, async_parts, registers}
use Rattle.hw_model.specs.Meaning.{map_slots, next_value, next_in, next_content, rise_value, rise_in, risen_content}
use Rattle.hw_model.specs.Sound.{HasWidth, body_of, ports_of, type_in, register_types, Sound, Fits}
use Rattle.hw_model.proofs.Content.{slots_width, map_slots-append}
use Rattle.hw_model.proofs.NetWidths.{sound_at}
use Rattle.aggregate_laws.specs.Leaves.{part, or_undefined, bare, bare_kind, leaf_operands, leaf_registers, leaves_of}
use Rattle.aggregate_laws.specs.Lowered.{whole, LoweredWell}
use Rattle.aggregate_laws.proofs.Words.{widths, leaves_width, first_parts}
use Rattle.aggregate_laws.proofs.Bare.{form_bare, async_bare, register_in_bare, async_reset_bare, map_slots_bare}
use Rattle.aggregate_laws.proofs.Anchors.{lowered_register}
use Rattle.aggregate_laws.proofs.Paths.{low, parts_at}
use Rattle.aggregate_laws.proofs.Nets.{back}
use Rattle.aggregate_laws.proofs.RegisterLists.{lower_slot, registers_same, Stands, all_stand}

-- ---- what a register does: it loads its data, or its reset value, or it keeps what it holds

data Choice : Type 0 where
  loads resets keeps : Choice

abbrev chosen : Choice → Word → Word → Word → Word
chosen loads x v old = x
chosen resets x v old = v
chosen keeps x v old = old

by_clock : (b : Bool) (x v old : Word) → cond b x old ≡ chosen (cond b loads keeps) x v old
by_clock true x v old = refl
by_clock false x v old = refl

by_enable : (b e : Bool) (x v old : Word) → cond b (cond e x old) old ≡ chosen (cond b (cond e loads keeps) keeps) x v old
by_enable true true x v old = refl
by_enable true false x v old = refl
by_enable false e x v old = refl

by_reset : (b r : Bool) (x v old : Word) → cond b (cond r v x) old ≡ chosen (cond b (cond r resets loads) keeps) x v old
by_reset true true x v old = refl
by_reset true false x v old = refl
by_reset false r x v old = refl

by_both : (b r e : Bool) (x v old : Word) → cond b (cond r v (cond e x old)) old ≡ chosen (cond b (cond r resets (cond e loads keeps)) keeps) x v old
by_both true true e x v old = refl
by_both true false true x v old = refl
by_both true false false x v old = refl
by_both false r e x v old = refl

by_rise : (b r : Bool) (x v old : Word) → cond b old (cond r v old) ≡ chosen (cond b keeps (cond r resets keeps)) x v old
by_rise true r x v old = refl
by_rise false true x v old = refl
by_rise false false x v old = refl

-- ---- a word leaf by leaf

-- what the leaves of a word give, `gives` saying it from the number of the leaf and what it held
abbrev by_leaves : (ℕ → Word → Word) → ℕ → List HwType → Word → Word
by_leaves gives n [] c = []
by_leaves gives n (t ∷ ts) c = first (width t) (gives n (first (width t) c)) ++ by_leaves gives (suc n) ts (drop (width t) c)

leaves_keep : (n : ℕ) (ts : List HwType) (c : Word) → by_leaves (λ i old. old) n ts c ≡ first (widths ts) c
leaves_keep n [] c = refl
leaves_keep n (t ∷ ts) c =
    ap₂ (λ x y. x ++ y) (first-first (width t) c) (leaves_keep (suc n) ts (drop (width t) c)) ∙ first_parts (width t) (widths ts) c

by_leaves_same : (f g : ℕ → Word → Word) → ((i : ℕ) (old : Word) → f i old ≡ g i old) → (n : ℕ) (ts : List HwType) (c : Word) → by_leaves f n ts c ≡ by_leaves g n ts c
by_leaves_same f g same n [] c = refl
by_leaves_same f g same n (t ∷ ts) c =
    ap₂ (λ x y. first (width t) x ++ y) (same n (first (width t) c)) (by_leaves_same f g same (suc n) ts (drop (width t) c))

slots_by_leaves : (gives : Slot → Word → Word) (f : ℕ → Word → Word) (p : Path) (K : Kind) (g : ℕ → List Ref)
    → ((i : ℕ) (t : HwType) (old : Word) → gives (record { path = p; op = bare K (g i) (t ∷ []) }) old ≡ f i old)
    → (n : ℕ) (ts : List HwType) (c : Word) → map_slots gives (map (λ (o : Op). record { path = p; op = o }) (leaf_registers K g n ts)) c ≡ by_leaves f n ts c
slots_by_leaves gives f p K g same n [] c = refl
slots_by_leaves gives f p K g same n (t ∷ ts) c =
    ap₂ (λ x y. first (width t) x ++ y) (same n t (first (width t) c)) (slots_by_leaves gives f p K g same (suc n) ts (drop (width t) c))

slots_width_leaves : (p : Path) (K : Kind) (g : ℕ → List Ref) (n : ℕ) (ts : List HwType) → slots_width (map (λ (o : Op). record { path = p; op = o }) (leaf_registers K g n ts)) ≡ widths ts
slots_width_leaves p K g n [] = refl
slots_width_leaves p K g n (t ∷ ts) = ap (λ m. width t + m) (slots_width_leaves p K g (suc n) ts)

module _ (type_of : Ref → Option HwType) (τ : Ref → Word) (wide : (r : Ref) → HasWidth (type_of r) (τ r)) where
  has_width : (r : Ref) (t : HwType) → type_of r ≡ Some t → length (τ r) ≡ width t
  has_width r t is = subst (λ x. HasWidth x (τ r)) is (wide r)

  pub joined_width : (rs : List Ref) (ts : List HwType) → map type_of rs ≡ map (λ (u : HwType). Some u) ts → length (concat_words (map τ rs)) ≡ widths ts
  joined_width [] [] typed = refl
  joined_width [] (t ∷ ts) typed = cc
  joined_width (r ∷ rs) [] typed = cc
  joined_width (r ∷ rs) (t ∷ ts) typed =
      length-append (τ r) (concat_words (map τ rs)) ∙ ap₂ (λ a b. a + b) (has_width r t cc) (joined_width rs ts cc)

  leaves_take : (f : ℕ → Word → Word) (n : ℕ) (rs : List Ref) (ts : List HwType) (c : Word) → map type_of rs ≡ map (λ (u : HwType). Some u) ts
      → ((i : ℕ) (r : Ref) (old : Word) → slice_get rs i ≡ Some r → f (n + i) old ≡ τ r) → by_leaves f n ts c ≡ concat_words (map τ rs)
  leaves_take f n [] [] c typed takes = refl
  leaves_take f n [] (t ∷ ts) c typed takes = cc
  leaves_take f n (r ∷ rs) [] c typed takes = cc
  leaves_take f n (r ∷ rs) (t ∷ ts) c typed takes =
      ap₂ (λ x y. x ++ y)
      (ap (first (width t)) (ap (λ (m : ℕ). f m (first (width t) c)) (sym (add-zero n)) ∙ takes 0 r (first (width t) c) refl)
      ∙ first_all (width t) (τ r) (has_width r t cc))
      (leaves_take f (suc n) rs ts (drop (width t) c) (cc)
      (λ i x old is. ap (λ (m : ℕ). f m old) (let e : suc n + i ≡ n + suc i = omega arith in e) ∙ takes (suc i) x old is))

  part_of : (rs : List Ref) (i : ℕ) (r : Ref) → slice_get rs i ≡ Some r → τ (part rs (0 + i)) ≡ τ r
  part_of rs i r is = ap (λ m. τ (part rs m)) (zero-add i) ∙ ap (λ x. τ (or_undefined x)) is

  -- a choice is made leaf by leaf
  leaves_choose : (ch : Choice) (ds vs : List Ref) (t : HwType) → map type_of ds ≡ map (λ (u : HwType). Some u) (leaves t) → map type_of vs ≡ map (λ (u : HwType). Some u) (leaves t)
      → (c : Word) → by_leaves (λ i old. chosen ch (τ (part ds i)) (τ (part vs i)) old) 0 (leaves t) c
      ≡ first (width t) (chosen ch (concat_words (map τ ds)) (concat_words (map τ vs)) (first (width t) c))
  leaves_choose loads ds vs t data_typed value_typed c =
      leaves_take (λ i old. τ (part ds i)) 0 ds (leaves t) c data_typed (λ i r old is. part_of ds i r is)
      ∙ sym (first_all (width t) (concat_words (map τ ds)) (joined_width ds (leaves t) data_typed ∙ leaves_width t))
  leaves_choose resets ds vs t data_typed value_typed c =
      leaves_take (λ i old. τ (part vs i)) 0 vs (leaves t) c value_typed (λ i r old is. part_of vs i r is)
      ∙ sym (first_all (width t) (concat_words (map τ vs)) (joined_width vs (leaves t) value_typed ∙ leaves_width t))
  leaves_choose keeps ds vs t data_typed value_typed c =
      leaves_keep 0 (leaves t) c ∙ ap (λ w. first w c) (leaves_width t) ∙ sym (first-first (width t) c)

-- ---- the operands of a register

pub register_fits : (k : Kind) (f : RegisterForm) (ts : List HwType) (xs : List (Option HwType)) (t : HwType) (n : ℕ) → register_form k ≡ Some f → Fits k ts xs t n
    → xs ≡ register_types f.has_enable f.reset t
register_fits (register g r) f ts xs t n is fits =
    let same : record { has_enable = takes_enable g; reset = r } ≡ f = cc in
    subst (λ (h : RegisterForm). xs ≡ register_types h.has_enable h.reset t) same fits
register_fits async_firreg f ts xs t n is fits =
    let same : record { has_enable = false; reset = sync_reset } ≡ f = cc in
    subst (λ (h : RegisterForm). xs ≡ register_types h.has_enable h.reset t) same fits
register_fits k f ts xs t n is fits = cc

async_form : (k : Kind) → has_async_reset k ≡ true → register_form k ≡ Some (record { has_enable = false; reset = sync_reset })
async_form async_firreg is = refl
async_form k is = cc

-- one value stands for a value with one leaf
pub single : (f : Ref → Option HwType) (rs : List Ref) (x : Option HwType) → map f rs ≡ x ∷ [] → (r : Ref) × (rs ≡ r ∷ [])
single f [] x is = cc
single f (r ∷ []) x is = (r, refl)
single f (r ∷ s ∷ rs) x is = cc

-- what the leaves of a register take is chosen as what the register takes
record Chooses (type_of : Ref → Option HwType) (t : HwType) (τ : Ref → Word) (leaf_next : ℕ → Word → Word) (next : Word → Word) : Type 0 where
  ch : Choice
  ds : List Ref
  vs : List Ref
  data_typed : map type_of ds ≡ map (λ (u : HwType). Some u) (leaves t)
  value_typed : map type_of vs ≡ map (λ (u : HwType). Some u) (leaves t)
  leaf_is : (i : ℕ) (old : Word) → leaf_next i old ≡ chosen ch (τ (part ds i)) (τ (part vs i)) old
  whole_is : (old : Word) → next old ≡ chosen ch (concat_words (map τ ds)) (concat_words (map τ vs)) old

module _ (old_type new_type : Ref → Option HwType) (parts : Ref → List Ref)
    (typed : (r : Ref) (t : HwType) → old_type r ≡ Some t → map new_type (parts r) ≡ map (λ (u : HwType). Some u) (leaves t)) (t : HwType) where
  -- a value of one leaf, and its word
  one_leaf : (r : Ref) (x : HwType) → leaves x ≡ x ∷ [] → old_type r ≡ Some x → (r' : Ref) × (parts r ≡ r' ∷ []) × ((τ : Ref → Word) → is_high (whole parts τ r) ≡ is_high (τ r'))
  one_leaf r x leaf is =
      let one = single new_type (parts r) (Some x) (typed r x is ∙ ap (map (λ (u : HwType). Some u)) leaf) in (
        one.0,
        one.1,
        λ τ. ap (λ rs. is_high (concat_words (map τ rs))) one.1 ∙ ap is_high (append-nil (τ one.0)),
      )

  next_chooses : (e : Bool) (r : Reset) (rs : List Ref) (τ : Ref → Word) → map old_type rs ≡ register_types e r t
      → Chooses new_type t τ (λ i old. next_value (register_parts e r (leaf_operands e r (map parts rs) i)) τ old) (λ old. next_value (register_parts e r rs) (whole parts τ) old)
  next_chooses false no_reset (d ∷ c ∷ []) τ is =
      let clk = one_leaf c clock refl cc in
      record {
        ch = cond (is_high (τ clk.0)) loads keeps;
        ds = parts d;
        vs = parts d;
        data_typed = typed d t cc;
        value_typed = typed d t cc;
        leaf_is = λ i old.
            ap (λ cs. next_value (register_parts false no_reset (part (parts d) i ∷ cs)) τ old) clk.1
            ∙ by_clock (is_high (τ clk.0)) (τ (part (parts d) i)) (τ (part (parts d) i)) old;
        whole_is = λ old.
            ap (λ b. cond b (whole parts τ d) old) (clk.2 τ) ∙ by_clock (is_high (τ clk.0)) (whole parts τ d) (whole parts τ d) old;
      }
  next_chooses true no_reset (d ∷ c ∷ e ∷ []) τ is =
      let clk = one_leaf c clock refl cc in
      let en = one_leaf e (int 1) refl cc in
      record {
        ch = cond (is_high (τ clk.0)) (cond (is_high (τ en.0)) loads keeps) keeps;
        ds = parts d;
        vs = parts d;
        data_typed = typed d t cc;
        value_typed = typed d t cc;
        leaf_is = λ i old.
            ap₂ (λ cs es. next_value (register_parts true no_reset (part (parts d) i ∷ (cs ++ es))) τ old) clk.1 en.1
            ∙ by_enable (is_high (τ clk.0)) (is_high (τ en.0)) (τ (part (parts d) i)) (τ (part (parts d) i)) old;
        whole_is = λ old.
            ap₂ (λ b h. cond b (cond h (whole parts τ d) old) old) (clk.2 τ) (en.2 τ)
            ∙ by_enable (is_high (τ clk.0)) (is_high (τ en.0)) (whole parts τ d) (whole parts τ d) old;
      }
  next_chooses false sync_reset (d ∷ c ∷ r ∷ v ∷ []) τ is =
      let clk = one_leaf c clock refl cc in
      let rst = one_leaf r (int 1) refl cc in
      record {
        ch = cond (is_high (τ clk.0)) (cond (is_high (τ rst.0)) resets loads) keeps;
        ds = parts d;
        vs = parts v;
        data_typed = typed d t cc;
        value_typed = typed v t cc;
        leaf_is = λ i old.
            ap₂ (λ cs es. next_value (register_parts false sync_reset (part (parts d) i ∷ (cs ++ (es ++ (part (parts v) i ∷ []))))) τ old) clk.1 rst.1
            ∙ by_reset (is_high (τ clk.0)) (is_high (τ rst.0)) (τ (part (parts d) i)) (τ (part (parts v) i)) old;
        whole_is = λ old.
            ap₂ (λ b h. cond b (cond h (whole parts τ v) (whole parts τ d)) old) (clk.2 τ) (rst.2 τ)
            ∙ by_reset (is_high (τ clk.0)) (is_high (τ rst.0)) (whole parts τ d) (whole parts τ v) old;
      }
  next_chooses true sync_reset (d ∷ c ∷ e ∷ r ∷ v ∷ []) τ is =
      let clk = one_leaf c clock refl cc in
      let en = one_leaf e (int 1) refl cc in
      let rst = one_leaf r (int 1) refl cc in
      record {
        ch = cond (is_high (τ clk.0)) (cond (is_high (τ rst.0)) resets (cond (is_high (τ en.0)) loads keeps)) keeps;
        ds = parts d;
        vs = parts v;
        data_typed = typed d t cc;
        value_typed = typed v t cc;
        leaf_is = λ i old.
            ap₂ (λ cs es. next_value (register_parts true sync_reset (part (parts d) i ∷ (cs ++ (es ++ (parts r ++ (part (parts v) i ∷ [])))))) τ old) clk.1 en.1
            ∙ ap (λ rs. next_value (register_parts true sync_reset (part (parts d) i ∷ clk.0 ∷ en.0 ∷ (rs ++ (part (parts v) i ∷ [])))) τ old) rst.1
            ∙ by_both (is_high (τ clk.0)) (is_high (τ rst.0)) (is_high (τ en.0)) (τ (part (parts d) i)) (τ (part (parts v) i)) old;
        whole_is = λ old.
            ap₂ (λ b h. cond b (cond h (whole parts τ v) (cond (is_high (whole parts τ e)) (whole parts τ d) old)) old) (clk.2 τ) (rst.2 τ)
            ∙ ap (λ h. cond (is_high (τ clk.0)) (cond (is_high (τ rst.0)) (whole parts τ v) (cond h (whole parts τ d) old)) old) (en.2 τ)
            ∙ by_both (is_high (τ clk.0)) (is_high (τ rst.0)) (is_high (τ en.0)) (whole parts τ d) (whole parts τ v) old;
      }
  next_chooses _ _ _ τ is = cc

  -- and what it is reset to without its clock
  rise_chooses : (rs : List Ref) (τ υ : Ref → Word) → map old_type rs ≡ register_types false sync_reset t
      → Chooses new_type t υ (λ i old. rise_value (async_parts (leaf_operands false sync_reset (map parts rs) i)) τ υ old) (λ old. rise_value (async_parts rs) (whole parts τ) (whole parts υ) old)
  rise_chooses (d ∷ c ∷ r ∷ v ∷ []) τ υ is =
      let clk = one_leaf c clock refl cc in
      let rst = one_leaf r (int 1) refl cc in
      record {
        ch = cond (is_high (τ rst.0)) keeps (cond (is_high (υ rst.0)) resets keeps);
        ds = parts d;
        vs = parts v;
        data_typed = typed d t cc;
        value_typed = typed v t cc;
        leaf_is = λ i old.
            ap₂ (λ cs es. rise_value (async_parts (part (parts d) i ∷ (cs ++ (es ++ (part (parts v) i ∷ []))))) τ υ old) clk.1 rst.1
            ∙ by_rise (is_high (τ rst.0)) (is_high (υ rst.0)) (υ (part (parts d) i)) (υ (part (parts v) i)) old;
        whole_is = λ old.
            ap₂ (λ b h. cond b old (cond h (whole parts υ v) old)) (rst.2 τ) (rst.2 υ)
            ∙ by_rise (is_high (τ rst.0)) (is_high (υ rst.0)) (whole parts υ d) (whole parts υ v) old;
      }
  rise_chooses _ τ υ is = cc

-- ---- slots

-- slots of which each gives what its leaves give
lowered_slots : (lower : Slot → List Slot) (gives gives' : Slot → Word → Word) (ss : List Slot)
    → ((s : Slot) → In s ss → slots_width (lower s) ≡ held_width s.op)
    → ((s : Slot) (c : Word) → In s ss → map_slots gives' (lower s) c ≡ first (held_width s.op) (gives s (first (held_width s.op) c)))
    → (c : Word) → map_slots gives' (flat_map lower ss) c ≡ map_slots gives ss c
lowered_slots lower gives gives' [] sizes each c = refl
lowered_slots lower gives gives' (s ∷ ss) sizes each c =
    map_slots-append gives' (lower s) (flat_map lower ss) c
    ∙ ap₂ (λ x w. x ++ map_slots gives' (flat_map lower ss) (drop w c)) (each s c (inl refl)) (sizes s (inl refl))
    ∙ ap (λ y. first (held_width s.op) (gives s (first (held_width s.op) c)) ++ y)
    (lowered_slots lower gives gives' ss (λ x here. sizes x (inr here)) (λ x e here. each x e (inr here)) (drop (held_width s.op) c))

module _ (scale : ℕ) (d d' : Design) (each : (s : Name) → LoweredWell scale (find_module d s) (find_module d' s)) (same : length d' ≡ length d) (top : Name) (sound : Sound d) where
  abbrev typed_at_path : (p : Path) (r : Ref) (t : HwType) → type_in (ports_of (module_at d top p)) (body_of (module_at d top p)) r ≡ Some t
      → map (type_in (ports_of (module_at d' top p)) (body_of (module_at d' top p))) (parts_at scale d d' each top p r) ≡ map (λ (u : HwType). Some u) (leaves t)
  typed_at_path p = (low scale d d' each top p).typed

  form_of : (s : Slot) → is_register s.op ≡ true → (f : RegisterForm) × (register_form s.op.kind ≡ Some f)
  form_of s is = go (register_form s.op.kind) refl is
    where
      go : (x : Option RegisterForm) → register_form s.op.kind ≡ x → is_some x ≡ true → (f : RegisterForm) × (register_form s.op.kind ≡ Some f)
      go None none never = cc
      go (Some f) here some = (f, here)

  lowered_is : (s : Slot) (f : RegisterForm) → register_form s.op.kind ≡ Some f → (x : Option HwType) → result_type s.op 0 ≡ x
      → lower_slot scale d d' each same top s
      ≡ map (λ (o : Op). record { path = s.path; op = o }) (leaf_registers (bare_kind s.op.kind) (leaf_operands f.has_enable f.reset (map (parts_at scale d d' each top s.path) s.op.operands)) 0 (leaves_of x))
  lowered_is s f form x typed =
      ap (map (λ (o : Op). record { path = s.path; op = o }))
      (lowered_register (parts_at scale d d' each top s.path) s.op f form
      ∙ ap (λ y. leaf_registers (bare_kind s.op.kind) (leaf_operands f.has_enable f.reset (map (parts_at scale d d' each top s.path) s.op.operands)) 0 (leaves_of y)) typed)

  slot_sizes : (s : Slot) → Stands scale d d' each same top s → slots_width (lower_slot scale d d' each same top s) ≡ held_width s.op
  slot_sizes s stands =
      let form = form_of s stands.2 in
      ap slots_width (lowered_is s form.0 form.1 (result_type s.op 0) refl)
      ∙ slots_width_leaves s.path (bare_kind s.op.kind) (leaf_operands form.0.has_enable form.0.reset (map (parts_at scale d d' each top s.path) s.op.operands)) 0 (leaves_of (result_type s.op 0))
      ∙ widths_of (result_type s.op 0)
    where
      widths_of : (x : Option HwType) → widths (leaves_of x) ≡ width_of x
      widths_of None = refl
      widths_of (Some t) = leaves_width t

  -- one register, of which it is known what its leaves take
  slot_by : (s : Slot) (f : RegisterForm) → register_form s.op.kind ≡ Some f → (gives gives' : Slot → Word → Word) (υ : Ref → Word)
      → ((r : Ref) → HasWidth (type_in (ports_of (module_at d' top s.path)) (body_of (module_at d' top s.path)) r) (υ r))
      → (leaf_next : ℕ → Word → Word)
      → ((i : ℕ) (u : HwType) (old : Word)
      → gives' (record { path = s.path; op = bare (bare_kind s.op.kind) (leaf_operands f.has_enable f.reset (map (parts_at scale d d' each top s.path) s.op.operands) i) (u ∷ []) }) old ≡ leaf_next i old)
      → (x : Option HwType) → result_type s.op 0 ≡ x
      → ((t : HwType) → result_type s.op 0 ≡ Some t → Chooses (type_in (ports_of (module_at d' top s.path)) (body_of (module_at d' top s.path))) t υ leaf_next (gives s))
      → (c : Word) → map_slots gives' (lower_slot scale d d' each same top s) c ≡ first (width_of x) (gives s (first (width_of x) c))
  slot_by s f form gives gives' υ wide leaf_next leaf_is None none chooses c = ap (λ ss. map_slots gives' ss c) (lowered_is s f form None none)
  slot_by s f form gives gives' υ wide leaf_next leaf_is (Some t) typed chooses c =
      let chosen_so = chooses t typed in
      ap (λ ss. map_slots gives' ss c) (lowered_is s f form (Some t) typed)
      ∙ slots_by_leaves gives' leaf_next s.path (bare_kind s.op.kind) (leaf_operands f.has_enable f.reset (map (parts_at scale d d' each top s.path) s.op.operands)) leaf_is 0 (leaves t) c
      ∙ by_leaves_same leaf_next (λ i old. chosen chosen_so.ch (υ (part chosen_so.ds i)) (υ (part chosen_so.vs i)) old) chosen_so.leaf_is 0 (leaves t) c
      ∙ leaves_choose (type_in (ports_of (module_at d' top s.path)) (body_of (module_at d' top s.path))) υ wide chosen_so.ch chosen_so.ds chosen_so.vs t chosen_so.data_typed chosen_so.value_typed c
      ∙ ap (first (width t)) (sym (chosen_so.whole_is (first (width t) c)))

  -- the types of the operands of a register
  register_operands : (s : Slot) (stands : Stands scale d d' each same top s) (f : RegisterForm) → register_form s.op.kind ≡ Some f → (t : HwType) → result_type s.op 0 ≡ Some t
      → map (type_in (ports_of (module_at d top s.path)) (body_of (module_at d top s.path))) s.op.operands ≡ register_types f.has_enable f.reset t
  register_operands s stands f form t typed =
      register_fits s.op.kind f s.op.types (map (type_in (ports_of (module_at d top s.path)) (body_of (module_at d top s.path))) s.op.operands) t 0 form
      ((sound_at d sound top s.path).ops stands.0 s.op stands.1 0 t typed)

  module _ (σ : Net → Word) (wide : (p : Path) (r : Ref) → HasWidth (type_in (ports_of (module_at d' top p)) (body_of (module_at d' top p)) r) (σ (net p r))) where
    next_slot : (s : Slot) (c : Word) → Stands scale d d' each same top s
        → map_slots (next_in σ) (lower_slot scale d d' each same top s) c ≡ first (held_width s.op) (next_in (back scale d d' each same top σ) s (first (held_width s.op) c))
    next_slot s c stands =
        let form = form_of s stands.2 in
        let f : RegisterForm = form.0 in
        let τ = λ (r : Ref). σ (net s.path r) in
        let parts = parts_at scale d d' each top s.path in
        slot_by s f form.1 (next_in (back scale d d' each same top σ)) (next_in σ) (λ r. σ (net s.path r)) (wide s.path)
        (λ i old. next_value (register_parts f.has_enable f.reset (leaf_operands f.has_enable f.reset (map (parts_at scale d d' each top s.path) s.op.operands) i)) (λ r. σ (net s.path r)) old)
        (λ i u old.
        ap (λ x. next_value (option_and_then (λ (g : RegisterForm). register_parts g.has_enable g.reset (leaf_operands f.has_enable f.reset (map (parts_at scale d d' each top s.path) s.op.operands) i)) x) (λ r. σ (net s.path r)) old)
        (form_bare s.op.kind ∙ form.1))
        (result_type s.op 0) refl
        (λ t typed.
        subst (λ (x : Option RegisterForm). Chooses (type_in (ports_of (module_at d' top s.path)) (body_of (module_at d' top s.path))) t (λ r. σ (net s.path r))
        (λ i old. next_value (register_parts f.has_enable f.reset (leaf_operands f.has_enable f.reset (map (parts_at scale d d' each top s.path) s.op.operands) i)) (λ r. σ (net s.path r)) old)
        (λ old. next_value (option_and_then (λ (g : RegisterForm). register_parts g.has_enable g.reset s.op.operands) x) (whole (parts_at scale d d' each top s.path) (λ r. σ (net s.path r))) old))
        (sym form.1)
        (next_chooses (type_in (ports_of (module_at d top s.path)) (body_of (module_at d top s.path))) (type_in (ports_of (module_at d' top s.path)) (body_of (module_at d' top s.path)))
        (parts_at scale d d' each top s.path) (typed_at_path s.path) t f.has_enable f.reset s.op.operands (λ r. σ (net s.path r)) (register_operands s stands f form.1 t typed)))
        c

    pub next_same : (content : Word) → next_content (registers d' top) σ content ≡ next_content (registers d top) (back scale d d' each same top σ) content
    next_same content =
        sym (map_slots_bare (next_in σ) (λ s old. ap (λ x. next_value x (λ r. σ (net s.path r)) old) (register_in_bare s.op)) (registers d' top) content)
        ∙ ap (λ ss. map_slots (next_in σ) ss content) (registers_same scale d d' each same top)
        ∙ lowered_slots (lower_slot scale d d' each same top) (next_in (back scale d d' each same top σ)) (next_in σ) (registers d top)
        (λ s here. slot_sizes s (all_stand scale d d' each same top s here))
        (λ s c here. next_slot s c (all_stand scale d d' each same top s here)) content

    rise_slot : (ρ : Net → Word) (s : Slot) (c : Word) → Stands scale d d' each same top s
        → map_slots (rise_in ρ σ) (lower_slot scale d d' each same top s) c
        ≡ first (held_width s.op) (rise_in (back scale d d' each same top ρ) (back scale d d' each same top σ) s (first (held_width s.op) c))
    rise_slot ρ s c stands = go (has_async_reset s.op.kind) refl
      where
        form : (f : RegisterForm) × (register_form s.op.kind ≡ Some f)
        form = form_of s stands.2

        go : (b : Bool) → has_async_reset s.op.kind ≡ b → map_slots (rise_in ρ σ) (lower_slot scale d d' each same top s) c
            ≡ first (held_width s.op) (rise_in (back scale d d' each same top ρ) (back scale d d' each same top σ) s (first (held_width s.op) c))
        go true is =
            slot_by s (record { has_enable = false; reset = sync_reset }) (async_form s.op.kind is)
            (rise_in (back scale d d' each same top ρ) (back scale d d' each same top σ)) (rise_in ρ σ) (λ r. σ (net s.path r)) (wide s.path)
            (λ i old. rise_value (async_parts (leaf_operands false sync_reset (map (parts_at scale d d' each top s.path) s.op.operands) i)) (λ r. ρ (net s.path r)) (λ r. σ (net s.path r)) old)
            (λ i u old.
            ap (λ b. rise_value (cond b (async_parts (leaf_operands false sync_reset (map (parts_at scale d d' each top s.path) s.op.operands) i)) None) (λ r. ρ (net s.path r)) (λ r. σ (net s.path r)) old)
            (async_bare s.op.kind ∙ is))
            (result_type s.op 0) refl
            (λ t typed.
            subst (λ (b : Bool). Chooses (type_in (ports_of (module_at d' top s.path)) (body_of (module_at d' top s.path))) t (λ r. σ (net s.path r))
            (λ i old. rise_value (async_parts (leaf_operands false sync_reset (map (parts_at scale d d' each top s.path) s.op.operands) i)) (λ r. ρ (net s.path r)) (λ r. σ (net s.path r)) old)
            (λ old. rise_value (cond b (async_parts s.op.operands) None) (whole (parts_at scale d d' each top s.path) (λ r. ρ (net s.path r))) (whole (parts_at scale d d' each top s.path) (λ r. σ (net s.path r))) old))
            (sym is)
            (rise_chooses (type_in (ports_of (module_at d top s.path)) (body_of (module_at d top s.path))) (type_in (ports_of (module_at d' top s.path)) (body_of (module_at d' top s.path)))
            (parts_at scale d d' each top s.path) (typed_at_path s.path) t s.op.operands (λ r. ρ (net s.path r)) (λ r. σ (net s.path r))
            (register_operands s stands (record { has_enable = false; reset = sync_reset }) (async_form s.op.kind is) t typed)))
            c
        go false is =
            ap (λ ss. map_slots (rise_in ρ σ) ss c) (lowered_is s form.0 form.1 (result_type s.op 0) refl)
            ∙ slots_by_leaves (rise_in ρ σ) (λ i old. old) s.path (bare_kind s.op.kind) (leaf_operands form.0.has_enable form.0.reset (map (parts_at scale d d' each top s.path) s.op.operands))
            (λ i u old.
            ap (λ b. rise_value (cond b (async_parts (leaf_operands form.0.has_enable form.0.reset (map (parts_at scale d d' each top s.path) s.op.operands) i)) None) (λ r. ρ (net s.path r)) (λ r. σ (net s.path r)) old)
            (async_bare s.op.kind ∙ is)) 0 (leaves_of (result_type s.op 0)) c
            ∙ leaves_keep 0 (leaves_of (result_type s.op 0)) c ∙ by_type (result_type s.op 0)
            ∙ sym (first-first (held_width s.op) c)
            ∙ ap (first (held_width s.op))
            (sym (ap (λ b. rise_value (cond b (async_parts s.op.operands) None) (λ r. back scale d d' each same top ρ (net s.path r)) (λ r. back scale d d' each same top σ (net s.path r)) (first (held_width s.op) c)) is))
          where
            by_type : (x : Option HwType) → first (widths (leaves_of x)) c ≡ first (width_of x) c
            by_type None = refl
            by_type (Some t) = ap (λ w. first w c) (leaves_width t)

    pub rising_same : (ρ : Net → Word) (content : Word)
        → risen_content (registers d' top) ρ σ content ≡ risen_content (registers d top) (back scale d d' each same top ρ) (back scale d d' each same top σ) content
    rising_same ρ content =
        sym (map_slots_bare (rise_in ρ σ) (λ s old. ap (λ x. rise_value x (λ r. ρ (net s.path r)) (λ r. σ (net s.path r)) old) (async_reset_bare s.op)) (registers d' top) content)
        ∙ ap (λ ss. map_slots (rise_in ρ σ) ss content) (registers_same scale d d' each same top)
        ∙ lowered_slots (lower_slot scale d d' each same top) (rise_in (back scale d d' each same top ρ) (back scale d d' each same top σ)) (rise_in ρ σ) (registers d top)
        (λ s here. slot_sizes s (all_stand scale d d' each same top s here))
        (λ s c here. rise_slot ρ s c (all_stand scale d d' each same top s here)) content
