-- Lowered registers have neither enable nor synchronous reset, and single changes lead to them.
use Rattle.std.proofs.Common.{◌≡◌, ℕ, zero, suc, ◌+◌, ◌<◌, ◌≤◌, Bool, true, false, cond, nat_lt, List, [], ◌∷◌, length, map, set, Option, Some, None, slice_get, refl, sym, ap, subst, ◌∙◌, arith, length-set, option_and_then, option_map}
use Rattle.std.proofs.lemmas.Bool.{ltb-true, ltb-false}
use Rattle.std.proofs.lemmas.List.{length-map}
use Rattle.std.proofs.lemmas.Option.{slice_get-map, slice_get_within}
use Rattle.wiring.proofs.Edits.{slice_get-insert_below, slice_get-insert_at, length-insert_suc}
use Rattle.wiring.proofs.Lists.{slice_get-set_same, slice_get-set_other}
use Rattle.wiring.proofs.Options.{option_map_some}
use Rattle.hw_model.specs.Kinds.{Kind, Reset, RegisterOp}
use Rattle.hw_model.specs.Kinds.RegisterOp.{compreg, compreg_ce, firreg}
use Rattle.hw_model.specs.Kinds.Reset.{no_reset, sync_reset}
use Rattle.hw_model.specs.Kinds.Kind.{register, async_firreg}
use Rattle.hw_model.specs.Design.{Ref, Op, RegisterForm, register_form}
use Rattle.hw_model.specs.Design.Ref.{result}
use Rattle.hw_model.specs.Flat.{Register, ResetBy, register_parts, has_async_reset}
use Rattle.edit_laws.specs.Edit.{retarget}
use Rattle.edit_laws.specs.Laws.{up_ref, insert_op}
use Rattle.seq_lower.specs.Lowered.{clocked_register, plain_register, mux_for, lowered_by, lowered_register, lowered_op, lowered_at, after_muxes, after_register, next_position, lower_from, lowered}
use Rattle.seq_lower.specs.Lowered.{HasNoEnables, IsLowering, LowersBy, Lowers}

-- ---- single changes

first_change : (a b c : List Op) (n : ℕ) → IsLowering a b → LowersBy n b c → LowersBy (suc n) a c
first_change a b c zero (i, is) same = (a, refl, (i, same ∙ is))
first_change a b c (suc n) one (between, leads, last) = (between, first_change a b between n one leads, last)

lowered_leads_from : (n i : ℕ) (os : List Op) → LowersBy n os (lower_from n i os)
lowered_leads_from zero i os = refl
lowered_leads_from (suc n) i os = first_change os (lowered_at i os) (lower_from n (next_position i os) (lowered_at i os)) n (i, refl) (lowered_leads_from n (next_position i os) (lowered_at i os))

-- single changes lead to the lowered operations
pub lowered_leads : (os : List Op) → Lowers os (lowered os)
lowered_leads os = record { count = length os; leads = lowered_leads_from (length os) 0 os }

-- ---- operations without enable and reset

-- a register has no enable and no synchronous reset
abbrev IsPlain : Op → Type 0
IsPlain o = (r : Register) → clocked_register o ≡ Some r → (r.enable ≡ None) × (r.reset ≡ None)

-- a register with other operands
abbrev pub reset_to : (Ref → Ref) → ResetBy → ResetBy
reset_to f b = record { signal = f b.signal; value = f b.value }

abbrev pub register_to : (Ref → Ref) → Register → Register
register_to f r = record { next = f r.next; clock = f r.clock; enable = option_map f r.enable; reset = option_map (reset_to f) r.reset }

parts_to : (f : Ref → Ref) (e : Bool) (s : Reset) (rs : List Ref) → register_parts e s (map f rs) ≡ option_map (register_to f) (register_parts e s rs)
parts_to f false no_reset [] = refl
parts_to f false no_reset (a ∷ []) = refl
parts_to f false no_reset (a ∷ b ∷ []) = refl
parts_to f false no_reset (a ∷ b ∷ c ∷ rs) = refl
parts_to f true no_reset [] = refl
parts_to f true no_reset (a ∷ []) = refl
parts_to f true no_reset (a ∷ b ∷ []) = refl
parts_to f true no_reset (a ∷ b ∷ c ∷ []) = refl
parts_to f true no_reset (a ∷ b ∷ c ∷ d ∷ rs) = refl
parts_to f false sync_reset [] = refl
parts_to f false sync_reset (a ∷ []) = refl
parts_to f false sync_reset (a ∷ b ∷ []) = refl
parts_to f false sync_reset (a ∷ b ∷ c ∷ []) = refl
parts_to f false sync_reset (a ∷ b ∷ c ∷ d ∷ []) = refl
parts_to f false sync_reset (a ∷ b ∷ c ∷ d ∷ e ∷ rs) = refl
parts_to f true sync_reset [] = refl
parts_to f true sync_reset (a ∷ []) = refl
parts_to f true sync_reset (a ∷ b ∷ []) = refl
parts_to f true sync_reset (a ∷ b ∷ c ∷ []) = refl
parts_to f true sync_reset (a ∷ b ∷ c ∷ d ∷ []) = refl
parts_to f true sync_reset (a ∷ b ∷ c ∷ d ∷ e ∷ []) = refl
parts_to f true sync_reset (a ∷ b ∷ c ∷ d ∷ e ∷ g ∷ rs) = refl

pub register_retarget : (f : Ref → Ref) (o : Op) → clocked_register (retarget f o) ≡ option_map (register_to f) (clocked_register o)
register_retarget f o = go (has_async_reset o.kind) (register_form o.kind)
  where
    go : (b : Bool) (x : Option RegisterForm)
        → cond b None (option_and_then (λ (g : RegisterForm). register_parts g.has_enable g.reset (map f o.operands)) x)
        ≡ option_map (register_to f) (cond b None (option_and_then (λ (g : RegisterForm). register_parts g.has_enable g.reset o.operands) x))
    go true x = refl
    go false None = refl
    go false (Some g) = parts_to f g.has_enable g.reset o.operands

plain_retarget : (f : Ref → Ref) (o : Op) → IsPlain o → IsPlain (retarget f o)
plain_retarget f o plain r is =
    let from = option_map_some (register_to f) (clocked_register o) (sym (register_retarget f o) ∙ is) in
    let none = plain from.0 from.1 in
    subst (λ (z : Register). (z.enable ≡ None) × (z.reset ≡ None)) from.2 (ap (option_map f) none.0, ap (option_map (reset_to f)) none.1)

-- a lowered register
plain_is_plain : (o : Op) (s : Register) (next clock : Ref) → clocked_register o ≡ Some s → IsPlain (plain_register o next clock)
plain_is_plain o s next clock is = go o.kind is
  where
    form : (f : RegisterOp) (r : Register) → clocked_register (plain_register (record o { kind = register f no_reset }) next clock) ≡ Some r → (r.enable ≡ None) × (r.reset ≡ None)
    form compreg r h = let same : record { next = next; clock = clock; enable = None; reset = None } ≡ r = cc in subst (λ (z : Register). (z.enable ≡ None) × (z.reset ≡ None)) same (refl, refl)
    form compreg_ce r h = let same : record { next = next; clock = clock; enable = None; reset = None } ≡ r = cc in subst (λ (z : Register). (z.enable ≡ None) × (z.reset ≡ None)) same (refl, refl)
    form firreg r h = let same : record { next = next; clock = clock; enable = None; reset = None } ≡ r = cc in subst (λ (z : Register). (z.enable ≡ None) × (z.reset ≡ None)) same (refl, refl)

    go : (k : Kind) → clocked_register (record o { kind = k }) ≡ Some s → IsPlain (plain_register (record o { kind = k }) next clock)
    go (register f x) h = form f
    go async_firreg h = cc
    go _ h = cc

-- ---- positions

-- the operations before a position
abbrev PlainBelow : ℕ → List Op → Type 0
PlainBelow i os = (j : ℕ) (o : Op) → j < i → slice_get os j ≡ Some o → IsPlain o

below_one_more : (i : ℕ) (os : List Op) → PlainBelow i os → ((o : Op) → slice_get os i ≡ Some o → IsPlain o) → PlainBelow (suc i) os
below_one_more i os below here j o less is = go (nat_lt j i) refl
  where
    go : (b : Bool) → nat_lt j i ≡ b → IsPlain o
    go true t = below j o (ltb-true j i t) is
    go false t =
        let most : i ≤ j = ltb-false j i t in
        let same : j ≡ i = omega (arith, most, less) in
        here o (ap (slice_get os) (sym same) ∙ is)

below_put : (i : ℕ) (os : List Op) (c : Op) → i ≤ length os → PlainBelow i os → IsPlain c → PlainBelow (suc i) (insert_op i c os)
below_put i os c within below plain =
    below_one_more i (insert_op i c os)
    (λ j o less is.
    let from = option_map_some (retarget (up_ref i)) (slice_get os j)
    (sym (slice_get-map (retarget (up_ref i)) os j) ∙ sym (slice_get-insert_below (map (retarget (up_ref i)) os) i (retarget (up_ref i) c) j less mapped) ∙ is) in
    subst IsPlain from.2 (plain_retarget (up_ref i) from.0 (below j from.0 less from.1)))
    (λ o is.
    let there : Some (retarget (up_ref i) c) ≡ Some o = sym (slice_get-insert_at (map (retarget (up_ref i)) os) i (retarget (up_ref i) c) mapped) ∙ is in
    let same : retarget (up_ref i) c ≡ o = cc in
    subst IsPlain same (plain_retarget (up_ref i) c plain))
  where
    mapped : i ≤ length (map (retarget (up_ref i)) os)
    mapped = subst (λ n. i ≤ n) (sym (length-map os (retarget (up_ref i)))) within

below_set : (i : ℕ) (os : List Op) (c : Op) → i < length os → PlainBelow i os → IsPlain c → PlainBelow (suc i) (set os i c)
below_set i os c within below plain =
    below_one_more i (set os i c)
    (λ j o less is. below j o less (sym (slice_get-set_other os i j c (λ same. absurd (omega (arith, less, same)))) ∙ is))
    (λ o is.
    let there : Some c ≡ Some o = sym (slice_get-set_same os i c within) ∙ is in
    let same : c ≡ o = cc in
    subst IsPlain same plain)

pub length_put : (i : ℕ) (os : List Op) (c : Op) → length (insert_op i c os) ≡ suc (length os)
length_put i os c = length-insert_suc (map (retarget (up_ref i)) os) i (retarget (up_ref i) c) ∙ ap suc (length-map os (retarget (up_ref i)))

-- ---- a sweep on its way

-- the operations before a position are plain, and at most so many are left from it on
record IsSweptTo (n i : ℕ) (os : List Op) : Type 0 where
  below : PlainBelow i os
  most : length os ≤ i + n

swept_op : (n i : ℕ) (os : List Op) (o : Op) → slice_get os i ≡ Some o → IsSweptTo (suc n) i os → (x : Option Register) → clocked_register o ≡ x
    → IsSweptTo n (after_register (suc i) x) (lowered_register i o x os)
swept_op n i os o there swept None none = record {
  below = below_one_more i os swept.below (λ p is r clocked.
      let same : o ≡ p = (let both : Some o ≡ Some p = sym there ∙ is in cc) in
      let clash : None ≡ Some r = sym none ∙ ap clocked_register same ∙ clocked in
      cc);
  most = omega (arith, swept.most);
}
swept_op n i os o there swept (Some s) clocked = go s.enable refl s.reset refl
  where
    within : i < length os
    within = slice_get_within os i o there

    first_put : (c h l : Ref) → PlainBelow (suc i) (insert_op i (mux_for o c h l) os)
    first_put c h l = below_put i os (mux_for o c h l) (omega (arith, within)) swept.below (λ r h. cc)

    plain : (next clock : Ref) → IsPlain (plain_register o next clock)
    plain next clock = plain_is_plain o s next clock clocked

    one : (c h l next clock : Ref) → IsSweptTo n (suc (suc i)) (set (insert_op i (mux_for o c h l) os) (suc i) (plain_register o next clock))
    one c h l next clock =
        let size = length_put i os (mux_for o c h l) in
        let same = length-set (insert_op i (mux_for o c h l) os) (suc i) (plain_register o next clock) in
        record {
          below = below_set (suc i) (insert_op i (mux_for o c h l) os) (plain_register o next clock) (omega (arith, size, within)) (first_put c h l) (plain next clock);
          most = omega (arith, same, size, swept.most);
        }

    two : (c h l c' h' l' next clock : Ref)
        → IsSweptTo n (suc (suc (suc i))) (set (insert_op (suc i) (mux_for o c' h' l') (insert_op i (mux_for o c h l) os)) (suc (suc i)) (plain_register o next clock))
    two c h l c' h' l' next clock =
        let size = length_put i os (mux_for o c h l) in
        let more = length_put (suc i) (insert_op i (mux_for o c h l) os) (mux_for o c' h' l') in
        let same = length-set (insert_op (suc i) (mux_for o c' h' l') (insert_op i (mux_for o c h l) os)) (suc (suc i)) (plain_register o next clock) in
        record {
          below = below_set (suc (suc i)) (insert_op (suc i) (mux_for o c' h' l') (insert_op i (mux_for o c h l) os)) (plain_register o next clock)
              (omega (arith, size, more, within))
              (below_put (suc i) (insert_op i (mux_for o c h l) os) (mux_for o c' h' l') (omega (arith, size, within)) (first_put c h l) (λ r h. cc))
              (plain next clock);
          most = omega (arith, same, more, size, swept.most);
        }

    go : (e : Option Ref) → s.enable ≡ e → (b : Option ResetBy) → s.reset ≡ b → IsSweptTo n (after_muxes (suc i) e b) (lowered_by i o s.next s.clock e b os)
    go None no_enable None no_reset_there = record {
      below = below_one_more i os swept.below (λ p is r again.
          let same : o ≡ p = (let both : Some o ≡ Some p = sym there ∙ is in cc) in
          let equal : s ≡ r = (let both : Some s ≡ Some r = sym clocked ∙ ap clocked_register same ∙ again in cc) in
          subst (λ (z : Register). (z.enable ≡ None) × (z.reset ≡ None)) equal (no_enable, no_reset_there));
      most = omega (arith, swept.most);
    }
    go (Some e) some None none = one e s.next (result i 0) (result i 0) (up_ref i s.clock)
    go None none (Some b) some = one b.signal b.value s.next (result i 0) (up_ref i s.clock)
    go (Some e) some (Some b) more = two e s.next (result i 0) (up_ref i b.signal) (up_ref i b.value) (result i 0) (result (suc i) 0) (up_ref (suc i) (up_ref i s.clock))

swept_once : (n i : ℕ) (os : List Op) → IsSweptTo (suc n) i os → IsSweptTo n (next_position i os) (lowered_at i os)
swept_once n i os swept = go (slice_get os i) refl
  where
    go : (x : Option Op) → slice_get os i ≡ x → IsSweptTo n (after_register (suc i) (option_and_then clocked_register x)) (lowered_op i x os)
    go None none = record {
      below = below_one_more i os swept.below (λ p is. let clash : None ≡ Some p = sym none ∙ is in cc);
      most = omega (arith, swept.most);
    }
    go (Some o) there = swept_op n i os o there swept (clocked_register o) refl

swept_all : (n i : ℕ) (os : List Op) → IsSweptTo n i os → HasNoEnables (lower_from n i os)
swept_all zero i os swept = λ j o r is clocked. swept.below j o (let inside = slice_get_within os j o is in omega (arith, inside, swept.most)) is r clocked
swept_all (suc n) i os swept = swept_all n (next_position i os) (lowered_at i os) (swept_once n i os swept)

-- no register has an enable or a synchronous reset
pub lowered_has_none : (os : List Op) → HasNoEnables (lowered os)
lowered_has_none os = swept_all (length os) 0 os (record { below = λ j o less. absurd (omega (arith, less)); most = omega arith })
