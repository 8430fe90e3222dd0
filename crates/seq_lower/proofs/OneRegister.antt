-- One register of a fit design is lowered: the design with it follows, and is no heavier.
use Rattle.std.proofs.Common.{◌≡◌, ℕ, suc, ◌+◌, ◌*◌, ◌≤◌, cond, List, length, set, Option, Some, None, slice_get, refl, sym, ap, ap₂, subst, ◌∙◌, arith, set-set, option_and_then, option_map}
use Rattle.std.proofs.lemmas.Option.{slice_get_within}
use Rattle.bits_core.specs.Word.{Word}
use Rattle.hw_model.specs.Types.{Name, HwType}
use Rattle.hw_model.specs.Types.HwType.{int}
use Rattle.hw_model.specs.Kinds.{RegisterOp}
use Rattle.hw_model.specs.Kinds.RegisterOp.{compreg, compreg_ce, firreg}
use Rattle.hw_model.specs.Kinds.Kind.{register}
use Rattle.hw_model.specs.Design.{Ref, OpResult, Op, Module, Design, result_type}
use Rattle.hw_model.specs.Design.Ref.{result}
use Rattle.hw_model.specs.Flat.{Register, ResetBy}
use Rattle.hw_model.specs.Meaning.{reset, value_if_enabled}
use Rattle.hw_model.specs.Sound.{type_in}
use Rattle.hw_model.specs.Value.{is_high}
use Rattle.hw_model.specs.Weight.{leaf_count, kind_weight, body_weight}
use Rattle.edit_laws.specs.Edit.{retarget, Holds}
use Rattle.edit_laws.specs.Laws.{up, up_ref, insert_op, with_body}
use Rattle.edit_laws.proofs.Weights.{weight_with_body, weight-set}
use Rattle.acceptance_laws.specs.Keeps.{IsFit}
use Rattle.fold_laws.proofs.PutIn.{weight_put}
use Rattle.pass_laws.specs.Steady.{IsSteady}
use Rattle.pass_laws.proofs.Steady.{steady_then}
use Rattle.pass_laws.proofs.Steps.{Keeps, keeps_self, module_there}
use Rattle.wiring.proofs.Lists.{set_some}
use Rattle.seq_lower.specs.Lowered.{clocked_register, plain_kind, plain_register, mux_for, lowered_by, lowered_register, lowered_op, lowered_at}
use Rattle.seq_lower.proofs.Plain.{reset_to, register_to}
use Rattle.seq_lower.proofs.RegisterFacts.{mux_weight, parts_weight, HasForm, form_of, IsRegister, only_type, is_register_of}
use Rattle.seq_lower.proofs.PlainRegister.{plain_loaded}
use Rattle.seq_lower.proofs.MuxSteps.{up_here, up_below, mux_word, IsAfterMux, mux_step, old_after}

-- what holds of a design whose module has these operations
abbrev pub Followed : Design → ℕ → Module → List Op → Type 0
Followed d k m os = Keeps d (with_body d k m os)

followed_self : (d : Design) (k : ℕ) (m : Module) → IsFit d → slice_get d k ≡ Some m → Followed d k m m.body
followed_self d k m fit at = subst (Keeps d) (sym (set_some d k m at)) (keeps_self d fit)

-- steps one after another
two_steps : (d : Design) (k : ℕ) (m : Module) (os os' : List Op) → IsSteady d (with_body d k m os) → IsSteady (with_body d k m os) (with_body (with_body d k m os) k (record m { body = os }) os')
    → IsSteady d (with_body d k m os')
two_steps d k m os os' first second =
    subst (IsSteady d) (set-set d k (record m { body = os }) (record m { body = os' }))
    (steady_then d (with_body d k m os) (with_body (with_body d k m os) k (record m { body = os }) os') first second)

-- ---- weights

same_weight : (f : Ref → Ref) (e : Option Ref) (b : Option ResetBy) → mux_weight (option_map f e) (option_map (reset_to f) b) ≡ mux_weight e b
same_weight f None None = refl
same_weight f (Some e) None = refl
same_weight f None (Some b) = refl
same_weight f (Some e) (Some b) = refl

module _ (inner : Name → ℕ) (o : Op) (r : Register) (f : HasForm o r) where
  -- a register weighs as much as a plain one and its muxes
  register_is : kind_weight inner o.kind o.types (length o.operands) ≡ (3 + mux_weight r.enable r.reset) * leaf_count o.types
  register_is = ap (λ z. kind_weight inner z o.types (length o.operands)) f.kind ∙ ap (λ n. n * leaf_count o.types) (parts_weight _ f.with_reset o.operands r f.parts f.form refl)

  plain_is : (next clock : Ref) → kind_weight inner (plain_register o next clock).kind o.types 2 ≡ 3 * leaf_count o.types
  plain_is next clock = ap (λ z. kind_weight inner (plain_kind z) o.types 2) f.kind ∙ go f.form
    where
      go : (g : RegisterOp) → kind_weight inner (plain_kind (register g f.with_reset)) o.types 2 ≡ 3 * leaf_count o.types
      go compreg = refl
      go compreg_ce = refl
      go firreg = refl

module _ (d : Design) (fit : IsFit d) (k : ℕ) (md : Module) (at : slice_get d k ≡ Some md) (i : ℕ) (o : Op) (r : Register) (t : HwType) (is : IsRegister md i o r t)
    (f : HasForm o r) where
  within : i ≤ length md.body
  within = let inside = slice_get_within md.body i o is.there in omega (arith, inside)

  -- ---- one mux

  module _ (c h l : Ref) (c_typed : type_in md.ports md.body c ≡ Some (int 1)) (h_typed : type_in md.ports md.body h ≡ Some t)
      (l_typed : type_in md.ports md.body l ≡ Some t) (four : mux_weight r.enable r.reset ≡ 4)
      (chooses : (τ : Ref → Word) → cond (is_high (τ (up_ref i c))) (τ (up_ref i h)) (τ (up_ref i l))
      ≡ reset (option_map (reset_to (up_ref i)) r.reset) τ (value_if_enabled (option_map (up_ref i) r.enable) τ (τ (result (suc i) 0)) (τ (up_ref i r.next)))) where
    abbrev with_one : List Op
    with_one = insert_op i (mux_for o c h l) md.body

    step : IsAfterMux d k md i o r t c h l
    step = mux_step d fit k md at i o r t is f c h l c_typed h_typed l_typed

    one_steady : IsSteady d (with_body d k md (set with_one (suc i) (plain_register o (result i 0) (up_ref i r.clock))))
    one_steady =
        two_steps d k md with_one (set with_one (suc i) (plain_register o (result i 0) (up_ref i r.clock))) step.steady
        (plain_loaded (with_body d k md with_one) step.steady.fit k (record md { body = with_one }) step.at (suc i) (retarget (up_ref i) o) (register_to (up_ref i) r) t step.is step.form
        (result i 0) step.mux_typed
        (λ τ holds. mux_word with_one τ holds i o (up_ref i c) (up_ref i h) (up_ref i l) t step.mux_there is.results ∙ chooses τ))

    one_weight : (inner : Name → ℕ) → body_weight inner (set with_one (suc i) (plain_register o (result i 0) (up_ref i r.clock))) ≤ body_weight inner md.body
    one_weight inner =
        let sum : kind_weight inner o.kind o.types (length (retarget (up_ref i) o).operands) + body_weight inner (set with_one (suc i) (plain_register o (result i 0) (up_ref i r.clock)))
        ≡ kind_weight inner (plain_kind o.kind) o.types 2 + body_weight inner with_one =
        weight-set inner with_one (suc i) (retarget (up_ref i) o) (plain_register o (result i 0) (up_ref i r.clock)) step.is.there in
        let put : body_weight inner with_one ≡ 4 * leaf_count o.types + body_weight inner md.body = weight_put md.body i (mux_for o c h l) within inner in
        let old : kind_weight inner o.kind o.types (length (retarget (up_ref i) o).operands) ≡ (3 + mux_weight (option_map (up_ref i) r.enable) (option_map (reset_to (up_ref i)) r.reset)) * leaf_count o.types =
        register_is inner (retarget (up_ref i) o) (register_to (up_ref i) r) step.form in
        let new : kind_weight inner (plain_kind o.kind) o.types 2 ≡ 3 * leaf_count o.types = plain_is inner o r f (result i 0) (up_ref i r.clock) in
        let more : (3 + mux_weight (option_map (up_ref i) r.enable) (option_map (reset_to (up_ref i)) r.reset)) * leaf_count o.types ≡ 7 * leaf_count o.types =
        ap (λ n. (3 + n) * leaf_count o.types) (same_weight (up_ref i) r.enable r.reset ∙ four) in
        omega (arith, sum, put, old, new, more)

    pub one_followed : Followed d k md (set with_one (suc i) (plain_register o (result i 0) (up_ref i r.clock)))
    one_followed = record { steady = one_steady; lighter = weight_with_body d k md (set with_one (suc i) (plain_register o (result i 0) (up_ref i r.clock))) at one_weight }

  -- ---- two muxes

  module _ (e : Ref) (b : ResetBy) (enable : r.enable ≡ Some e) (reset_by : r.reset ≡ Some b) where
    abbrev with_first : List Op
    with_first = insert_op i (mux_for o e r.next (result i 0)) md.body

    abbrev with_both : List Op
    with_both = insert_op (suc i) (mux_for o (up_ref i b.signal) (up_ref i b.value) (result i 0)) with_first

    abbrev lowered_body : List Op
    lowered_body = set with_both (suc (suc i)) (plain_register o (result (suc i) 0) (up_ref (suc i) (up_ref i r.clock)))

    held_typed : type_in md.ports md.body (result i 0) ≡ Some t
    held_typed = ap (λ x. option_and_then (λ (y : Op). result_type y 0) x) is.there ∙ ap (λ (rs : List OpResult). option_map (λ (x : OpResult). x.type) (slice_get rs 0)) is.results

    first : IsAfterMux d k md i o r t e r.next (result i 0)
    first = mux_step d fit k md at i o r t is f e r.next (result i 0) (is.parts.enable e enable).0 is.parts.next_typed held_typed

    second : IsAfterMux (with_body d k md with_first) k (record md { body = with_first }) (suc i) (retarget (up_ref i) o) (register_to (up_ref i) r) t
        (up_ref i b.signal) (up_ref i b.value) (result i 0)
    second =
        mux_step (with_body d k md with_first) first.steady.fit k (record md { body = with_first }) first.at (suc i) (retarget (up_ref i) o) (register_to (up_ref i) r) t first.is first.form
        (up_ref i b.signal) (up_ref i b.value) (result i 0) (first.typed b.signal ∙ (is.parts.reset b reset_by).0) (first.typed b.value ∙ (is.parts.reset b reset_by).1) first.mux_typed

    put_steady : IsSteady d (with_body d k md with_both)
    put_steady = two_steps d k md with_first with_both first.steady second.steady

    at_both : slice_get (with_body d k md with_both) k ≡ Some (record md { body = with_both })
    at_both = module_there d k md with_both at

    -- the first mux stands before the second
    first_there : slice_get with_both i ≡ Some (mux_for o (up_ref (suc i) (up_ref i e)) (up_ref (suc i) (up_ref i r.next)) (up_ref (suc i) (up_ref i (result i 0))))
    first_there =
        let inside : suc i ≤ length with_first = (let below = slice_get_within with_first (suc i) (retarget (up_ref i) o) first.is.there in omega (arith, below)) in
        ap (slice_get with_both) (sym (up_below i)) ∙ old_after with_first (suc i) (mux_for o (up_ref i b.signal) (up_ref i b.value) (result i 0)) inside i
        ∙ ap (option_map (retarget (up_ref (suc i)))) first.mux_there

    chooses : (τ : Ref → Word) → Holds with_both τ → τ (result (suc i) 0)
        ≡ reset (option_map (reset_to (up_ref (suc i))) (option_map (reset_to (up_ref i)) r.reset)) τ
        (value_if_enabled (option_map (up_ref (suc i)) (option_map (up_ref i) r.enable)) τ (τ (result (suc (suc i)) 0)) (τ (up_ref (suc i) (up_ref i r.next))))
    chooses τ holds =
        mux_word with_both τ holds (suc i) o (up_ref (suc i) (up_ref i b.signal)) (up_ref (suc i) (up_ref i b.value)) (up_ref (suc i) (result i 0)) t second.mux_there is.results
        ∙ ap (cond (is_high (τ (up_ref (suc i) (up_ref i b.signal)))) (τ (up_ref (suc i) (up_ref i b.value))))
        (ap (λ n. τ (result n 0)) (up_below i)
        ∙ mux_word with_both τ holds i o (up_ref (suc i) (up_ref i e)) (up_ref (suc i) (up_ref i r.next)) (up_ref (suc i) (up_ref i (result i 0))) t first_there is.results
        ∙ ap (λ n. cond (is_high (τ (up_ref (suc i) (up_ref i e)))) (τ (up_ref (suc i) (up_ref i r.next))) (τ (result n 0))) (ap (up (suc i)) (up_here i) ∙ up_here (suc i)))
        ∙ sym (ap₂ (λ x y. reset (option_map (reset_to (up_ref (suc i))) (option_map (reset_to (up_ref i)) x)) τ
        (value_if_enabled (option_map (up_ref (suc i)) (option_map (up_ref i) y)) τ (τ (result (suc (suc i)) 0)) (τ (up_ref (suc i) (up_ref i r.next))))) reset_by enable)

    both_steady : IsSteady d (with_body d k md lowered_body)
    both_steady =
        two_steps d k md with_both lowered_body put_steady
        (plain_loaded (with_body d k md with_both) put_steady.fit k (record md { body = with_both }) at_both (suc (suc i)) (retarget (up_ref (suc i)) (retarget (up_ref i) o))
        (register_to (up_ref (suc i)) (register_to (up_ref i) r)) t second.is second.form (result (suc i) 0) second.mux_typed chooses)

    both_weight : (inner : Name → ℕ) → body_weight inner lowered_body ≤ body_weight inner md.body
    both_weight inner =
        let sum : kind_weight inner o.kind o.types (length (retarget (up_ref (suc i)) (retarget (up_ref i) o)).operands) + body_weight inner lowered_body
        ≡ kind_weight inner (plain_kind o.kind) o.types 2 + body_weight inner with_both =
        weight-set inner with_both (suc (suc i)) (retarget (up_ref (suc i)) (retarget (up_ref i) o)) (plain_register o (result (suc i) 0) (up_ref (suc i) (up_ref i r.clock))) second.is.there in
        let inside : suc i ≤ length with_first = (let below = slice_get_within with_first (suc i) (retarget (up_ref i) o) first.is.there in omega (arith, below)) in
        let put : body_weight inner with_first ≡ 4 * leaf_count o.types + body_weight inner md.body = weight_put md.body i (mux_for o e r.next (result i 0)) within inner in
        let again : body_weight inner with_both ≡ 4 * leaf_count o.types + body_weight inner with_first =
        weight_put with_first (suc i) (mux_for o (up_ref i b.signal) (up_ref i b.value) (result i 0)) inside inner in
        let old : kind_weight inner o.kind o.types (length (retarget (up_ref (suc i)) (retarget (up_ref i) o)).operands)
        ≡ (3 + mux_weight (option_map (up_ref (suc i)) (option_map (up_ref i) r.enable)) (option_map (reset_to (up_ref (suc i))) (option_map (reset_to (up_ref i)) r.reset))) * leaf_count o.types =
        register_is inner (retarget (up_ref (suc i)) (retarget (up_ref i) o)) (register_to (up_ref (suc i)) (register_to (up_ref i) r)) second.form in
        let new : kind_weight inner (plain_kind o.kind) o.types 2 ≡ 3 * leaf_count o.types = plain_is inner o r f (result i 0) (up_ref i r.clock) in
        let more : (3 + mux_weight (option_map (up_ref (suc i)) (option_map (up_ref i) r.enable)) (option_map (reset_to (up_ref (suc i))) (option_map (reset_to (up_ref i)) r.reset))) * leaf_count o.types ≡ 11 * leaf_count o.types =
        ap (λ n. (3 + n) * leaf_count o.types)
        (same_weight (up_ref (suc i)) (option_map (up_ref i) r.enable) (option_map (reset_to (up_ref i)) r.reset) ∙ same_weight (up_ref i) r.enable r.reset ∙ ap₂ mux_weight enable reset_by) in
        omega (arith, sum, put, again, old, new, more)

    pub both_followed : Followed d k md lowered_body
    both_followed = record { steady = both_steady; lighter = weight_with_body d k md lowered_body at both_weight }

  -- ---- the register

  by_operands : (e : Option Ref) (b : Option ResetBy) → r.enable ≡ e → r.reset ≡ b → Followed d k md (lowered_by i o r.next r.clock e b md.body)
  by_operands None None no_enable none = followed_self d k md fit at
  by_operands (Some e) None some none =
      one_followed e r.next (result i 0) (is.parts.enable e some).0 is.parts.next_typed
      (ap (λ x. option_and_then (λ (y : Op). result_type y 0) x) is.there ∙ ap (λ (rs : List OpResult). option_map (λ (x : OpResult). x.type) (slice_get rs 0)) is.results)
      (ap₂ mux_weight some none)
      (λ τ. ap (λ n. cond (is_high (τ (up_ref i e))) (τ (up_ref i r.next)) (τ (result n 0))) (up_here i)
      ∙ sym (ap₂ (λ x y. reset (option_map (reset_to (up_ref i)) x) τ (value_if_enabled (option_map (up_ref i) y) τ (τ (result (suc i) 0)) (τ (up_ref i r.next)))) none some))
  by_operands None (Some b) none some =
      one_followed b.signal b.value r.next (is.parts.reset b some).0 (is.parts.reset b some).1 is.parts.next_typed
      (ap₂ mux_weight none some)
      (λ τ. sym (ap₂ (λ x y. reset (option_map (reset_to (up_ref i)) x) τ (value_if_enabled (option_map (up_ref i) y) τ (τ (result (suc i) 0)) (τ (up_ref i r.next)))) some none))
  by_operands (Some e) (Some b) some more = both_followed e b some more

  pub register_followed : Followed d k md (lowered_register i o (Some r) md.body)
  register_followed = by_operands r.enable r.reset refl refl

-- one operation of a module of a fit design is lowered
pub lowered_once : (d : Design) (k : ℕ) (md : Module) (i : ℕ) → IsFit d → slice_get d k ≡ Some md → Followed d k md (lowered_at i md.body)
lowered_once d k md i fit at = go (slice_get md.body i) refl
  where
    of_op : (o : Op) → slice_get md.body i ≡ Some o → (x : Option Register) → clocked_register o ≡ x → Followed d k md (lowered_register i o x md.body)
    of_op o there None none = followed_self d k md fit at
    of_op o there (Some r) clocked =
        register_followed d fit k md at i o r (only_type d fit k md at i o there r clocked).0 (is_register_of d fit k md at i o there r clocked) (form_of o r clocked)

    go : (x : Option Op) → slice_get md.body i ≡ x → Followed d k md (lowered_op i x md.body)
    go None none = followed_self d k md fit at
    go (Some o) there = of_op o there (clocked_register o) refl
