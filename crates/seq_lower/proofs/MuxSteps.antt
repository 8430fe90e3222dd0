-- A mux put in before a register of a fit design: what is then known of the register, of values and of the mux.
use Rattle.std.proofs.Common.{◌≡◌, ℕ, zero, suc, ◌≤◌, false, cond, List, [], ◌∷◌, length, map, Some, slice_get, refl, sym, ap, subst, ◌∙◌, arith, option_and_then, option_map}
use Rattle.std.proofs.lemmas.List.{length-map}
use Rattle.std.proofs.lemmas.Option.{slice_get-map, slice_get_within}
use Rattle.wiring.proofs.Edits.{slice_get-insert_at}
use Rattle.bits_core.specs.Word.{Word}
use Rattle.hw_model.specs.Types.{HwType}
use Rattle.hw_model.specs.Types.HwType.{int}
use Rattle.hw_model.specs.Design.{Ref, OpResult, Op, Module, Design, result_type}
use Rattle.hw_model.specs.Design.Ref.{port, result, undefined}
use Rattle.hw_model.specs.Flat.{Register}
use Rattle.hw_model.specs.Sound.{type_in}
use Rattle.hw_model.specs.Value.{is_high}
use Rattle.edit_laws.specs.Edit.{retarget, result_word, word_of, Holds}
use Rattle.edit_laws.specs.Laws.{up, up_ref, insert_op, with_body}
use Rattle.edit_laws.proofs.Inserted.{retarget_type}
use Rattle.edit_laws.proofs.Positions.{get_put}
use Rattle.acceptance_laws.specs.Keeps.{IsFit}
use Rattle.pass_laws.proofs.Steps.{module_there}
use Rattle.pass_laws.specs.Steady.{IsSteady}
use Rattle.seq_lower.specs.Lowered.{clocked_register, mux_for}
use Rattle.seq_lower.proofs.MuxPutIn.{mux_put_in}
use Rattle.seq_lower.proofs.Plain.{register_to, register_retarget}
use Rattle.seq_lower.proofs.RegisterFacts.{HasForm, form_of, IsRegister, only_type, is_register_of}

-- ---- positions

pub up_here : (i : ℕ) → up i i ≡ suc i
up_here zero = refl
up_here (suc i) = ap suc (up_here i)

pub up_below : (i : ℕ) → up (suc i) i ≡ i
up_below zero = refl
up_below (suc i) = ap suc (up_below i)

-- ---- bodies with an operation put in

module _ (os : List Op) (i : ℕ) (c : Op) (within : i ≤ length os) where
  mapped : i ≤ length (map (retarget (up_ref i)) os)
  mapped = subst (λ n. i ≤ n) (sym (length-map os (retarget (up_ref i)))) within

  pub old_after : (j : ℕ) → slice_get (insert_op i c os) (up i j) ≡ option_map (retarget (up_ref i)) (slice_get os j)
  old_after j = get_put (map (retarget (up_ref i)) os) i j (retarget (up_ref i) c) mapped ∙ slice_get-map (retarget (up_ref i)) os j

  pub new_there : slice_get (insert_op i c os) i ≡ Some (retarget (up_ref i) c)
  new_there = slice_get-insert_at (map (retarget (up_ref i)) os) i (retarget (up_ref i) c) mapped

  pub next_there : (o : Op) → slice_get os i ≡ Some o → slice_get (insert_op i c os) (suc i) ≡ Some (retarget (up_ref i) o)
  next_there o there = ap (slice_get (insert_op i c os)) (sym (up_here i)) ∙ old_after i ∙ ap (option_map (retarget (up_ref i))) there

-- ---- words

-- a mux gives one of two words
pub mux_word : (os : List Op) (τ : Ref → Word) → Holds os τ → (j : ℕ) (o : Op) (c h l : Ref) (t : HwType) → slice_get os j ≡ Some (mux_for o c h l)
    → o.results ≡ record { type = t; again = false } ∷ [] → τ (result j 0) ≡ cond (is_high (τ c)) (τ h) (τ l)
mux_word os τ holds j o c h l t there is =
    holds.result_is j 0 (cond (is_high (τ c)) (τ h) (τ l)) (λ left. left)
    (ap (word_of τ 0) there ∙ ap (λ (rs : List OpResult). Some (result_word τ (mux_for o c h l) 0 (option_map (λ (x : OpResult). x.type) (slice_get rs 0)))) is)

-- ---- the step

-- in the module with a mux before the register at position i
pub record IsAfterMux (d : Design) (k : ℕ) (md : Module) (i : ℕ) (o : Op) (r : Register) (t : HwType) (c h l : Ref) : Type 0 where
  pub steady : IsSteady d (with_body d k md (insert_op i (mux_for o c h l) md.body))
  pub at : slice_get (with_body d k md (insert_op i (mux_for o c h l) md.body)) k ≡ Some (record md { body = insert_op i (mux_for o c h l) md.body })
  pub is : IsRegister (record md { body = insert_op i (mux_for o c h l) md.body }) (suc i) (retarget (up_ref i) o) (register_to (up_ref i) r) t
  pub form : HasForm (retarget (up_ref i) o) (register_to (up_ref i) r)
  pub typed : (v : Ref) → type_in md.ports (insert_op i (mux_for o c h l) md.body) (up_ref i v) ≡ type_in md.ports md.body v
  pub mux_typed : type_in md.ports (insert_op i (mux_for o c h l) md.body) (result i 0) ≡ Some t
  pub mux_there : slice_get (insert_op i (mux_for o c h l) md.body) i ≡ Some (mux_for o (up_ref i c) (up_ref i h) (up_ref i l))

module _ (d : Design) (fit : IsFit d) (k : ℕ) (md : Module) (at : slice_get d k ≡ Some md) (i : ℕ) (o : Op) (r : Register) (t : HwType) (is : IsRegister md i o r t)
    (f : HasForm o r) (c h l : Ref) (c_typed : type_in md.ports md.body c ≡ Some (int 1)) (h_typed : type_in md.ports md.body h ≡ Some t)
    (l_typed : type_in md.ports md.body l ≡ Some t) where
  abbrev body : List Op
  body = insert_op i (mux_for o c h l) md.body

  within : i ≤ length md.body
  within = let inside = slice_get_within md.body i o is.there in omega (arith, inside)

  steady_then : IsSteady d (with_body d k md body)
  steady_then = mux_put_in d fit k md at i o r t is f c h l c_typed h_typed l_typed

  there_then : slice_get body (suc i) ≡ Some (retarget (up_ref i) o)
  there_then = next_there md.body i (mux_for o c h l) within o is.there

  clocked_then : clocked_register (retarget (up_ref i) o) ≡ Some (register_to (up_ref i) r)
  clocked_then = register_retarget (up_ref i) o ∙ ap (option_map (register_to (up_ref i))) is.is

  at_then : slice_get (with_body d k md body) k ≡ Some (record md { body = body })
  at_then = module_there d k md body at

  typed_then : (v : Ref) → type_in md.ports body (up_ref i v) ≡ type_in md.ports md.body v
  typed_then (port j) = refl
  typed_then undefined = refl
  typed_then (result j n) =
      ap (λ x. option_and_then (λ (y : Op). result_type y n) x) (old_after md.body i (mux_for o c h l) within j) ∙ retarget_type (up_ref i) (slice_get md.body j) n

  register_then : IsRegister (record md { body = body }) (suc i) (retarget (up_ref i) o) (register_to (up_ref i) r) t
  register_then =
      let own = is_register_of (with_body d k md body) steady_then.fit k (record md { body = body }) at_then (suc i) (retarget (up_ref i) o) there_then (register_to (up_ref i) r) clocked_then in
      let type = only_type (with_body d k md body) steady_then.fit k (record md { body = body }) at_then (suc i) (retarget (up_ref i) o) there_then (register_to (up_ref i) r) clocked_then in
      let lists : type.0 ∷ [] ≡ t ∷ [] = sym own.types ∙ is.types in
      let same : type.0 ≡ t = cc in
      subst (IsRegister (record md { body = body }) (suc i) (retarget (up_ref i) o) (register_to (up_ref i) r)) same own

  pub mux_step : IsAfterMux d k md i o r t c h l
  mux_step = record {
    steady = steady_then;
    at = at_then;
    is = register_then;
    form = form_of (retarget (up_ref i) o) (register_to (up_ref i) r) clocked_then;
    typed = typed_then;
    mux_typed = ap (λ x. option_and_then (λ (y : Op). result_type y 0) x) (new_there md.body i (mux_for o c h l) within)
        ∙ ap (λ (rs : List OpResult). option_map (λ (x : OpResult). x.type) (slice_get rs 0)) is.results;
    mux_there = new_there md.body i (mux_for o c h l) within;
  }
