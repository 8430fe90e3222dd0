-- Operations of which all operands are constants: their words, and that they are such as their kind takes.
use Rattle.std.proofs.Common.{◌≡◌, ℕ, ◌+◌, ◌%◌, ◌≤◌, Bool, true, false, cond, List, [], ◌∷◌, length, map, Option, Some, None, slice_get, refl, sym, ap, ap₂, subst, ◌∙◌, arith, option_map}
use Rattle.std.specs.Prelude.{is_some}
use Rattle.std.proofs.Math.Nat.{mul-mod_left}
use Rattle.std.proofs.lemmas.List.{length-map}
use Rattle.wiring.specs.Lists.{total}
use Rattle.wiring.proofs.Members.{In-map, All-from_members}
use Rattle.wiring.proofs.Options.{and_then_some, option_map_some}
use Rattle.bits_core.specs.Word.{Word, number}
use Rattle.hw_model.specs.Types.{HwType, width}
use Rattle.hw_model.specs.Types.HwType.{int}
use Rattle.hw_model.specs.Kinds.{Kind}
use Rattle.hw_model.specs.Kinds.Kind.{variadic, sub, division, shift, icmp, parity, extract, concat, replicate, mux}
use Rattle.hw_model.specs.Design.{Ref, Op, Module, Design, result_type}
use Rattle.hw_model.specs.IntegerKinds.{OfOne, OfTwo, TakesWords}
use Rattle.hw_model.specs.Sound.{Fits, type_in}
use Rattle.hw_model.specs.Value.{op_value}
use Rattle.type_inference.specs.ResultTypes.{result_type as type_of_result}
use Rattle.stored_form.specs.ResultTypes.{type_or_none}
use Rattle.ir_store.specs.declared.body.Body.{Body}
use Rattle.acceptance_laws.specs.Keeps.{IsFit}
use Rattle.fold_laws.specs.Constants.{constant_at}
use Rattle.fold_laws.specs.Evaluated.{is_comb, constants_at, value_of_constants, fold_evaluated}
use Rattle.fold_laws.proofs.Evaluated.{evaluated_makes}
use Rattle.fold_laws.proofs.MadeKinds.{is_made}
use Rattle.fold_laws.proofs.Stands.{Known, op_typed, op_known}
use Rattle.body_edits.specs.declared.site.Site.{Site}
use Rattle.body_edits.specs.FitBodies.{IsOfFit}
use Rattle.body_edits.specs.Readable.{IsWidth}
use Rattle.comb_fold.specs.Evaluable.{bits_of_type, IsEvaluable, IsEvaluableSite}
use Rattle.body_edits.specs.Sites.{kind_at, first_type_of}
use Rattle.body_edits.specs.Views.{body_ops, value_ref, op_seen}
use Rattle.body_edits.proofs.FitOps.{within_limits}
use Rattle.body_edits.proofs.NumberOps.{pattern_found}

-- ---- words of constants

-- the type of a word
abbrev pub type_of_word : Word → Option HwType
type_of_word w = Some (int (length w))

-- constants have the types of their words
constants_typed : (os : List Op) (type_of : Ref → Option HwType) → ((r : Ref) (w : Word) → constant_at os r ≡ Some w → type_of r ≡ Some (int (length w)))
    → (rs : List Ref) (ws : List Word) → constants_at os rs ≡ Some ws → map type_of rs ≡ map type_of_word ws
constants_typed os type_of typed [] ws is = let none : [] ≡ ws = cc in ap (map type_of_word) none
constants_typed os type_of typed (r ∷ rs) ws is =
    let word = and_then_some (constant_at os r) (λ (w : Word). option_map (λ (vs : List Word). w ∷ vs) (constants_at os rs)) is in
    let rest = option_map_some (λ (vs : List Word). word.0 ∷ vs) (constants_at os rs) word.2 in
    ap₂ (λ t ts. t ∷ ts) (typed r word.0 word.1) (constants_typed os type_of typed rs rest.0 rest.1) ∙ ap (map type_of_word) rest.2

-- ---- words that a kind takes

one_word : (u : HwType) (P : Word → Type 0) (ws : List Word) → map type_of_word ws ≡ Some u ∷ [] → ((x : Word) → length x ≡ width u → P x) → OfOne P ws
one_word u P [] is each = cc
one_word u P (x ∷ []) is each = let e : int (length x) ≡ u = cc in each x (ap width e)
one_word u P (x ∷ y ∷ ws) is each = cc

same_words : (u : HwType) (ws : List Word) → map type_of_word ws ≡ Some u ∷ Some u ∷ [] → OfTwo (λ x y. length x ≡ length y) ws
same_words u [] is = cc
same_words u (x ∷ []) is = cc
same_words u (x ∷ y ∷ []) is =
    let e : int (length x) ≡ u = cc in
    let f : int (length y) ≡ u = cc in
    ap width e ∙ sym (ap width f)
same_words u (x ∷ y ∷ z ∷ ws) is = cc

widths_are : (us : List HwType) (ws : List Word) → map type_of_word ws ≡ map (λ (u : HwType). Some u) us → map length ws ≡ map width us
widths_are [] [] is = refl
widths_are [] (w ∷ ws) is = cc
widths_are (u ∷ us) [] is = cc
widths_are (u ∷ us) (w ∷ ws) is =
    let e : int (length w) ≡ u = cc in
    let rest : map type_of_word ws ≡ map (λ (u : HwType). Some u) us = cc in
    ap₂ (λ n ns. n ∷ ns) (ap width e) (widths_are us ws rest)

as_many : (ws : List Word) (ts : List (Option HwType)) → map type_of_word ws ≡ ts → length ws ≡ length ts
as_many ws ts is = sym (length-map ws type_of_word) ∙ ap length is

takes_words : (kind : Kind) (ts : List HwType) (t : HwType) (ws : List Word) → is_comb kind ≡ true → Fits kind ts (map type_of_word ws) t 0 → TakesWords kind (width t) ws
takes_words (variadic v) ts t ws comb fits =
    All-from_members (λ (w : Word). length w ≡ width t) ws
    (λ w here. let typed : Some (int (length w)) ≡ Some t = fits (type_of_word w) (In-map type_of_word w ws here) in
    let e : int (length w) ≡ t = cc in ap width e)
takes_words sub ts t ws comb fits = same_words t ws fits
takes_words (division d) ts t ws comb fits = same_words t ws fits
takes_words (shift s) ts t ws comb fits = as_many ws (Some t ∷ Some t ∷ []) fits
takes_words (icmp p) ts t ws comb (u, is, bit) = same_words u ws is
takes_words parity ts t ws comb (u, is, bit) = as_many ws (Some u ∷ []) is
takes_words (extract low) ts t ws comb (u, is, below) = one_word u (λ x. low + width t ≤ length x) ws is (λ x size. omega (arith, size, below))
takes_words concat ts t ws comb (us, is, sum) = ap total (widths_are us ws is) ∙ sym sum
takes_words replicate ts t ws comb (u, n, is, some, whole) =
    one_word u (λ x. width t % length x ≡ 0) ws is (λ x size. ap₂ (λ a b. a % b) whole size ∙ mul-mod_left n (width u))
takes_words mux ts t ws comb fits = as_many ws (Some (int 1) ∷ Some t ∷ Some t ∷ []) fits
takes_words _ ts t ws comb fits = cc

-- ---- an operation of a fit design

-- a value of constants is one of an operation of the comb dialect, whose operands are constants
evaluated_is : (os : List Op) (kind : Kind) (ts : List HwType) (t : HwType) (rs : List Ref) (n : ℕ) → value_of_constants os kind ts t rs ≡ Some n
    → (is_comb kind ≡ true) × ((ws : List Word) × (constants_at os rs ≡ Some ws))
evaluated_is os kind ts t rs n is = go (is_comb kind) refl is
  where
    go : (b : Bool) → is_comb kind ≡ b → cond b (option_map (λ (ws : List Word). number (op_value kind ts t 0 ws)) (constants_at os rs)) None ≡ Some n
        → (is_comb kind ≡ true) × ((ws : List Word) × (constants_at os rs ≡ Some ws))
    go true comb h =
        let words = option_map_some (λ (ws : List Word). number (op_value kind ts t 0 ws)) (constants_at os rs) h in
        (comb, (words.0, words.1))
    go false comb h = cc

evaluable : (os : List Op) (kind : Kind) (ts : List HwType) (rs : List Ref) (n : ℕ) (type_of : Ref → Option HwType) (t : HwType)
    → value_of_constants os kind ts t rs ≡ Some n → Known os kind ts rs type_of t → IsEvaluable os kind rs (Some t)
evaluable os kind ts rs n type_of t is known =
    let made = evaluated_makes.makes os kind ts rs n type_of t is known in
    let found = evaluated_is os kind ts t rs n is in
    record {
      comb = found.0;
      width = made.bits_of;
      typed = ap (λ u. Some u) made.type_is;
      is_width = within_limits made.bits_of made.within;
      words = found.1.0;
      constants = found.1.1;
      suits = subst (λ w. TakesWords kind w found.1.0) (ap width made.type_is)
          (takes_words kind ts t found.1.0 found.0
          (subst (λ xs. Fits kind ts xs t 0) (constants_typed os type_of known.constants rs found.1.0 found.1.1) known.fits));
    }

in_design : (d : Design) → IsFit d → (k : ℕ) (md : Module) → slice_get d k ≡ Some md → (i : ℕ) (o : Op) → slice_get md.body i ≡ Some o → (t : HwType) (n : ℕ)
    → result_type o 0 ≡ Some t → value_of_constants md.body o.kind o.types t o.operands ≡ Some n → IsEvaluable md.body o.kind o.operands (result_type o 0)
in_design d fit k md at i o there t n typed is =
    let made : is_made o.kind ≡ true = evaluated_makes.made md.body o.kind o.types t o.operands n is in
    let u = type_or_none (type_of_result o.kind o.types (length o.operands)) in
    let settled : result_type o 0 ≡ Some u = op_typed d fit k md at i o there made in
    let both : Some t ≡ Some u = sym typed ∙ settled in
    let same : t ≡ u = cc in
    subst (IsEvaluable md.body o.kind o.operands) (sym settled)
    (evaluable md.body o.kind o.types o.operands n (type_in md.ports md.body) u
    (ap (λ v. value_of_constants md.body o.kind o.types v o.operands) (sym same) ∙ is) (op_known d fit k md at i o there made))

fit_evaluable : (b : Body) → IsOfFit b → (i : ℕ) (o : Op) → slice_get (body_ops b) i ≡ Some o → is_some (fold_evaluated (body_ops b) i) ≡ true
    → IsEvaluable (body_ops b) o.kind o.operands (result_type o 0)
fit_evaluable b of i o there matches =
    let found = pattern_found value_of_constants (body_ops b) i o there matches in
    subst (λ os. IsEvaluable os o.kind o.operands (result_type o 0)) of.is_body
    (in_design of.design of.fit of.number of.owner of.there i o (ap (λ os. slice_get os i) of.is_body ∙ there) found.type found.number found.typed
    (ap (λ os. value_of_constants os o.kind o.types found.type o.operands) of.is_body ∙ found.gives))

-- the operation of a body at which the pattern matches
pub site_evaluable : (b : Body) (s : Site) → IsOfFit b → s.body.now ≡ b → (i : ℕ) → slice_get (body_ops b) i ≡ Some (op_seen b s.op)
    → is_some (fold_evaluated (body_ops b) i) ≡ true → IsEvaluableSite s
site_evaluable b s of same i there matches =
    subst (λ (x : Body). IsEvaluable (body_ops x) (kind_at s) (map (value_ref x) s.op.operands.now) (first_type_of s)) (sym same)
    (fit_evaluable b of i (op_seen b s.op) there matches)

-- ---- the value

-- a type of which bits are told is an integer's
pub int_typed : (type : Option HwType) (w : ℕ) → Some w ≡ bits_of_type type → type ≡ Some (int w)
int_typed (Some (int v)) w is = let same : w ≡ v = cc in ap (λ n. Some (int n)) (sym same)
int_typed _ w is = cc

module _ (os : List Op) (kind : Kind) (rs : List Ref) (type : Option HwType) (w : ℕ) (given : IsEvaluable os kind rs type) (sized : type ≡ Some (int w)) where
  widths : given.width ≡ w
  widths =
      let both : Some (int given.width) ≡ Some (int w) = sym given.typed ∙ sized in
      let same : int given.width ≡ int w = cc in
      ap width same

  pub has_width : IsWidth w
  has_width = subst IsWidth widths given.is_width

  -- the words that code reads suit
  pub words_suit : (ws : List Word) → constants_at os rs ≡ Some ws → TakesWords kind w ws
  words_suit ws are =
      let both : Some given.words ≡ Some ws = sym given.constants ∙ are in
      let words : given.words ≡ ws = cc in
      subst (λ v. TakesWords kind v ws) widths (subst (TakesWords kind given.width) words given.suits)
