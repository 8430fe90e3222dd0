-- Uses of the laws: a wire goes, its operand standing for it; a constant is put in, or stands for an operation; one of
-- two operations that do the same goes; a register's enable goes. And what such uses share.
use Rattle.std.proofs.Common.{◌≡◌, ℕ, zero, suc, ◌<◌, ◌≤◌, false, cond, ℤ, set, List, [], ◌∷◌, length, map, slice_get, Some, None, refl, sym, ap, ap₂, subst, ◌∙◌, inl, arith, option_and_then}
use Rattle.wiring.specs.Wiring.{In, greatest}
use Rattle.wiring.proofs.Heights.{le-greatest}
use Rattle.wiring.proofs.Members.{In-map}
use Rattle.bits_core.specs.Word.{Word, bits_of_ℤ}
use Rattle.hw_model.specs.Types.{HwType, width}
use Rattle.hw_model.specs.Kinds.Reset.{no_reset}
use Rattle.hw_model.specs.Kinds.RegisterOp.{compreg, compreg_ce}
use Rattle.hw_model.specs.Kinds.Kind.{mux, constant, wire, register}
use Rattle.hw_model.specs.Types.HwType.{int, clock}
use Rattle.hw_model.specs.Design.{Ref, Op, Module, Design, find_module, no_location, result_type}
use Rattle.hw_model.specs.Design.Ref.{result}
use Rattle.hw_model.specs.Flat.{net, register_in, has_async_reset, async_parts}
use Rattle.hw_model.specs.Meaning.{next_value}
use Rattle.hw_model.specs.Value.{op_value, is_high}
use Rattle.hw_model.specs.Sound.{body_of, type_in, Fits, OpFits}
use Rattle.edit_laws.specs.Edit.{is_anchor, result_word, word_of, HoldsBut, Holds}
use Rattle.edit_laws.specs.Falls.{LocalHeight}
use Rattle.edit_laws.specs.Follows.{Wide, Valid, Follows}
use Rattle.edit_laws.specs.Laws.{IsNotOf, erase_op, insert_op, with_body}
use Rattle.edit_laws.proofs.Heights.{local_height}
use Rattle.edit_laws.proofs.TakeOut.{erase_op_preserves}
use Rattle.edit_laws.proofs.Inserted.{insert_op_preserves}
use Rattle.edit_laws.proofs.ReloadFollows.{replace_register_preserves}
use Rattle.edit_laws.proofs.ChangeInPlace.{plain_word, replace_op_preserves}

-- ---- what is shared

-- the values of a module of a valid design have heights
pub own_height : (d : Design) (md : Module) → Valid d → find_module d md.symbol ≡ Some md → (h : Ref → ℕ) × LocalHeight md.body h
own_height d md valid found =
    let high = valid.heights md.symbol in
    ((λ r. high.0 (net [] r)), subst (λ o. LocalHeight (body_of o) (λ r. high.0 (net [] r))) found (local_height d md.symbol high.0 high.1 []))

-- an operand stands lower than the result
pub operand_lower : (os : List Op) (h : Ref → ℕ) → LocalHeight os h → (i k : ℕ) (o : Op) (t : HwType) → slice_get os i ≡ Some o → is_anchor o ≡ false
    → result_type o k ≡ Some t → (r : Ref) → In r o.operands → h r < h (result i k)
operand_lower os h local i k o t there plain typed r here =
    let top : h (result i k) ≡ suc (greatest (map h o.operands)) = local.made i k o t there plain typed in
    let below : h r ≤ greatest (map h o.operands) = le-greatest (h r) (map h o.operands) (In-map h r o.operands here) in
    omega arith

-- an operand with a type is no result of its own operation, where that has one result
pub operand_other : (d : Design) (md : Module) → Valid d → find_module d md.symbol ≡ Some md → (i : ℕ) (o : Op) (t u : HwType) → slice_get md.body i ≡ Some o
    → is_anchor o ≡ false → result_type o 0 ≡ Some t → ((k : ℕ) → result_type o (suc k) ≡ None)
    → (r : Ref) → In r o.operands → type_in md.ports md.body r ≡ Some u → IsNotOf i r
operand_other d md valid found i o t u there plain typed no_more r here has_type k same = go k same
  where
    go : (k : ℕ) → r ≡ result i k → ⊥
    go zero is =
        let high = own_height d md valid found in
        let lower : high.0 r < high.0 (result i 0) = operand_lower md.body high.0 high.1 i 0 o t there plain typed r here in
        let equal : high.0 r ≡ high.0 (result i 0) = ap high.0 is in
        absurd (omega arith)
    go (suc k) is =
        let clash : Some u ≡ None =
        sym has_type ∙ ap (type_in md.ports md.body) is ∙ ap (λ x. option_and_then (λ (y : Op). result_type y (suc k)) x) there ∙ no_more k in
        cc

-- ---- a wire

pub wire_out : (d : Design) (m : ℕ) (md : Module) (i : ℕ) (o : Op) (t : HwType) (x : Ref) → Valid d → slice_get d m ≡ Some md → find_module d md.symbol ≡ Some md
    → slice_get md.body i ≡ Some o → o.kind ≡ wire → o.operands ≡ x ∷ [] → result_type o 0 ≡ Some t → ((k : ℕ) → result_type o (suc k) ≡ None)
    → Follows d (with_body d m md (erase_op i x md.body))
wire_out d m md i o t x valid at_m found there is_wire operands typed no_more =
    erase_op_preserves d m md i o t x valid at_m (record {
      there = there;
      plain = plain;
      result_is = typed;
      no_more = no_more;
      stand_is = stand_type;
      stand_stays = operand_other d md valid found i o t t there plain typed no_more x named stand_type;
      lower = λ h local. let below : h x < h (result i 0) = operand_lower md.body h local i 0 o t there plain typed x named in omega arith;
      words = λ τ holds wide. ap₂ (λ kind rs. op_value kind o.types t 0 (map τ rs)) is_wire operands;
    })
  where
    plain : is_anchor o ≡ false
    plain = rw is_wire refl

    named : In x o.operands
    named = subst (In x) (sym operands) (inl refl)

    fits : Fits wire o.types (map (type_in md.ports md.body) (x ∷ [])) t 0
    fits =
        subst (λ rs. Fits wire o.types (map (type_in md.ports md.body) rs) t 0) operands
        (subst (λ kind. Fits kind o.types (map (type_in md.ports md.body) o.operands) t 0) is_wire
        ((valid.sound md.symbol md found).ops i o there 0 t typed))

    stand_type : type_in md.ports md.body x ≡ Some t
    stand_type = let same : type_in md.ports md.body x ∷ [] ≡ Some t ∷ [] = fits in cc

-- ---- a constant

abbrev pub constant_op : ℤ → HwType → Op
constant_op z t = record {
  kind = constant z;
  operands = [];
  types = t ∷ [];
  results = record { type = t; again = false } ∷ [];
  named = 1;
  name = [];
  dictionary = [];
  bin = false;
  location = no_location;
}

pub constant_in : (d : Design) (m : ℕ) (md : Module) (i : ℕ) (z : ℤ) (t : HwType) → Valid d → slice_get d m ≡ Some md → i ≤ length md.body
    → Follows d (with_body d m md (insert_op i (constant_op z t) md.body))
constant_in d m md i z t valid at_m within =
    insert_op_preserves d m md i (constant_op z t) valid at_m (record { within = within; plain = refl; fits = λ k u typed. refl })

-- an operation whose word is always that of a constant becomes the constant
pub constant_position : (d : Design) (m : ℕ) (md : Module) (i : ℕ) (o : Op) (z : ℤ) (t : HwType) → Valid d → slice_get d m ≡ Some md → slice_get md.body i ≡ Some o
    → is_anchor o ≡ false → result_type o 0 ≡ Some t → ((k : ℕ) → result_type o (suc k) ≡ None)
    → ((τ : Ref → Word) → HoldsBut md.body τ (λ j. j ≡ i) → Wide md.ports md.body τ → result_word τ o 0 (Some t) ≡ bits_of_ℤ (width t) z)
    → Follows d (with_body d m md (set md.body i (constant_op z t)))
constant_position d m md i o z t valid at_m there plain typed no_more always =
    replace_op_preserves d m md i o (constant_op z t) valid at_m (record {
      there = there;
      old_plain = plain;
      new_plain = refl;
      same_types = same_types;
      fits = λ k u is. refl;
      lower = λ h local k u is r here. absurd here;
      words = λ τ holds wide k u is. by_number τ holds wide k u is;
    })
  where
    same_types : (k : ℕ) → result_type (constant_op z t) k ≡ result_type o k
    same_types zero = sym typed
    same_types (suc k) = sym (no_more k)

    by_number : (τ : Ref → Word) → HoldsBut md.body τ (λ j. j ≡ i) → Wide md.ports md.body τ → (k : ℕ) (u : HwType) → result_type o k ≡ Some u
        → result_word τ o k (Some u) ≡ result_word τ (constant_op z t) k (Some u)
    by_number τ holds wide zero u is =
        let both : Some t ≡ Some u = sym typed ∙ is in
        let same : t ≡ u = cc in
        subst (λ v. result_word τ o 0 (Some v) ≡ bits_of_ℤ (width v) z) same (always τ holds wide)
    by_number τ holds wide (suc k) u is = let clash : None ≡ Some u = sym (no_more k) ∙ is in cc

-- ---- an operation that does what an earlier one does

-- of two operations of one kind, with the same operands, the second goes, and the first's result stands for its result
pub copy_out : (d : Design) (m : ℕ) (md : Module) (i j : ℕ) (o copy : Op) (t : HwType) → Valid d → slice_get d m ≡ Some md → slice_get md.body i ≡ Some o
    → slice_get md.body j ≡ Some copy → (i ≡ j → ⊥) → is_anchor o ≡ false → copy.kind ≡ o.kind → copy.types ≡ o.types → copy.operands ≡ o.operands
    → result_type o 0 ≡ Some t → result_type copy 0 ≡ Some t → ((k : ℕ) → result_type copy (suc k) ≡ None)
    → Follows d (with_body d m md (erase_op j (result i 0) md.body))
copy_out d m md i j o copy t valid at_m there also other plain kinds types operands typed also_typed no_more =
    erase_op_preserves d m md j copy t (result i 0) valid at_m (record {
      there = also;
      plain = also_plain;
      result_is = also_typed;
      no_more = no_more;
      stand_is = ap (λ x. option_and_then (λ (y : Op). result_type y 0) x) there ∙ typed;
      stand_stays = λ k same. other (cc);
      lower = λ h local.
          let first : h (result i 0) ≡ suc (greatest (map h o.operands)) = local.made i 0 o t there plain typed in
          let second : h (result j 0) ≡ suc (greatest (map h copy.operands)) = local.made j 0 copy t also also_plain also_typed in
          let equal : greatest (map h copy.operands) ≡ greatest (map h o.operands) = ap (λ rs. greatest (map h rs)) operands in
          omega arith;
      words = λ τ holds wide.
          same_made τ ∙ sym (holds.result_is i 0 (result_word τ o 0 (Some t)) other
          (ap (word_of τ 0) there ∙ plain_word τ 0 o plain ∙ ap (λ x. Some (result_word τ o 0 x)) typed));
    })
  where
    also_plain : is_anchor copy ≡ false
    also_plain = ap (λ k. is_anchor (record copy { kind = k })) kinds ∙ plain

    same_made : (τ : Ref → Word) → result_word τ copy 0 (Some t) ≡ result_word τ o 0 (Some t)
    same_made τ = ap (λ k. op_value k copy.types t 0 (map τ copy.operands)) kinds ∙ ap₂ (λ ts rs. op_value o.kind ts t 0 (map τ rs)) types operands

-- ---- an enable

-- a register with an enable that has a choice of its data and its own value at hand takes that choice in place of both
pub enable_out : (d : Design) (m : ℕ) (md : Module) (i j : ℕ) (o choice : Op) (t : HwType) (x c e : Ref) → Valid d → slice_get d m ≡ Some md
    → find_module d md.symbol ≡ Some md → slice_get md.body i ≡ Some o → o.kind ≡ register compreg_ce no_reset → o.operands ≡ x ∷ c ∷ e ∷ []
    → result_type o 0 ≡ Some t → ((k : ℕ) → result_type o (suc k) ≡ None)
    → slice_get md.body j ≡ Some choice → choice.kind ≡ mux → choice.operands ≡ e ∷ x ∷ result i 0 ∷ [] → result_type choice 0 ≡ Some t
    → Follows d (with_body d m md (set md.body i (record o { kind = register compreg no_reset; operands = result j 0 ∷ c ∷ [] })))
enable_out d m md i j o choice t x c e valid at_m found there kind operands typed no_more chosen is_mux chosen_from chosen_type =
    replace_register_preserves d m md i o (record o { kind = register compreg no_reset; operands = result j 0 ∷ c ∷ [] }) valid at_m (record {
      there = there;
      old_register = rw kind refl;
      new_register = refl;
      same_types = λ k. refl;
      fits = fits;
      async_is = sym (ap (λ k. cond (has_async_reset k) (async_parts o.operands) None) kind);
      loads = loads;
    })
  where
    old_fits : Fits (register compreg_ce no_reset) o.types (map (type_in md.ports md.body) (x ∷ c ∷ e ∷ [])) t 0
    old_fits =
        subst (λ rs. Fits (register compreg_ce no_reset) o.types (map (type_in md.ports md.body) rs) t 0) operands
        (subst (λ z. Fits z o.types (map (type_in md.ports md.body) o.operands) t 0) kind ((valid.sound md.symbol md found).ops i o there 0 t typed))

    clock_type : type_in md.ports md.body c ≡ Some clock
    clock_type =
        let same : type_in md.ports md.body x ∷ type_in md.ports md.body c ∷ type_in md.ports md.body e ∷ [] ≡ Some t ∷ Some clock ∷ Some (int 1) ∷ [] = old_fits in cc

    choice_type : type_in md.ports md.body (result j 0) ≡ Some t
    choice_type = ap (λ z. option_and_then (λ (y : Op). result_type y 0) z) chosen ∙ chosen_type

    fits : OpFits (type_in md.ports md.body) (record o { kind = register compreg no_reset; operands = result j 0 ∷ c ∷ [] })
    fits zero u is =
        let both : Some t ≡ Some u = sym typed ∙ is in
        let same : t ≡ u = cc in
        ap₂ (λ a b. a ∷ b ∷ []) (choice_type ∙ ap Some same) clock_type
    fits (suc k) u is = let clash : None ≡ Some u = sym (no_more k) ∙ is in cc

    plain : is_anchor choice ≡ false
    plain = rw is_mux refl

    loads : (τ : Ref → Word) → Holds md.body τ → Wide md.ports md.body τ → (old : Word) → τ (result i 0) ≡ old
        → next_value (register_in (record o { kind = register compreg no_reset; operands = result j 0 ∷ c ∷ [] })) τ old ≡ next_value (register_in o) τ old
    loads τ holds wide old is =
        let says : word_of τ 0 (slice_get md.body j) ≡ Some (cond (is_high (τ e)) (τ x) (τ (result i 0))) =
        ap (word_of τ 0) chosen ∙ plain_word τ 0 choice plain
        ∙ ap Some (ap (result_word τ choice 0) chosen_type ∙ ap₂ (λ z rs. op_value z choice.types t 0 (map τ rs)) is_mux chosen_from) in
        let word : τ (result j 0) ≡ cond (is_high (τ e)) (τ x) (τ (result i 0)) =
        holds.result_is j 0 (cond (is_high (τ e)) (τ x) (τ (result i 0))) (λ never. never) says in
        rw (kind, operands) (ap (λ w. cond (is_high (τ c)) w old) (word ∙ ap (λ w. cond (is_high (τ e)) (τ x) w) is))
