-- Patterns by which a value stands for the result of an operation: none matches at an operation that sees no more.
use Rattle.std.proofs.Common.{◌≡◌, ℕ, Bool, true, false, cond, ◌&&◌, nat_eq, List, [], ◌∷◌, map, length, Option, Some, None, refl, sym, ap, ap₂, ◌∙◌, inl, inr, option_and_then, option_map}
use Rattle.std.proofs.lemmas.List.{length-map}
use Rattle.wiring.specs.Lists.{total}
use Rattle.wiring.proofs.Options.{option_map_none}
use Rattle.bits_core.specs.Word.{Word, number}
use Rattle.hw_model.specs.Types.{Name, HwType, FieldTypes, width}
use Rattle.hw_model.specs.Types.FieldTypes.{no_fields, field}
use Rattle.hw_model.specs.Kinds.{Kind}
use Rattle.hw_model.specs.Kinds.Variadic.{mul, and, or}
use Rattle.hw_model.specs.Kinds.Division.{divu, divs}
use Rattle.hw_model.specs.Kinds.ArrayOp.{array_create, array_get}
use Rattle.hw_model.specs.Kinds.StructOp.{struct_create, struct_extract}
use Rattle.hw_model.specs.Kinds.Kind.{variadic, sub, division, shift, extract, concat, replicate, mux, bitcast, on_array, on_struct}
use Rattle.hw_model.specs.Design.{Ref, Op, same_name}
use Rattle.hw_model.specs.Value.{fields, nth_type, is_high}
use Rattle.edit_laws.specs.Edit.{retarget}
use Rattle.ir_store.specs.Positions.{same_ref}
use Rattle.fold_laws.specs.Constants.{constant_at, is_constant_where, is_zero, is_one, is_ones, is_true, is_false}
use Rattle.fold_laws.specs.Edits.Edit.{erased}
use Rattle.fold_laws.specs.Parts.{maker, field_operand, created_field, struct_part, covered_operand, joined_operand, extract_part, element_operand, created_element, array_part}
use Rattle.fold_laws.specs.Standing.{Stand, by_stand, when, writes_one_type, single_operand, absorbing_and, absorbing_or, absorbing_mul, sub_zero, shift_zero, div_one, mux_constant, mux_same}
use Rattle.fold_laws.specs.Standing.{mux_bool, full_extract, trivial_concat, trivial_replicate, trivial_bitcast}
use Rattle.canonicalise.specs.Reach.{AreAlike, StaysQuiet}
use Rattle.canonicalise.proofs.Alike.{only_named, when_only_named, first_where_named, first_named, three_named, constant_named, tests_alike}

-- under other names, the value is that one's other name
abbrev pub StandsAlike : Stand → Type 0
StandsAlike stand = (name : Ref → Ref) (os os' : List Op) (rs : List Ref) → AreAlike name os os' rs → (kind : Kind) (ts : List HwType)
    → stand os' kind ts (map name rs) ≡ option_map name (stand os kind ts rs)

pub stand_quiet : (stand : Stand) → StandsAlike stand → StaysQuiet (by_stand stand)
stand_quiet stand same os i os' i' s none =
    let before : option_map (λ (x : Ref). erased i x ∷ []) (stand os s.op.kind s.op.types s.op.operands) ≡ None =
    sym (ap (λ z. option_and_then (λ (o : Op). option_map (λ (x : Ref). erased i x ∷ []) (stand os o.kind o.types o.operands)) z) s.there) ∙ none in
    let quiet : stand os s.op.kind s.op.types s.op.operands ≡ None = option_map_none (λ (x : Ref). erased i x ∷ []) (stand os s.op.kind s.op.types s.op.operands) before in
    ap (λ z. option_and_then (λ (o : Op). option_map (λ (x : Ref). erased i' x ∷ []) (stand os' o.kind o.types o.operands)) z) s.still
    ∙ ap (option_map (λ (x : Ref). erased i' x ∷ [])) (same s.name os os' s.op.operands s.alike s.op.kind s.op.types ∙ ap (option_map s.name) quiet)

-- ---- operations of any number of operands

pub single_operand_alike : StandsAlike single_operand
single_operand_alike name os os' rs alike (variadic v) ts = only_named name rs
single_operand_alike name os os' rs alike _ ts = refl

pub absorbing_and_alike : StandsAlike absorbing_and
absorbing_and_alike name os os' rs alike (variadic and) ts = first_named name (is_constant_where is_zero os) (is_constant_where is_zero os') rs (tests_alike name os os' is_zero rs alike)
absorbing_and_alike name os os' rs alike _ ts = refl

pub absorbing_or_alike : StandsAlike absorbing_or
absorbing_or_alike name os os' rs alike (variadic or) ts = first_named name (is_constant_where is_ones os) (is_constant_where is_ones os') rs (tests_alike name os os' is_ones rs alike)
absorbing_or_alike name os os' rs alike _ ts = refl

pub absorbing_mul_alike : StandsAlike absorbing_mul
absorbing_mul_alike name os os' rs alike (variadic mul) ts = first_named name (is_constant_where is_zero os) (is_constant_where is_zero os') rs (tests_alike name os os' is_zero rs alike)
absorbing_mul_alike name os os' rs alike _ ts = refl

-- ---- differences, quotients, shifts

pub sub_zero_alike : StandsAlike sub_zero
sub_zero_alike name os os' rs alike sub ts = first_where_named name (is_constant_where is_zero os) (is_constant_where is_zero os') rs (tests_alike name os os' is_zero rs alike)
sub_zero_alike name os os' rs alike _ ts = refl

pub shift_zero_alike : StandsAlike shift_zero
shift_zero_alike name os os' rs alike (shift s) ts = first_where_named name (is_constant_where is_zero os) (is_constant_where is_zero os') rs (tests_alike name os os' is_zero rs alike)
shift_zero_alike name os os' rs alike _ ts = refl

pub div_one_alike : StandsAlike div_one
div_one_alike name os os' rs alike (division divu) ts = first_where_named name (is_constant_where is_one os) (is_constant_where is_one os') rs (tests_alike name os os' is_one rs alike)
div_one_alike name os os' rs alike (division divs) ts = first_where_named name (is_constant_where is_one os) (is_constant_where is_one os') rs (tests_alike name os os' is_one rs alike)
div_one_alike name os os' rs alike _ ts = refl

-- ---- choices

chosen_named : (name : Ref → Ref) (w : Option Word) (x y : Ref)
    → option_map (λ (w : Word). cond (is_high w) (name x) (name y)) w ≡ option_map name (option_map (λ (w : Word). cond (is_high w) x y) w)
chosen_named name None x y = refl
chosen_named name (Some w) x y = ap Some (go (is_high w))
  where
    go : (b : Bool) → cond b (name x) (name y) ≡ name (cond b x y)
    go true = refl
    go false = refl

when_some_named : (name : Ref → Ref) (b : Bool) (x : Ref) → when b (Some (name x)) ≡ option_map name (when b (Some x))
when_some_named name true x = refl
when_some_named name false x = refl

pub mux_constant_alike : StandsAlike mux_constant
mux_constant_alike name os os' rs alike mux ts =
    three_named name (λ c x y. option_map (λ w. cond (is_high w) x y) (constant_at os c)) (λ c x y. option_map (λ w. cond (is_high w) x y) (constant_at os' c)) rs
    (λ c x y here one two. ap (option_map (λ (w : Word). cond (is_high w) (name x) (name y))) (constant_named name os os' rs alike c here) ∙ chosen_named name (constant_at os c) x y)
mux_constant_alike name os os' rs alike _ ts = refl

pub mux_same_alike : StandsAlike mux_same
mux_same_alike name os os' rs alike mux ts =
    three_named name (λ c x y. when (same_ref x y) (Some x)) (λ c x y. when (same_ref x y) (Some x)) rs
    (λ c x y here one two. ap (λ b. when b (Some (name x))) (alike.apart x y one two) ∙ when_some_named name (same_ref x y) x)
mux_same_alike name os os' rs alike _ ts = refl

pub mux_bool_alike : StandsAlike mux_bool
mux_bool_alike name os os' rs alike mux ts =
    three_named name (λ c x y. when (is_constant_where is_true os x && is_constant_where is_false os y) (Some c))
    (λ c x y. when (is_constant_where is_true os' x && is_constant_where is_false os' y) (Some c)) rs
    (λ c x y here one two. ap₂ (λ a b. when (a && b) (Some (name c))) (tests_alike name os os' is_true rs alike x one) (tests_alike name os os' is_false rs alike y two)
    ∙ when_some_named name (is_constant_where is_true os x && is_constant_where is_false os y) c)
mux_bool_alike name os os' rs alike _ ts = refl

-- ---- parts and copies

pub full_extract_alike : StandsAlike full_extract
full_extract_alike name os os' rs alike (extract low) ts = when_only_named name (writes_one_type ts) rs
full_extract_alike name os os' rs alike _ ts = refl

pub trivial_concat_alike : StandsAlike trivial_concat
trivial_concat_alike name os os' rs alike concat ts = only_named name rs
trivial_concat_alike name os os' rs alike _ ts = refl

pub trivial_replicate_alike : StandsAlike trivial_replicate
trivial_replicate_alike name os os' rs alike replicate ts = when_only_named name (writes_one_type ts) rs
trivial_replicate_alike name os os' rs alike _ ts = refl

pub trivial_bitcast_alike : StandsAlike trivial_bitcast
trivial_bitcast_alike name os os' rs alike bitcast ts = when_only_named name (writes_one_type ts) rs
trivial_bitcast_alike name os os' rs alike _ ts = refl

-- ---- parts of what was made of parts

cond_named : (name : Ref → Ref) (b : Bool) (x : Ref) (o p : Option Ref) → p ≡ option_map name o → cond b (Some (name x)) p ≡ option_map name (cond b (Some x) o)
cond_named name true x o p same = refl
cond_named name false x o p same = same

-- a choice among the operands of the operation that made a value
made_named : (name : Ref → Ref) (choose : Kind → List HwType → List Ref → Option Ref) → ((kind : Kind) (ts : List HwType) (rs : List Ref) → choose kind ts (map name rs) ≡ option_map name (choose kind ts rs))
    → (o o' : Option Op) → o' ≡ option_map (retarget name) o
    → option_and_then (λ (c : Op). choose c.kind c.types c.operands) o' ≡ option_map name (option_and_then (λ (c : Op). choose c.kind c.types c.operands) o)
made_named name choose same o o' is = ap (λ z. option_and_then (λ (c : Op). choose c.kind c.types c.operands) z) is ∙ go o
  where
    go : (o : Option Op) → option_and_then (λ (c : Op). choose c.kind c.types c.operands) (option_map (retarget name) o) ≡ option_map name (option_and_then (λ (c : Op). choose c.kind c.types c.operands) o)
    go None = refl
    go (Some c) = same c.kind c.types c.operands

field_named : (name : Ref → Ref) (fs : FieldTypes) (n : Name) (rs : List Ref) → field_operand fs n (map name rs) ≡ option_map name (field_operand fs n rs)
field_named name no_fields n rs = refl
field_named name (field f t fs) n [] = refl
field_named name (field f t fs) n (x ∷ xs) = cond_named name (same_name f n) x (field_operand fs n xs) (field_operand fs n (map name xs)) (field_named name fs n xs)

created_field_named : (name : Ref → Ref) (fs : FieldTypes) (n : Name) (kind : Kind) (rs : List Ref) → created_field fs n kind (map name rs) ≡ option_map name (created_field fs n kind rs)
created_field_named name fs n (on_struct struct_create) rs = field_named name fs n rs
created_field_named name fs n _ rs = refl

pub struct_part_alike : StandsAlike struct_part
struct_part_alike name os os' [] alike (on_struct (struct_extract n)) ts = refl
struct_part_alike name os os' (s ∷ []) alike (on_struct (struct_extract n)) ts =
    made_named name (λ kind us rs. created_field (fields (nth_type ts 0)) n kind rs) (λ kind us rs. created_field_named name (fields (nth_type ts 0)) n kind rs)
    (maker os s) (maker os' (name s)) (alike.made s (inl refl))
struct_part_alike name os os' (s ∷ r ∷ rs) alike (on_struct (struct_extract n)) ts = refl
struct_part_alike name os os' rs alike _ ts = refl

covered_named : (name : Ref → Ref) (low w : ℕ) (us : List HwType) (rs : List Ref) → covered_operand low w us (map name rs) ≡ option_map name (covered_operand low w us rs)
covered_named name low w [] rs = refl
covered_named name low w (u ∷ us) [] = refl
covered_named name low w (u ∷ us) (x ∷ xs) =
    cond_named name (nat_eq low (total (map width us)) && nat_eq w (width u)) x (covered_operand low w us xs) (covered_operand low w us (map name xs)) (covered_named name low w us xs)

joined_operand_named : (name : Ref → Ref) (low w : ℕ) (kind : Kind) (us : List HwType) (rs : List Ref) → joined_operand low w kind us (map name rs) ≡ option_map name (joined_operand low w kind us rs)
joined_operand_named name low w concat us rs = covered_named name low w us rs
joined_operand_named name low w _ us rs = refl

pub extract_part_alike : StandsAlike extract_part
extract_part_alike name os os' [] alike (extract low) ts = refl
extract_part_alike name os os' (s ∷ []) alike (extract low) ts =
    made_named name (λ kind us rs. joined_operand low (width (nth_type ts 1)) kind us rs) (joined_operand_named name low (width (nth_type ts 1)))
    (maker os s) (maker os' (name s)) (alike.made s (inl refl))
extract_part_alike name os os' (s ∷ r ∷ rs) alike (extract low) ts = refl
extract_part_alike name os os' rs alike _ ts = refl

element_named : (name : Ref → Ref) (n : ℕ) (rs : List Ref) → element_operand n (map name rs) ≡ option_map name (element_operand n rs)
element_named name n [] = refl
element_named name n (x ∷ xs) =
    ap (λ k. cond (nat_eq n k) (Some (name x)) (element_operand n (map name xs))) (length-map xs name)
    ∙ cond_named name (nat_eq n (length xs)) x (element_operand n xs) (element_operand n (map name xs)) (element_named name n xs)

created_element_named : (name : Ref → Ref) (n : ℕ) (kind : Kind) (rs : List Ref) → created_element n kind (map name rs) ≡ option_map name (created_element n kind rs)
created_element_named name n (on_array array_create) rs = element_named name n rs
created_element_named name n _ rs = refl

pub array_part_alike : StandsAlike array_part
array_part_alike name os os' [] alike (on_array array_get) ts = refl
array_part_alike name os os' (a ∷ []) alike (on_array array_get) ts = refl
array_part_alike name os os' (a ∷ i ∷ []) alike (on_array array_get) ts =
    ap (λ z. option_and_then (λ (w : Word). option_and_then (λ (c : Op). created_element (number w) c.kind c.operands) (maker os' (name a))) z) (constant_named name os os' (a ∷ i ∷ []) alike i (inr (inl refl)))
    ∙ go (constant_at os i)
  where
    go : (z : Option Word) → option_and_then (λ (w : Word). option_and_then (λ (c : Op). created_element (number w) c.kind c.operands) (maker os' (name a))) z
        ≡ option_map name (option_and_then (λ (w : Word). option_and_then (λ (c : Op). created_element (number w) c.kind c.operands) (maker os a)) z)
    go None = refl
    go (Some w) =
        made_named name (λ kind us rs. created_element (number w) kind rs) (λ kind us rs. created_element_named name (number w) kind rs)
        (maker os a) (maker os' (name a)) (alike.made a (inl refl))
array_part_alike name os os' (a ∷ i ∷ r ∷ rs) alike (on_array array_get) ts = refl
array_part_alike name os os' rs alike _ ts = refl
