-- Operations with other operands.
use Rattle.std.proofs.Common.{◌≡◌, ℕ, suc, Bool, true, false, cond, List, [], ◌∷◌, length, map, take, slice_get, Option, Some, None, refl, sym, ap, ap₂, subst, option_and_then, option_map}
use Rattle.std.proofs.lemmas.List.{map-id}
use Rattle.std.proofs.lemmas.Option.{slice_get-map}
use Rattle.wiring.proofs.Lists.{map-map}
use Rattle.bits_core.specs.Word.{Word}
use Rattle.hw_model.specs.Types.{HwType, width}
use Rattle.hw_model.specs.Kinds.{Reset}
use Rattle.hw_model.specs.Kinds.Reset.{no_reset, sync_reset}
use Rattle.hw_model.specs.Design.{Ref, Port, Op, RegisterForm, register_form}
use Rattle.hw_model.specs.Flat.{Net, Source, port_ref, operand_for, input_count, input_of, held_of, register_in, register_parts, has_async_reset, async_parts, async_reset_in}
use Rattle.hw_model.specs.Flat.Source.{nowhere, input, held, copy, op_result}
use Rattle.hw_model.specs.Meaning.{needs_of, value_of, next_value, rise_value}
use Rattle.edit_laws.specs.Edit.{retarget, anchors, Kept, Edit}

-- ---- other operands

pub length_map : {A B : Type 0} (f : A → B) (xs : List A) → length (map f xs) ≡ length xs
length_map f [] = refl
length_map f (x ∷ xs) = ap suc (length_map f xs)

retarget_id : (o : Op) → retarget (λ r. r) o ≡ o
retarget_id o = ap (λ rs. record o { operands = rs }) (map-id o.operands)

pub map_retarget_id : (os : List Op) → map (retarget (λ r. r)) os ≡ os
map_retarget_id [] = refl
map_retarget_id (o ∷ os) = ap₂ (λ x xs. x ∷ xs) (retarget_id o) (map_retarget_id os)

pub option_map_retarget_id : (x : Option Op) → option_map (retarget (λ r. r)) x ≡ x
option_map_retarget_id None = refl
option_map_retarget_id (Some o) = ap Some (retarget_id o)

-- nothing changed
unfoldable pub no_edit : (os : List Op) → Edit os os
no_edit os = record {
  stand = λ r. r;
  port_is = λ j. refl;
  undefined_is = refl;
  anchors_are = sym (map_retarget_id (anchors os));
  position = λ j. Some j;
  kept = λ j j' is.
      let same : j ≡ j' = cc in
      subst (λ z. Kept os os (λ r. r) j z) same (record {
        op = sym (option_map_retarget_id (slice_get os j));
        before = sym (map_retarget_id (anchors (take j os)));
        stands = λ k. refl;
      });
}

-- a source in which other nets stand for those that it needs
abbrev pub map_source : (Net → Net) → Source → Source
map_source f nowhere = nowhere
map_source f (input start w) = input start w
map_source f (held start w) = held start w
map_source f (copy n) = copy (f n)
map_source f (op_result kind types t k ns) = op_result kind types t k (map f ns)

-- what a source gives under a map of nets
abbrev pub reads : Word → Word → (Net → Word) → Source → Word
reads inputs content ρ s = value_of inputs content s (map ρ (needs_of s))

pub reads-map_source : (inputs content : Word) (ρ : Net → Word) (f : Net → Net) (s : Source)
    → reads inputs content ρ (map_source f s) ≡ reads inputs content (λ a. ρ (f a)) s
reads-map_source inputs content ρ f nowhere = refl
reads-map_source inputs content ρ f (input start w) = refl
reads-map_source inputs content ρ f (held start w) = refl
reads-map_source inputs content ρ f (copy n) = refl
reads-map_source inputs content ρ f (op_result kind types t k ns) = ap (value_of inputs content (op_result kind types t k ns)) (map-map ρ f ns)

pub map_source-input : (f : Net → Net) (x : Option Port) (start : ℕ) → map_source f (input_of x start) ≡ input_of x start
map_source-input f None start = refl
map_source-input f (Some q) start = go q.is_output
  where
    go : (b : Bool) → map_source f (cond b nowhere (input start (width q.type))) ≡ cond b nowhere (input start (width q.type))
    go true = refl
    go false = refl

pub map_source-held : (f : Net → Net) (start : ℕ) (t : Option HwType) → map_source f (held_of start t) ≡ held_of start t
map_source-held f start None = refl
map_source-held f start (Some t) = refl

pub port_ref-map : (f : Ref → Ref) (ps : List Port) (rs : List Ref) (j : ℕ) → port_ref ps (map f rs) j ≡ option_map f (port_ref ps rs j)
port_ref-map f ps rs j = go (slice_get ps j)
  where
    given : (b : Bool) → cond b None (slice_get (map f rs) (input_count (take j ps))) ≡ option_map f (cond b None (slice_get rs (input_count (take j ps))))
    given true = refl
    given false = slice_get-map f rs (input_count (take j ps))

    go : (x : Option Port) → operand_for x (map f rs) (input_count (take j ps)) ≡ option_map f (operand_for x rs (input_count (take j ps)))
    go None = refl
    go (Some q) = given q.is_output

-- what a register loads with other operands
pub next-retarget : (f : Ref → Ref) (o : Op) (τ : Ref → Word) (old : Word)
    → next_value (register_in (retarget f o)) τ old ≡ next_value (register_in o) (λ r. τ (f r)) old
next-retarget f o τ old = go (register_form o.kind)
  where
    parts_same : (e : Bool) (r : Reset) (rs : List Ref) → next_value (register_parts e r (map f rs)) τ old ≡ next_value (register_parts e r rs) (λ r. τ (f r)) old
    parts_same false no_reset (d ∷ c ∷ []) = refl
    parts_same true no_reset (d ∷ c ∷ e ∷ []) = refl
    parts_same false sync_reset (d ∷ c ∷ r ∷ v ∷ []) = refl
    parts_same true sync_reset (d ∷ c ∷ e ∷ r ∷ v ∷ []) = refl
    parts_same _ _ _ = refl

    go : (x : Option RegisterForm) → next_value (option_and_then (λ (g : RegisterForm). register_parts g.has_enable g.reset (map f o.operands)) x) τ old
        ≡ next_value (option_and_then (λ (g : RegisterForm). register_parts g.has_enable g.reset o.operands) x) (λ r. τ (f r)) old
    go None = refl
    go (Some g) = parts_same g.has_enable g.reset o.operands

-- and to what it is reset
pub rise-retarget : (f : Ref → Ref) (o : Op) (τ υ : Ref → Word) (old : Word)
    → rise_value (async_reset_in (retarget f o)) τ υ old ≡ rise_value (async_reset_in o) (λ r. τ (f r)) (λ r. υ (f r)) old
rise-retarget f o τ υ old = go (has_async_reset o.kind)
  where
    parts_same : (rs : List Ref) → rise_value (async_parts (map f rs)) τ υ old ≡ rise_value (async_parts rs) (λ r. τ (f r)) (λ r. υ (f r)) old
    parts_same (d ∷ c ∷ r ∷ v ∷ []) = refl
    parts_same _ = refl

    go : (b : Bool) → rise_value (cond b (async_parts (map f o.operands)) None) τ υ old ≡ rise_value (cond b (async_parts o.operands) None) (λ r. τ (f r)) (λ r. υ (f r)) old
    go true = parts_same o.operands
    go false = refl
