-- A module in which each aggregate value is its leaves, and what it has to keep so that designs of such modules do what
-- they did (CIRCT, HW dialect: `hw-lower-aggregates`).
use Rattle.std.specs.Prelude.{◌≡◌, ℕ, suc, ◌-◌, ◌*◌, ◌<◌, true, false, List, [], ◌++◌, map, take, length, Option, Some, None, is_some, slice_get, option_map}
use Rattle.std.specs.List.{flat_map}
use Rattle.wiring.specs.Wiring.{In}
use Rattle.bits_core.specs.Word.{Word}
use Rattle.hw_model.specs.Types.{HwType, leaves}
use Rattle.hw_model.specs.Value.{concat_words}
use Rattle.hw_model.specs.Design.{Ref, Op, Module, is_instance, is_register, result_type}
use Rattle.hw_model.specs.Design.Ref.{port, result}
use Rattle.hw_model.specs.Sound.{body_of, ports_of, type_in, OpFits}
use Rattle.edit_laws.specs.Edit.{is_anchor, anchors, result_word, Holds}
use Rattle.edit_laws.specs.Falls.{LocalHeight}
use Rattle.edit_laws.specs.Follows.{Wide}
use Rattle.aggregate_laws.specs.Leaves.{in_row, bare_port, leaf_ports, leaf_start, parts_of_port, bare_op, lower_anchor, result_start}

-- the word of a value whose leaves the map has
abbrev pub whole : (Ref → List Ref) → (Ref → Word) → Ref → Word
whole parts τ r = concat_words (map τ (parts r))

-- at position j' of the new body stands, but for names, x, the i-th of what the operation o at position j of the old body
-- becomes, after the same registers and instances
pub record Standing (os os' : List Op) (parts : Ref → List Ref) (j : ℕ) (o : Op) (i : ℕ) (x : Op) (j' : ℕ) : Type 0 where
  pub op : option_map bare_op (slice_get os' j') ≡ Some x
  pub before : map bare_op (anchors (take j' os')) ≡ flat_map (lower_anchor parts) (anchors (take j os)) ++ take i (lower_anchor parts o)

-- the new module has the leaves of the old one's values: `parts` says which stand for a value, and `start` where the i-th of
-- what the register, instance or output at position j becomes stands
pub record Lowered (old new : Option Module) : Type 0 where
  pub is_there : is_some new ≡ is_some old
  pub ports_are : map bare_port (ports_of new) ≡ flat_map leaf_ports (ports_of old)
  pub parts : Ref → List Ref
  pub typed : (r : Ref) (t : HwType) → type_in (ports_of old) (body_of old) r ≡ Some t
      → map (type_in (ports_of new) (body_of new)) (parts r) ≡ map (λ (u : HwType). Some u) (leaves t)
  pub untyped : (r : Ref) → type_in (ports_of old) (body_of old) r ≡ None → parts r ≡ []
  pub port_is : (j : ℕ) → parts (port j) ≡ parts_of_port (leaf_start (ports_of old) j) (slice_get (ports_of old) j)
  pub anchors_are : map bare_op (anchors (body_of new)) ≡ flat_map (lower_anchor parts) (anchors (body_of old))
  pub start : ℕ → ℕ → ℕ
  pub stands : (j : ℕ) (o : Op) (i : ℕ) (x : Op) → slice_get (body_of old) j ≡ Some o → is_anchor o ≡ true
      → slice_get (lower_anchor parts o) i ≡ Some x → Standing (body_of old) (body_of new) parts j o i x (start j i)
  pub register_is : (j : ℕ) (o : Op) (t : HwType) → slice_get (body_of old) j ≡ Some o → is_register o ≡ true → result_type o 0 ≡ Some t
      → parts (result j 0) ≡ in_row (λ i. result (start j i) 0) 0 (length (leaves t))
  pub register_has_one : (j : ℕ) (o : Op) (k : ℕ) → slice_get (body_of old) j ≡ Some o → is_register o ≡ true → result_type o (suc k) ≡ None
  pub instance_is : (j : ℕ) (o : Op) (k : ℕ) (t : HwType) → slice_get (body_of old) j ≡ Some o → is_instance o ≡ true → result_type o k ≡ Some t
      → parts (result j k) ≡ in_row (result (start j 0)) (result_start o k) (length (leaves t))
  pub words : (τ : Ref → Word) → Holds (body_of new) τ → Wide (ports_of new) (body_of new) τ
      → (j : ℕ) (o : Op) (k : ℕ) (t : HwType) → slice_get (body_of old) j ≡ Some o → is_anchor o ≡ false → result_type o k ≡ Some t
      → result_word (whole parts τ) o k (Some t) ≡ whole parts τ (result j k)

-- one that keeps a design valid: `home` says of a value of the new body as which of the old body it is high, and `slack` how
-- much lower than that it stands, where heights of the old body are counted `scale` times
pub record LoweredWell (scale : ℕ) (old new : Option Module) : Type 0 where
  pub lowered : Lowered old new
  pub home : Ref → Ref
  pub slack : Ref → ℕ
  pub slack_is : (r : Ref) → slack r < scale
  pub part_home : (h : Ref → ℕ) → LocalHeight (body_of old) h → (r r' : Ref) → In r' (lowered.parts r) → h (home r') ≡ h r
  pub port_slack : (j : ℕ) → slack (port j) ≡ 0
  pub anchor_slack : (j' k : ℕ) (o : Op) → slice_get (body_of new) j' ≡ Some o → is_anchor o ≡ true → slack (result j' k) ≡ 0
  pub origin : (j' : ℕ) (o' : Op) → slice_get (body_of new) j' ≡ Some o' → is_anchor o' ≡ true
      → (j : ℕ) × (o : Op) × (i : ℕ) × (x : Op) × (slice_get (body_of old) j ≡ Some o) × (is_anchor o ≡ true)
      × (slice_get (lower_anchor lowered.parts o) i ≡ Some x) × (j' ≡ lowered.start j i)
  pub falls : (h : Ref → ℕ) → LocalHeight (body_of old) h → (j' k : ℕ) (o : Op) (t : HwType) → slice_get (body_of new) j' ≡ Some o
      → is_anchor o ≡ false → result_type o k ≡ Some t → (r : Ref) → In r o.operands
      → h (home r) * scale - slack r < h (home (result j' k)) * scale - slack (result j' k)
  pub fits : (j' : ℕ) (o : Op) → slice_get (body_of new) j' ≡ Some o → is_anchor o ≡ false → OpFits (type_in (ports_of new) (body_of new)) o
