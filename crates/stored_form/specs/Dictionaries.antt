-- Dictionaries as they are kept: in order, without what says nothing, and with strings where strings are asked for.
use Rattle.std.specs.Prelude.{Bool, true, false, cond, ◌&&◌, not, ◌==◌, List, [], ◌∷◌, take, codes, ◌≡◌, ⊤}
use Rattle.opcode.specs.declared.listed.Listed.{Listed}
use Rattle.opcode.specs.declared.listed.Listed.TheVariants as listed
use Rattle.opcode.specs.Listed.{name_of_listed}
use Rattle.hw_model.specs.Types.{Name}
use Rattle.hw_model.specs.Design.{Entry, same_name, Attribute}
use Rattle.mlir_lexer.specs.Runs.{run}
use Rattle.std.specs.Ordering.{nat_cmp, is_lt}
use Rattle.std.specs.Cmp.Lexicographic.{slice_cmp}
use Rattle.hw_model.specs.Design.Attribute.{text_value}
use Rattle.stored_form.specs.Bytes.{Each}
use Rattle.stored_form.specs.Limits.{IsEntry}

-- ---- names

-- a name up to its first dot
abbrev pub dialect : Name → Name
dialect name = take (run (λ b. not (b == 46)) name) name

-- whether `bin` may stand after the name
abbrev pub takes_bin : Listed → Bool
takes_bin o = same_name (dialect (name_of_listed o)) (codes "comb")

-- the keys whose values are strings: a hint everywhere, the name of a register or a wire
abbrev pub string_keys : Listed → List Name
string_keys listed.HwWire = codes "sv.namehint" ∷ codes "name" ∷ []
string_keys listed.SeqCompreg = codes "sv.namehint" ∷ codes "name" ∷ []
string_keys listed.SeqCompregCe = codes "sv.namehint" ∷ codes "name" ∷ []
string_keys listed.SeqFirreg = codes "sv.namehint" ∷ codes "name" ∷ []
string_keys _ = codes "sv.namehint" ∷ []

-- the keys of a module's dictionary whose values are strings
abbrev pub module_keys : List Name
module_keys = codes "sv.namehint" ∷ []

-- ---- entries

-- a hint that is empty is none
abbrev pub is_empty_text : Attribute → Bool
is_empty_text (text_value []) = true
is_empty_text _ = false

abbrev pub is_empty_hint : Entry → Bool
is_empty_hint e = same_name (codes "sv.namehint") e.key && is_empty_text e.value

-- whether an operation has a name of its own
abbrev pub has_name : Listed → Bool
has_name listed.HwWire = true
has_name listed.SeqCompreg = true
has_name listed.SeqCompregCe = true
has_name listed.SeqFirreg = true
has_name _ = false

abbrev pub is_name_entry : Entry → Bool
is_name_entry e = same_name (codes "name") e.key

-- whether an operation's entry is not kept: an empty hint, and the name of what has one of its own
abbrev pub is_dropped : Listed → Entry → Bool
is_dropped o e = cond (is_empty_hint e) true (has_name o && is_name_entry e)

-- keys rise by their bytes, so that none stands twice
abbrev pub AreInOrder : List Entry → Type 0
AreInOrder [] = ⊤
AreInOrder (e ∷ []) = ⊤
AreInOrder (e ∷ f ∷ es) = (is_lt (slice_cmp nat_cmp e.key f.key) ≡ true) × AreInOrder (f ∷ es)

-- a dictionary of an operation of a name
pub record IsKeptDictionary (o : Listed) (strings : List Name) (es : List Entry) : Type 0 where
  -- the entries stand by the bytes of their keys, each key once
  pub in_order : AreInOrder es
  -- no hint is empty, and what has a name of its own has no entry for it
  pub kept : Each (λ (e : Entry). is_dropped o e ≡ false) es
  -- keys are bytes, values are read where they stand, and those of some keys are strings
  pub entries : Each (IsEntry strings) es
