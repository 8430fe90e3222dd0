-- Names of what is inlined: what is named n in an instance named u is named `u_n`, and what has no name gets none (CIRCT, HW
-- dialect: `hw-flatten-modules`).
use Rattle.std.specs.Prelude.{cond, [], ◌∷◌, ◌++◌, map, codes}
use Rattle.hw_model.specs.Types.{Name}
use Rattle.hw_model.specs.Kinds.{Kind}
use Rattle.hw_model.specs.Kinds.Kind.{instance}
use Rattle.hw_model.specs.Design.{Attribute, Entry, Op, same_name}
use Rattle.hw_model.specs.Design.Attribute.{text_value}

-- a name in an instance
abbrev pub joined_name : Name → Name → Name
joined_name u [] = []
joined_name u (b ∷ n) = u ++ (codes "_" ++ (b ∷ n))

-- an instance in an instance
abbrev pub renamed_kind : Name → Kind → Kind
renamed_kind u (instance i) = instance (record i { name = joined_name u i.name })
renamed_kind u kind = kind

-- a name hint
abbrev pub renamed_value : Name → Attribute → Attribute
renamed_value u (text_value n) = text_value (joined_name u n)
renamed_value u value = value

abbrev pub renamed_entry : Name → Entry → Entry
renamed_entry u e = cond (same_name e.key (codes "sv.namehint")) (record e { value = renamed_value u e.value }) e

-- an operation in an instance
abbrev pub renamed : Name → Op → Op
renamed u o = record o { kind = renamed_kind u o.kind; name = joined_name u o.name; dictionary = map (renamed_entry u) o.dictionary }
