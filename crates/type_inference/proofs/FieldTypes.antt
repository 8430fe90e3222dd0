-- The types of the fields of a struct.
use Rattle.std.proofs.Common.{◌≡◌, List, [], ◌∷◌, map, refl, ap, rules}
use Rattle.std.specs.Prelude.{Option, Some}
use Rattle.hw_model.specs.Types.{HwType}
use Rattle.hw_model.specs.TypeViews.{type_of, field_of, fields_of}
use Rattle.hw_model.specs.Sound.{field_list}
use Rattle.hw_model.specs.declared.types.Field.{Field}
use Rattle.hw_model.specs.declared.types.Ty.{the_lemmas}

-- the type of a field
abbrev pub seen_type : Field → Option HwType
seen_type f = Some (type_of f.ty)

pub types_seen : (fs : List Field) → map seen_type fs ≡ map (λ (t : HwType). Some t) (field_list (fields_of (map field_of fs)))
types_seen [] = refl
types_seen (f ∷ fs) =
    let seen : field_of f ≡ record { name = f.name; type = type_of f.ty } = search (rules, the_lemmas) in
    rw seen (ap (λ ts. Some (type_of f.ty) ∷ ts) (types_seen fs))
