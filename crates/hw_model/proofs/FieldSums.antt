-- Sums over the fields of a struct type, one field at a time, up to a most.
use Rattle.std.proofs.Common.{◌≡◌, ℕ, zero, suc, ◌+◌, ◌*◌, ◌<◌, ◌≤◌, min, List, [], ◌∷◌, ◌++◌, length, map, take, get_or, arith, rules, sym, length-append}
use Rattle.std.proofs.lemmas.List.{map_more, take_all}
use Rattle.hw_model.specs.Types.{HwType, FieldTypes, width, width_of_fields, leaves, leaves_of_fields, list_copies}
use Rattle.hw_model.specs.TypeViews.{NamedType, fields_of, field_of, type_of, fields_in}
use Rattle.hw_model.specs.declared.types.Field.{Field}
use Rattle.hw_model.specs.declared.types.FieldList.{FieldList}
use Rattle.hw_model.specs.declared.types.Ty.{the_lemmas}
use Rattle.hw_model.specs.declared.types.FieldList.{out-FieldList}

pub width_more : (fs : List NamedType) (f : NamedType)
    → width_of_fields (fields_of (fs ++ f ∷ [])) ≡ width_of_fields (fields_of fs) + width f.type
width_more [] f = omega arith
width_more (g ∷ fs) f = rw (width_more fs f) (omega arith)

pub leaves_more : (fs : List NamedType) (f : NamedType)
    → length (leaves_of_fields (fields_of (fs ++ f ∷ []))) ≡ length (leaves_of_fields (fields_of fs)) + length (leaves f.type)
leaves_more [] f = rw (length-append (leaves f.type) []) (omega arith)
leaves_more (g ∷ fs) f =
    rw (length-append (leaves g.type) (leaves_of_fields (fields_of (fs ++ f ∷ []))), leaves_more fs f, length-append (leaves g.type) (leaves_of_fields (fields_of fs)))
    (omega arith)

pub list_copies_length : {A : Type 0} (n : ℕ) (xs : List A) → length (list_copies n xs) ≡ n * length xs
list_copies_length zero xs = omega arith
list_copies_length (suc n) xs = rw (length-append xs (list_copies n xs), list_copies_length n xs) (omega arith)

-- the parts of a field are those of its view
pub type_field : (x : Field) → (field_of x).type ≡ type_of x.ty
type_field x = search (rules, the_lemmas)

-- a sum up to a most m, of parts that are each up to it
pub capped_more : (a b c d e m : ℕ) → c ≡ min a m → d ≡ min b m → e ≡ min (c + d) m → e ≡ min (a + b) m
capped_more a b c d e m p q r = omega arith

-- one more field, whose part of the sum is `part`
pub field_more : (count : List NamedType → ℕ) (part : HwType → ℕ) (m : ℕ)
    → ((fs : List NamedType) (f : NamedType) → count (fs ++ f ∷ []) ≡ count fs + part f.type)
    → (xs : List Field) (i : ℕ) (x : Field) (sum now next : ℕ) → i < length xs → x ≡ get_or xs i x
    → sum ≡ min (count (map field_of (take i xs))) m → now ≡ min (part (type_of x.ty)) m → next ≡ min (sum + now) m
    → next ≡ min (count (map field_of (take (i + 1) xs))) m
field_more count part m more xs i x sum now next h at s n e =
    rw (map_more field_of xs i x h, more (map field_of (take i xs)) (field_of (get_or xs i x)), sym at, type_field x)
    (capped_more (count (map field_of (take i xs))) (part (type_of x.ty)) sum now next m s n e)

pub fields_open : (l : FieldList) → fields_in l ≡ fields_of (map field_of (out-FieldList l).fields.items)
fields_open l = search (rules, the_lemmas)

-- all fields
pub field_all : (count : FieldTypes → ℕ) (m : ℕ) (l : FieldList) (xs : List Field) (i sum : ℕ)
    → xs ≡ (out-FieldList l).fields.items → length xs ≤ i
    → sum ≡ min (count (fields_of (map field_of (take i xs)))) m → sum ≡ min (count (fields_in l)) m
field_all count m l xs i sum e h s = rw (fields_open l, sym e) (rw (take_all i xs h) at s)

pub capped_product : (n a c d m : ℕ) → c ≡ min a m → d ≡ min (n * c) m → d ≡ min (n * a) m
capped_product zero a c d m p q = omega arith
capped_product (suc n) a c d m p q = grind arith

pub capped_copies : (n : ℕ) (ts : List HwType) (l c d m : ℕ) → l ≡ n → c ≡ min (length ts) m → d ≡ min (l * c) m
    → d ≡ min (length (list_copies n ts)) m
capped_copies n ts l c d m e p q = rw (list_copies_length n ts) (capped_product n (length ts) c d m p (rw e at q))
