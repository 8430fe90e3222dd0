-- Sums and products up to a most.
use Rattle.std.proofs.Common.{◌≡◌, ℕ, zero, suc, ◌+◌, ◌*◌, ◌<◌, ◌≤◌, min, List, [], ◌∷◌, ◌++◌, length, map, take, get_or, slice_get, refl, sym, ap, ◌∙◌, arith, rules}
use Rattle.std.proofs.lemmas.List.{map_more, take_all}
use Rattle.std.proofs.Math.Nat.{mul_comm}
use Rattle.hw_model.specs.Types.{HwType, leaves}
use Rattle.hw_model.specs.TypeViews.{type_of}
use Rattle.hw_model.specs.Kinds.{Literal as HwLiteral}
use Rattle.hw_model.specs.KindViews.{literals_of, literal_of, literals_in}
use Rattle.hw_model.specs.Value.{nth_type}
use Rattle.hw_model.specs.Weight.{leaf_count, literal_leaves, literals_leaves, element_count, element_leaves, choice_weight}
use Rattle.hw_model.specs.declared.types.Ty.{Ty}
use Rattle.hw_model.specs.declared.kinds.Literal.{Literal, the_lemmas}
use Rattle.hw_model.specs.declared.kinds.LiteralList.{LiteralList, out-LiteralList}
use Rattle.hw_model.proofs.FieldSums.{capped_more, capped_product}
use Rattle.design_cycles.specs.Sizes.{length_of, leaves_of}

-- ---- products

pub capped_times : (a n c d m : ℕ) → c ≡ min a m → d ≡ min (c * n) m → d ≡ min (a * n) m
capped_times a n c d m p q = capped_product n a c d m p (q ∙ ap (λ k. min k m) (mul_comm c n)) ∙ ap (λ k. min k m) (mul_comm n a)

pub capped_both : (a b c d e m : ℕ) → c ≡ min a m → d ≡ min b m → e ≡ min (c * d) m → e ≡ min (a * b) m
capped_both a b c d e m p q r =
    let first : e ≡ min (c * b) m = capped_product c b d e m q r in
    capped_times a b c e m p first

pub capped_choice : (n l copies fourfold parts more one many all m : ℕ) → fourfold ≡ min (n * 4) m → parts ≡ min l m → more ≡ min (fourfold + 1) m → one ≡ min (parts * more) m
    → many ≡ min (copies * one) m → all ≡ min (many + fourfold) m → 1 ≤ m → all ≡ min (choice_weight n l copies) m
capped_choice n l copies fourfold parts more one many all m p q r s t u positive =
    let four : fourfold ≡ min (4 * n) m = p ∙ ap (λ k. min k m) (mul_comm n 4) in
    let more' : more ≡ min (4 * n + 1) m = omega arith in
    let one' : one ≡ min (l * (4 * n + 1)) m = capped_both l (4 * n + 1) parts more one m q more' s in
    let many' : many ≡ min (copies * (l * (4 * n + 1))) m = capped_product copies (l * (4 * n + 1)) one many m one' t in
    let turned : all ≡ min (fourfold + many) m = omega arith in
    capped_more (4 * n) (copies * (l * (4 * n + 1))) fourfold many all m four many' turned

pub capped_injection : (n l parts whole first second all m : ℕ) → parts ≡ min l m → whole ≡ min (n * parts) m → first ≡ min (n * 4) m → second ≡ min (whole * 4) m
    → all ≡ min (first + second) m → all ≡ min (4 * n + 4 * (n * l)) m
capped_injection n l parts whole first second all m p q r s t =
    let whole' : whole ≡ min (n * l) m = capped_product n l parts whole m p q in
    let first' : first ≡ min (4 * n) m = r ∙ ap (λ k. min k m) (mul_comm n 4) in
    let second' : second ≡ min (4 * (n * l)) m = capped_product 4 (n * l) whole second m whole' (s ∙ ap (λ k. min k m) (mul_comm whole 4)) in
    capped_more (4 * n) (4 * (n * l)) first second all m first' second' t

-- ---- types that are written

pub length_written : (ts : List HwType) (n : ℕ) → length_of (slice_get ts n) ≡ element_count (nth_type ts n)
length_written [] n = refl
length_written (t ∷ ts) zero = refl
length_written (t ∷ ts) (suc n) = length_written ts n

pub leaves_written : (ts : List HwType) (n : ℕ) → leaves_of (slice_get ts n) ≡ element_leaves (nth_type ts n)
leaves_written [] n = refl
leaves_written (t ∷ ts) zero = refl
leaves_written (t ∷ ts) (suc n) = leaves_written ts n

-- ---- sums over types

pub leaf_count-push : (ts : List HwType) (t : HwType) → leaf_count (ts ++ t ∷ []) ≡ leaf_count ts + length (leaves t)
leaf_count-push [] t = omega arith
leaf_count-push (x ∷ ts) t = let rest : leaf_count (ts ++ t ∷ []) ≡ leaf_count ts + length (leaves t) = leaf_count-push ts t in omega arith

pub leaves_more : (types : List Ty) (i : ℕ) (x : Ty) (sum now next m : ℕ) → i < length types → x ≡ get_or types i x → sum ≡ min (leaf_count (map type_of (take i types))) m
    → now ≡ min (length (leaves (type_of x))) m → next ≡ min (sum + now) m → next ≡ min (leaf_count (map type_of (take (i + 1) types))) m
leaves_more types i x sum now next m below is p q r =
    rw (map_more type_of types i x below, leaf_count-push (map type_of (take i types)) (type_of (get_or types i x)), sym is)
    (capped_more (leaf_count (map type_of (take i types))) (length (leaves (type_of x))) sum now next m p q r)

-- ---- sums over constants

literals-push : (ls : List HwLiteral) (l : HwLiteral) → literals_leaves (literals_of (ls ++ l ∷ [])) ≡ literals_leaves (literals_of ls) + literal_leaves l
literals-push [] l = omega arith
literals-push (x ∷ ls) l = let rest : literals_leaves (literals_of (ls ++ l ∷ [])) ≡ literals_leaves (literals_of ls) + literal_leaves l = literals-push ls l in omega arith

pub literals_more : (xs : List Literal) (i : ℕ) (x : Literal) (sum now next m : ℕ) → i < length xs → x ≡ get_or xs i x → sum ≡ min (literals_leaves (literals_of (map literal_of (take i xs)))) m
    → now ≡ min (literal_leaves (literal_of x)) m → next ≡ min (sum + now) m → next ≡ min (literals_leaves (literals_of (map literal_of (take (i + 1) xs)))) m
literals_more xs i x sum now next m below is p q r =
    rw (map_more literal_of xs i x below, literals-push (map literal_of (take i xs)) (literal_of (get_or xs i x)), sym is)
    (capped_more (literals_leaves (literals_of (map literal_of (take i xs)))) (literal_leaves (literal_of x)) sum now next m p q r)

literals_open : (l : LiteralList) → literals_in l ≡ literals_of (map literal_of (out-LiteralList l).literals.items)
literals_open l = search (rules, the_lemmas)

pub literals_all : (m : ℕ) (l : LiteralList) (xs : List Literal) (i sum : ℕ) → xs ≡ (out-LiteralList l).literals.items → length xs ≤ i
    → sum ≡ min (literals_leaves (literals_of (map literal_of (take i xs)))) m → sum ≡ min (literals_leaves (literals_in l)) m
literals_all m l xs i sum e h s = rw (literals_open l, sym e) (rw (take_all i xs h) at s)
