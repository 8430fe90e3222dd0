-- Names that are chosen one after another.
use Rattle.std.proofs.Common.{◌≡◌, ◌+◌, List, [], ◌∷◌, ◌++◌, length, refl, sym, ap, ◌∙◌, append_assoc, arith}
use Rattle.std.proofs.lemmas.List.{append-nil}
use Rattle.std.specs.Prelude.{Option, Some, None, decimal, ℤ}
use Rattle.hw_model.specs.Types.{Name, HwType}
use Rattle.hw_model.specs.Types.HwType.{int, clock, array, struct}
use Rattle.fresh_names.specs.Fresh.{fresh, free_name}
use Rattle.fresh_names.proofs.Taken.{one_more}
use Rattle.mlir_printer.specs.Strings.{standing}
use Rattle.mlir_printer.specs.Naming.{hints_or_numbers}
use Rattle.printing_laws.specs.NameHints.{constant_name_hint}
use Rattle.mlir_printer.specs.Chosen.{Chosen, with_name_hint, with_name_hints}

pub name_hints_append : (c : Chosen) (xs ys : List (Option Name)) → with_name_hints c (xs ++ ys) ≡ with_name_hints (with_name_hints c xs) ys
name_hints_append c [] ys = refl
name_hints_append c (x ∷ xs) ys = name_hints_append (with_name_hint c x) xs ys

-- they are the fresh names of what is wanted
pub name_hints_names : (c : Chosen) (ws : List (Option Name)) → (with_name_hints c ws).names ≡ c.names ++ fresh c.names (hints_or_numbers c.next ws)
name_hints_names c [] = sym (append-nil c.names)
name_hints_names c (None ∷ ws) =
    let f : Name = free_name c.names (decimal c.next) in
    name_hints_names (with_name_hint c None) ws ∙ append_assoc c.names (f ∷ []) (fresh (c.names ++ f ∷ []) (hints_or_numbers (c.next + 1) ws))
name_hints_names c (Some name ∷ ws) =
    let f : Name = free_name c.names (standing name) in
    name_hints_names (with_name_hint c (Some name)) ws ∙ append_assoc c.names (f ∷ []) (fresh (c.names ++ f ∷ []) (hints_or_numbers c.next ws))

name_hint_length : (c : Chosen) (w : Option Name) → length (with_name_hint c w).names ≡ length c.names + 1
name_hint_length c None = one_more c.names (free_name c.names (decimal c.next))
name_hint_length c (Some name) = one_more c.names (free_name c.names (standing name))

pub name_hints_length : (c : Chosen) (ws : List (Option Name)) → length (with_name_hints c ws).names ≡ length c.names + length ws
name_hints_length c [] = omega arith
name_hints_length c (w ∷ ws) = omega (arith, name_hints_length (with_name_hint c w) ws, name_hint_length c w)

-- wishes in turn, of items of which each has some
pub name_hints_step : (c d e : Chosen) (xs ys : List (Option Name)) → d ≡ with_name_hints c xs → with_name_hints c (xs ++ ys) ≡ e → with_name_hints d ys ≡ e
name_hints_step c d e xs ys now whole = ap (λ x. with_name_hints x ys) now ∙ sym (name_hints_append c xs ys) ∙ whole

-- the wish of a constant is that of its first type
pub name_hint_first : (t : HwType) (ts : List HwType) (z : ℤ) → constant_name_hint (t ∷ []) z ≡ constant_name_hint (t ∷ ts) z
name_hint_first (int w) ts z = refl
name_hint_first clock ts z = refl
name_hint_first (array n t) ts z = refl
name_hint_first (struct fs) ts z = refl
