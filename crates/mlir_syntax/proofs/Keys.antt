-- The keys of a dictionary that is read, in a table.
use Rattle.std.proofs.Common.{◌≡◌, ◌||◌, Bool, true, false, cond, List, ℕ, [], ◌∷◌, ◌++◌, refl}
use Rattle.std.specs.List.{list_any}
use Rattle.std.proofs.lemmas.Cmp.{nat_list_eq_equiv}
use Rattle.hw_model.specs.Design.{same_name}
use Rattle.indexmap.specs.IndexSet.{insert_key}
use Rattle.mlir_syntax.specs.AttributeText.{is_among}

or-cond : (a b : Bool) → (a || b) ≡ cond a true b
or-cond true b = refl
or-cond false b = refl

pub among_any : (name : List ℕ) (names : List (List ℕ)) → list_any (same_name name) names ≡ is_among name names
among_any name [] = refl
among_any name (n ∷ names) = rw (nat_list_eq_equiv.symm name n, among_any name names) (or-cond (same_name n name) (is_among name names))

pub insert_new : (name : List ℕ) (names : List (List ℕ)) → is_among name names ≡ false → insert_key same_name names name ≡ names ++ name ∷ []
insert_new name names new = rw (among_any name names, new) refl
