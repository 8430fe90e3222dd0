-- A word put into a table, and the words that stand in it then.
use Rattle.std.proofs.Common.{◌≡◌, refl, ap, ◌∙◌, ℕ, ◌<◌, Bool, true, false, cond, List, length, length-set, get_or-set_same, get_or-set_other}
use Rattle.std.specs.Prelude.{slice_set, nat_lt}
use Rattle.std.proofs.lemmas.Bool.{lt-ltb}
use Rattle.bits_core.specs.Word.{Word, flag}
use Rattle.flat_steps.specs.Tables.{cell, put}

pub put_length : (table : List Word) (i : ℕ) (x : Word) → length (put table i x) ≡ length table
put_length table i x = by_test (nat_lt i (length table))
  where
    by_test : (t : Bool) → length (cond t (slice_set table i x) table) ≡ length table
    by_test true = length-set table i x
    by_test false = refl

pub cell_same : (table : List Word) (i : ℕ) (x : Word) → i < length table → cell (put table i x) i ≡ x
cell_same table i x within =
    ap (λ (t : Bool). cell (cond t (slice_set table i x) table) i) (lt-ltb i (length table) within) ∙ get_or-set_same table i x (flag false) within

pub cell_other : (table : List Word) (i j : ℕ) (x : Word) → (j ≡ i → ⊥) → cell (put table i x) j ≡ cell table j
cell_other table i j x other = by_test (nat_lt i (length table))
  where
    by_test : (t : Bool) → cell (cond t (slice_set table i x) table) j ≡ cell table j
    by_test true = get_or-set_other table i j x (flag false) other
    by_test false = refl
