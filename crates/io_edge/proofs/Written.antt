-- A file that is put among others by its name.
use Rattle.std.proofs.Common.{◌≡◌, ℕ, suc, List, [], ◌∷◌, ◌++◌, Bool, true, false, length, refl, sym, ap, arith}
use Rattle.std.specs.Prelude.{nat_eq, if◌then◌else◌, slice_set}
use Rattle.std.specs.Cmp.Lexicographic.{pointwise}
use Rattle.io_edge.specs.Listed.{file_list}
use Rattle.io_edge.specs.Writing.{with_file, position_in}
use Rattle.io_edge.specs.declared.memory_files.MemoryFile.{MemoryFile}

-- a file whose name no other has is put last
pub listed_last : (f : MemoryFile) (files : List MemoryFile) → position_in f.name (file_list files) ≡ length files
    → file_list (files ++ f ∷ []) ≡ with_file f.name f.bytes (file_list files)
listed_last f [] e = refl
listed_last f (g ∷ files) e = go (pointwise nat_eq g.name f.name) e (listed_last f files)
  where
    go : (b : Bool) → (if b then 0 else suc (position_in f.name (file_list files))) ≡ suc (length files)
        → (position_in f.name (file_list files) ≡ length files → file_list (files ++ f ∷ []) ≡ with_file f.name f.bytes (file_list files))
        → (g.name, g.bytes) ∷ file_list (files ++ f ∷ [])
        ≡ (if b then (f.name, f.bytes) ∷ file_list files else ((g.name, g.bytes) ∷ with_file f.name f.bytes (file_list files)))
    go true h more = absurd (omega (arith, h))
    go false h more = rw (more (omega (arith, h))) refl

-- a file in the place of the first of its name
pub listed_there : (f : MemoryFile) (files : List MemoryFile) (position : ℕ) → position ≡ position_in f.name (file_list files) → (position ≡ length files → ⊥)
    → file_list (slice_set files position f) ≡ with_file f.name f.bytes (file_list files)
listed_there f [] position e other = absurd (other e)
listed_there f (g ∷ files) position e other = rw e (go (pointwise nat_eq g.name f.name) (rw (sym e) other) (listed_there f files (position_in f.name (file_list files)) refl))
  where
    go : (b : Bool) → ((if b then 0 else suc (position_in f.name (file_list files))) ≡ suc (length files) → ⊥)
        → ((position_in f.name (file_list files) ≡ length files → ⊥) → file_list (slice_set files (position_in f.name (file_list files)) f) ≡ with_file f.name f.bytes (file_list files))
        → file_list (slice_set (g ∷ files) (if b then 0 else suc (position_in f.name (file_list files))) f)
        ≡ (if b then (f.name, f.bytes) ∷ file_list files else ((g.name, g.bytes) ∷ with_file f.name f.bytes (file_list files)))
    go true h more = refl
    go false h more = rw (more (λ e. h (ap suc e))) refl
