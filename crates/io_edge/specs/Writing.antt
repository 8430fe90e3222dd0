-- What a write of a file leaves.
use Rattle.std.specs.Prelude.{◌≡◌, ℕ, suc, ◌≤◌, List, [], ◌∷◌, take, length, Option, Some, Result, Ok, Err, ◌⊎◌, nat_eq, if◌then◌else◌}
use Rattle.std.specs.Cmp.Lexicographic.{pointwise}
use Rattle.io_edge.specs.declared.file_access.FileFail.{FileFail}
use Rattle.io_edge.specs.declared.file_access.FileFail.TheVariants.{Failed, NoMemory}

-- the files, of which the first of this name has these bytes; a name that no file has is put last
abbrev pub with_file : List ℕ → List ℕ → List (List ℕ × List ℕ) → List (List ℕ × List ℕ)
with_file name bytes [] = (name, bytes) ∷ []
with_file name bytes (file ∷ files) =
    if pointwise nat_eq file.0 name then (name, bytes) ∷ files else (file ∷ with_file name bytes files)

-- the position of the first file of this name, or the position after the last
abbrev pub position_in : List ℕ → List (List ℕ × List ℕ) → ℕ
position_in name [] = 0
position_in name (file ∷ files) = if pointwise nat_eq file.0 name then 0 else suc (position_in name files)

-- told files after a write: the named one has the bytes; after a fault it is as it was or has a prefix of them; where memory
-- runs out, and for every other name, nothing changes
abbrev pub Writes : {T : Type 0} → Option (List (List ℕ × List ℕ)) → Option (List (List ℕ × List ℕ)) → List ℕ → List ℕ → Result T FileFail → Type 0
Writes before after name bytes (Ok value) =
    (files : List (List ℕ × List ℕ)) → before ≡ Some files → after ≡ Some (with_file name bytes files)
Writes before after name bytes (Err Failed) =
    (files : List (List ℕ × List ℕ)) → before ≡ Some files
    → (after ≡ Some files) ⊎ ((count : ℕ) × (count ≤ length bytes) × (after ≡ Some (with_file name (take count bytes) files)))
Writes before after name bytes (Err NoMemory) = after ≡ before
