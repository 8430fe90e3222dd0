-- Files by name, and what a read of one answers.
use Rattle.std.specs.Prelude.{◌≡◌, ℕ, ◌≤◌, List, [], ◌∷◌, take, Option, None, Some, Result, Ok, Err, ⊤, nat_eq, if◌then◌else◌}
use Rattle.std.specs.Option.{option_map}
use Rattle.std.specs.Cmp.Lexicographic.{pointwise}
use Rattle.io_edge.specs.Faults.{HasRisen}
use Rattle.io_edge.specs.declared.file_access.FileFail.{FileFail}
use Rattle.io_edge.specs.declared.file_access.FileFail.TheVariants.{Failed, NoMemory}

-- the bytes of the first file of this name
abbrev pub file_at : List ℕ → List (List ℕ × List ℕ) → Option (List ℕ)
file_at name [] = None
file_at name (file ∷ files) = if pointwise nat_eq file.0 name then Some file.1 else file_at name files

-- a read that gave a text gave the prefix of the told file of this name; a name that no told file has is never answered
abbrev pub Reads : Option (List (List ℕ × List ℕ)) → List ℕ → ℕ → Result (List ℕ) FileFail → Type 0
Reads told name limit (Ok text) = (files : List (List ℕ × List ℕ)) → told ≡ Some files → option_map (take limit) (file_at name files) ≡ Some text
Reads told name limit (Err fail) = ⊤

-- a fact for an answer that is a fault
abbrev pub OnFailed : {T : Type 0} → Result T FileFail → Type 0 → Type 0
OnFailed (Ok value) P = ⊤
OnFailed (Err Failed) P = P
OnFailed (Err NoMemory) P = ⊤

-- a count of faults over one call: it never falls, and the call met a fault only where it rose
pub record HasFileCause {T : Type 0} (before after : ℕ) (result : Result T FileFail) : Type 0 where
  pub kept : before ≤ after
  pub rose : OnFailed result (HasRisen before after)

-- the counts by name over one call: none falls, and the call met a fault only where that of its own name rose
pub record HasNamedCause {T : Type 0} (name : List ℕ) (before after : List ℕ → ℕ) (result : Result T FileFail) : Type 0 where
  pub kept : (other : List ℕ) → before other ≤ after other
  pub rose : OnFailed result (HasRisen (before name) (after name))
