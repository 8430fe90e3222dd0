-- Circuits: inputs, then gates in the order of their variables.
use Rattle.std.specs.Prelude.{◌≡◌, ℕ, ◌++◌, List}
use Rattle.gates.specs.declared.signal.Gate.{Gate}
use Rattle.gates.specs.Build.{Build}

-- the number of inputs, whose variables come first, and the gates
pub record Circuit : Type 0 where
  pub inputs : ℕ
  pub gates : List Gate

-- the building was run: the new circuit has its gates after the old ones, and what it built is the result
pub record Runs {A : Type 0} (build : Build A) (old new : Circuit) (a : A) : Type 0 where
  pub inputs : new.inputs ≡ old.inputs
  pub gates : new.gates ≡ old.gates ++ (build old.inputs old.gates).gates
  pub is : a ≡ (build old.inputs old.gates).got
