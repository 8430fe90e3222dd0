-- What is read of a line.
use Rattle.std.specs.Prelude.{List}
use Rattle.resolution_proof.specs.declared.literal.Literal.{Literal}
use Rattle.lrat_text.specs.declared.proof_line.Form.{Form}
use Rattle.lrat_text.specs.declared.proof_line.Form.TheVariants.{Blank, Adds, Deletes, Bad}
use Rattle.lrat_text.specs.declared.proof_line.ProofLine.{ProofLine}
use Rattle.lrat_text.specs.ProofLine.{Line, skips, adds, deletes, bad}

-- the line of a form, with its clause and its numbers
abbrev pub line_by : Form → List Literal → List Literal → Line
line_by Blank c ns = skips
line_by (Adds id) c ns = adds id c ns
line_by Deletes c ns = deletes ns
line_by Bad c ns = bad

-- the line that has been read
abbrev pub line_in : ProofLine → Line
line_in r = line_by r.form r.clause.items r.numbers.items
