use Rattle.std.proofs.Common.{[], ◌∷◌}
use Rattle.std.proofs.lemmas.Result.{IfErr-weaker}
use Rattle.circt_top.specs.Outcome.{file_of}
use Rattle.circt_top.specs.Stops.{IsStopped, IsUnwrittenFile}
use Rattle.circt_top.proofs.Stops.{stopped_first, stopped_later}
use Rattle.circt_top.proofs.delivery.write_files.Goals as goal

pub returns-in-Ok-clause-err : goal.returns-in-Ok-clause-err
returns-in-Ok-clause-err g c =
    let formula = file_of c.in-Some.texts.formula in
    let proof = file_of c.in-Some.texts.proof in
    rw c.in-Some.is (IfErr-weaker c.write_file-in-Some.result
    (λ u. IsUnwrittenFile g.F.Files.writes g.F.Files.files g.F.Files.write_faults proof u c.write_file.new.files c.write_file-in-Some.new.files)
    (λ u. IsStopped g.F.Files.writes g.F.Files.files g.F.Files.write_faults (formula ∷ proof ∷ []) u c.args.files.now c.write_file-in-Some.new.files)
    (λ u h. stopped_later g.F.Files.writes g.F.Files.files g.F.Files.write_faults formula (proof ∷ []) u c.args.files.now c.write_file.new.files c.write_file-in-Some.new.files
    c.in-Ok.ensures.ok c.write_file.ensures.kept
    (stopped_first g.F.Files.writes g.F.Files.files g.F.Files.write_faults proof [] u c.write_file.new.files c.write_file-in-Some.new.files h))
    c.write_file-in-Some.ensures.err)
