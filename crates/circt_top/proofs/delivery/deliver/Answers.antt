-- Out of memory in the text after the files, or in a file.
use Rattle.std.proofs.Common.{option_map, Some}
use Rattle.io_edge.specs.declared.file_access.FileFail.TheVariants as fail
use Rattle.circt_top.specs.Outcome.{files_of}
use Rattle.circt_top.proofs.Stops.{no_memory_on, fails_after, stopped_as}
use Rattle.circt_top.proofs.delivery.deliver.Goals as goal

pub returns-in-Ok-clause-starved : goal.returns-in-Ok-clause-starved
returns-in-Ok-clause-starved g c =
    let output = option_map (λ s. s.now) c.args.output in
    no_memory_on _ _ c.deliver_text.result
    (λ h. (output, fails_after g.F.Files.writes g.F.Files.files fail.NoMemory (files_of c.args.made.now.proof) output output c.args.files.now c.write_files.new.files c.deliver_text.new.files c.in-Ok.ensures.ok h))
    c.deliver_text.ensures.starved

pub returns-in-NoMemory-clause-starved : goal.returns-in-NoMemory-clause-starved
returns-in-NoMemory-clause-starved g c =
    let u = c.in-Err.unwritten in
    let stopped = stopped_as g.F.Files.writes g.F.Files.files g.F.Files.write_faults fail.NoMemory (files_of c.args.made.now.proof) u c.args.files.now c.write_files.new.files c.in-NoMemory.is c.in-Err.ensures.err in
    (Some u.name.now, stopped.1 (option_map (λ s. s.now) c.args.output))
