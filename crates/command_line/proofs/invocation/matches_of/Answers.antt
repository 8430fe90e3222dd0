use Rattle.std.proofs.Common.{refl, ◌∙◌, map, string_bytes}
use Rattle.clap.specs.Words.{app_of}
use Rattle.command_line.proofs.Parsed.{found_by, faulty_by}
use Rattle.command_line.proofs.invocation.matches_of.Goals as goal

pub returns-in-Ok-clause-ok : goal.returns-in-Ok-clause-ok
returns-in-Ok-clause-ok c =
    found_by (app_of c.args.command) (map string_bytes c.args.words.now) c.in-Ok.matches c.requires.shape c.in-Ok.ensures.kinds c.in-Ok.ensures.matches

pub returns : goal.returns
returns c = record {
  ok = tt;
  err = (
    refl,
    faulty_by (app_of c.args.command) (map string_bytes c.args.words.now) c.in-Err.error c.requires.shape c.in-Err.ensures.kinds
        (λ memory. c.in_default.not-OutOfMemory (c.kind.ensures ∙ memory)),
  );
}
