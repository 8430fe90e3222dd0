-- One more file is read; or its count of faults rose.
use Rattle.std.proofs.Common.{◌≡◌, ◌+◌, ◌++◌, ◌∷◌, [], take, drop, get_or, map, subst, sym, ◌∙◌, ap, arith}
use Rattle.std.specs.Prelude.{string_bytes}
use Rattle.io_edge.specs.Faults.{HasRisen}
use Rattle.io_edge.specs.declared.file_access.FileFail.TheVariants as fail
use Rattle.circt_top.proofs.ReadOrder.{split_names, stopped, no_room}
use Rattle.circt_top.proofs.Read.{names_more, read_more, told_more, risen_later, named_at, still_at_least}
use Rattle.circt_top.proofs.inputs.read_inputs.Goals as goal

pub loop-name-preserved : goal.loop-name-preserved
loop-name-preserved g c =
    let names = map string_bytes (take c.loop-name.name-index c.args.names.now) in
    let item : c.deref.result.now ≡ string_bytes c.name-item.result = cc in
    let more = names_more string_bytes c.args.names.now c.loop-name.name-index c.name-item.result (omega (arith, c.loop-name-test.true)) c.name-item.is in
    let more_names : map string_bytes (take (c.loop-name.name-index + 1) c.args.names.now) ≡ names ++ c.deref.result.now ∷ [] = more ∙ ap (λ n. names ++ n ∷ []) (sym item) in
    let i = c.loop-name.invariant in
    let step = c.in-Ok.ensures.read in
    record {
      read = rw (more_names, step.1)
          (read_more g.F.Files.reads g.F.Files.files c.args.files.now c.loop-name.files c.read_one.new.files names c.loop-name.sources.items c.deref.result.now step.0 i.read step.2 c.read_one.ensures.unchanged);
      told = rw (more_names, step.1)
          (told_more (g.F.Files.files c.args.files.now) names c.loop-name.sources.items c.deref.result.now step.0 i.told (rw (sym i.unchanged) step.3));
      kept = λ name. still_at_least (g.F.Files.read_faults c.args.files.now name) (g.F.Files.read_faults c.loop-name.files name) (g.F.Files.read_faults c.read_one.new.files name) (i.kept name) (c.read_one.ensures.cause.kept name);
      unchanged = c.read_one.ensures.unchanged ∙ i.unchanged;
      writes = c.read_one.ensures.writes ∙ i.writes;
    }

pub returns-in-Err-Failed-clause-fault : goal.returns-in-Err-Failed-clause-fault
returns-in-Err-Failed-clause-fault g c =
    let item : c.deref-in-Err-Failed.result.now ≡ string_bytes c.name-item.result = cc in
    let same : c.deref.result.now ≡ c.deref-in-Err-Failed.result.now = cc in
    let i = c.loop-name.invariant in (
      rw item (named_at string_bytes c.args.names.now c.loop-name.name-index c.name-item.result (omega (arith, c.loop-name-test.true)) c.name-item.is),
      risen_later (g.F.Files.read_faults c.args.files.now c.deref-in-Err-Failed.result.now) (g.F.Files.read_faults c.loop-name.files c.deref-in-Err-Failed.result.now)
          (g.F.Files.read_faults c.read_one.new.files c.deref-in-Err-Failed.result.now) (i.kept c.deref-in-Err-Failed.result.now)
          (subst (λ n. HasRisen (g.F.Files.read_faults c.loop-name.files n) (g.F.Files.read_faults c.read_one.new.files n)) same
          (rw c.in-Err-Failed.field-0-is at c.in-Err-Failed.ensures.cause.rose)),
    )

pub returns-in-Err-Failed-clause-stops : goal.returns-in-Err-Failed-clause-stops
returns-in-Err-Failed-clause-stops g c =
    let i = c.loop-name.name-index in
    let item : c.deref-in-Err-Failed.result.now ≡ string_bytes c.name-item.result = cc in
    let same : c.deref.result.now ≡ c.deref-in-Err-Failed.result.now = cc in
    let there : string_bytes (get_or c.args.names.now i c.name-item.result) ≡ c.deref-in-Err-Failed.result.now = ap string_bytes (sym c.name-item.is) ∙ sym item in
    let split = split_names string_bytes c.args.names.now i c.name-item.result (omega (arith, c.loop-name-test.true)) in
    stopped g.F.Files.reads g.F.Files.files c.args.files.now c.loop-name.files c.read_one.new.files (map string_bytes c.args.names.now) (map string_bytes (take i c.args.names.now)) (map string_bytes (drop (i + 1) c.args.names.now))
    c.loop-name.sources.items c.deref-in-Err-Failed.result.now fail.Failed (rw there at split) c.loop-name.invariant.read (rw (c.in-Err-Failed.field-0-is, same) at c.in-Err-Failed.ensures.misses)

pub returns-in-Err-NoMemory-clause-stops : goal.returns-in-Err-NoMemory-clause-stops
returns-in-Err-NoMemory-clause-stops g c =
    let i = c.loop-name.name-index in
    let item : c.deref.result.now ≡ string_bytes c.name-item.result = cc in
    let there : string_bytes (get_or c.args.names.now i c.name-item.result) ≡ c.deref.result.now = ap string_bytes (sym c.name-item.is) ∙ sym item in
    let split = split_names string_bytes c.args.names.now i c.name-item.result (omega (arith, c.loop-name-test.true)) in
    no_room g.F.Files.reads g.F.Files.files c.args.files.now c.loop-name.files c.read_one.new.files (map string_bytes c.args.names.now) (map string_bytes (take i c.args.names.now)) (map string_bytes (drop (i + 1) c.args.names.now))
    c.loop-name.sources.items c.deref.result.now (rw there at split) c.loop-name.invariant.read (rw c.in-Err-NoMemory.field-0-is at c.in-Err-NoMemory.ensures.misses)
