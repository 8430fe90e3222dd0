-- What was read when an input was not, and what is read until each end.
use Rattle.std.proofs.Common.{◌≡◌, ℕ, zero, suc, Bool, ◌+◌, ◌<◌, inl, inr, List, [], ◌∷◌, ◌++◌, length, take, drop, get_or, map, Option, Some, None, Result, Ok, Err, refl, sym, ◌∙◌, ap, subst, arith}
use Rattle.wiring.specs.Wiring.{In}
use Rattle.hw_model.specs.Types.{Name}
use Rattle.io_edge.specs.Faults.{HasRisen}
use Rattle.io_edge.specs.declared.file_access.FileFail.{FileFail}
use Rattle.io_edge.specs.declared.file_access.FileFail.TheVariants as fail
use Rattle.command_line.specs.Line.{Command}
use Rattle.circt_top.specs.Words.{line}
use Rattle.circt_top.specs.Inputs.{Told, read_limit, HasRead, OnFault, unread_end}
use Rattle.circt_top.specs.ReadOrder.{StopsAt, StopsFor, Misses, IsFirstUnread, WritesAt, ReadsAt, ReadsFor}
use Rattle.circt_top.specs.Ends.{End, IsStop}
use Rattle.circt_top.specs.Ends.End.{usage, answered, refused, read_fault, write_fault, no_memory}
use Rattle.circt_top.specs.Answer.{Subject, IsSubject}
use Rattle.circt_top.specs.declared.inputs.Unread.{Unread}
use Rattle.circt_top.specs.declared.inputs.Unread.TheVariants.{Fault, NoMemory}
use Rattle.circt_top.proofs.Read.{read_more}
use Rattle.circt_top.proofs.Completed.{for_command}

-- names, the one of a file, and those after it
pub split_names : {A : Type 0} (f : A → Name) (xs : List A) (i : ℕ) (d : A) → i < length xs → map f xs ≡ map f (take i xs) ++ f (get_or xs i d) ∷ map f (drop (i + 1) xs)
split_names f [] i d within = absurd (omega (arith, within))
split_names f (x ∷ xs) zero d within = refl
split_names f (x ∷ xs) (suc i) d within =
    let next : suc i + 1 ≡ suc (i + 1) = omega arith in
    ap (λ ns. f x ∷ ns) (split_names f xs i d (omega (arith, within))) ∙ ap (λ k. f x ∷ (map f (take i xs) ++ f (get_or xs i d) ∷ map f (drop k (x ∷ xs)))) (sym next)

module _ {F : Type 0} (reads : F → Name → ℕ → Result (List ℕ) FileFail → F → Type 0) (files : F → Told) where
  -- a read that gave nothing after reads that did
  pub stopped : (before between after : F) (names earlier later : List Name) (sources : List (List ℕ)) (name : Name) (failure : FileFail) → names ≡ earlier ++ name ∷ later
      → HasRead reads files before earlier sources between → reads between name read_limit (Err failure) after → StopsAt reads files before names name failure after
  stopped before between after names earlier later sources name failure split read failed =
      record { earlier = earlier; later = later; split = split; sources = sources; between = between; read = read; failed = failed }

  pub no_room : (before between after : F) (names earlier later : List Name) (sources : List (List ℕ)) (name : Name) → names ≡ earlier ++ name ∷ later
      → HasRead reads files before earlier sources between → Misses reads files between name fail.NoMemory after → StopsFor reads files NoMemory before names after
  no_room before between after names earlier later sources name split read (inl failed) =
      inr (name, stopped before between after names earlier later sources name fail.NoMemory split read failed)
  no_room before between after names earlier later sources name split read (inr x) =
      let joined : names ≡ (earlier ++ name ∷ []) ++ later = split ∙ shifted earlier in
      inl (record { earlier = earlier ++ name ∷ []; later = later; split = joined; sources = sources ++ x.0 ∷ []; read = read_more reads files before between after earlier sources name x.0 read x.1 x.2 }) where
        shifted : (ns : List Name) → ns ++ name ∷ later ≡ (ns ++ name ∷ []) ++ later
        shifted [] = refl
        shifted (n ∷ ns) = ap (λ ms. n ∷ ms) (shifted ns)

-- the line on inputs that were not read names the one that could not be
pub unread_named : {F : Type 0} (reads : F → Name → ℕ → Result (List ℕ) FileFail → F → Type 0) (files : F → Told) (read_faults : F → Name → ℕ) (IsUnwritten : Command → Option Name → Type 0) (told : Told) (unread : Unread) (c : Command) (before after : F) (s : Subject)
    → StopsFor reads files unread before c.inputs after → OnFault unread (λ name. In name c.inputs × HasRisen (read_faults before name) (read_faults after name)) → OnFault unread (λ name. s.input ≡ name)
    → IsSubject (IsFirstUnread reads files read_faults before after) IsUnwritten told (unread_end unread) c s
unread_named reads files read_faults IsUnwritten told (Fault name) c before after s stops fault named =
    subst (λ n. In n c.inputs × IsFirstUnread reads files read_faults before after c.inputs n) (sym named) (fault.0, (fault.1, stops))
unread_named reads files read_faults IsUnwritten told NoMemory c before after s stops fault named = tt

module _ {F : Type 0} (reads : F → Name → ℕ → Result (List ℕ) FileFail → F → Type 0) (files : F → Told) (writes : F → Name → List ℕ → Result (Unit {0}) FileFail → F → Type 0) where
  -- an end at which an input was not read
  pub unread_reads : (unread : Unread) (c : Command) (before after : F) → StopsFor reads files unread before c.inputs after → ReadsAt reads files writes (unread_end unread) c before after
  unread_reads (Fault name) c before after stops = (name.now, stops)
  unread_reads NoMemory c before after stops = inl stops

  -- an end of the work on inputs that were read
  pub worked_reads : (end : End) (c : Command) (before opened after : F) (sources : List (List ℕ)) → HasRead reads files before c.inputs sources opened → WritesAt writes end c opened after
      → ReadsAt reads files writes end c before after
  worked_reads (usage kind) c before opened after sources read written = absurd written
  worked_reads (answered verdict) c before opened after sources read written = (opened, sources, read, written)
  worked_reads (refused r) c before opened after sources read written = (opened, sources, read, written)
  worked_reads read_fault c before opened after sources read written = absurd written
  worked_reads write_fault c before opened after sources read written = (opened, sources, read, written)
  worked_reads no_memory c before opened after sources read written = inr (opened, sources, read, written)

  -- an end of a command, and one before any file is read
  pub command_reads : (words : List Name) (p : Command) (end : End) (before after : F) → line words ≡ Ok p → ReadsAt reads files writes end p before after → ReadsFor reads files writes words end before after
  command_reads words p end before after h reads_at = record {
    no_command = λ kind k. (let e : Ok p ≡ Err kind = sym h ∙ k in cc);
    command = for_command words p (λ c. ReadsAt reads files writes end c before after) h reads_at;
  }

  pub stopped_reads : (words : List Name) (end : End) (before : F) → IsStop end → ReadsFor reads files writes words end before before
  stopped_reads words (answered verdict) before stop = absurd stop
  stopped_reads words (refused r) before stop = absurd stop
  stopped_reads words read_fault before stop = absurd stop
  stopped_reads words write_fault before stop = absurd stop
  stopped_reads words (usage kind) before stop = record { no_command = λ kind k. refl; command = λ c h. refl }
  stopped_reads words no_memory before stop = record {
    no_command = λ kind k. refl;
    command = λ c h. inl (inl (record { earlier = []; later = c.inputs; split = refl; sources = []; read = refl }));
  }
