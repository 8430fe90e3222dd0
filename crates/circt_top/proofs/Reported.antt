-- A line that was sent, up to the first fault.
use Rattle.std.proofs.Common.{◌≡◌, ℕ, Bool, true, false, List, [], ◌∷◌, refl, length, Option, Result, Ok, Err, is_ok, arith}
use Rattle.std.specs.Prelude.{OnOk, OnErr}
use Rattle.std.proofs.lemmas.List.{take_all}
use Rattle.io_edge.specs.Bytes.{Appends, AppendsPrefix}
use Rattle.io_edge.specs.Faults.{HasCause}
use Rattle.io_edge.specs.Pieces.{pieces_of, Sends}
use Rattle.diag.specs.Puts.{GoesOut}
use Rattle.diag.proofs.Puts.{nothing_out}
use Rattle.circt_top.specs.Answer.{Subject, Reports, line_of, memory_line, IsToldAtOnce}
use Rattle.circt_top.specs.Ends.{End, OnAnswered, OnOutOfMemory}
use Rattle.circt_top.specs.Ends.End.{usage, answered, refused, read_fault, write_fault, no_memory}

whole_prefix : (before after : Option (List ℕ)) (line : List ℕ) → Appends before after line → AppendsPrefix before after line
whole_prefix before after line h = λ held known. (length line, omega arith, rw (take_all (length line) line (omega arith)) (h held known))

pub reported : {S T E : Type 0} (puts : S → List ℕ → Bool → S → Type 0) (told : S → Option (List ℕ)) (faults : S → ℕ) (before after : S) (line : List ℕ) (r : Result T E)
    → OnOk r (Appends (told before) (told after) line) → OnErr r (AppendsPrefix (told before) (told after) line)
    → HasCause (faults before) (faults after) r → GoesOut puts before line (is_ok r) after → Reports puts told faults before after line
reported puts told faults before after line (Ok x) ok err cause out = record {
  taken = true;
  out = out;
  prefix = whole_prefix (told before) (told after) line ok;
  whole = λ calm. ok;
  kept = cause.kept;
}
reported puts told faults before after line (Err e) ok err cause out = record {
  taken = false;
  out = out;
  prefix = err;
  whole = λ calm. absurd (calm cause.rose);
  kept = cause.kept;
}

-- nothing goes out at an end that gives a text
pub silent : {S : Type 0} (puts : S → List ℕ → Bool → S → Type 0) (told : S → Option (List ℕ)) (faults : S → ℕ) (before after : S) (s : Subject) (end : End)
    → Reports puts told faults before after (line_of s end) → OnAnswered end (λ verdict. after ≡ before)
silent puts told faults before after s (answered verdict) reports = nothing_out puts before after reports.taken reports.out
silent puts told faults before after s (usage kind) reports = tt
silent puts told faults before after s (refused r) reports = tt
silent puts told faults before after s read_fault reports = tt
silent puts told faults before after s write_fault reports = tt
silent puts told faults before after s no_memory reports = tt

-- whether the sink took it or not
pub told_once : {S : Type 0} (puts : S → List ℕ → Bool → S → Type 0) (end : End) (before after : S) (taken : Bool) → OnOutOfMemory end (Sends puts before (memory_line ∷ []) taken after) → IsToldAtOnce puts end before after
told_once puts (answered verdict) before after taken sent = tt
told_once puts (usage kind) before after taken sent = tt
told_once puts (refused r) before after taken sent = tt
told_once puts read_fault before after taken sent = tt
told_once puts write_fault before after taken sent = tt
told_once puts no_memory before after taken sent = (taken, sent)

-- the line is one piece
pub memory_piece : pieces_of 4096 memory_line ≡ memory_line ∷ []
unfolding pieces_of
memory_piece = refl
