-- Runs that are broken where operations are settled no more.
use Rattle.std.proofs.Common.{◌≡◌, ◌⊎◌, ℕ, slice_get, sym, ap, subst, ◌∙◌, inl, inr, Result, Ok, Err, OnOk}
use Rattle.ir_store.specs.declared.operation.OpId.{OpId}
use Rattle.canonicalise.specs.Runs.{HasRun, Breaks, HasNoRun, Joins}
use Rattle.canonicalise.specs.Settled.{IsSettled, AreQuiet, Loses}
use Rattle.canonicalise.specs.declared.marks.Marks.{Marks}
use Rattle.canonicalise.specs.declared.runs.Run.{Run}
use Rattle.canonicalise.specs.declared.runs.Runs.{Runs}
use Rattle.canonicalise.proofs.Linked.{breaks_self, breaks_then, had_run}

-- what follows where there is no error
pub on_ok : {T E P Q : Type 0} (r : Result T E) → (P → Q) → OnOk r P → OnOk r Q
on_ok (Ok x) f p = f p
on_ok (Err e) f p = tt

pub loses_self : (m : Marks) → Loses m m
loses_self m = record { breaks = breaks_self m.runs; quiet = λ quiet. quiet }

pub loses_then : (a b c : Marks) → Loses a b → Loses b c → Loses a c
loses_then a b c one two = record {
  breaks = breaks_then a.runs b.runs c.runs one.breaks two.breaks;
  quiet = λ quiet. two.quiet (one.quiet quiet);
}

-- the one that is settled no more is of no whole run
pub loses_one : (old new : Marks) (broken : Runs) (op : OpId) → Breaks old.runs broken → HasNoRun broken op.index → new.runs ≡ broken
    → ((id : ℕ) → (id ≡ op.index → ⊥) → IsSettled old id → IsSettled new id) → Loses old new
loses_one old new broken op breaks none same others = record {
  breaks = subst (Breaks old.runs) (sym same) breaks;
  quiet = λ quiet id run has.
      let before : HasRun broken id run = subst (λ (rs : Runs). HasRun rs id run) same has in
      others id (λ e. none run (subst (λ n. HasRun broken n run) e before)) (quiet id run (had_run old.runs broken id run breaks before));
}

-- an operation that is settled joins a run
pub quiet_joined : (old new : Marks) (id : ℕ) → IsSettled old id → AreQuiet old → new.settled.items ≡ old.settled.items → Joins id old.runs new.runs → AreQuiet new
quiet_joined old new id settled quiet same joins other run has = ap (λ flags. slice_get flags other) same ∙ go (joins other run has)
  where
    go : (other ≡ id) ⊎ (was : Run) × HasRun old.runs other was → IsSettled old other
    go (inl it) = subst (IsSettled old) (sym it) settled
    go (inr (was, had)) = quiet other was had
