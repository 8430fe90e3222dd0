-- Writes of files in order, up to one that stops them.
use Rattle.std.proofs.Common.{◌≡◌, ℕ, ◌≤◌, ◌⊎◌, inl, inr, List, [], ◌∷◌, Bool, Option, Some, None, Result, Ok, Err, refl, ◌∙◌, ap, subst}
use Rattle.hw_model.specs.Types.{Name}
use Rattle.io_edge.specs.declared.file_access.FileFail.{FileFail}
use Rattle.io_edge.specs.declared.file_access.FileFail.TheVariants as fail
use Rattle.io_edge.specs.Faults.{HasRisen}
use Rattle.io_edge.specs.Reading.{OnFailed}
use Rattle.io_edge.specs.Writing.{Writes}
use Rattle.circt_top.specs.Inputs.{Told, IsOneRisen}
use Rattle.circt_top.specs.Answer.{WritesWhole, WritesHalf, WritesFiles, FailsInFile, StarvesIn}
use Rattle.circt_top.specs.ReadOrder.{WritesEach, FailsAt}
use Rattle.circt_top.specs.Stops.{names_in, FailsSo, StopsSo, IsUnwrittenFile, IsStopped}
use Rattle.circt_top.specs.Delivery.{OnDelivered, OnFault, OnNoMemory, HasOutputFault, HasWriteFault}
use Rattle.circt_top.specs.declared.delivery.Delivery.{Delivery}
use Rattle.circt_top.specs.declared.delivery.Delivery.TheVariants.{Whole, Fault, NoMemory}
use Rattle.circt_top.specs.declared.delivery.UnwrittenFile.{UnwrittenFile}
use Rattle.circt_top.proofs.Read.{risen_later}

-- ---- facts for some ends of a delivery, from others

pub delivered_on : (P Q : Type 0) (d : Delivery) → (P → Q) → OnDelivered d P → OnDelivered d Q
delivered_on P Q Whole f x = f x
delivered_on P Q (Fault target) f x = tt
delivered_on P Q NoMemory f x = tt

pub fault_on : (P Q : Option Name → Type 0) (d : Delivery) → ((target : Option Name) → P target → Q target) → OnFault d P → OnFault d Q
fault_on P Q Whole f x = tt
fault_on P Q (Fault target) f x = f _ x
fault_on P Q NoMemory f x = tt

pub no_memory_on : (P Q : Type 0) (d : Delivery) → (P → Q) → OnNoMemory d P → OnNoMemory d Q
no_memory_on P Q Whole f x = tt
no_memory_on P Q (Fault target) f x = tt
no_memory_on P Q NoMemory f x = f x

-- ---- writes

module _ {F : Type 0} (writes : F → Name → List ℕ → Result (Unit {0}) FileFail → F → Type 0) (files : F → Told) where
  -- after files that were written, one more write
  pub fails_after : (failure : FileFail) (fs : List (Name × List ℕ)) (output target : Option Name) (before between after : F) → WritesFiles writes files fs before between
      → FailsAt writes failure [] output target between after → FailsAt writes failure (names_in fs) output target before after
  fails_after failure [] output target before between after w h = subst (λ s. FailsAt writes failure [] output target s after) w h
  fails_after failure (f ∷ fs) output target before between after w h = inr (f.1, w.0, w.1.0, fails_after failure fs output target w.0 between after w.2 h)

  pub each_of : (fs : List (Name × List ℕ)) (before after : F) → WritesFiles writes files fs before after → WritesEach writes (names_in fs) before after
  each_of [] before after w = w
  each_of (f ∷ fs) before after w = (f.1, w.0, w.1.0, each_of fs w.0 after w.2)

  pub starves_after : (fs : List (Name × List ℕ)) (before between after : F) → WritesFiles writes files fs before between → files after ≡ files between → StarvesIn writes files fs before after
  starves_after [] before between after w h = h ∙ ap files w
  starves_after (f ∷ fs) before between after w h = inr (w.0, w.1, starves_after fs w.0 between after w.2 h)

module _ {F : Type 0} (writes : F → Name → List ℕ → Result (Unit {0}) FileFail → F → Type 0) (files : F → Told) (write_faults : F → Name → ℕ) where
  -- a write that failed, or had no memory
  pub fails_so : (x : FileFail) (f : Name × List ℕ) (before after : F) → Writes {T = Unit {0}} (files before) (files after) f.0 f.1 (Err x)
      → OnFailed {T = Unit {0}} (Err x) (HasRisen (write_faults before f.0) (write_faults after f.0)) → writes before f.0 f.1 (Err x) after → FailsSo writes files write_faults x f before after
  fails_so fail.Failed f before after left rose step = ((step, left), rose)
  fails_so fail.NoMemory f before after left rose step = (step, left)

  -- the first of files is not written
  first_so : (x : FileFail) (f : Name × List ℕ) (fs : List (Name × List ℕ)) (before after : F) → FailsSo writes files write_faults x f before after
      → StopsSo writes files write_faults x (f ∷ fs) before after
  first_so fail.Failed f fs before after h = (inl h.0, (f.0, inl refl, h.1))
  first_so fail.NoMemory f fs before after h = inl h

  first_at : (x : FileFail) (f : Name × List ℕ) (fs : List (Name × List ℕ)) (output target : Option Name) (before after : F) → target ≡ Some f.0
      → FailsSo writes files write_faults x f before after → FailsAt writes x (names_in (f ∷ fs)) output target before after
  first_at fail.Failed f fs output target before after named h = inl (named, (f.1, h.0.0))
  first_at fail.NoMemory f fs output target before after named h = inl (named, (f.1, h.0))

  pub stopped_first : (f : Name × List ℕ) (fs : List (Name × List ℕ)) (u : UnwrittenFile) (before after : F) → IsUnwrittenFile writes files write_faults f u before after
      → IsStopped writes files write_faults (f ∷ fs) u before after
  stopped_first f fs u before after h =
      (first_so u.fail f fs before after h.1, λ output. first_at u.fail f fs output (Some u.name.now) before after (ap (λ n. Some n) h.0) h.1)

  -- one after it is not
  later_so : (x : FileFail) (f : Name × List ℕ) (fs : List (Name × List ℕ)) (before between after : F) → WritesWhole writes files f.0 f.1 before between
      → ((name : Name) → write_faults before name ≤ write_faults between name) → StopsSo writes files write_faults x fs between after
      → StopsSo writes files write_faults x (f ∷ fs) before after
  later_so fail.Failed f fs before between after w kept h =
      let n = h.1.0 in
      (inr (between, w, h.0), (n, inr h.1.1, risen_later (write_faults before n) (write_faults between n) (write_faults after n) (kept n) h.1.2))
  later_so fail.NoMemory f fs before between after w kept h = inr (between, w, h)

  pub stopped_later : (f : Name × List ℕ) (fs : List (Name × List ℕ)) (u : UnwrittenFile) (before between after : F) → WritesWhole writes files f.0 f.1 before between
      → ((name : Name) → write_faults before name ≤ write_faults between name) → IsStopped writes files write_faults fs u between after
      → IsStopped writes files write_faults (f ∷ fs) u before after
  stopped_later f fs u before between after w kept h =
      (later_so u.fail f fs before between after w kept h.0, λ output. inr (f.1, between, w.0, h.1 output))

  -- why a write stopped
  pub stopped_as : (x : FileFail) (fs : List (Name × List ℕ)) (u : UnwrittenFile) (before after : F) → u.fail ≡ x → IsStopped writes files write_faults fs u before after
      → StopsSo writes files write_faults x fs before after × ((output : Option Name) → FailsAt writes x (names_in fs) output (Some u.name.now) before after)
  stopped_as x fs u before after is h =
      subst (λ y. StopsSo writes files write_faults y fs before after × ((output : Option Name) → FailsAt writes y (names_in fs) output (Some u.name.now) before after)) is h

-- a fault of the output after files were written is one over both
pub output_fault_later : (output : Option Name) (before after : ℕ) (first between last : Name → ℕ) → ((name : Name) → first name ≤ between name)
    → HasOutputFault output before after between last → HasOutputFault output before after first last
output_fault_later None before after first between last kept h = h
output_fault_later (Some name) before after first between last kept h = risen_later (first name) (between name) (last name) (kept name) h

-- a fault over files of which all are among a command's, or none is there
pub fault_among : (names all : List Name) (output : Option Name) (before after : ℕ) (first last : Name → ℕ) → (names ≡ []) ⊎ (names ≡ all)
    → HasWriteFault names output before after first last → HasWriteFault all output before after first last
fault_among names all output before after first last (inr same) h = subst (λ ns. HasWriteFault ns output before after first last) same h
fault_among names all output before after first last (inl none) (inr h) = inr h
fault_among names all output before after first last (inl none) (inl h) = let risen : IsOneRisen first last [] = subst (IsOneRisen first last) none h in absurd risen.1
