-- Bodies that are worked one after another.
use Rattle.std.proofs.Common.{◌≡◌, ℕ, zero, suc, List, [], ◌∷◌, ◌++◌, length, Some, slice_get, refl, ap, subst, arith}
use Rattle.hw_model.specs.Design.{Op}
use Rattle.ir_store.specs.declared.body.Body.{Body}
use Rattle.body_edits.specs.Views.{body_ops}
use Rattle.pass_manager.specs.Works.{IsMade}

module _ (Makes : List Op → List Op → Type 0) where
  -- those that were worked, of the first bodies
  pub record AreWorked (before done : List Body) : Type 0 where
    pub count : length done ≡ length before
    pub made : (i : ℕ) (b : Body) → slice_get done i ≡ Some b → IsMade Makes before i b

  pub none_worked : AreWorked [] []
  none_worked = record { count = refl; made = λ i b at. cc }

  made_more : (before done : List Body) (b n : Body) → length done ≡ length before → ((i : ℕ) (x : Body) → slice_get done i ≡ Some x → IsMade Makes before i x) → Makes (body_ops b) (body_ops n)
      → (i : ℕ) (x : Body) → slice_get (done ++ n ∷ []) i ≡ Some x → IsMade Makes (before ++ b ∷ []) i x
  made_more [] [] b n size each made zero x at old was =
      let of_new : n ≡ x = cc in
      let of_old : b ≡ old = cc in
      subst (λ y. Makes (body_ops y) (body_ops x)) of_old (subst (λ y. Makes (body_ops b) (body_ops y)) of_new made)
  made_more [] [] b n size each made (suc i) x at old was = cc
  made_more [] (z ∷ done) b n size each made i x at old was = absurd (omega (arith, size))
  made_more (y ∷ before) [] b n size each made i x at old was = absurd (omega (arith, size))
  made_more (y ∷ before) (z ∷ done) b n size each made zero x at old was = each zero x at old was
  made_more (y ∷ before) (z ∷ done) b n size each made (suc i) x at old was =
      made_more before done b n (omega (arith, size)) (λ j w found o there. each (suc j) w found o there) made i x at old was

  count_more : (before done : List Body) (b n : Body) → length done ≡ length before → length (done ++ n ∷ []) ≡ length (before ++ b ∷ [])
  count_more [] [] b n size = refl
  count_more [] (z ∷ done) b n size = absurd (omega (arith, size))
  count_more (y ∷ before) [] b n size = absurd (omega (arith, size))
  count_more (y ∷ before) (z ∷ done) b n size = ap suc (count_more before done b n (omega (arith, size)))

  pub one_worked : (before done : List Body) (b n : Body) → AreWorked before done → Makes (body_ops b) (body_ops n) → AreWorked (before ++ b ∷ []) (done ++ n ∷ [])
  one_worked before done b n w made = record { count = count_more before done b n w.count; made = made_more before done b n w.count w.made made }

-- what stands first after others
pub next_there : (before rest : List Body) (b : Body) → slice_get (before ++ b ∷ rest) (length before) ≡ Some b
next_there [] rest b = refl
next_there (x ∷ before) rest b = next_there before rest b
