-- The gate list of each predicate makes its comparison.
use Rattle.std.proofs.Common.{◌≡◌, refl, sym, subst, ◌∙◌, ℕ, ◌*◌, Bool, true, false, not, List, length}
use Rattle.bits_core.specs.Word.{Word, same_word, less as is_less, signed_less as is_signed_less}
use Rattle.gates.specs.declared.signal.Signal.{Signal}
use Rattle.gates.specs.Build.{Build}
use Rattle.gates.proofs.Carrying.{Carrying, Makes}
use Rattle.gates.proofs.SingleBits.{Carries}
use Rattle.gate_words.specs.GateLists.{unlike, less, signed_less, top_inverted}
use Rattle.gate_words.proofs.Words.{CarriesWord, top_flipped, word-top_inverted}
use Rattle.gate_words.proofs.LongGateLists.{bit_less, makes-unlike, makes-less}
use Rattle.gate_words.proofs.BitSums.{less_is, signed_is_less, length-top_flipped, unlike_is}
use Rattle.hw_model.specs.Kinds.{Predicate}
use Rattle.hw_model.specs.Kinds.Predicate.{eq, ne, slt, sle, sgt, sge, ult, ule, ugt, uge, ceq, cne, weq, wne}
use Rattle.hw_model.specs.Value.{compare}
use Rattle.operation_gates.specs.OperationGateLists.{comparison}
use Rattle.operation_gates.proofs.WordLists.{makes-negation}

not_not : (b : Bool) → not (not b) ≡ b
not_not true = refl
not_not false = refl

module _ {inputs : ℕ} (c : Carrying inputs) where
  -- the gate list makes the test of two words, by at most 4 gates a bit
  abbrev pub MakesTest : (List Signal → List Signal → Build Signal) → (Word → Word → Bool) → Type 0
  MakesTest gate_list test =
      (n : ℕ) (u : Word) (x : List Signal) → CarriesWord c n u x → (v : Word) (y : List Signal) → CarriesWord c n v y → length u ≡ length v
      → Makes c (gate_list x y) n (4 * length u) (Carries c (test u v))

  differ : MakesTest unlike (λ u v. not (same_word u v))
  differ n u x hu v y hv e =
      subst (λ b. Makes c (unlike x y) n (4 * length u) (Carries c b)) (unlike_is u v e) (makes-unlike c n u x hu v y hv e)

  alike : (n : ℕ) (u : Word) (x : List Signal) → CarriesWord c n u x → (v : Word) (y : List Signal) → CarriesWord c n v y → length u ≡ length v
      → Makes c (comparison eq x y) n (4 * length u) (Carries c (same_word u v))
  alike n u x hu v y hv e =
      subst (λ b. Makes c (comparison eq x y) n (4 * length u) (Carries c b)) (not_not (same_word u v)) (makes-negation c _ n _ _ (differ n u x hu v y hv e))

  below : MakesTest less is_less
  below n u x hu v y hv e =
      subst (λ b. Makes c (less x y) n (4 * length u) (Carries c b)) (less_is u v (sym e)) (makes-less c n u x hu v y hv)

  signed_below : MakesTest signed_less is_signed_less
  signed_below n u x hu v y hv e =
      subst (λ b. Makes c (signed_less x y) n (4 * length u) (Carries c b))
      (less_is (top_flipped u) (top_flipped v) (length-top_flipped v ∙ sym e ∙ sym (length-top_flipped u)) ∙ signed_is_less u v (sym e))
      (subst (λ k. Makes c (signed_less x y) n (4 * k) (Carries c (bit_less (top_flipped u) (top_flipped v)))) (length-top_flipped u)
      (makes-less c n (top_flipped u) (top_inverted x) (word-top_inverted c n u x hu) (top_flipped v) (top_inverted y) (word-top_inverted c n v y hv)))

  -- with the words in the other order
  turned : (gate_list : List Signal → List Signal → Build Signal) (test : Word → Word → Bool) → MakesTest gate_list test → MakesTest (λ x y. gate_list y x) (λ u v. test v u)
  turned gate_list test makes n u x hu v y hv e =
      subst (λ k. Makes c (gate_list y x) n (4 * k) (Carries c (test v u))) (sym e) (makes n v y hv u x hu (sym e))

  pub makes-comparison : (p : Predicate) → MakesTest (comparison p) (compare p)
  makes-comparison eq n u x hu v y hv e = alike n u x hu v y hv e
  makes-comparison ne n u x hu v y hv e = differ n u x hu v y hv e
  makes-comparison slt n u x hu v y hv e = signed_below n u x hu v y hv e
  makes-comparison sle n u x hu v y hv e = makes-negation c _ n _ _ (turned signed_less is_signed_less signed_below n u x hu v y hv e)
  makes-comparison sgt n u x hu v y hv e = turned signed_less is_signed_less signed_below n u x hu v y hv e
  makes-comparison sge n u x hu v y hv e = makes-negation c _ n _ _ (signed_below n u x hu v y hv e)
  makes-comparison ult n u x hu v y hv e = below n u x hu v y hv e
  makes-comparison ule n u x hu v y hv e = makes-negation c _ n _ _ (turned less is_less below n u x hu v y hv e)
  makes-comparison ugt n u x hu v y hv e = turned less is_less below n u x hu v y hv e
  makes-comparison uge n u x hu v y hv e = makes-negation c _ n _ _ (below n u x hu v y hv e)
  makes-comparison ceq n u x hu v y hv e = alike n u x hu v y hv e
  makes-comparison cne n u x hu v y hv e = differ n u x hu v y hv e
  makes-comparison weq n u x hu v y hv e = alike n u x hu v y hv e
  makes-comparison wne n u x hu v y hv e = differ n u x hu v y hv e
