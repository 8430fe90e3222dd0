-- Modules that are reached by symbols are those reached by numbers.
use Rattle.std.proofs.Common.{◌≡◌, ℕ, ◌<◌, Bool, true, false, List, length, Some, slice_get, refl, sym, ap, subst, ◌∙◌}
use Rattle.std.specs.Prelude.{MatchBool}
use Rattle.std.proofs.lemmas.List.{length-map}
use Rattle.std.proofs.lemmas.Option.{slice_get_within}
use Rattle.wiring.specs.Wiring.{In}
use Rattle.graphs.specs.Graphs.{has_mark, AreReached}
use Rattle.hw_model.specs.Design.{Module, Design}
use Rattle.design_cycles.specs.Asked.{HasDistinctSymbols}
use Rattle.design_cycles.specs.Calls.{call_lists}
use Rattle.design_cycles.proofs.Callees.{number_found, position_found, chain_numbers, chain_symbols, found_at}
use Rattle.pass_laws.specs.Remaining.{IsReached}
use Rattle.inline_pass.specs.Marks.{IsPublicAt, ArePublicBefore, AreReachedMarks}

-- of modules by their numbers, from the public ones
module _ (d : Design) (distinct : HasDistinctSymbols d) (starts : List ℕ) (public : ArePublicBefore d (length d) starts) (marks : List Bool)
    (reached : AreReached (call_lists d) starts marks) where
  -- a node with its mark is reached by symbols
  with_mark : (j : ℕ) (n : Module) → slice_get d j ≡ Some n → has_mark marks j ≡ true → IsReached d n.symbol
  with_mark j n at mark =
      let from = reached.sound j mark in
      let start : IsPublicAt d from.0 = ((public from.0).0 from.2).1 in
      (start.0.symbol, from.1, (start.0, (found_at d distinct from.0 start.0 start.1).1, start.2), chain_symbols d distinct from.1 from.0 j start.0 n start.1 at from.3)

  -- what is reached by symbols has its mark
  reached_mark : (j : ℕ) (n : Module) → slice_get d j ≡ Some n → IsReached d n.symbol → has_mark marks j ≡ true
  reached_mark j n at (top, k, (m, is, mark), chain) =
      let number = number_found d top m is in
      let position = position_found d top number.0 number.1 in
      let same : position.0 ≡ m = let both : Some position.0 ≡ Some m = sym position.3 ∙ is in cc in
      let within : number.0 < length d = slice_get_within d number.0 position.0 position.1 in
      let start : In number.0 starts = (public number.0).1 (within, (position.0, position.1, ap (λ (x : Module). x.is_private) same ∙ mark)) in
      reached.complete number.0 k j start (chain_numbers d k top n.symbol number.0 j chain number.1 (found_at d distinct j n at).0)
      (subst (λ size. j < size) (sym (length-map d _)) (slice_get_within d j n at))

  pub reached_marks : AreReachedMarks d marks
  reached_marks = record {
    count = reached.count ∙ length-map d _;
    says = λ j n at. go j n at (has_mark marks j) refl;
  }
    where
      go : (j : ℕ) (n : Module) → slice_get d j ≡ Some n → (b : Bool) → has_mark marks j ≡ b → MatchBool b (IsReached d n.symbol) (IsReached d n.symbol → ⊥)
      go j n at true mark = with_mark j n at mark
      go j n at false mark = λ reaches. let clash : true ≡ false = sym (reached_mark j n at reaches) ∙ mark in cc
