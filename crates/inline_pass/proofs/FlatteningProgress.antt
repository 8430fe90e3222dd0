-- Modules of a design get their flat bodies one after another, each after those that it instances.
use Rattle.std.proofs.Common.{◌≡◌, ℕ, zero, suc, ◌<◌, ◌≤◌, ◌≢◌, Bool, true, false, cond, eqb, List, [], ◌∷◌, length, set, replicate, option_map, Option, Some, None, slice_get, refl, sym, ap, subst}
use Rattle.std.proofs.Common.{◌∙◌, ◌⊎◌, inl, inr, arith, length-set, option_and_then}
use Rattle.std.proofs.lemmas.Bool.{eqb-true, eqb-false}
use Rattle.std.proofs.lemmas.List.{length-replicate}
use Rattle.std.proofs.lemmas.Option.{slice_get_within, slice_get-map}
use Rattle.wiring.specs.Wiring.{In, IsHeight, HasHeights}
use Rattle.wiring.proofs.Heights.{FallsAlong-height}
use Rattle.wiring.proofs.Lists.{slice_get-set_same, slice_get-set_other, set_some, slice_get_some, same_positions}
use Rattle.graphs.specs.Graphs.{has_mark}
use Rattle.graphs.specs.Marks.{open_count}
use Rattle.graphs.proofs.Marking.{marked_same, marked_other, open_fewer, none_marked}
use Rattle.hw_model.specs.Types.{Name}
use Rattle.hw_model.specs.Design.{Module, Design, find_module, same_name}
use Rattle.hw_model.specs.Hierarchy.{callee_symbols, calls}
use Rattle.hw_model.specs.Sound.{body_of}
use Rattle.hw_model.proofs.Content.{call_heights}
use Rattle.edit_laws.specs.Laws.{with_body}
use Rattle.edit_laws.proofs.ResetsKept.{find_symbol}
use Rattle.ir_store.specs.Symbols.{symbol_position}
use Rattle.design_cycles.specs.Asked.{HasDistinctSymbols}
use Rattle.design_cycles.specs.Calls.{symbols_in}
use Rattle.design_cycles.proofs.Callees.{position_found, number_found, found_at}
use Rattle.op_verifier.proofs.Distinct.{distinct_symbols}
use Rattle.acceptance_laws.specs.Keeps.{IsFit}
use Rattle.inline_pass.specs.Flattening.{if_private, private_found, inline_all, private_callee, flat_design}
use Rattle.inline_pass.proofs.FlatteningWork.{work_idle}
use Rattle.inline_pass.proofs.FlatteningDepth.{flat_calls, flat_module, private_by_symbol, flat_from_flat}
use Rattle.inline_pass.proofs.FlatteningSteps.{Inlines, inlines_self, inlines_then, inlines_body}

-- ---- modules at their positions

-- a symbol has no module in either design, or one of the first and what stands at its position in the second
abbrev pub FoundBoth : (ℕ → Module → Module) → Design → Design → Name → Type 0
FoundBoth f d e s =
    ((find_module d s ≡ None) × (find_module e s ≡ None))
    ⊎ ((k : ℕ) × (m : Module) × (slice_get d k ≡ Some m) × (find_module d s ≡ Some m) × (find_module e s ≡ Some (f k m)))

found_both : (f : ℕ → Module → Module) → ((k : ℕ) (m : Module) → (f k m).symbol ≡ m.symbol) → (d e : Design) → length e ≡ length d
    → ((k : ℕ) (m : Module) → slice_get d k ≡ Some m → slice_get e k ≡ Some (f k m)) → (s : Name) → FoundBoth f d e s
found_both f named [] [] size each s = inl (refl, refl)
found_both f named [] (y ∷ e) size each s = cc
found_both f named (x ∷ d) [] size each s = cc
found_both f named (x ∷ d) (y ∷ e) size each s = go (same_name x.symbol s) refl (found_both (λ k. f (suc k)) (λ k. named (suc k)) d e (cc) (λ k. each (suc k)) s)
  where
    first : y ≡ f 0 x
    first = let here : Some y ≡ Some (f 0 x) = each 0 x refl in cc

    also : same_name y.symbol s ≡ same_name x.symbol s
    also = ap (λ n. same_name n s) (ap (λ (z : Module). z.symbol) first ∙ named 0 x)

    go : (b : Bool) → same_name x.symbol s ≡ b → FoundBoth (λ k. f (suc k)) d e s → FoundBoth f (x ∷ d) (y ∷ e) s
    go true test rest =
        inr (0, x, refl, ap (λ t. cond t (Some x) (find_module d s)) test, ap (λ t. cond t (Some y) (find_module e s)) (also ∙ test) ∙ ap Some first)
    go false test (inl (none, nothing)) =
        inl (ap (λ t. cond t (Some x) (find_module d s)) test ∙ none, ap (λ t. cond t (Some y) (find_module e s)) (also ∙ test) ∙ nothing)
    go false test (inr (k, m, at, is, now)) =
        inr (suc k, m, at, ap (λ t. cond t (Some x) (find_module d s)) test ∙ is, ap (λ t. cond t (Some y) (find_module e s)) (also ∙ test) ∙ now)

-- ---- so far

-- a module whose mark says whether it has its flat body
abbrev pub flat_if : Design → List Bool → ℕ → Module → Module
flat_if d marks k m = cond (has_mark marks k) (flat_module d m) m

-- modules with marks have their flat bodies, the others are as they were
pub record IsFlattening (d e : Design) (marks : List Bool) : Type 0 where
  pub count : length marks ≡ length d
  pub inlines : Inlines d e
  pub size : length e ≡ length d
  pub each : (k : ℕ) (m : Module) → slice_get d k ≡ Some m → slice_get e k ≡ Some (flat_if d marks k m)

pub flattening_begins : (d : Design) (marks : List Bool) → IsFit d → length marks ≡ length d → ((k : ℕ) → has_mark marks k ≡ false) → IsFlattening d d marks
flattening_begins d marks fit count none = record {
  count = count;
  inlines = inlines_self d fit;
  size = refl;
  each = λ k m at. at ∙ ap (λ b. Some (cond b (flat_module d m) m)) (sym (none k));
}

-- all modules that module m instances have their marks
abbrev pub AreCalleesMarked : Design → List Bool → Module → Type 0
AreCalleesMarked d marks m = (j : ℕ) (c : Module) → slice_get d j ≡ Some c → In c.symbol (callee_symbols m.body) → has_mark marks j ≡ true

module _ (d e : Design) (marks : List Bool) (fit : IsFit d) (so_far : IsFlattening d e marks) where
  flat_symbol : (b : Bool) (m : Module) → (cond b (flat_module d m) m).symbol ≡ m.symbol
  flat_symbol true m = refl
  flat_symbol false m = refl

  module _ (k : ℕ) (m : Module) (at : slice_get d k ≡ Some m) (unset : has_mark marks k ≡ false) (callees : AreCalleesMarked d marks m) where
    -- it is as it was
    pub still_there : slice_get e k ≡ Some m
    still_there = so_far.each k m at ∙ ap (λ b. Some (cond b (flat_module d m) m)) unset

    -- those that it instances are flat
    pub private_flat : (t : Name) → In t (callee_symbols m.body) → private_found e t ≡ option_map (flat_module d) (private_found d t)
    private_flat t named = go (found_both (flat_if d marks) (λ j c. flat_symbol (has_mark marks j) c) d e so_far.size so_far.each t)
      where
        by_mark : (c : Module) (b : Bool) → cond b (Some (flat_module d c)) None ≡ option_map (flat_module d) (cond b (Some c) None)
        by_mark c true = refl
        by_mark c false = refl

        go : FoundBoth (flat_if d marks) d e t → private_found e t ≡ option_map (flat_module d) (private_found d t)
        go (inl (none, nothing)) = ap (λ x. option_and_then if_private x) nothing ∙ sym (ap (λ x. option_map (flat_module d) (option_and_then if_private x)) none)
        go (inr (j, c, there, is, now)) =
            let mark : has_mark marks j ≡ true = callees j c there (subst (λ n. In n (callee_symbols m.body)) (sym (find_symbol d t c is)) named) in
            ap (λ x. option_and_then if_private x) (now ∙ ap (λ b. Some (cond b (flat_module d c) c)) mark) ∙ by_mark c c.is_private ∙ sym (ap (λ x. option_map (flat_module d) (option_and_then if_private x)) is)

    pub worked_flat : inline_all (private_callee e) m.body ≡ (flat_module d m).body
    worked_flat = ap (λ f. inline_all f m.body) (private_by_symbol e) ∙ flat_from_flat d fit.valid.finite m (private_found e) private_flat

    after : Design
    after = with_body e k m (inline_all (private_callee e) m.body)

    after_is : after ≡ set e k (flat_module d m)
    unfolding after
    after_is = ap (λ xs. with_body e k m xs) worked_flat

    pub flattening_goes_on : IsFlattening d (with_body e k m (inline_all (private_callee e) m.body)) (set marks k true)
    unfolding after
    flattening_goes_on = record {
      count = length-set marks k true ∙ so_far.count;
      inlines = inlines_then d e after so_far.inlines
          (subst (λ f. Inlines e (with_body e k m (inline_all f m.body))) (sym (private_by_symbol e)) (inlines_body e k m still_there so_far.inlines.fit (length m.body) 0));
      size = ap length after_is ∙ length-set e k (flat_module d m) ∙ so_far.size;
      each = λ j c there. ap (λ x. slice_get x j) after_is ∙ position j c there (eqb j k) refl;
    }
      where
        here_now : slice_get (set e k (flat_module d m)) k ≡ Some (flat_module d m)
        here_now = slice_get-set_same e k (flat_module d m) (slice_get_within e k m still_there)

        mark_now : has_mark (set marks k true) k ≡ true
        mark_now = marked_same marks k (subst (λ n. k < n) (sym so_far.count) (slice_get_within d k m at))

        position : (j : ℕ) (c : Module) → slice_get d j ≡ Some c → (b : Bool) → eqb j k ≡ b → slice_get (set e k (flat_module d m)) j ≡ Some (flat_if d (set marks k true) j c)
        position j c there true test =
            let same : j ≡ k = eqb-true j k test in
            let both : Some c ≡ Some m = sym there ∙ ap (slice_get d) same ∙ at in
            let one : c ≡ m = cc in
            ap (slice_get (set e k (flat_module d m))) same ∙ here_now
            ∙ sym (ap (λ b. Some (cond b (flat_module d c) c)) (ap (has_mark (set marks k true)) same ∙ mark_now) ∙ ap (λ x. Some (flat_module d x)) one)
        position j c there false test =
            let apart : j ≢ k = eqb-false j k test in
            slice_get-set_other e k j (flat_module d m) apart ∙ so_far.each j c there ∙ ap (λ b. Some (cond b (flat_module d c) c)) (sym (marked_other marks k j apart))

  -- what stands in a flat body is worked on in vain
  pub flattening_again : (k : ℕ) (m : Module) → slice_get d k ≡ Some m → has_mark marks k ≡ true
      → with_body e k (flat_module d m) (inline_all (private_callee e) (flat_module d m).body) ≡ e
  flattening_again k m at mark =
      ap (λ f. with_body e k (flat_module d m) (inline_all f (flat_module d m).body)) (private_by_symbol e)
      ∙ ap (λ xs. with_body e k (flat_module d m) xs) (work_idle (private_found e) (length (flat_module d m).body) 0 (flat_module d m).body none)
      ∙ set_some e k (flat_module d m) (so_far.each k m at ∙ ap (λ b. Some (cond b (flat_module d m) m)) mark)
    where
      by_mark : (c x : Module) → x.is_private ≡ c.is_private → (b : Bool) → c.is_private ≡ b → cond b (Some c) None ≡ None → if_private x ≡ None
      by_mark c x same true is nothing = cc
      by_mark c x same false is nothing = ap (λ b. cond b (Some x) None) (same ∙ is)

      mark_of : (b : Bool) (c : Module) → (cond b (flat_module d c) c).is_private ≡ c.is_private
      mark_of true c = refl
      mark_of false c = refl

      none : (t : Name) → In t (callee_symbols (flat_module d m).body) → private_found e t ≡ None
      none t named = go (found_both (flat_if d marks) (λ j c. flat_symbol (has_mark marks j) c) d e so_far.size so_far.each t)
        where
          gone : private_found d t ≡ None
          gone = flat_calls d fit.valid.finite m.symbol m (found_at d (distinct_symbols d fit.unrefused) k m at).1 t named

          go : FoundBoth (flat_if d marks) d e t → private_found e t ≡ None
          go (inl (nothing, also)) = ap (λ x. option_and_then if_private x) also
          go (inr (j, c, there, is, now)) =
              ap (λ x. option_and_then if_private x) now
              ∙ by_mark c (flat_if d marks j c) (mark_of (has_mark marks j) c) c.is_private refl (sym (ap (λ x. option_and_then if_private x) is) ∙ gone)

  -- where all have their marks the design is flat
  pub flattening_ends : ((k : ℕ) (m : Module) → slice_get d k ≡ Some m → has_mark marks k ≡ true) → e ≡ flat_design d
  flattening_ends all = same_positions e (flat_design d) (λ i. go i (slice_get d i) refl ∙ sym (slice_get-map (flat_module d) d i))
    where
      nothing : (i : ℕ) → slice_get d i ≡ None → (x : Option Module) → slice_get e i ≡ x → slice_get e i ≡ None
      nothing i past None is = is
      nothing i past (Some y) is =
          let found = slice_get_some d i (subst (λ n. i < n) so_far.size (slice_get_within e i y is)) in
          let clash : None ≡ Some found.0 = sym past ∙ found.1 in cc

      go : (i : ℕ) (x : Option Module) → slice_get d i ≡ x → slice_get e i ≡ option_map (flat_module d) (slice_get d i)
      go i None past = nothing i past (slice_get e i) refl ∙ sym (ap (option_map (flat_module d)) past)
      go i (Some m) at = so_far.each i m at ∙ ap (λ b. Some (cond b (flat_module d m) m)) (all i m at) ∙ sym (ap (option_map (flat_module d)) at)

-- ---- what is next

-- a module without its mark, all of whose callees have theirs
abbrev pub HasReady : Design → List Bool → Type 0
HasReady d marks = (k : ℕ) × (m : Module) × (slice_get d k ≡ Some m) × (has_mark marks k ≡ false) × AreCalleesMarked d marks m

module _ (d : Design) (marks : List Bool) (distinct : HasDistinctSymbols d) (h : Name → ℕ) (height : IsHeight (calls d) h) where
  abbrev AreMarkedAmong : List Name → Type 0
  AreMarkedAmong ss = (j : ℕ) (c : Module) → slice_get d j ≡ Some c → In c.symbol ss → has_mark marks j ≡ true

  callees_marked : (ss : List Name) → ((j : ℕ) (c : Module) → slice_get d j ≡ Some c → In c.symbol ss → (has_mark marks j ≡ true) ⊎ HasReady d marks) → AreMarkedAmong ss ⊎ HasReady d marks
  callees_marked [] known = inl (λ j c at here. absurd here)
  callees_marked (s ∷ ss) known = go (find_module d s) refl (callees_marked ss (λ j c at here. known j c at (inr here)))
    where
      found : (j : ℕ) (c : Module) → slice_get d j ≡ Some c → c.symbol ≡ s → find_module d s ≡ Some c
      found j c at same = ap (find_module d) (sym same) ∙ (found_at d distinct j c at).1

      go : (x : Option Module) → find_module d s ≡ x → AreMarkedAmong ss ⊎ HasReady d marks → AreMarkedAmong (s ∷ ss) ⊎ HasReady d marks
      go x is (inr ready) = inr ready
      go None none (inl rest) = inl each
        where
          each : AreMarkedAmong (s ∷ ss)
          each j c at (inl same) = let clash : Some c ≡ None = sym (found j c at same) ∙ none in cc
          each j c at (inr later) = rest j c at later
      go (Some x) is (inl rest) = by_known (known number.0 position.0 position.1 (inl position.2))
        where
          number : (i : ℕ) × (symbol_position s (symbols_in d) ≡ Some i)
          number = number_found d s x is

          position : (m : Module) × (slice_get d number.0 ≡ Some m) × (m.symbol ≡ s) × (find_module d s ≡ Some m)
          position = position_found d s number.0 number.1

          by_known : (has_mark marks number.0 ≡ true) ⊎ HasReady d marks → AreMarkedAmong (s ∷ ss) ⊎ HasReady d marks
          by_known (inr ready) = inr ready
          by_known (inl mark) = inl each
            where
              each : AreMarkedAmong (s ∷ ss)
              each j c at (inl same) =
                  let one : j ≡ number.0 = distinct j number.0 c position.0 at position.1 (same ∙ sym position.2) in
                  ap (has_mark marks) one ∙ mark
              each j c at (inr later) = rest j c at later

  ready_below : (n k : ℕ) (m : Module) → slice_get d k ≡ Some m → h m.symbol ≤ n → (has_mark marks k ≡ true) ⊎ HasReady d marks
  ready_below zero k m at low = let positive : h m.symbol ≡ suc _ = height m.symbol in absurd (omega arith)
  ready_below (suc n) k m at low = go (has_mark marks k) refl (callees_marked (callee_symbols m.body) (λ j c there named. ready_below n j c there (lower c named)))
    where
      lower : (c : Module) → In c.symbol (callee_symbols m.body) → h c.symbol ≤ n
      lower c named =
          let call : In c.symbol (calls d m.symbol) = subst (λ o. In c.symbol (callee_symbols (body_of o))) (sym (found_at d distinct k m at).1) named in
          let less : h c.symbol < h m.symbol = FallsAlong-height (calls d) h height m.symbol c.symbol call in
          omega arith

      go : (b : Bool) → has_mark marks k ≡ b → AreMarkedAmong (callee_symbols m.body) ⊎ HasReady d marks → (has_mark marks k ≡ true) ⊎ HasReady d marks
      go true mark rest = inl mark
      go false unset (inl all) = inr (k, m, at, unset, all)
      go false unset (inr ready) = inr ready

  abbrev Before : ℕ → Type 0
  Before n = (k : ℕ) (m : Module) → slice_get d k ≡ Some m → k < n → has_mark marks k ≡ true

  ready_before : (n : ℕ) → Before n ⊎ HasReady d marks
  ready_before zero = inl (λ k m at less. absurd (omega arith))
  ready_before (suc n) = go (slice_get d n) refl (ready_before n)
    where
      below : (k : ℕ) → k < suc n → (k < n) ⊎ (k ≡ n)
      below k less = grind arith

      last : Before n → ((m : Module) → slice_get d n ≡ Some m → has_mark marks n ≡ true) → Before (suc n)
      last rest here k m at less = by_position (below k less)
        where
          by_position : (k < n) ⊎ (k ≡ n) → has_mark marks k ≡ true
          by_position (inl lower) = rest k m at lower
          by_position (inr same) = ap (has_mark marks) same ∙ here m (ap (slice_get d) (sym same) ∙ at)

      go : (x : Option Module) → slice_get d n ≡ x → Before n ⊎ HasReady d marks → Before (suc n) ⊎ HasReady d marks
      go x is (inr ready) = inr ready
      go None is (inl rest) = inl (last rest (λ m at. let clash : Some m ≡ None = sym at ∙ is in cc))
      go (Some m) is (inl rest) = by_mark (ready_below (h m.symbol) n m is (omega arith))
        where
          by_mark : (has_mark marks n ≡ true) ⊎ HasReady d marks → Before (suc n) ⊎ HasReady d marks
          by_mark (inl mark) = inl (last rest (λ y at. mark))
          by_mark (inr ready) = inr ready

-- all have their marks, or one is ready
pub all_or_ready : (d : Design) (marks : List Bool) → IsFit d → ((k : ℕ) (m : Module) → slice_get d k ≡ Some m → has_mark marks k ≡ true) ⊎ HasReady d marks
all_or_ready d marks fit = go (ready_before d marks (distinct_symbols d fit.unrefused) high.0 high.1 (length d))
  where
    high : HasHeights (calls d)
    high = call_heights d fit.valid.finite

    go : ((k : ℕ) (m : Module) → slice_get d k ≡ Some m → k < length d → has_mark marks k ≡ true) ⊎ HasReady d marks
        → ((k : ℕ) (m : Module) → slice_get d k ≡ Some m → has_mark marks k ≡ true) ⊎ HasReady d marks
    go (inl all) = inl (λ k m at. all k m at (slice_get_within d k m at))
    go (inr ready) = inr ready

-- ---- up to one module

-- a design in which a module has its own body still, and those that it instances have their flat ones
pub record IsUpTo (d : Design) (k : ℕ) (m : Module) : Type 0 where
  pub design : Design
  pub marks : List Bool
  pub so_far : IsFlattening d design marks
  pub unset : has_mark marks k ≡ false
  pub callees : AreCalleesMarked d marks m

module _ (d : Design) (fit : IsFit d) (k : ℕ) (m : Module) (at : slice_get d k ≡ Some m) where
  not_all : (marks : List Bool) → has_mark marks k ≡ false → ((j : ℕ) (c : Module) → slice_get d j ≡ Some c → has_mark marks j ≡ true) → ⊥
  not_all marks unset all = let clash : true ≡ false = sym (all k m at) ∙ unset in cc

  here : (e : Design) (marks : List Bool) → IsFlattening d e marks → has_mark marks k ≡ false → (j : ℕ) (c : Module) → slice_get d j ≡ Some c → AreCalleesMarked d marks c → j ≡ k → IsUpTo d k m
  here e marks so_far unset j c there callees same =
      let both : Some c ≡ Some m = sym there ∙ ap (slice_get d) same ∙ at in
      let one : c ≡ m = cc in
      record { design = e; marks = marks; so_far = so_far; unset = unset; callees = subst (AreCalleesMarked d marks) one callees }

  up_to : (n : ℕ) (e : Design) (marks : List Bool) → open_count marks ≤ n → IsFlattening d e marks → has_mark marks k ≡ false → IsUpTo d k m
  up_to zero e marks few so_far unset = go (all_or_ready d marks fit)
    where
      go : ((j : ℕ) (c : Module) → slice_get d j ≡ Some c → has_mark marks j ≡ true) ⊎ HasReady d marks → IsUpTo d k m
      go (inl all) = absurd (not_all marks unset all)
      go (inr (j, c, there, clear, callees)) =
          let fewer : suc (open_count (set marks j true)) ≡ open_count marks = open_fewer marks j (subst (λ s. j < s) (sym so_far.count) (slice_get_within d j c there)) clear in
          absurd (omega arith)
  up_to (suc n) e marks few so_far unset = go (all_or_ready d marks fit) (λ x more smaller next left. up_to n x more smaller next left)
    where
      go : ((j : ℕ) (c : Module) → slice_get d j ≡ Some c → has_mark marks j ≡ true) ⊎ HasReady d marks
          → ((x : Design) (more : List Bool) → open_count more ≤ n → IsFlattening d x more → has_mark more k ≡ false → IsUpTo d k m) → IsUpTo d k m
      go (inl all) again = absurd (not_all marks unset all)
      go (inr (j, c, there, clear, callees)) again = by_position (eqb j k) refl
        where
          fewer : suc (open_count (set marks j true)) ≡ open_count marks
          fewer = open_fewer marks j (subst (λ s. j < s) (sym so_far.count) (slice_get_within d j c there)) clear

          by_position : (b : Bool) → eqb j k ≡ b → IsUpTo d k m
          by_position true test = here e marks so_far unset j c there callees (eqb-true j k test)
          by_position false test =
              let apart : j ≢ k = eqb-false j k test in
              again (with_body e j c (inline_all (private_callee e) c.body)) (set marks j true) (omega (arith, fewer, few)) (flattening_goes_on d e marks fit so_far j c there clear callees)
              (marked_other marks j k (λ same. apart (sym same)) ∙ unset)

  pub is_up_to : IsUpTo d k m
  is_up_to =
      up_to (open_count marks) d marks (omega arith) (flattening_begins d marks fit (length-replicate (length d) false) (λ j. none_marked (length d) j)) (none_marked (length d) k)
    where
      marks : List Bool
      marks = replicate (length d) false

-- ---- to the end

flattening_to_end : (n : ℕ) (d e : Design) (marks : List Bool) → IsFit d → open_count marks ≤ n → IsFlattening d e marks → Inlines d (flat_design d)
flattening_to_end zero d e marks fit few so_far = go (all_or_ready d marks fit)
  where
    go : ((k : ℕ) (m : Module) → slice_get d k ≡ Some m → has_mark marks k ≡ true) ⊎ HasReady d marks → Inlines d (flat_design d)
    go (inl all) = subst (Inlines d) (flattening_ends d e marks fit so_far all) so_far.inlines
    go (inr (k, m, at, unset, callees)) =
        let fewer : suc (open_count (set marks k true)) ≡ open_count marks = open_fewer marks k (subst (λ s. k < s) (sym so_far.count) (slice_get_within d k m at)) unset in
        absurd (omega arith)
flattening_to_end (suc n) d e marks fit few so_far = go (all_or_ready d marks fit) (λ x more smaller. flattening_to_end n d x more fit smaller)
  where
    go : ((k : ℕ) (m : Module) → slice_get d k ≡ Some m → has_mark marks k ≡ true) ⊎ HasReady d marks
        → ((x : Design) (more : List Bool) → open_count more ≤ n → IsFlattening d x more → Inlines d (flat_design d)) → Inlines d (flat_design d)
    go (inl all) again = subst (Inlines d) (flattening_ends d e marks fit so_far all) so_far.inlines
    go (inr (k, m, at, unset, callees)) again =
        let fewer : suc (open_count (set marks k true)) ≡ open_count marks = open_fewer marks k (subst (λ s. k < s) (sym so_far.count) (slice_get_within d k m at)) unset in
        again (with_body e k m (inline_all (private_callee e) m.body)) (set marks k true) (omega arith) (flattening_goes_on d e marks fit so_far k m at unset callees)

pub flat_inlines : (d : Design) → IsFit d → Inlines d (flat_design d)
flat_inlines d fit =
    flattening_to_end (open_count marks) d d marks fit (omega arith) (flattening_begins d marks fit (length-replicate (length d) false) (λ k. none_marked (length d) k))
  where
    marks : List Bool
    marks = replicate (length d) false
