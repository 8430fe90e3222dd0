-- What suits within a depth, from a settled map, and by the parts of sources.
use Rattle.std.proofs.Common.{◌≡◌, ℕ, zero, suc, ◌-◌, ◌<◌, ◌≤◌, List, [], ◌∷◌, map, length, get_or, sym, ap, ap₂, subst, ◌∙◌, arith}
use mathlib.Core.Path.{fun_ext}
use Rattle.wiring.specs.Wiring.{In, IsHeight, greatest}
use Rattle.wiring.proofs.Members.{map_same, In-map, from_In-map}
use Rattle.wiring.proofs.Heights.{FallsAlong-height}
use Rattle.bits_core.specs.Word.{Word}
use Rattle.hw_model.specs.Types.{Name}
use Rattle.hw_model.specs.Design.{Ref, Design}
use Rattle.hw_model.specs.Flat.{Net, Path, Source, net, source, registers}
use Rattle.hw_model.specs.Flat.Source.{nowhere, input, held, copy, op_result}
use Rattle.hw_model.specs.Meaning.{needs_of, needs, value, Settled, risen_content}
use Rattle.hw_interpreter.specs.declared.design.Operand.{Operand}
use Rattle.hw_interpreter.specs.DesignViews.{ref_of}
use Rattle.operation_values.specs.Suits.{Suits}
use Rattle.hw_interpreter.specs.SuitsWithin.{SuitsSource, SuitsFrom, SuitsWithin, AlwaysSuits, IsCountedDesign, TakesRefs, TakesStep, SuitsStep, TakesRunAfter}
use Rattle.hw_interpreter.specs.Depth.{value_within, risen_within, content_within, Suffices}
use Rattle.hw_interpreter.proofs.Counts.{member_of}
use Rattle.hw_interpreter.proofs.Within.{within_settled}

-- a source suits under each map that says the same of the nets that it needs
pub suits_same : (f g : Net → Word) (s : Source) → ((n : Net) → In n (needs_of s) → f n ≡ g n) → SuitsSource f s → SuitsSource g s
suits_same f g nowhere same suit = tt
suits_same f g (input start w) same suit = suit
suits_same f g (held start w) same suit = suit
suits_same f g (copy n) same suit = suit
suits_same f g (op_result kind types t k ns) same suit = subst (Suits kind types t) (map_same f g ns same) suit

module _ (d : Design) (top : Name) (inputs content : Word) (height : Net → ℕ) (is : IsHeight (needs d top) height) (ρ : Net → Word) (settled : Settled d top inputs content ρ) where
  -- at and above a net's height its value is the settled one
  pub within_is : (m : ℕ) (a : Net) → height a ≤ m → value_within d top inputs content m a ≡ ρ a
  within_is zero a low =
      let e : height a ≡ suc (greatest (map height (needs d top a))) = is a in absurd (omega arith)
  within_is (suc m) a low =
      ap (value d top inputs content a) (map_same (value_within d top inputs content m) ρ (needs d top a)
      (λ b need.
      let lower : height b < height a = FallsAlong-height (needs d top) height is a b need in
      within_is m b (omega arith))) ∙ sym (settled a)

  -- where all sources suit under it, all suits within a depth at and above a net's height
  pub suits_settled : ((n : Net) → SuitsSource ρ (source d top n)) → (m : ℕ) (a : Net) → height a ≤ m → SuitsWithin d top inputs content m a
  suits_settled all zero a low = tt
  suits_settled all (suc m) a low = (
    suits_same ρ (value_within d top inputs content m) (source d top a)
        (λ b need.
        let lower : height b < height a = FallsAlong-height (needs d top) height is a b need in
        sym (within_is m b (omega arith)))
        (all a),
    λ b need.
        let lower : height b < height a = FallsAlong-height (needs d top) height is a b need in
        suits_settled all m b (omega arith),
  )

-- where a depth reaches all that nets need, all suits within it
pub suits_reached : (d : Design) (top : Name) (depth : ℕ) → Suffices d top depth → (inputs content : Word) (ρ : Net → Word)
    → Settled d top inputs content ρ → ((n : Net) → SuitsSource ρ (source d top n)) → (n : Net) → SuitsWithin d top inputs content depth n
suits_reached d top depth (height, is, low) inputs content ρ settled all n = suits_settled d top inputs content height is ρ settled all depth n (low n)

-- a net's source suits within a depth where the net does within one more
pub suits_more : (d : Design) (top : Name) (inputs content : Word) (depth : ℕ) (n : Net) → 0 < depth
    → SuitsWithin d top inputs content depth n
    → SuitsFrom (value_within d top inputs content (depth - 1)) (SuitsWithin d top inputs content (depth - 1)) (source d top n)
suits_more d top inputs content zero n positive suit = absurd (omega arith)
suits_more d top inputs content (suc depth) n positive suit =
    let e : suc depth - 1 ≡ depth = omega arith in
    subst (λ k. SuitsFrom (value_within d top inputs content k) (SuitsWithin d top inputs content k) (source d top n)) (sym e) suit

-- where a depth reaches all that nets need, the values within it are those of a settled map
reached_is : (d : Design) (top : Name) (depth : ℕ) → Suffices d top depth → (inputs content : Word) (ρ : Net → Word)
    → Settled d top inputs content ρ → (n : Net) → value_within d top inputs content depth n ≡ ρ n
reached_is d top depth (height, is, low) inputs content ρ settled n = within_is d top inputs content height is ρ settled depth n (low n)

-- and so is the content after the first phase
risen_is : (d : Design) (top : Name) (depth : ℕ) → Suffices d top depth → (before inputs content : Word) (ρ σ : Net → Word)
    → Settled d top before content ρ → Settled d top inputs content σ
    → risen_within d top before inputs content depth ≡ risen_content (registers d top) ρ σ content
risen_is d top depth reaches before inputs content ρ σ settled also =
    ap₂ (λ f g. risen_content (registers d top) f g content)
    (fun_ext (reached_is d top depth reaches before content ρ settled))
    (fun_ext (reached_is d top depth reaches inputs content σ also))

-- a step is computed within a depth that reaches, where all sources suit under its settled maps
pub step_taken : (d : Design) (top : Name) (depth : ℕ) → Suffices d top depth → IsCountedDesign d top → (before inputs content : Word)
    → SuitsStep d top before inputs content → TakesStep d top before inputs content depth
step_taken d top depth reaches counted before inputs content maps =
    let rises = risen_is d top depth reaches before inputs content maps.earlier maps.first_map maps.settled_earlier maps.settled_first in
    let settled : Settled d top inputs (risen_within d top before inputs content depth) maps.map_of =
    subst (λ c. Settled d top inputs c maps.map_of) (sym rises) maps.settled in
    record {
      numbers = counted;
      earlier_nets = λ s here r read. suits_reached d top depth reaches before content maps.earlier maps.settled_earlier maps.suits_earlier (net s.path r);
      reset_nets = λ s here r read. suits_reached d top depth reaches inputs content maps.first_map maps.settled_first maps.suits_first (net s.path r);
      output_nets = λ r here. suits_reached d top depth reaches inputs (risen_within d top before inputs content depth) maps.map_of settled maps.suits (net [] r);
      register_nets = λ s here r read. suits_reached d top depth reaches inputs (risen_within d top before inputs content depth) maps.map_of settled maps.suits (net s.path r);
    }

-- all sources suit under the settled maps of a step, where they do under each settled map
steps_suit : (d : Design) (top : Name) (depth : ℕ) → Suffices d top depth → AlwaysSuits d top → (before inputs content : Word)
    → SuitsStep d top before inputs content
steps_suit d top depth reaches always before inputs content =
    let risen = risen_within d top before inputs content depth in
    let earlier = within_settled d top depth reaches before content in
    let first_map = within_settled d top depth reaches inputs content in
    let map_of = within_settled d top depth reaches inputs risen in
    record {
      earlier = value_within d top before content depth;
      first_map = value_within d top inputs content depth;
      map_of = value_within d top inputs risen depth;
      settled_earlier = earlier;
      settled_first = first_map;
      settled = map_of;
      suits_earlier = always before content (value_within d top before content depth) earlier;
      suits_first = always inputs content (value_within d top inputs content depth) first_map;
      suits = always inputs risen (value_within d top inputs risen depth) map_of;
    }

-- then each step of a run is computed within a depth that reaches
pub run_taken : (d : Design) (top : Name) (depth : ℕ) → Suffices d top depth → IsCountedDesign d top → AlwaysSuits d top
    → (before content : Word) (steps : List Word) → TakesRunAfter d top depth before content steps
run_taken d top depth reaches counted always before content [] = tt
run_taken d top depth reaches counted always before content (s ∷ steps) = (
  step_taken d top depth reaches counted before s content (steps_suit d top depth reaches always before s content),
  run_taken d top depth reaches counted always s (content_within d top before s content depth) steps,
)

-- and the rest of a run after its first step
pub takes_more : (d : Design) (top : Name) (depth : ℕ) (before content : Word) (steps : List Word) (s : Word) (rest : List Word) (after : Word) → steps ≡ s ∷ rest
    → after ≡ content_within d top before s content depth → TakesRunAfter d top depth before content steps → TakesRunAfter d top depth s after rest
takes_more d top depth before content steps s rest after is taken takes =
    subst (λ c. TakesRunAfter d top depth s c rest) (sym taken) (subst (TakesRunAfter d top depth before content) is takes).1

-- an operand's net is among those of the operands
pub operand_in : (p : Path) (os : List Operand) (i : ℕ) (d : Operand) → i < length os → In (net p (ref_of (get_or os i d))) (map (net p) (map ref_of os))
operand_in p os i d within = In-map (net p) (ref_of (get_or os i d)) (map ref_of os) (In-map ref_of (get_or os i d) os (member_of os i d within))

-- the nets of values that are computed within a depth
pub nets_taken : (d : Design) (top : Name) (inputs content : Word) (depth : ℕ) (p : Path) (rs : List Ref) → TakesRefs d top inputs content depth p rs
    → (n : Net) → In n (map (net p) rs) → SuitsWithin d top inputs content depth n
nets_taken d top inputs content depth p rs all n here =
    let found = from_In-map (net p) n rs here in subst (SuitsWithin d top inputs content depth) (sym found.2) (all found.0 found.1)
