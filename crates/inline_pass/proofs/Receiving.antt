-- Bodies that were received are those of the modules that a body instances.
use Rattle.std.proofs.Common.{◌≡◌, ℕ, ◌+◌, ◌<◌, Bool, true, false, cond, nat_eq, List, [], ◌∷◌, length, map, Option, Some, None, option_map, slice_get, get_or, refl, sym, ap, subst, ◌∙◌, ◌⊎◌, inl, inr, arith, option_and_then}
use Rattle.std.proofs.lemmas.Bool.{eqb-true, eqb-false}
use Rattle.std.proofs.lemmas.Option.{slice_get-map, slice_get_within, slice_get-get_or}
use Rattle.std.specs.HashMap.{HashMap}
use Rattle.std.specs.Arc.{arc_value}
use Rattle.std.specs.declared.sync.Arc.{Arc}
use Rattle.wiring.specs.Wiring.{In}
use Rattle.wiring.proofs.Lists.{slice_get_some}
use Rattle.wiring.proofs.Members.{In-slice_get, position_of_In}
use Rattle.wiring.proofs.Options.{and_then_some}
use Rattle.hw_model.specs.Types.{Name}
use Rattle.hw_model.specs.Design.{Module, Design, find_module}
use Rattle.hw_model.specs.Flat.{depth}
use Rattle.hw_model.specs.Hierarchy.{callee_symbols}
use Rattle.ir_store.specs.declared.body.Body.{Body}
use Rattle.ir_store.specs.BodyOps.{BodyOp}
use Rattle.ir_store.specs.Numbered.{ops_by_position}
use Rattle.ir_store.specs.Symbols.{symbol_position}
use Rattle.ir_store.specs.Designs.{StoredModule, numbered_module}
use Rattle.design_cycles.specs.Calls.{symbols_in}
use Rattle.design_cycles.proofs.Callees.{In-numbers, from_In-numbers, position_found, number_found}
use Rattle.body_edits.specs.Views.{body_ops}
use Rattle.inline_pass.specs.Flattening.{if_private, private_found, flat_body, by_symbol, inline_all}
use Rattle.inline_pass.specs.Inlinable.{IsInlinable}
use Rattle.inline_pass.specs.OneBody.{IsFlatBody, AreHeaders, IsOneBody}
use Rattle.inline_pass.specs.Received.{ops_in, held, held_with, AreHeld, received_look}
use Rattle.inline_pass.proofs.FlatteningDepth.{flat_module}
use Rattle.inline_pass.proofs.FlatteningOne.{GivesFlat, one_inlinable, one_flat}

-- ---- bodies by numbers

pub held_none : {Z S : Type 0} (bodies : HashMap ℕ (Arc Body Z) S) (numbers : List ℕ) (received : List (Option (Arc Body Z))) → bodies.entries ≡ [] → AreHeld numbers received 0 (held bodies)
held_none bodies numbers received none = record {
  from = λ q ops is. let nothing : held bodies q ≡ None = rw none refl in let clash : None ≡ Some ops = sym nothing ∙ is in cc;
  all = λ i body below is. absurd (omega (arith, below));
}

module _ {Z : Type 0} (numbers : List ℕ) (received : List (Option (Arc Body Z))) (i : ℕ) (have next : ℕ → Option (List BodyOp)) (are : AreHeld numbers received i have) where
  abbrev IsFrom : ℕ → List BodyOp → Type 0
  IsFrom q ops = (j : ℕ) × (body : Arc Body Z) × (j < i + 1) × (get_or numbers j 0 ≡ q) × (slice_get received j ≡ Some (Some body)) × (ops_in body ≡ ops)

  abbrev IsStep : Option (Arc Body Z) → Type 0
  IsStep o = (q : ℕ) → next q ≡ held_with (get_or numbers i 0) o have q

  earlier : (q : ℕ) (ops : List BodyOp) → have q ≡ Some ops → IsFrom q ops
  earlier q ops is = go (are.from q ops is)
    where
      go : (j : ℕ) × (body : Arc Body Z) × (j < i) × (get_or numbers j 0 ≡ q) × (slice_get received j ≡ Some (Some body)) × (ops_in body ≡ ops) → IsFrom q ops
      go (j, body, below, position, there, same) = (j, body, omega (arith, below), position, there, same)

  from : (o : Option (Arc Body Z)) → slice_get received i ≡ Some o → IsStep o → (q : ℕ) (ops : List BodyOp) → next q ≡ Some ops → IsFrom q ops
  from None at step q ops is = earlier q ops (sym (step q) ∙ is)
  from (Some body) at step q ops is = by_test (nat_eq (get_or numbers i 0) q) refl
    where
      by_test : (b : Bool) → nat_eq (get_or numbers i 0) q ≡ b → IsFrom q ops
      by_test true test =
          let now : next q ≡ Some (ops_in body) = step q ∙ ap (λ t. cond t (Some (ops_in body)) (have q)) test in
          let both : Some (ops_in body) ≡ Some ops = sym now ∙ is in
          let same : ops_in body ≡ ops = cc in
          (i, body, omega arith, eqb-true (get_or numbers i 0) q test, at, same)
      by_test false test = earlier q ops (sym (step q ∙ ap (λ t. cond t (Some (ops_in body)) (have q)) test) ∙ is)

  kept : (o : Option (Arc Body Z)) → IsStep o → (q : ℕ) → (ops : List BodyOp) × (have q ≡ Some ops) → (ops : List BodyOp) × (next q ≡ Some ops)
  kept None step q (ops, is) = (ops, step q ∙ is)
  kept (Some body) step q (ops, is) = by_test (nat_eq (get_or numbers i 0) q) refl
    where
      by_test : (b : Bool) → nat_eq (get_or numbers i 0) q ≡ b → (xs : List BodyOp) × (next q ≡ Some xs)
      by_test true test = (ops_in body, step q ∙ ap (λ t. cond t (Some (ops_in body)) (have q)) test)
      by_test false test = (ops, step q ∙ ap (λ t. cond t (Some (ops_in body)) (have q)) test ∙ is)

  new : (o : Option (Arc Body Z)) (body : Arc Body Z) → o ≡ Some body → IsStep o → (ops : List BodyOp) × (next (get_or numbers i 0) ≡ Some ops)
  new None body some step = cc
  new (Some x) body some step = by_test (nat_eq (get_or numbers i 0) (get_or numbers i 0)) refl
    where
      by_test : (b : Bool) → nat_eq (get_or numbers i 0) (get_or numbers i 0) ≡ b → (xs : List BodyOp) × (next (get_or numbers i 0) ≡ Some xs)
      by_test true test = (ops_in x, step (get_or numbers i 0) ∙ ap (λ t. cond t (Some (ops_in x)) (have (get_or numbers i 0))) test)
      by_test false test = absurd (eqb-false (get_or numbers i 0) (get_or numbers i 0) test refl)

  all : (o : Option (Arc Body Z)) → slice_get received i ≡ Some o → IsStep o → (j : ℕ) (body : Arc Body Z) → j < i + 1 → slice_get received j ≡ Some (Some body)
      → (ops : List BodyOp) × (next (get_or numbers j 0) ≡ Some ops)
  all o at step j body below there = go (split below)
    where
      split : j < i + 1 → (j < i) ⊎ (j ≡ i)
      split less = grind arith

      go : (j < i) ⊎ (j ≡ i) → (ops : List BodyOp) × (next (get_or numbers j 0) ≡ Some ops)
      go (inl lower) = kept o step (get_or numbers j 0) (are.all j body lower there)
      go (inr same) =
          let both : Some o ≡ Some (Some body) = sym at ∙ ap (slice_get received) (sym same) ∙ there in
          let is : o ≡ Some body = cc in
          subst (λ n. (ops : List BodyOp) × (next (get_or numbers n 0) ≡ Some ops)) (sym same) (new o body is step)

  pub held_more : (o : Option (Arc Body Z)) → slice_get received i ≡ Some o → IsStep o → AreHeld numbers received (i + 1) next
  held_more o at step = record { from = from o at step; all = all o at step }

-- ---- the modules of a design

of_headers : (hs : List StoredModule) → map (λ (m : StoredModule). m.symbol) hs ≡ symbols_in (map numbered_module hs)
of_headers [] = refl
of_headers (h ∷ hs) = ap (λ ss. h.symbol ∷ ss) (of_headers hs)

abbrev stripped : Module → Module
stripped m = record m { body = [] }

of_stripped : (d : Design) → symbols_in (map stripped d) ≡ symbols_in d
of_stripped [] = refl
of_stripped (m ∷ d) = ap (λ ss. m.symbol ∷ ss) (of_stripped d)

-- the module at a position
header_at : (d : Design) (hs : List StoredModule) → AreHeaders d hs → (q : ℕ) (m : Module) → slice_get d q ≡ Some m → (h : StoredModule) × (slice_get hs q ≡ Some h) × (numbered_module h ≡ stripped m)
header_at d hs are q m at = go (slice_get hs q) refl
  where
    both : option_map numbered_module (slice_get hs q) ≡ Some (stripped m)
    both = sym (slice_get-map numbered_module hs q) ∙ ap (λ xs. slice_get xs q) are ∙ slice_get-map stripped d q ∙ ap (option_map stripped) at

    go : (x : Option StoredModule) → slice_get hs q ≡ x → (h : StoredModule) × (slice_get hs q ≡ Some h) × (numbered_module h ≡ stripped m)
    go None is = let clash : None ≡ Some (stripped m) = sym (ap (option_map numbered_module) is) ∙ both in cc
    go (Some h) is =
        let now : Some (numbered_module h) ≡ Some (stripped m) = sym (ap (option_map numbered_module) is) ∙ both in
        let same : numbered_module h ≡ stripped m = cc in
        (h, is, same)

-- ---- what is received for one body

module _ {Z : Type 0} (d : Design) (k : ℕ) (headers : List StoredModule) (numbers : List ℕ) (received : List (Option (Arc Body Z))) (b : Body) (one : IsOneBody d k headers numbers received b)
    (have : ℕ → Option (List BodyOp)) (are : AreHeld numbers received (length numbers) have) where
  symbols_same : map (λ (m : StoredModule). m.symbol) headers ≡ symbols_in d
  symbols_same = of_headers headers ∙ ap symbols_in one.headers_are ∙ of_stripped d

  named : (t : Name) (c : Module) → received_look headers have t ≡ Some c → In t (callee_symbols one.own.owner.body)
  named t c is =
      let placed = and_then_some (symbol_position t (map (λ (m : StoredModule). m.symbol) headers)) _ is in
      let there = and_then_some (have placed.0) _ placed.2 in
      let source = are.from placed.0 there.0 there.1 in
      let j = source.0 in
      let listed : In placed.0 numbers = In-slice_get placed.0 numbers j (slice_get-get_or numbers j 0 source.2 ∙ ap Some source.3) in
      let other = from_In-numbers (symbols_in d) placed.0 (callee_symbols one.own.owner.body) (subst (In placed.0) one.numbers_are listed) in
      let mine = position_found d t placed.0 (ap (symbol_position t) (sym symbols_same) ∙ placed.1) in
      let its = position_found d other.0 placed.0 other.2 in
      let both : Some mine.0 ≡ Some its.0 = sym mine.1 ∙ its.1 in
      let same : mine.0 ≡ its.0 = cc in
      let name : other.0 ≡ t = sym its.2 ∙ ap (λ (m : Module). m.symbol) (sym same) ∙ mine.2 in
      subst (λ s. In s (callee_symbols one.own.owner.body)) name other.1

  -- a body is held for the number of a module that is instanced, and it is the flat one
  held_flat : (q : ℕ) → In q numbers → (ops : List BodyOp) × (have q ≡ Some ops) × ((m : Module) → slice_get d q ≡ Some m → ops_by_position ops ≡ flat_body (depth d) d m.body)
  unfolding body_ops
  held_flat q listed =
      let position = position_of_In q numbers listed in
      let j = position.0 in
      let below : j < length numbers = slice_get_within numbers j q position.1 in
      let there = slice_get_some received j (omega (arith, below, one.many)) in
      let flat = one.flat j there.0 there.1 in
      let some : slice_get received j ≡ Some (Some flat.0) = there.1 ∙ ap Some flat.1 in
      let holds = are.all j flat.0 below some in
      let here : Some (get_or numbers j 0) ≡ Some q = sym (slice_get-get_or numbers j 0 below) ∙ position.1 in
      let number : get_or numbers j 0 ≡ q = cc in
      let is : have q ≡ Some holds.0 = ap have (sym number) ∙ holds.1 in
      let source = are.from q holds.0 is in
      let from = one.flat source.0 (Some source.1) source.4 in
      let both : Some source.1 ≡ Some from.0 = from.1 in
      let same : source.1 ≡ from.0 = cc in (
        holds.0,
        is,
        λ m at.
            ap ops_by_position (sym source.5 ∙ ap ops_in same) ∙ subst (λ n. IsFlatBody d n (arc_value from.0)) source.3 from.2 m at,
      )

  by_mark : (m : Module) (v : Bool) → cond v (Some (flat_module d m)) None ≡ option_map (flat_module d) (cond v (Some m) None)
  by_mark m true = refl
  by_mark m false = refl

  flat : (t : Name) → In t (callee_symbols one.own.owner.body) → received_look headers have t ≡ option_map (flat_module d) (private_found d t)
  flat t here = go (find_module d t) refl
    where
      nothing : find_module d t ≡ None → (x : Option ℕ) → symbol_position t (symbols_in d) ≡ x → received_look headers have t ≡ None
      nothing none None position =
          let at : symbol_position t (map (λ (m : StoredModule). m.symbol) headers) ≡ None = ap (symbol_position t) symbols_same ∙ position in
          rw at refl
      nothing none (Some q) position =
          let found = position_found d t q position in
          let clash : None ≡ Some found.0 = sym none ∙ found.3 in cc

      go : (x : Option Module) → find_module d t ≡ x → received_look headers have t ≡ option_map (flat_module d) (private_found d t)
      go None none = nothing none (symbol_position t (symbols_in d)) refl ∙ sym (ap (λ x. option_map (flat_module d) (option_and_then if_private x)) none)
      go (Some c) is =
          let number = number_found d t c is in
          let q = number.0 in
          let found = position_found d t q number.1 in
          let m = found.0 in
          let listed : In q numbers = subst (In q) (sym one.numbers_are) (In-numbers (symbols_in d) t q (callee_symbols one.own.owner.body) here number.1) in
          let holds = held_flat q listed in
          let header = header_at d headers one.headers_are q m found.1 in
          let placed : symbol_position t (map (λ (x : StoredModule). x.symbol) headers) ≡ Some q = ap (symbol_position t) symbols_same ∙ number.1 in
          let now : numbered_module (record header.0 { ops = holds.0 }) ≡ flat_module d m =
          ap (λ (z : Module). record z { body = ops_by_position holds.0 }) header.2 ∙ ap (λ os. record m { body = os }) (holds.2 m found.1) in
          looked q holds.0 header.0 placed holds.1 header.1 ∙ ap if_private now ∙ by_mark m m.is_private ∙ sym (ap (λ x. option_map (flat_module d) (option_and_then if_private x)) found.3)
        where
          looked : (q : ℕ) (ops : List BodyOp) (h : StoredModule) → symbol_position t (map (λ (x : StoredModule). x.symbol) headers) ≡ Some q → have q ≡ Some ops → slice_get headers q ≡ Some h
              → received_look headers have t ≡ if_private (numbered_module (record h { ops = ops }))
          looked q ops h placed holds at = rw (placed, holds, at) refl

  gives : GivesFlat d one.own.owner (received_look headers have)
  gives = record { flat = flat; named = named }

  pub received_inlinable : IsInlinable b (received_look headers have)
  received_inlinable = one_inlinable d one.fit k one.own.owner one.own.there (received_look headers have) gives b one.own.is_body

  pub received_flat : (after : Body) → body_ops after ≡ inline_all (by_symbol (received_look headers have)) (body_ops b) → IsFlatBody d k after
  received_flat after made m at =
      let both : Some one.own.owner ≡ Some m = sym one.own.there ∙ at in
      let same : one.own.owner ≡ m = cc in
      subst (λ (x : Module). body_ops after ≡ flat_body (depth d) d x.body) same
      (one_flat d one.fit k one.own.owner one.own.there (received_look headers have) gives b one.own.is_body after made)
