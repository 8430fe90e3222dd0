-- Work on a body, instance by instance: what decides it, where it does nothing, and what the body then instances.
use Rattle.std.proofs.Common.{◌≡◌, ℕ, zero, suc, ◌+◌, ◌≤◌, List, [], ◌∷◌, ◌++◌, length, take, drop, Option, Some, None, slice_get, refl, sym, ap, subst, ◌∙◌, ◌⊎◌, inl, inr, arith, option_and_then}
use Rattle.std.proofs.lemmas.List.{nil_from_length}
use Rattle.wiring.specs.Wiring.{In}
use Rattle.wiring.proofs.Lists.{take-suc_some, drop_some, split_at}
use Rattle.wiring.proofs.Members.{In-append_left, In-append_right, In-append_cases}
use Rattle.hw_model.specs.Types.{Name}
use Rattle.hw_model.specs.Kinds.{Instance}
use Rattle.hw_model.specs.Design.{Op, Module, instance_in}
use Rattle.hw_model.specs.Hierarchy.{callee_symbols, called_by}
use Rattle.inline_laws.specs.Inline.{moved_count, before_output}
use Rattle.inline_laws.proofs.Inlining.{called_append}
use Rattle.inline_pass.specs.Flattening.{by_symbol, inlined_at, inline_at, inline_from}
use Rattle.inline_pass.proofs.FlatteningParts.{called_inside, called_so_far, called_rest, length_rest}

-- ---- one step

module _ (inner : Op → Option Module) (rest : ℕ → List Op → List Op) (i : ℕ) (os : List Op) where
  pub step_past : slice_get os i ≡ None → inline_at inner rest i os ≡ os
  step_past past = rw past refl

  pub step_over : (o : Op) → slice_get os i ≡ Some o → inner o ≡ None → inline_at inner rest i os ≡ rest (suc i) os
  step_over o there none = rw (there, none) refl

  pub step_into : (o : Op) (c : Module) → slice_get os i ≡ Some o → inner o ≡ Some c → inline_at inner rest i os ≡ rest (i + moved_count c) (inlined_at i o c os)
  step_into o c there some = rw (there, some) refl

-- ---- symbols of a body's parts

-- the operation at a position instances what the rest does
called_here : (os : List Op) (i : ℕ) (o : Op) → slice_get os i ≡ Some o → (s : Name) → In s (called_by (instance_in o.kind)) → In s (callee_symbols (drop i os))
called_here os i o there s here =
    subst (λ xs. In s (callee_symbols xs)) (sym (drop_some os i o there)) (In-append_left s (called_by (instance_in o.kind)) (callee_symbols (drop (suc i) os)) here)

pub called_whole : (os : List Op) (i : ℕ) (o : Op) → slice_get os i ≡ Some o → (s : Name) → In s (called_by (instance_in o.kind)) → In s (callee_symbols os)
called_whole os i o there s here =
    subst (In s) (sym (ap callee_symbols (split_at os i o there) ∙ called_append (take i os) (o ∷ drop (suc i) os)))
    (In-append_right s (callee_symbols (take i os)) (callee_symbols (o ∷ drop (suc i) os)) (In-append_left s (called_by (instance_in o.kind)) (callee_symbols (drop (suc i) os)) here))

called_later : (os : List Op) (i : ℕ) (o : Op) → slice_get os i ≡ Some o → (s : Name) → In s (callee_symbols (drop (suc i) os)) → In s (callee_symbols (drop i os))
called_later os i o there s here =
    subst (λ xs. In s (callee_symbols xs)) (sym (drop_some os i o there)) (In-append_right s (called_by (instance_in o.kind)) (callee_symbols (drop (suc i) os)) here)

-- what is given for an operation is what is given for the symbol that it instances
module _ (look : Name → Option Module) (o : Op) where
  pub symbols_alike : (other : Name → Option Module) → ((s : Name) → In s (called_by (instance_in o.kind)) → look s ≡ other s) → by_symbol look o ≡ by_symbol other o
  symbols_alike other same = go (instance_in o.kind) same
    where
      go : (x : Option Instance) → ((s : Name) → In s (called_by x) → look s ≡ other s) → option_and_then (λ (y : Instance). look y.symbol) x ≡ option_and_then (λ (y : Instance). other y.symbol) x
      go None each = refl
      go (Some y) each = each y.symbol (inl refl)

  pub none_named : ((s : Name) → In s (called_by (instance_in o.kind)) → look s ≡ None) → by_symbol look o ≡ None
  none_named each = go (instance_in o.kind) each
    where
      go : (x : Option Instance) → ((s : Name) → In s (called_by x) → look s ≡ None) → option_and_then (λ (y : Instance). look y.symbol) x ≡ None
      go None none = refl
      go (Some y) none = none y.symbol (inl refl)

  pub named_none : by_symbol look o ≡ None → (s : Name) → In s (called_by (instance_in o.kind)) → look s ≡ None
  named_none none s here = go (instance_in o.kind) none here
    where
      go : (x : Option Instance) → option_and_then (λ (y : Instance). look y.symbol) x ≡ None → In s (called_by x) → look s ≡ None
      go None is named = absurd named
      go (Some y) is (inl same) = ap look same ∙ is
      go (Some y) is (inr never) = absurd never

  pub named_some : (c : Module) → by_symbol look o ≡ Some c → (s : Name) × In s (called_by (instance_in o.kind)) × (look s ≡ Some c)
  named_some c some = go (instance_in o.kind) some
    where
      go : (x : Option Instance) → option_and_then (λ (y : Instance). look y.symbol) x ≡ Some c → (s : Name) × In s (called_by x) × (look s ≡ Some c)
      go None is = cc
      go (Some y) is = (y.symbol, inl refl, is)

-- ---- what decides the work

pub work_alike : (look other : Name → Option Module) (n i : ℕ) (os : List Op) → ((s : Name) → In s (callee_symbols (drop i os)) → look s ≡ other s)
    → inline_from (by_symbol look) n i os ≡ inline_from (by_symbol other) n i os
work_alike look other zero i os same = refl
work_alike look other (suc n) i os same = go (slice_get os i) refl (work_alike look other n)
  where
    go : (x : Option Op) → slice_get os i ≡ x
        → ((j : ℕ) (xs : List Op) → ((s : Name) → In s (callee_symbols (drop j xs)) → look s ≡ other s) → inline_from (by_symbol look) n j xs ≡ inline_from (by_symbol other) n j xs)
        → inline_from (by_symbol look) (suc n) i os ≡ inline_from (by_symbol other) (suc n) i os
    go None past again =
        step_past (by_symbol look) (λ j xs. inline_from (by_symbol look) n j xs) i os past
        ∙ sym (step_past (by_symbol other) (λ j xs. inline_from (by_symbol other) n j xs) i os past)
    go (Some o) there again = by_module (by_symbol look o) refl
      where
        both : by_symbol look o ≡ by_symbol other o
        both = symbols_alike look o other (λ s here. same s (called_here os i o there s here))

        by_module : (x : Option Module) → by_symbol look o ≡ x → inline_from (by_symbol look) (suc n) i os ≡ inline_from (by_symbol other) (suc n) i os
        by_module None none =
            step_over (by_symbol look) (λ j xs. inline_from (by_symbol look) n j xs) i os o there none
            ∙ again (suc i) os (λ s here. same s (called_later os i o there s here))
            ∙ sym (step_over (by_symbol other) (λ j xs. inline_from (by_symbol other) n j xs) i os o there (sym both ∙ none))
        by_module (Some c) some =
            step_into (by_symbol look) (λ j xs. inline_from (by_symbol look) n j xs) i os o c there some
            ∙ again (i + moved_count c) (inlined_at i o c os) (λ s here. same s (called_later os i o there s (subst (In s) (called_rest i o c os there) here)))
            ∙ sym (step_into (by_symbol other) (λ j xs. inline_from (by_symbol other) n j xs) i os o c there (sym both ∙ some))

-- where no module is given for what a body instances, it stays
pub work_idle : (look : Name → Option Module) (n i : ℕ) (os : List Op) → ((s : Name) → In s (callee_symbols (drop i os)) → look s ≡ None) → inline_from (by_symbol look) n i os ≡ os
work_idle look zero i os none = refl
work_idle look (suc n) i os none = go (slice_get os i) refl (work_idle look n (suc i) os)
  where
    go : (x : Option Op) → slice_get os i ≡ x → (((s : Name) → In s (callee_symbols (drop (suc i) os)) → look s ≡ None) → inline_from (by_symbol look) n (suc i) os ≡ os)
        → inline_from (by_symbol look) (suc n) i os ≡ os
    go None past again = step_past (by_symbol look) (λ j xs. inline_from (by_symbol look) n j xs) i os past
    go (Some o) there again =
        step_over (by_symbol look) (λ j xs. inline_from (by_symbol look) n j xs) i os o there (none_named look o (λ s here. none s (called_here os i o there s here)))
        ∙ again (λ s here. none s (called_later os i o there s here))

-- ---- what the body then instances

drop_past : (os : List Op) (i : ℕ) → slice_get os i ≡ None → drop i os ≡ []
drop_past [] zero past = refl
drop_past [] (suc i) past = refl
drop_past (o ∷ os) zero past = cc
drop_past (o ∷ os) (suc i) past = drop_past os i past

taken_whole : (os : List Op) (i : ℕ) → drop i os ≡ [] → take i os ≡ os
taken_whole os zero none = sym none
taken_whole [] (suc i) none = refl
taken_whole (o ∷ os) (suc i) none = ap (λ xs. o ∷ xs) (taken_whole os i none)

-- each symbol that the whole body instances has a property, if those have it that are instanced before position i, those of
-- which no module is given, and what the given modules instance
pub work_calls : (look : Name → Option Module) (Q : Name → Type 0) (n i : ℕ) (os : List Op) → length (drop i os) ≤ n → ((s : Name) → In s (callee_symbols (take i os)) → Q s)
    → ((s : Name) → In s (callee_symbols (drop i os)) → look s ≡ None → Q s)
    → ((s : Name) (c : Module) → In s (callee_symbols (drop i os)) → look s ≡ Some c → (t : Name) → In t (callee_symbols c.body) → Q t)
    → (s : Name) → In s (callee_symbols (inline_from (by_symbol look) n i os)) → Q s
work_calls look Q zero i os small before none some s here =
    before s (subst (λ xs. In s (callee_symbols xs)) (sym (taken_whole os i (nil_from_length (drop i os) (omega arith)))) here)
work_calls look Q (suc n) i os small before none some s here = go (slice_get os i) refl (work_calls look Q n)
  where
    go : (x : Option Op) → slice_get os i ≡ x
        → ((j : ℕ) (xs : List Op) → length (drop j xs) ≤ n → ((s : Name) → In s (callee_symbols (take j xs)) → Q s)
        → ((s : Name) → In s (callee_symbols (drop j xs)) → look s ≡ None → Q s)
        → ((s : Name) (c : Module) → In s (callee_symbols (drop j xs)) → look s ≡ Some c → (t : Name) → In t (callee_symbols c.body) → Q t)
        → (s : Name) → In s (callee_symbols (inline_from (by_symbol look) n j xs)) → Q s)
        → Q s
    go None past again =
        before s
        (subst (λ xs. In s (callee_symbols xs)) (step_past (by_symbol look) (λ j xs. inline_from (by_symbol look) n j xs) i os past ∙ sym (taken_whole os i (drop_past os i past))) here)
    go (Some o) there again = by_module (by_symbol look o) refl
      where
        shorter : length (drop (suc i) os) ≤ n
        shorter = let size : length (drop i os) ≡ suc (length (drop (suc i) os)) = ap length (drop_some os i o there) in omega arith

        later : (t : Name) → In t (callee_symbols (drop (suc i) os)) → In t (callee_symbols (drop i os))
        later t named = called_later os i o there t named

        by_module : (x : Option Module) → by_symbol look o ≡ x → Q s
        by_module None is =
            again (suc i) os shorter before' (λ t named. none t (later t named)) (λ t c named. some t c (later t named)) s
            (subst (λ xs. In s (callee_symbols xs)) (step_over (by_symbol look) (λ j xs. inline_from (by_symbol look) n j xs) i os o there is) here)
          where
            before' : (t : Name) → In t (callee_symbols (take (suc i) os)) → Q t
            before' t named =
                by_part
                (In-append_cases t (callee_symbols (take i os)) (called_by (instance_in o.kind) ++ [])
                (subst (In t) (ap callee_symbols (take-suc_some os i o there) ∙ called_append (take i os) (o ∷ [])) named))
              where
                by_part : In t (callee_symbols (take i os)) ⊎ In t (called_by (instance_in o.kind) ++ []) → Q t
                by_part (inl early) = before t early
                by_part (inr now) = by_end (In-append_cases t (called_by (instance_in o.kind)) [] now)
                  where
                    by_end : In t (called_by (instance_in o.kind)) ⊎ In t [] → Q t
                    by_end (inl it) = none t (called_here os i o there t it) (named_none look o is t it)
                    by_end (inr never) = absurd never
        by_module (Some c) is =
            again (i + moved_count c) (inlined_at i o c os) (subst (λ k. k ≤ n) (sym (length_rest i o c os there)) shorter) before'
            (λ t named. none t (later t (rest t named))) (λ t m named. some t m (later t (rest t named))) s
            (subst (λ xs. In s (callee_symbols xs)) (step_into (by_symbol look) (λ j xs. inline_from (by_symbol look) n j xs) i os o c there is) here)
          where
            rest : (t : Name) → In t (callee_symbols (drop (i + moved_count c) (inlined_at i o c os))) → In t (callee_symbols (drop (suc i) os))
            rest t named = subst (In t) (called_rest i o c os there) named

            before' : (t : Name) → In t (callee_symbols (take (i + moved_count c) (inlined_at i o c os))) → Q t
            before' t named =
                by_part (In-append_cases t (callee_symbols (take i os)) (callee_symbols (before_output c.body)) (subst (In t) (called_so_far i o c os there) named))
              where
                by_part : In t (callee_symbols (take i os)) ⊎ In t (callee_symbols (before_output c.body)) → Q t
                by_part (inl early) = before t early
                by_part (inr inside) =
                    let one = named_some look o c is in
                    some one.0 c (called_here os i o there one.0 one.1) one.2 t (called_inside t c.body inside)
