-- The texts that are read are those whose tokens spell a pipeline.
use Rattle.std.proofs.Common.{◌≡◌, ℕ, zero, suc, ◌+◌, ◌-◌, Bool, true, false, cond, not, List, [], ◌∷◌, ◌++◌, length, Option, Some, None, Result, Ok, Err, refl, sym, ap, subst, ◌∙◌}
use Rattle.std.specs.Prelude.{codes}
use Rattle.std.specs.Cmp.Lexicographic.{same_text}
use Rattle.pass_pipeline.specs.Tokens.{is_space, token_in, is_name}
use Rattle.pass_pipeline.specs.Passes.{same_bytes, pass_name, runs_on, pass_named}
use Rattle.pass_pipeline.specs.Steps.{mark, closed, misplaced, root, opening, pass_item, nested, named_item, item, first_item, separator, step_over}
use Rattle.pass_pipeline.specs.Pipelines.{added, ended, after, passes_after, passes}
use Rattle.pass_pipeline.specs.Grammar.{tokens_after, tokens, Item, more_passes, passes_spelled, item_spelled, more_items, items_spelled, pipeline_spelled, passes_of, passes_in, IsOffered, RunOnModules, MayStand, AllMayStand}
use Rattle.pass_pipeline.specs.Grammar.Item.{on_design, on_modules}
use Rattle.pass_pipeline.specs.declared.pass.Pass.{Pass}
use Rattle.pass_pipeline.specs.declared.pass.Pass.TheVariants.{Canonicalize, Cse, SeqLowerRegs, HwLowerAggregates, HwFlattenModules, SymbolDce}
use Rattle.pass_pipeline.specs.declared.pass.Anchor.{Anchor}
use Rattle.pass_pipeline.specs.declared.pass.Anchor.TheVariants.{BuiltinModule, HwModule}
use Rattle.pass_pipeline.specs.declared.step.Expected.{Expected}
use Rattle.pass_pipeline.specs.declared.step.Expected.TheVariants as expected
use Rattle.pass_pipeline.specs.declared.step.Step.{Step}
use Rattle.pass_pipeline.specs.declared.pipeline.PipelineFail.{PipelineFail}
use Rattle.pass_pipeline.specs.declared.pipeline.PipelineFail.TheVariants.{UnknownPass, WrongPlace, BadText}

abbrev Tokens : Type 0
Tokens = List (List ℕ)

-- ---- names

name_is_name : (p : Pass) → is_name (pass_name p) ≡ true
unfolding pass_name
name_is_name Canonicalize = refl
name_is_name Cse = refl
name_is_name SeqLowerRegs = refl
name_is_name HwLowerAggregates = refl
name_is_name HwFlattenModules = refl
name_is_name SymbolDce = refl

name_no_end : (p : Pass) → same_bytes (pass_name p) (codes ")") ≡ false
unfolding pass_name
name_no_end Canonicalize = refl
name_no_end Cse = refl
name_no_end SeqLowerRegs = refl
name_no_end HwLowerAggregates = refl
name_no_end HwFlattenModules = refl
name_no_end SymbolDce = refl

name_no_anchor : (p : Pass) → same_bytes (pass_name p) (codes "hw.module") ≡ false
unfolding pass_name
name_no_anchor Canonicalize = refl
name_no_anchor Cse = refl
name_no_anchor SeqLowerRegs = refl
name_no_anchor HwLowerAggregates = refl
name_no_anchor HwFlattenModules = refl
name_no_anchor SymbolDce = refl

on_any_design : (p : Pass) → runs_on BuiltinModule p ≡ true
unfolding runs_on
on_any_design p = refl

-- the anchor's name is no pass
no_pass : (offered : List Pass) → pass_named offered (codes "hw.module") ≡ None
no_pass [] = refl
no_pass (p ∷ ps) = ap (λ b. cond b (Some p) (pass_named ps (codes "hw.module"))) (name_no_anchor p) ∙ no_pass ps

-- a pass that is found has the name
found_name : (offered : List Pass) (name : List ℕ) (p : Pass) → pass_named offered name ≡ Some p → name ≡ pass_name p
found_name [] name p is = cc
found_name (q ∷ qs) name p is = go (same_bytes (pass_name q) name) refl (found_name qs name p) is
  where
    go : (b : Bool) → same_bytes (pass_name q) name ≡ b → (pass_named qs name ≡ Some p → name ≡ pass_name p)
        → cond b (Some q) (pass_named qs name) ≡ Some p → name ≡ pass_name p
    go true same later here = let first : q ≡ p = cc in sym (same_text (pass_name q) name (sym same)) ∙ ap pass_name first
    go false other later there = later there

-- ---- what may stand where something is expected

abbrev passes_told : Option Pass → List Pass
passes_told None = []
passes_told (Some p) = p ∷ []

module _ (offered : List Pass) where
  -- the tokens, and the passes that they name
  abbrev Rest : Expected → Tokens → List Pass → Type 0
  Rest expected.Root ss out = (is : List Item) × (ss ≡ pipeline_spelled is) × (out ≡ passes_in is) × AllMayStand offered is
  Rest (expected.Opening BuiltinModule) ss out = (is : List Item) × (ss ≡ codes "(" ∷ items_spelled is) × (out ≡ passes_in is) × AllMayStand offered is
  Rest (expected.Opening HwModule) ss out =
      (ps : List Pass) × (is : List Item) × (ss ≡ codes "(" ∷ passes_spelled ps ++ codes ")" ∷ more_items is) × (out ≡ ps ++ passes_in is)
      × RunOnModules offered ps × AllMayStand offered is
  Rest (expected.FirstItem BuiltinModule) ss out = (is : List Item) × (ss ≡ items_spelled is) × (out ≡ passes_in is) × AllMayStand offered is
  Rest (expected.FirstItem HwModule) ss out =
      (ps : List Pass) × (is : List Item) × (ss ≡ passes_spelled ps ++ codes ")" ∷ more_items is) × (out ≡ ps ++ passes_in is)
      × RunOnModules offered ps × AllMayStand offered is
  Rest (expected.Item BuiltinModule) ss out =
      (i : Item) × (is : List Item) × (ss ≡ item_spelled i (more_items is)) × (out ≡ passes_of i ++ passes_in is) × MayStand offered i × AllMayStand offered is
  Rest (expected.Item HwModule) ss out =
      (p : Pass) × (ps : List Pass) × (is : List Item) × (ss ≡ pass_name p ∷ more_passes ps ++ codes ")" ∷ more_items is) × (out ≡ p ∷ ps ++ passes_in is)
      × (IsOffered offered p × (runs_on HwModule p ≡ true)) × RunOnModules offered ps × AllMayStand offered is
  Rest (expected.Separator BuiltinModule) ss out = (is : List Item) × (ss ≡ more_items is) × (out ≡ passes_in is) × AllMayStand offered is
  Rest (expected.Separator HwModule) ss out =
      (ps : List Pass) × (is : List Item) × (ss ≡ more_passes ps ++ codes ")" ∷ more_items is) × (out ≡ ps ++ passes_in is)
      × RunOnModules offered ps × AllMayStand offered is
  Rest expected.End ss out = (ss ≡ []) × (out ≡ [])

  -- what may stand after a step
  abbrev After : Tokens → List Pass → Result Step PipelineFail → Type 0
  After ss out (Err fail) = ⊥
  After ss out (Ok s) = (rest : List Pass) × (out ≡ passes_told s.pass ++ rest) × Rest s.next ss rest

  -- ---- a token over which there is a step

  item_forth : (a : Anchor) (at : ℕ) (s : List ℕ) (ss : Tokens) (out : List Pass) → After ss out (item offered a at s) → Rest (expected.Item a) (s ∷ ss) out
  unfolding item nested pass_item
  item_forth a at s ss out h = by_name (is_name s) h
    where
      by_pass : (a : Anchor) (p : Pass) → pass_named offered s ≡ Some p → (b : Bool) → runs_on a p ≡ b
          → After ss out (cond b (Ok (record { pass = Some p; next = expected.Separator a })) (Err (WrongPlace at))) → Rest (expected.Item a) (s ∷ ss) out
      by_pass a p named false other never = absurd never
      by_pass BuiltinModule p named true runs (rest, told, (is, same, out_is, stand)) = (
        on_design p,
        is,
        ap (λ x. x ∷ ss) (found_name offered s p named) ∙ ap (λ z. pass_name p ∷ z) same,
        told ∙ ap (λ z. p ∷ z) out_is,
        ap (pass_named offered) (sym (found_name offered s p named)) ∙ named,
        stand,
      )
      by_pass HwModule p named true runs (rest, told, (ps, is, same, out_is, run, stand)) = (
        p,
        ps,
        is,
        ap (λ x. x ∷ ss) (found_name offered s p named) ∙ ap (λ z. pass_name p ∷ z) same,
        told ∙ ap (λ z. p ∷ z) out_is,
        (ap (pass_named offered) (sym (found_name offered s p named)) ∙ named, runs),
        run,
        stand,
      )

      by_anchor : (b : Bool) → same_bytes s (codes "hw.module") ≡ b → After ss out (cond b (mark (expected.Opening HwModule)) (Err (UnknownPass at)))
          → Rest (expected.Item BuiltinModule) (s ∷ ss) out
      by_anchor false other never = absurd never
      by_anchor true same (rest, told, (ps, is, spelled, out_is, run, stand)) = (
        on_modules ps,
        is,
        ap (λ x. x ∷ ss) (same_text s (codes "hw.module") (sym same)) ∙ ap (λ z. codes "hw.module" ∷ z) spelled,
        told ∙ out_is,
        run,
        stand,
      )

      by_found : (a : Anchor) (x : Option Pass) → pass_named offered s ≡ x → After ss out (named_item a at s x) → Rest (expected.Item a) (s ∷ ss) out
      by_found a (Some p) named g = by_pass a p named (runs_on a p) refl g
      by_found BuiltinModule None named g = by_anchor (same_bytes s (codes "hw.module")) refl g
      by_found HwModule None named never = absurd never

      by_name : (b : Bool) → After ss out (cond (not b) (Err (BadText at)) (named_item a at s (pass_named offered s))) → Rest (expected.Item a) (s ∷ ss) out
      by_name false never = absurd never
      by_name true g = by_found a (pass_named offered s) refl g

  -- after the items of an anchor
  closed_forth : (a : Anchor) (s : List ℕ) (ss : Tokens) (out : List Pass) → s ≡ codes ")" → After ss out (Ok (closed a)) → Rest (expected.Separator a) (s ∷ ss) out
  unfolding closed
  closed_forth BuiltinModule s ss out same (rest, told, (none, nothing)) = (
    [],
    ap (λ x. x ∷ ss) same ∙ ap (λ z. codes ")" ∷ z) none,
    told ∙ nothing,
    tt,
  )
  closed_forth HwModule s ss out same (rest, told, (is, spelled, out_is, stand)) = (
    [],
    is,
    ap (λ x. x ∷ ss) same ∙ ap (λ z. codes ")" ∷ z) spelled,
    told ∙ out_is,
    tt,
    stand,
  )

  separator_forth : (a : Anchor) (at : ℕ) (s : List ℕ) (ss : Tokens) (out : List Pass) → After ss out (separator a at s) → Rest (expected.Separator a) (s ∷ ss) out
  unfolding separator
  separator_forth a at s ss out h = by_comma (same_bytes s (codes ",")) refl h
    where
      comma : (a : Anchor) → s ≡ codes "," → After ss out (mark (expected.Item a)) → Rest (expected.Separator a) (s ∷ ss) out
      comma BuiltinModule same (rest, told, (i, is, spelled, out_is, stands, stand)) = (
        i ∷ is,
        ap (λ x. x ∷ ss) same ∙ ap (λ z. codes "," ∷ z) spelled,
        told ∙ out_is,
        (stands, stand),
      )
      comma HwModule same (rest, told, (p, ps, is, spelled, out_is, one, run, stand)) = (
        p ∷ ps,
        is,
        ap (λ x. x ∷ ss) same ∙ ap (λ z. codes "," ∷ z) spelled,
        told ∙ out_is,
        (one, run),
        stand,
      )

      by_end : (b : Bool) → same_bytes s (codes ")") ≡ b → After ss out (cond b (Ok (closed a)) (Err (BadText at))) → Rest (expected.Separator a) (s ∷ ss) out
      by_end true same g = closed_forth a s ss out (same_text s (codes ")") (sym same)) g
      by_end false other never = absurd never

      by_comma : (b : Bool) → same_bytes s (codes ",") ≡ b
          → After ss out (cond b (mark (expected.Item a)) (cond (same_bytes s (codes ")")) (Ok (closed a)) (Err (BadText at)))) → Rest (expected.Separator a) (s ∷ ss) out
      by_comma true same g = comma a (same_text s (codes ",") (sym same)) g
      by_comma false other g = by_end (same_bytes s (codes ")")) refl g

  first_forth : (a : Anchor) (at : ℕ) (s : List ℕ) (ss : Tokens) (out : List Pass) → After ss out (first_item offered a at s) → Rest (expected.FirstItem a) (s ∷ ss) out
  unfolding first_item closed
  first_forth a at s ss out h = by_end (same_bytes s (codes ")")) refl h
    where
      ending : (a : Anchor) → s ≡ codes ")" → After ss out (Ok (closed a)) → Rest (expected.FirstItem a) (s ∷ ss) out
      ending BuiltinModule same (rest, told, (none, nothing)) = (
        [],
        ap (λ x. x ∷ ss) same ∙ ap (λ z. codes ")" ∷ z) none,
        told ∙ nothing,
        tt,
      )
      ending HwModule same (rest, told, (is, spelled, out_is, stand)) = (
        [],
        is,
        ap (λ x. x ∷ ss) same ∙ ap (λ z. codes ")" ∷ z) spelled,
        told ∙ out_is,
        tt,
        stand,
      )

      items : (a : Anchor) → Rest (expected.Item a) (s ∷ ss) out → Rest (expected.FirstItem a) (s ∷ ss) out
      items BuiltinModule (i, is, spelled, out_is, stands, stand) = (i ∷ is, spelled, out_is, (stands, stand))
      items HwModule (p, ps, is, spelled, out_is, one, run, stand) = (p ∷ ps, is, spelled, out_is, (one, run), stand)

      by_end : (b : Bool) → same_bytes s (codes ")") ≡ b → After ss out (cond b (Ok (closed a)) (item offered a at s)) → Rest (expected.FirstItem a) (s ∷ ss) out
      by_end true same g = ending a (same_text s (codes ")") (sym same)) g
      by_end false other g = items a (item_forth a at s ss out g)

  opening_forth : (a : Anchor) (at : ℕ) (s : List ℕ) (ss : Tokens) (out : List Pass) → After ss out (opening a at s) → Rest (expected.Opening a) (s ∷ ss) out
  unfolding opening
  opening_forth a at s ss out h = go a (same_bytes s (codes "(")) refl h
    where
      go : (a : Anchor) (b : Bool) → same_bytes s (codes "(") ≡ b → After ss out (cond b (mark (expected.FirstItem a)) (Err (BadText at))) → Rest (expected.Opening a) (s ∷ ss) out
      go a false other never = absurd never
      go BuiltinModule true same (rest, told, (is, spelled, out_is, stand)) = (
        is,
        ap (λ x. x ∷ ss) (same_text s (codes "(") (sym same)) ∙ ap (λ z. codes "(" ∷ z) spelled,
        told ∙ out_is,
        stand,
      )
      go HwModule true same (rest, told, (ps, is, spelled, out_is, run, stand)) = (
        ps,
        is,
        ap (λ x. x ∷ ss) (same_text s (codes "(") (sym same)) ∙ ap (λ z. codes "(" ∷ z) spelled,
        told ∙ out_is,
        run,
        stand,
      )

  root_forth : (at : ℕ) (s : List ℕ) (ss : Tokens) (out : List Pass) → After ss out (root offered at s) → Rest expected.Root (s ∷ ss) out
  unfolding root
  root_forth at s ss out h = go (same_bytes s (codes "builtin.module")) refl h
    where
      no_position : (x : Option Pass) → After ss out (misplaced at x) → ⊥
      no_position (Some p) never = never
      no_position None never = never

      no_name : (b : Bool) → After ss out (cond (not b) (Err (BadText at)) (misplaced at (pass_named offered s))) → ⊥
      no_name false never = never
      no_name true g = no_position (pass_named offered s) g

      go : (b : Bool) → same_bytes s (codes "builtin.module") ≡ b
          → After ss out (cond b (mark (expected.Opening BuiltinModule)) (cond (not (is_name s)) (Err (BadText at)) (misplaced at (pass_named offered s))))
          → Rest expected.Root (s ∷ ss) out
      go false other g = absurd (no_name (is_name s) g)
      go true same (rest, told, (is, spelled, out_is, stand)) = (
        is,
        ap (λ x. x ∷ ss) (same_text s (codes "builtin.module") (sym same)) ∙ ap (λ z. codes "builtin.module" ∷ z) spelled,
        told ∙ out_is,
        stand,
      )

  step_forth : (e : Expected) (at : ℕ) (s : List ℕ) (ss : Tokens) (out : List Pass) → After ss out (step_over offered e at s) → Rest e (s ∷ ss) out
  unfolding step_over
  step_forth expected.Root at s ss out h = root_forth at s ss out h
  step_forth (expected.Opening a) at s ss out h = opening_forth a at s ss out h
  step_forth (expected.FirstItem a) at s ss out h = first_forth a at s ss out h
  step_forth (expected.Item a) at s ss out h = item_forth a at s ss out h
  step_forth (expected.Separator a) at s ss out h = separator_forth a at s ss out h
  step_forth expected.End at s ss out never = absurd never

  -- ---- the step over a token that may stand

  -- of a list that begins
  head_is : (s t : List ℕ) (ss ts : Tokens) → s ∷ ss ≡ t ∷ ts → s ≡ t
  head_is s t ss ts e = cc

  rest_is : (s t : List ℕ) (ss ts : Tokens) → s ∷ ss ≡ t ∷ ts → ss ≡ ts
  rest_is s t ss ts e = cc

  pass_back : (a : Anchor) (at : ℕ) (p : Pass) (ss : Tokens) (out rest : List Pass) → IsOffered offered p → runs_on a p ≡ true → out ≡ p ∷ rest
      → Rest (expected.Separator a) ss rest → After ss out (item offered a at (pass_name p))
  unfolding item pass_item
  pass_back a at p ss out rest named runs told h =
      subst (λ b. After ss out (cond (not b) (Err (BadText at)) (named_item a at (pass_name p) (pass_named offered (pass_name p))))) (sym (name_is_name p))
      (subst (λ x. After ss out (named_item a at (pass_name p) x)) (sym named)
      (subst (λ b. After ss out (cond b (Ok (record { pass = Some p; next = expected.Separator a })) (Err (WrongPlace at)))) (sym runs)
      (rest, told, h)))

  modules_back : (at : ℕ) (ss : Tokens) (out : List Pass) → Rest (expected.Opening HwModule) ss out → After ss out (item offered BuiltinModule at (codes "hw.module"))
  unfolding item nested
  modules_back at ss out h =
      subst (λ x. After ss out (named_item BuiltinModule at (codes "hw.module") x)) (sym (no_pass offered)) (out, refl, h)

  item_back : (a : Anchor) (at : ℕ) (s : List ℕ) (ss : Tokens) (out : List Pass) → Rest (expected.Item a) (s ∷ ss) out → After ss out (item offered a at s)
  item_back BuiltinModule at s ss out (on_design p, is, spelled, out_is, stands, stand) =
      subst (λ z. After ss out (item offered BuiltinModule at z)) (sym (head_is s (pass_name p) ss (more_items is) spelled))
      (pass_back BuiltinModule at p ss out (passes_in is) stands (on_any_design p) out_is
      (is, rest_is s (pass_name p) ss (more_items is) spelled, refl, stand))
  item_back BuiltinModule at s ss out (on_modules ps, is, spelled, out_is, stands, stand) =
      subst (λ z. After ss out (item offered BuiltinModule at z)) (sym (head_is s (codes "hw.module") ss (codes "(" ∷ passes_spelled ps ++ codes ")" ∷ more_items is) spelled))
      (modules_back at ss out (ps, is, rest_is s (codes "hw.module") ss (codes "(" ∷ passes_spelled ps ++ codes ")" ∷ more_items is) spelled, out_is, stands, stand))
  item_back HwModule at s ss out (p, ps, is, spelled, out_is, one, run, stand) =
      subst (λ z. After ss out (item offered HwModule at z)) (sym (head_is s (pass_name p) ss (more_passes ps ++ codes ")" ∷ more_items is) spelled))
      (pass_back HwModule at p ss out (ps ++ passes_in is) one.0 one.1 out_is
      (ps, is, rest_is s (pass_name p) ss (more_passes ps ++ codes ")" ∷ more_items is) spelled, refl, run, stand))

  -- the first token of items does not end them
  item_goes_on : (a : Anchor) (s : List ℕ) (ss : Tokens) (out : List Pass) → Rest (expected.Item a) (s ∷ ss) out → same_bytes s (codes ")") ≡ false
  item_goes_on BuiltinModule s ss out (on_design p, is, spelled, out_is, stands, stand) =
      ap (λ z. same_bytes z (codes ")")) (head_is s (pass_name p) ss (more_items is) spelled) ∙ name_no_end p
  item_goes_on BuiltinModule s ss out (on_modules ps, is, spelled, out_is, stands, stand) =
      ap (λ z. same_bytes z (codes ")")) (head_is s (codes "hw.module") ss (codes "(" ∷ passes_spelled ps ++ codes ")" ∷ more_items is) spelled)
  item_goes_on HwModule s ss out (p, ps, is, spelled, out_is, one, run, stand) =
      ap (λ z. same_bytes z (codes ")")) (head_is s (pass_name p) ss (more_passes ps ++ codes ")" ∷ more_items is) spelled) ∙ name_no_end p

  closed_back : (a : Anchor) (s : List ℕ) (ss : Tokens) (out : List Pass) → Rest (expected.Separator a) (s ∷ ss) out → same_bytes s (codes ",") ≡ false
      → (s ≡ codes ")") × After ss out (Ok (closed a))
  unfolding closed
  closed_back BuiltinModule s ss out ([], spelled, out_is, stand) other =
      (head_is s (codes ")") ss [] spelled, ([], out_is, (rest_is s (codes ")") ss [] spelled, refl)))
  closed_back BuiltinModule s ss out (i ∷ is, spelled, out_is, stand) other =
      let clash : true ≡ false = ap (λ z. same_bytes z (codes ",")) (sym (head_is s (codes ",") ss (item_spelled i (more_items is)) spelled)) ∙ other in cc
  closed_back HwModule s ss out ([], is, spelled, out_is, run, stand) other =
      (head_is s (codes ")") ss (more_items is) spelled, (out, refl, (is, rest_is s (codes ")") ss (more_items is) spelled, out_is, stand)))
  closed_back HwModule s ss out (p ∷ ps, is, spelled, out_is, run, stand) other =
      let clash : true ≡ false =
      ap (λ z. same_bytes z (codes ",")) (sym (head_is s (codes ",") ss (pass_name p ∷ more_passes ps ++ codes ")" ∷ more_items is) spelled)) ∙ other in cc

  comma_back : (a : Anchor) (s : List ℕ) (ss : Tokens) (out : List Pass) → Rest (expected.Separator a) (s ∷ ss) out → same_bytes s (codes ",") ≡ true
      → Rest (expected.Item a) ss out
  comma_back BuiltinModule s ss out ([], spelled, out_is, stand) same =
      let clash : false ≡ true = ap (λ z. same_bytes z (codes ",")) (sym (head_is s (codes ")") ss [] spelled)) ∙ same in cc
  comma_back BuiltinModule s ss out (i ∷ is, spelled, out_is, stand) same =
      (i, is, rest_is s (codes ",") ss (item_spelled i (more_items is)) spelled, out_is, stand.0, stand.1)
  comma_back HwModule s ss out ([], is, spelled, out_is, run, stand) same =
      let clash : false ≡ true = ap (λ z. same_bytes z (codes ",")) (sym (head_is s (codes ")") ss (more_items is) spelled)) ∙ same in cc
  comma_back HwModule s ss out (p ∷ ps, is, spelled, out_is, run, stand) same =
      (p, ps, is, rest_is s (codes ",") ss (pass_name p ∷ more_passes ps ++ codes ")" ∷ more_items is) spelled, out_is, run.0, run.1, stand)

  separator_back : (a : Anchor) (at : ℕ) (s : List ℕ) (ss : Tokens) (out : List Pass) → Rest (expected.Separator a) (s ∷ ss) out → After ss out (separator a at s)
  unfolding separator
  separator_back a at s ss out h = go (same_bytes s (codes ",")) refl
    where
      go : (b : Bool) → same_bytes s (codes ",") ≡ b
          → After ss out (cond b (mark (expected.Item a)) (cond (same_bytes s (codes ")")) (Ok (closed a)) (Err (BadText at))))
      go true same = (out, refl, comma_back a s ss out h same)
      go false other =
          let end = closed_back a s ss out h other in
          subst (λ z. After ss out (cond (same_bytes z (codes ")")) (Ok (closed a)) (Err (BadText at)))) (sym end.0) end.1

  first_back : (a : Anchor) (at : ℕ) (s : List ℕ) (ss : Tokens) (out : List Pass) → Rest (expected.FirstItem a) (s ∷ ss) out → After ss out (first_item offered a at s)
  unfolding first_item closed
  first_back a at s ss out h = go a h
    where
      items : (a : Anchor) → Rest (expected.Item a) (s ∷ ss) out → After ss out (cond (same_bytes s (codes ")")) (Ok (closed a)) (item offered a at s))
      items a h =
          subst (λ b. After ss out (cond b (Ok (closed a)) (item offered a at s))) (sym (item_goes_on a s ss out h)) (item_back a at s ss out h)

      ending : (a : Anchor) → s ≡ codes ")" → After ss out (Ok (closed a)) → After ss out (cond (same_bytes s (codes ")")) (Ok (closed a)) (item offered a at s))
      ending a same g = subst (λ z. After ss out (cond (same_bytes z (codes ")")) (Ok (closed a)) (item offered a at z))) (sym same) g

      go : (a : Anchor) → Rest (expected.FirstItem a) (s ∷ ss) out → After ss out (cond (same_bytes s (codes ")")) (Ok (closed a)) (item offered a at s))
      go BuiltinModule ([], spelled, out_is, stand) =
          ending BuiltinModule (head_is s (codes ")") ss [] spelled) ([], out_is, (rest_is s (codes ")") ss [] spelled, refl))
      go BuiltinModule (i ∷ is, spelled, out_is, stand) = items BuiltinModule (i, is, spelled, out_is, stand.0, stand.1)
      go HwModule ([], is, spelled, out_is, run, stand) =
          ending HwModule (head_is s (codes ")") ss (more_items is) spelled) (out, refl, (is, rest_is s (codes ")") ss (more_items is) spelled, out_is, stand))
      go HwModule (p ∷ ps, is, spelled, out_is, run, stand) = items HwModule (p, ps, is, spelled, out_is, run.0, run.1, stand)

  step_back : (e : Expected) (at : ℕ) (s : List ℕ) (ss : Tokens) (out : List Pass) → Rest e (s ∷ ss) out → After ss out (step_over offered e at s)
  unfolding step_over root opening
  step_back expected.Root at s ss out (is, spelled, out_is, stand) =
      subst (λ z. After ss out (root offered at z)) (sym (head_is s (codes "builtin.module") ss (codes "(" ∷ items_spelled is) spelled))
      (out, refl, (is, rest_is s (codes "builtin.module") ss (codes "(" ∷ items_spelled is) spelled, out_is, stand))
  step_back (expected.Opening BuiltinModule) at s ss out (is, spelled, out_is, stand) =
      subst (λ z. After ss out (opening BuiltinModule at z)) (sym (head_is s (codes "(") ss (items_spelled is) spelled))
      (out, refl, (is, rest_is s (codes "(") ss (items_spelled is) spelled, out_is, stand))
  step_back (expected.Opening HwModule) at s ss out (ps, is, spelled, out_is, run, stand) =
      subst (λ z. After ss out (opening HwModule at z)) (sym (head_is s (codes "(") ss (passes_spelled ps ++ codes ")" ∷ more_items is) spelled))
      (out, refl, (ps, is, rest_is s (codes "(") ss (passes_spelled ps ++ codes ")" ∷ more_items is) spelled, out_is, run, stand))
  step_back (expected.FirstItem a) at s ss out h = first_back a at s ss out h
  step_back (expected.Item a) at s ss out h = item_back a at s ss out h
  step_back (expected.Separator a) at s ss out h = separator_back a at s ss out h
  step_back expected.End at s ss out (none, nothing) = cc

  -- ---- the bytes of a text

  -- what is read before and what is left
  added_told : (got : List Pass) (x : Option Pass) (rest : List Pass) → added got x ++ rest ≡ got ++ (passes_told x ++ rest)
  added_told got None rest = refl
  added_told got (Some p) rest = append_one got p rest
    where
      append_one : (xs : List Pass) (p : Pass) (ys : List Pass) → (xs ++ p ∷ []) ++ ys ≡ xs ++ p ∷ ys
      append_one [] p ys = refl
      append_one (x ∷ xs) p ys = ap (λ zs. x ∷ zs) (append_one xs p ys)

  none_added : (xs : List Pass) → xs ≡ xs ++ []
  none_added [] = refl
  none_added (x ∷ xs) = ap (λ ys. x ∷ ys) (none_added xs)

  end_forth : (got : List Pass) (e : Expected) (at : ℕ) (all : List Pass) → ended got e at ≡ Ok all → (out : List Pass) × (all ≡ got ++ out) × Rest e [] out
  end_forth got expected.Root at all h = cc
  end_forth got (expected.Opening a) at all h = cc
  end_forth got (expected.FirstItem a) at all h = cc
  end_forth got (expected.Item a) at all h = cc
  end_forth got (expected.Separator a) at all h = cc
  end_forth got expected.End at all h = let same : got ≡ all = cc in ([], sym same ∙ none_added got, (refl, refl))

  read_forth : (got : List Pass) (e : Expected) (k at : ℕ) (bs : List ℕ) (all : List Pass) → passes_after offered got e k at bs ≡ Ok all
      → (out : List Pass) × (all ≡ got ++ out) × Rest e (tokens_after k bs) out
  unfolding passes_after tokens_after
  read_forth got e k at [] all h = end_forth got e at all h
  read_forth got e (suc k) at (b ∷ bs) all h = read_forth got e k (at + 1) bs all h
  read_forth got e zero at (b ∷ bs) all h =
      by_space (λ g. read_forth got e zero (at + 1) bs all g) (λ more next g. read_forth more next (length (token_in (b ∷ bs)) - 1) (at + 1) bs all g) (is_space b) h
    where
      After_token : List Pass → Expected → Type 0
      After_token more next =
          passes_after offered more next (length (token_in (b ∷ bs)) - 1) (at + 1) bs ≡ Ok all
          → (out : List Pass) × (all ≡ more ++ out) × Rest next (tokens_after (length (token_in (b ∷ bs)) - 1) bs) out

      by_step : ((more : List Pass) (next : Expected) → After_token more next) → (r : Result Step PipelineFail) → step_over offered e at (token_in (b ∷ bs)) ≡ r
          → after got r (λ more next. passes_after offered more next (length (token_in (b ∷ bs)) - 1) (at + 1) bs) ≡ Ok all
          → (out : List Pass) × (all ≡ got ++ out) × Rest e (token_in (b ∷ bs) ∷ tokens_after (length (token_in (b ∷ bs)) - 1) bs) out
      by_step following (Err fail) is g = cc
      by_step following (Ok s) is g =
          let (rest, same, there) = following (added got s.pass) s.next g in (
            passes_told s.pass ++ rest,
            same ∙ added_told got s.pass rest,
            step_forth e at (token_in (b ∷ bs)) (tokens_after (length (token_in (b ∷ bs)) - 1) bs) (passes_told s.pass ++ rest)
                (subst (After (tokens_after (length (token_in (b ∷ bs)) - 1) bs) (passes_told s.pass ++ rest)) (sym is) (rest, refl, there)),
          )

      by_space : (passes_after offered got e zero (at + 1) bs ≡ Ok all → (out : List Pass) × (all ≡ got ++ out) × Rest e (tokens_after zero bs) out)
          → ((more : List Pass) (next : Expected) → After_token more next) → (x : Bool)
          → cond x (passes_after offered got e zero (at + 1) bs)
          (after got (step_over offered e at (token_in (b ∷ bs))) (λ more next. passes_after offered more next (length (token_in (b ∷ bs)) - 1) (at + 1) bs)) ≡ Ok all
          → (out : List Pass) × (all ≡ got ++ out)
          × Rest e (cond x (tokens_after zero bs) (token_in (b ∷ bs) ∷ tokens_after (length (token_in (b ∷ bs)) - 1) bs)) out
      by_space past following true g = past g
      by_space past following false g = by_step following (step_over offered e at (token_in (b ∷ bs))) refl g

  end_back : (got : List Pass) (e : Expected) (at : ℕ) (out : List Pass) → Rest e [] out → ended got e at ≡ Ok (got ++ out)
  end_back got expected.Root at out (is, spelled, out_is, stand) = cc
  end_back got (expected.Opening BuiltinModule) at out (is, spelled, out_is, stand) = cc
  end_back got (expected.Opening HwModule) at out (ps, is, spelled, out_is, run, stand) = cc
  end_back got (expected.FirstItem BuiltinModule) at out ([], spelled, out_is, stand) = cc
  end_back got (expected.FirstItem BuiltinModule) at out (on_design p ∷ is, spelled, out_is, stand) = cc
  end_back got (expected.FirstItem BuiltinModule) at out (on_modules ps ∷ is, spelled, out_is, stand) = cc
  end_back got (expected.FirstItem HwModule) at out ([], is, spelled, out_is, run, stand) = cc
  end_back got (expected.FirstItem HwModule) at out (p ∷ ps, is, spelled, out_is, run, stand) = cc
  end_back got (expected.Item BuiltinModule) at out (on_design p, is, spelled, out_is, stands, stand) = cc
  end_back got (expected.Item BuiltinModule) at out (on_modules ps, is, spelled, out_is, stands, stand) = cc
  end_back got (expected.Item HwModule) at out (p, ps, is, spelled, out_is, one, run, stand) = cc
  end_back got (expected.Separator BuiltinModule) at out ([], spelled, out_is, stand) = cc
  end_back got (expected.Separator BuiltinModule) at out (i ∷ is, spelled, out_is, stand) = cc
  end_back got (expected.Separator HwModule) at out ([], is, spelled, out_is, run, stand) = cc
  end_back got (expected.Separator HwModule) at out (p ∷ ps, is, spelled, out_is, run, stand) = cc
  end_back got expected.End at out (none, nothing) = ap Ok (none_added got ∙ ap (λ z. got ++ z) (sym nothing))

  read_back : (got : List Pass) (e : Expected) (k at : ℕ) (bs : List ℕ) (out : List Pass) → Rest e (tokens_after k bs) out
      → passes_after offered got e k at bs ≡ Ok (got ++ out)
  unfolding passes_after tokens_after
  read_back got e k at [] out h = end_back got e at out h
  read_back got e (suc k) at (b ∷ bs) out h = read_back got e k (at + 1) bs out h
  read_back got e zero at (b ∷ bs) out h =
      by_space (λ g. read_back got e zero (at + 1) bs out g) (λ more next rest g. read_back more next (length (token_in (b ∷ bs)) - 1) (at + 1) bs rest g) (is_space b) h
    where
      Read_after : List Pass → Expected → List Pass → Type 0
      Read_after more next rest =
          Rest next (tokens_after (length (token_in (b ∷ bs)) - 1) bs) rest
          → passes_after offered more next (length (token_in (b ∷ bs)) - 1) (at + 1) bs ≡ Ok (more ++ rest)

      by_step : ((more : List Pass) (next : Expected) (rest : List Pass) → Read_after more next rest) → (r : Result Step PipelineFail)
          → After (tokens_after (length (token_in (b ∷ bs)) - 1) bs) out r
          → after got r (λ more next. passes_after offered more next (length (token_in (b ∷ bs)) - 1) (at + 1) bs) ≡ Ok (got ++ out)
      by_step following (Err fail) never = absurd never
      by_step following (Ok s) (rest, told, there) =
          following (added got s.pass) s.next rest there ∙ ap Ok (added_told got s.pass rest ∙ ap (λ z. got ++ z) (sym told))

      by_space : (Rest e (tokens_after zero bs) out → passes_after offered got e zero (at + 1) bs ≡ Ok (got ++ out))
          → ((more : List Pass) (next : Expected) (rest : List Pass) → Read_after more next rest) → (x : Bool)
          → Rest e (cond x (tokens_after zero bs) (token_in (b ∷ bs) ∷ tokens_after (length (token_in (b ∷ bs)) - 1) bs)) out
          → cond x (passes_after offered got e zero (at + 1) bs)
          (after got (step_over offered e at (token_in (b ∷ bs))) (λ more next. passes_after offered more next (length (token_in (b ∷ bs)) - 1) (at + 1) bs)) ≡ Ok (got ++ out)
      by_space past following true g = past g
      by_space past following false g =
          by_step following (step_over offered e at (token_in (b ∷ bs)))
          (step_back e at (token_in (b ∷ bs)) (tokens_after (length (token_in (b ∷ bs)) - 1) bs) out g)

-- ---- whole texts

-- a text that reads spells a pipeline of those passes
pub read_is_spelled : (offered : List Pass) (text : List ℕ) (ps : List Pass) → passes offered text ≡ Ok ps
    → (is : List Item) × (tokens text ≡ pipeline_spelled is) × (ps ≡ passes_in is) × AllMayStand offered is
unfolding passes
read_is_spelled offered text ps h =
    let (out, same, (is, spelled, out_is, stand)) = read_forth offered [] expected.Root 0 0 text ps h in (is, spelled, same ∙ out_is, stand)

-- a text that spells a pipeline reads as its passes
pub spelled_is_read : (offered : List Pass) (text : List ℕ) (is : List Item) → tokens text ≡ pipeline_spelled is → AllMayStand offered is
    → passes offered text ≡ Ok (passes_in is)
unfolding passes
spelled_is_read offered text is spelled stand = read_back offered [] expected.Root 0 0 text (passes_in is) (is, spelled, refl, stand)
