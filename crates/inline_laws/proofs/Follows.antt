-- A design in which an instance is inlined follows from the old one.
use Rattle.std.proofs.Common.{◌≡◌, ◌⊎◌, ℕ, suc, List, [], ◌∷◌, length, map, take, drop, slice_get, Option, Some, refl, sym, ap, ap₂, subst, ◌∙◌, inl, inr, length-set, arith, ◌<◌}
use Rattle.std.proofs.lemmas.List.{length-take-le}
use Rattle.std.proofs.lemmas.Option.{slice_get_within}
use Rattle.wiring.proofs.Lists.{split_at}
use Rattle.hw_model.specs.Types.{Name}
use Rattle.hw_model.specs.Design.{Op, Module, Design, find_module}
use Rattle.hw_model.specs.Flat.{Slot, registers}
use Rattle.hw_model.specs.Machine.{Same}
use Rattle.hw_model.specs.Meaning.{machine}
use Rattle.hw_model.proofs.Machines.{same_forth}
use Rattle.edit_laws.specs.Follows.{Valid, Follows}
use Rattle.edit_laws.specs.Laws.{with_body}
use Rattle.edit_laws.proofs.Follows.{valid_settles, set_each}
use Rattle.inline_laws.specs.Inline.{RenamesOnly, inlined_between, inline_op, IsInlined}
use Rattle.inline_laws.proofs.Inlining.{Finds, Inlining, finite_after, state_same}
use Rattle.inline_laws.proofs.Inlining.Finds.{changed, unchanged}
use Rattle.inline_laws.proofs.Homes.{origin}
use Rattle.inline_laws.proofs.Carried.{settled_carried, outputs_carried, heights_carried}
use Rattle.inline_laws.proofs.Slots.{SlotsCome, next_carried, rising_carried}
use Rattle.inline_laws.proofs.Registers.{registers_come}
use Rattle.inline_laws.proofs.Unwired.{slot_type, register_types}
use Rattle.inline_laws.proofs.Moved.{moved_type}
use Rattle.inline_laws.proofs.Types.{sound_after}

pub valid_inlined : (S : Inlining) → Valid S.e
valid_inlined S = record { sound = sound_after S; finite = finite_after S; heights = λ top. heights_carried S top (S.valid.heights top) }

same_inlined : (S : Inlining) (top : Name) → Same (machine S.d top) (machine S.e top)
same_inlined S top =
    same_forth (machine S.d top) (machine S.e top) (λ ρ a. ρ (origin S top a)) (ap (λ f. f top) (sym (state_same S)))
    (valid_settles S.d S.valid top) (valid_settles S.e (valid_inlined S) top)
    (record {
      settled = λ inputs content ρ settled. settled_carried S top inputs content ρ settled;
      outputs = λ inputs content ρ settled. outputs_carried S top inputs content ρ settled;
      next = λ inputs content ρ settled. next_carried S top inputs content ρ settled (registers S.e top) (registers S.d top) (registers_come S top) content;
      rising = λ before inputs content ρ σ earlier settled.
          rising_carried S top before inputs content ρ σ earlier settled (registers S.e top) (registers S.d top) (registers_come S top) content;
    })

-- registers that come from one another have the same types
types_come : (S : Inlining) (top : Name) (ss' ss : List Slot) → SlotsCome S top ss' ss → map slot_type ss' ≡ map slot_type ss
types_come S top [] [] come = refl
types_come S top [] (s ∷ ss) come = absurd come
types_come S top (s' ∷ ss') [] come = absurd come
types_come S top (s' ∷ ss') (s ∷ ss) (one, more) = ap₂ (λ x xs. x ∷ xs) (moved_type one.move s.op s'.op one.moves 0) (types_come S top ss' ss more)

pub inlining_types : (S : Inlining) (top : Name) → register_types S.e top ≡ register_types S.d top
inlining_types S top = types_come S top (registers S.e top) (registers S.d top) (registers_come S top)

pub inlining_follows : (S : Inlining) → Follows S.d S.e
inlining_follows S = record { valid = valid_inlined S; same = same_inlined S }

-- what stands at a position stands after as many
pub length_before : {A : Type 0} (xs : List A) (i : ℕ) (x : A) → slice_get xs i ≡ Some x → length (take i xs) ≡ i
length_before xs i x is = let within : i < length xs = slice_get_within xs i x is in length-take-le i xs (omega arith)

module _ (d : Design) (m : ℕ) (md : Module) (i : ℕ) (o : Op) (c : Module) (rename : Op → Op) (only : RenamesOnly rename) (valid : Valid d)
    (at_m : slice_get d m ≡ Some md) (is : IsInlined d md i o c) where
  -- the new body and design, the instance standing after its prefix
  abbrev inlined_body : List Op
  inlined_body = inlined_between rename (length (take i md.body)) o c (take i md.body) (drop (suc i) md.body)

  pub finds_inlined : (s : Name) → Finds d (with_body d m md inlined_body) md (record md { body = inlined_body }) s
  finds_inlined s =
      go (find_module d s) (find_module (with_body d m md inlined_body) s) refl refl
      (set_each Change (λ x. inr refl) d m md (record md { body = inlined_body }) at_m refl (inl (refl, refl)) s)
    where
      Change : Option Module → Option Module → Type 0
      Change x y = ((x ≡ Some md) × (y ≡ Some (record md { body = inlined_body }))) ⊎ (y ≡ x)

      go : (x y : Option Module) → find_module d s ≡ x → find_module (with_body d m md inlined_body) s ≡ y → Change x y
          → Finds d (with_body d m md inlined_body) md (record md { body = inlined_body }) s
      go x y was now (inl (old, new)) = changed (was ∙ old) (now ∙ new)
      go x y was now (inr same) = unchanged (now ∙ same ∙ sym was)

  unfoldable pub inlining : Inlining
  inlining = record {
    d = d;
    e = with_body d m md inlined_body;
    md = md;
    prefix = take i md.body;
    o = o;
    back = drop (suc i) md.body;
    c = c;
    rename = rename;
    only = only;
    body_is = split_at md.body i o is.there;
    target = is.target;
    is_instance = is.is_instance;
    is_found = is.is_found;
    ends = is.ends;
    valid = valid;
    same_length = length-set d m (record md { body = inlined_body });
    finds = finds_inlined;
  }

pub inline_preserves : (d : Design) (m : ℕ) (md : Module) (i : ℕ) (o : Op) (c : Module) (rename : Op → Op) → RenamesOnly rename → Valid d
    → slice_get d m ≡ Some md → IsInlined d md i o c → Follows d (with_body d m md (inline_op rename i o c md.body))
unfolding inlining
inline_preserves d m md i o c rename only valid at_m is =
    subst (λ n. Follows d (with_body d m md (inlined_between rename n o c (take i md.body) (drop (suc i) md.body)))) (length_before md.body i o is.there)
    (inlining_follows (inlining d m md i o c rename only valid at_m is))

pub inline_types : (d : Design) (m : ℕ) (md : Module) (i : ℕ) (o : Op) (c : Module) (rename : Op → Op) → RenamesOnly rename → Valid d
    → slice_get d m ≡ Some md → IsInlined d md i o c → (s : Name) → register_types (with_body d m md (inline_op rename i o c md.body)) s ≡ register_types d s
unfolding inlining
inline_types d m md i o c rename only valid at_m is s =
    subst (λ n. register_types (with_body d m md (inlined_between rename n o c (take i md.body) (drop (suc i) md.body))) s ≡ register_types d s)
    (length_before md.body i o is.there)
    (inlining_types (inlining d m md i o c rename only valid at_m is) s)
