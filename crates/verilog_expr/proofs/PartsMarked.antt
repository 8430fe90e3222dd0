-- What an operation is, by the mark of its first result.
use Rattle.std.proofs.Common.{◌≡◌, ℕ, zero, suc, ◌+◌, ◌<◌, ◌≤◌, min, Bool, true, false, cond, not, ◌&&◌, ◌||◌, nat_le, List, [], ◌∷◌, ◌++◌, length, length-append, map, drop, get_or, ◌⊎◌, inl, inr}
use Rattle.std.proofs.Common.{slice_get, Some, refl, sym, ap, subst, ◌∙◌, arith}
use Rattle.std.proofs.lemmas.List.{drop_all}
use Rattle.std.proofs.lemmas.Bool.{leb-true, leb-false}
use Rattle.hw_model.specs.Types.{Name}
use Rattle.hw_model.specs.Design.{Ref, Port, Op, Entry, same_name}
use Rattle.hw_model.specs.Design.Ref.{result}
use Rattle.verilog_model.specs.Numerals.{is_nonempty}
use Rattle.verilog_expr.specs.Spilling as told
use Rattle.verilog_expr.specs.Spilling.{is_pure, is_constant_kind, hint_of, use_count, cuts, joins, some_op, is_shared, text_of, text_at}
use Rattle.verilog_expr.specs.Marks.{no_mark, after_ops}
use Rattle.verilog_expr.specs.PartTables.{part_marked}
use Rattle.verilog_expr.specs.declared.marks.Mark.{Mark}
use Rattle.wiring.proofs.Joined.{split_at}

two_capped : (n : ℕ) → nat_le 2 (min 2 (0 + n)) ≡ nat_le 2 n
two_capped n = go (nat_le 2 n) refl (nat_le 2 (min 2 (0 + n))) refl
  where
    go : (a : Bool) → nat_le 2 n ≡ a → (b : Bool) → nat_le 2 (min 2 (0 + n)) ≡ b → b ≡ a
    go true p true q = refl
    go false p false q = refl
    go true p false q = absurd (omega (arith, leb-true 2 n p, leb-false 2 (min 2 (0 + n)) q))
    go false p true q = absurd (omega (arith, leb-false 2 n p, leb-true 2 (min 2 (0 + n)) q))

pub shared_marked : (ports : List Port) (os : List Op) (r : Ref) (o : Op) (h : Name) → hint_of o ≡ h
    → is_shared ports os r o ≡ ((nat_le 2 (use_count os r) || some_op (cuts ports os r) os) || (some_op (joins r) os || is_nonempty h))
shared_marked ports os r o [] e = rw e refl
shared_marked ports os r o (b ∷ bs) e = rw e refl

pub part_is : (ports : List Port) (os : List Op) (i : ℕ) (o : Op) (m : Mark) → slice_get os i ≡ Some o → m ≡ after_ops ports os (result i 0) os no_mark
    → part_marked o m ≡ told.part ports os (result i 0)
part_is ports os i o m at is =
    ap (part_marked o) is
    ∙ ap (λ b. cond (is_pure o && not (is_constant_kind o.kind)) (cond b told.Part.shared told.Part.nested) told.Part.flat)
    (ap (λ b. (b || some_op (cuts ports os (result i 0)) os) || (some_op (joins (result i 0)) os || is_nonempty (hint_of o))) (two_capped (use_count os (result i 0)))
    ∙ sym (shared_marked ports os (result i 0) o (hint_of o) refl))
    ∙ sym (ap (told.part_of ports os (result i 0)) at)

-- ---- hints

hint_at : {A : Type 0} (f : A → Entry) (xs : List A) (i : ℕ) (x : A) → i < length xs → x ≡ get_or xs i x → map f (drop i xs) ≡ f x ∷ map f (drop (i + 1) xs)
hint_at f xs i x lt at = ap (map f) (split_at xs i x lt at)

pub hint_step : {A : Type 0} (f : A → Entry) (key : Name) (xs : List A) (i : ℕ) (x : A) (whole : Name) → i < length xs → x ≡ get_or xs i x
    → text_at key (map f (drop i xs)) ≡ whole → same_name (f x).key key ≡ false → text_at key (map f (drop (i + 1) xs)) ≡ whole
hint_step f key xs i x whole lt at h other =
    sym (ap (λ b. cond b (text_of (f x).value) (text_at key (map f (drop (i + 1) xs)))) other) ∙ sym (ap (text_at key) (hint_at f xs i x lt at)) ∙ h

pub hint_here : {A : Type 0} (f : A → Entry) (key : Name) (xs : List A) (i : ℕ) (x : A) (whole : Name) → i < length xs → x ≡ get_or xs i x
    → text_at key (map f (drop i xs)) ≡ whole → same_name (f x).key key ≡ true → text_of (f x).value ≡ whole
hint_here f key xs i x whole lt at h same =
    sym (ap (λ b. cond b (text_of (f x).value) (text_at key (map f (drop (i + 1) xs)))) same) ∙ sym (ap (text_at key) (hint_at f xs i x lt at)) ∙ h

pub hint_none : {A : Type 0} (f : A → Entry) (key : Name) (xs : List A) (i : ℕ) (whole : Name) → length xs ≤ i → text_at key (map f (drop i xs)) ≡ whole → [] ≡ whole
hint_none f key xs i whole le h = sym (ap (λ l. text_at key (map f l)) (drop_all i xs le)) ∙ h

-- ---- a table of parts as it grows

get_first : {A : Type 0} (xs : List A) (y d : A) (i : ℕ) → i < length xs → get_or (xs ++ y ∷ []) i d ≡ get_or xs i d
get_first [] y d i lt = absurd (omega (arith, lt))
get_first (x ∷ xs) y d zero lt = refl
get_first (x ∷ xs) y d (suc i) lt = get_first xs y d i (omega (arith, lt))

get_last : {A : Type 0} (xs : List A) (y d : A) → get_or (xs ++ y ∷ []) (length xs) d ≡ y
get_last [] y d = refl
get_last (x ∷ xs) y d = get_last xs y d

pub table_grown : {A : Type 0} (P : ℕ → A → Type 0) (xs new : List A) (n : ℕ) (y d : A) → length xs ≡ n → new ≡ xs ++ y ∷ [] → ((i : ℕ) → i < n → P i (get_or xs i d)) → P n y
    → (i : ℕ) → i < n + 1 → P i (get_or new i d)
table_grown P xs new n y d count pushed before here i lt = go (grind arith)
  where
    go : (i < n) ⊎ (i ≡ n) → P i (get_or new i d)
    go (inl less) = subst (P i) (sym (ap (λ l. get_or l i d) pushed ∙ get_first xs y d i (omega (arith, less, count)))) (before i less)
    go (inr same) =
        subst (λ j. P j (get_or new j d)) (sym same)
        (subst (P n) (sym (ap (λ l. get_or l n d) pushed ∙ ap (λ j. get_or (xs ++ y ∷ []) j d) (sym count) ∙ get_last xs y d)) here)

pub length_grown : {A : Type 0} (xs new : List A) (n : ℕ) (y : A) → length xs ≡ n → new ≡ xs ++ y ∷ [] → length new ≡ n + 1
length_grown xs new n y count pushed = ap length pushed ∙ omega (arith, count, length-append xs (y ∷ []))
