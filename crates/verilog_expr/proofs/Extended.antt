-- Operands in their places, and zero extensions: where they are, and what they are.
use Rattle.std.proofs.Common.{◌≡◌, ℕ, suc, ◌+◌, Bool, true, false, cond, ◌&&◌, ◌||◌, ◌==◌, List, [], ◌∷◌, map, length, Option, Some, None, refl, sym, ap, ap₂, ◌∙◌, inl, inr, arith}
use Rattle.std.proofs.lemmas.Bool.{true≢false, false≢true}
use Rattle.wiring.specs.Wiring.{In}
use Rattle.bits_core.specs.Word.{Word}
use Rattle.hw_model.specs.Types.{Name, HwType}
use Rattle.hw_model.specs.Kinds.{Kind}
use Rattle.hw_model.specs.Kinds.Kind.{icmp, concat}
use Rattle.hw_model.specs.Design.{Ref, Port, Op}
use Rattle.hw_model.specs.Flat.{width_of}
use Rattle.hw_model.specs.Sound.{Fits}
use Rattle.verilog_model.specs.Tree.{Expr}
use Rattle.verilog_expr.specs.Extensions.{is_given, is_simple, passes_width, compares_unsigned, place_of, is_concat, is_zero_in, alone_or}
use Rattle.verilog_expr.specs.Expressions.{op_at, value_width, lends, operand_exprs, extended_in}
use Rattle.verilog_expr.specs.Values.{value_in, values_in, given_to, HasBits, HaveBits}
use Rattle.verilog_expr.specs.declared.extending.Extending.{Extending}
use Rattle.verilog_expr.specs.declared.extending.Extending.TheVariants.{Off, Own, Given}
use Rattle.verilog_expr.proofs.Own.{bits_weaker}
use Rattle.verilog_expr.proofs.Simple.{AreStill}

-- ---- places

pub alone_none : (x : Extending) (e : Expr) → alone_or x None e ≡ e
alone_none Off e = refl
alone_none Own e = refl
alone_none Given e = refl

-- a context that is not given is passed on by nothing but a comparison
pub given_place : (x : Extending) (kind : Kind) (i : ℕ) (lends : Bool) → is_given (place_of x kind i lends) ≡ true → given_to (is_given x) kind i ≡ true
given_place Off kind i lends h = absurd (false≢true h)
given_place Own kind i lends h = go (compares_unsigned kind) lends h where
  go : (c l : Bool) → is_given (cond (c && l) Given Own) ≡ true → (c || (passes_width kind i && false)) ≡ true
  go true l h = refl
  go false l h = absurd (false≢true h)
given_place Given kind i lends h = go (compares_unsigned kind) (passes_width kind i) lends h where
  go : (c p l : Bool) → is_given (cond (p || (c && l)) Given Own) ≡ true → (c || (p && true)) ≡ true
  go true p l h = refl
  go false true l h = refl
  go false false l h = absurd (false≢true h)

comparing_passes : (kind : Kind) (i : ℕ) → compares_unsigned kind ≡ true → passes_width kind i ≡ false
comparing_passes (icmp p) i h = refl
comparing_passes _ i h = absurd (false≢true h)

-- of two that are compared, one that is not lent the width stands by its own
pub unlent_place : (x : Extending) (kind : Kind) (i : ℕ) (lends : Bool) → compares_unsigned kind ≡ true → lends ≡ false → is_given (place_of x kind i lends) ≡ false
unlent_place Off kind i lends compares none = refl
unlent_place Own kind i lends compares none =
    ap (λ l. is_given (cond (compares_unsigned kind && l) Given Own)) none ∙ ap (λ c. is_given (cond (c && false) Given Own)) compares
unlent_place Given kind i lends compares none =
    ap (λ l. is_given (cond (passes_width kind i || (compares_unsigned kind && l)) Given Own)) none
    ∙ ap₂ (λ p c. is_given (cond (p || (c && false)) Given Own)) (comparing_passes kind i compares) compares

pub compared_types : (kind : Kind) (ts : List HwType) (xs : List (Option HwType)) (t : HwType) (k : ℕ) → compares_unsigned kind ≡ true → Fits kind ts xs t k
    → (u : HwType) × (xs ≡ Some u ∷ Some u ∷ [])
compared_types (icmp p) ts xs t k compares (u, is, one) = (u, is)
compared_types _ ts xs t k compares fits = absurd (false≢true compares)

-- ---- operands

module _ (ex : Extending → Ref → Expr) (kind : Kind) where
  pub as_many_placed : (x : Extending) (all : List Ref) (i : ℕ) (rs : List Ref) → length (operand_exprs x ex kind all i rs) ≡ length rs
  as_many_placed x all i [] = refl
  as_many_placed x all i (r ∷ rs) = let rest : length (operand_exprs x ex kind all (i + 1) rs) ≡ length rs = as_many_placed x all (i + 1) rs in omega arith

  -- without the rule they are the expressions of the operands
  pub plain_operands : (all : List Ref) (i : ℕ) (rs : List Ref) → operand_exprs Off ex kind all i rs ≡ map (ex Off) rs
  plain_operands all i [] = refl
  plain_operands all i (r ∷ rs) = ap (λ es. ex Off r ∷ es) (plain_operands all (i + 1) rs)

  -- each is an operand's expression
  pub from_placed : (x : Extending) (all : List Ref) (i : ℕ) (rs : List Ref) (e : Expr) → In e (operand_exprs x ex kind all i rs) → (r : Ref) × (y : Extending) × (e ≡ ex y r) × In r rs
  from_placed x all i [] e here = absurd here
  from_placed x all i (r ∷ rs) e (inl same) = (r, place_of x kind i (lends ex all i), same, inl refl)
  from_placed x all i (r ∷ rs) e (inr here) = let found = from_placed x all (i + 1) rs e here in (found.0, found.1, found.2, inr found.3)

  pub same_placed : (f : Extending → Ref → Expr) (x : Extending) (all : List Ref) (i : ℕ) (rs : List Ref) → ((j : ℕ) → lends ex all j ≡ lends f all j)
      → ((r : Ref) → In r rs → (y : Extending) → ex y r ≡ f y r) → operand_exprs x ex kind all i rs ≡ operand_exprs x f kind all i rs
  same_placed f x all i [] lent same = refl
  same_placed f x all i (r ∷ rs) lent same =
      ap₂ (λ e es. e ∷ es) (same r (inl refl) (place_of x kind i (lends ex all i)) ∙ ap (λ l. f (place_of x kind i l) r) (lent i))
      (same_placed f x all (i + 1) rs lent (λ q here. same q (inr here)))

  pub still_placed : (x : Extending) (all : List Ref) (i : ℕ) (rs : List Ref) → ((r : Ref) → In r rs → is_simple (ex Off r) ≡ true → (y : Extending) → ex y r ≡ ex Off r)
      → AreStill (operand_exprs Off ex kind all i rs) (operand_exprs x ex kind all i rs)
  still_placed x all i [] stays = tt
  still_placed x all i (r ∷ rs) stays =
      ((λ simple. stays r (inl refl) simple (place_of x kind i (lends ex all i))), still_placed x all (i + 1) rs (λ q here. stays q (inr here)))

  module _ (widths : Name → ℕ) (ρ : Name → Word) (type_of : Ref → Option HwType) (x : Extending) where
    pub bits_placed : (all : List Ref) (at : ℕ → Bool) (i : ℕ) → ((j : ℕ) (l : Bool) → is_given (place_of x kind (i + j) l) ≡ true → at j ≡ true) → (rs : List Ref)
        → ((r : Ref) → In r rs → (y : Extending) → HasBits widths ρ (is_given y) (width_of (type_of r)) (ex y r))
        → HaveBits widths ρ at (map type_of rs) (operand_exprs x ex kind all i rs)
    bits_placed all at i places [] good = tt
    bits_placed all at i places (r ∷ rs) good = (
      bits_weaker widths ρ (is_given (place_of x kind i (lends ex all i))) (at 0) (width_of (type_of r)) (ex (place_of x kind i (lends ex all i)) r)
          (λ h. places 0 (lends ex all i) (let e : i + 0 ≡ i = omega arith in ap (λ n. is_given (place_of x kind n (lends ex all i))) e ∙ h))
          (good r (inl refl) (place_of x kind i (lends ex all i))),
      bits_placed all (λ j. at (suc j)) (i + 1)
          (λ j l h. places (suc j) l (let e : i + suc j ≡ i + 1 + j = omega arith in ap (λ n. is_given (place_of x kind n l)) e ∙ h))
          rs (λ q here. good q (inr here)),
    )

    pub words_placed : (word : Ref → Word) (all : List Ref) (i : ℕ) (rs : List Ref)
        → ((r : Ref) → In r rs → (j : ℕ) (l : Bool) → value_in widths ρ (width_of (type_of r)) (ex (place_of x kind j l) r) ≡ word r)
        → values_in widths ρ (map width_of (map type_of rs)) (operand_exprs x ex kind all i rs) ≡ map word rs
    words_placed word all i [] same = refl
    words_placed word all i (r ∷ rs) same =
        ap₂ (λ v vs. v ∷ vs) (same r (inl refl) i (lends ex all i)) (words_placed word all (i + 1) rs (λ q here. same q (inr here)))

-- ---- zero extensions

-- an operation is a zero extension of an operand
pub record IsExtended (ports : List Port) (os : List Op) (ex : Extending → Ref → Expr) (kind : Kind) (rs : List Ref) (e : Expr) : Type 0 where
  pub zero : Ref
  pub operand : Ref
  pub joined : kind ≡ concat
  pub operands : rs ≡ zero ∷ operand ∷ []
  pub zeros : is_zero_in (op_at os zero) (value_width ports os zero) ≡ true
  pub simple : is_simple (ex Off operand) ≡ true
  pub is : e ≡ ex Off operand

concat_kind : (kind : Kind) → is_concat kind ≡ true → kind ≡ concat
concat_kind concat h = refl
concat_kind _ h = absurd (false≢true h)

module _ (ports : List Port) (os : List Op) (ex : Extending → Ref → Expr) where
  pub extended_is : (kind : Kind) (rs : List Ref) (e : Expr) → extended_in ports os ex kind rs ≡ Some e → IsExtended ports os ex kind rs e
  extended_is kind [] e is = absurd (let bad : true ≡ false = cc in true≢false bad)
  extended_is kind (a ∷ []) e is = absurd (let bad : true ≡ false = cc in true≢false bad)
  extended_is kind (a ∷ b ∷ c ∷ rs) e is = absurd (let bad : true ≡ false = cc in true≢false bad)
  extended_is kind (a ∷ b ∷ []) e is =
      go (is_concat kind) refl (is_zero_in (op_at os a) (value_width ports os a)) refl (is_simple (ex Off b)) refl is where
        go : (c : Bool) → is_concat kind ≡ c → (z : Bool) → is_zero_in (op_at os a) (value_width ports os a) ≡ z → (s : Bool) → is_simple (ex Off b) ≡ s
            → cond (c && (z && s)) (Some (ex Off b)) None ≡ Some e → IsExtended ports os ex kind (a ∷ b ∷ []) e
        go true joined true zeros true simple is =
            let same : ex Off b ≡ e = cc in
            record { zero = a; operand = b; joined = concat_kind kind joined; operands = refl; zeros = zeros; simple = simple; is = sym same }
        go true joined true zeros false simple is = absurd (let bad : true ≡ false = cc in true≢false bad)
        go true joined false zeros s simple is = absurd (let bad : true ≡ false = cc in true≢false bad)
        go false joined z zeros s simple is = absurd (let bad : true ≡ false = cc in true≢false bad)

  pub not_extended : (kind : Kind) (rs : List Ref) → is_concat kind ≡ false → extended_in ports os ex kind rs ≡ None
  not_extended kind [] none = refl
  not_extended kind (a ∷ []) none = refl
  not_extended kind (a ∷ b ∷ c ∷ rs) none = refl
  not_extended kind (a ∷ b ∷ []) none =
      ap (λ c. cond (c && (is_zero_in (op_at os a) (value_width ports os a) && is_simple (ex Off b))) (Some (ex Off b)) None) none

  pub extended_same : (f : Extending → Ref → Expr) (kind : Kind) (rs : List Ref) → ((r : Ref) → In r rs → ex Off r ≡ f Off r)
      → extended_in ports os ex kind rs ≡ extended_in ports os f kind rs
  extended_same f kind [] same = refl
  extended_same f kind (a ∷ []) same = refl
  extended_same f kind (a ∷ b ∷ c ∷ rs) same = refl
  extended_same f kind (a ∷ b ∷ []) same =
      ap (λ e. cond (is_concat kind && (is_zero_in (op_at os a) (value_width ports os a) && is_simple e)) (Some e) None) (same b (inr (inl refl)))

  pub lends_same : (f : Extending → Ref → Expr) (rs : List Ref) → ((r : Ref) → In r rs → ex Off r ≡ f Off r) → (i : ℕ) → lends ex rs i ≡ lends f rs i
  lends_same f [] same i = refl
  lends_same f (a ∷ []) same i = refl
  lends_same f (a ∷ b ∷ c ∷ rs) same i = refl
  lends_same f (a ∷ b ∷ []) same i = ap₂ (λ p q. cond (i == 0) (is_simple p) (is_simple q)) (same b (inr (inl refl))) (same a (inl refl))
