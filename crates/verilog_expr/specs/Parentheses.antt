-- Which parentheses have to stand: those without which an expression would not keep the precedence and association of the
-- operators (IEEE 1364-2005, 5.1.2).
use Rattle.std.specs.Prelude.{ℕ, suc, Bool, true, not, ◌&&◌, nat_le, List, [], ◌∷◌, ◌++◌, map}
use Rattle.verilog_model.specs.Tree.{Expr, Exprs}
use Rattle.verilog_model.specs.Tree.Expr.{name, bit_select, part_select, literal, joined, repeated, as_signed, as_unsigned, paren, odd, binary, choice}
use Rattle.verilog_model.specs.Tree.Exprs.{last, more}
use Rattle.verilog_model.specs.Grammar.{strength, choice_level, primary_level, level}

-- whether in a position that asks for so much binding strength what stands in each pair of parentheses of an expression binds
-- less strongly than its position asks
abbrev mutual
  pub tight_at : ℕ → Expr → Bool
  tight_at l (name n) = true
  tight_at l (bit_select n k) = true
  tight_at l (part_select n h m) = true
  tight_at l (literal w s h) = true
  tight_at l (joined es) = all_tight es
  tight_at l (repeated n es) = all_tight es
  tight_at l (as_signed e) = tight_at 0 e
  tight_at l (as_unsigned e) = tight_at 0 e
  tight_at l (paren e) = not (nat_le l (level e)) && tight_at 0 e
  tight_at l (odd e) = tight_at primary_level e
  tight_at l (binary o a b) = tight_at (strength o) a && tight_at (suc (strength o)) b
  tight_at l (choice c a b) = tight_at (suc choice_level) c && (tight_at 0 a && tight_at choice_level b)

  pub all_tight : Exprs → Bool
  all_tight (last e) = tight_at 0 e
  all_tight (more e es) = tight_at 0 e && all_tight es

-- whether no parentheses of an expression can be left out
abbrev pub tight : Expr → Bool
tight e = tight_at 0 e

-- what an expression becomes where one pair of its parentheses is taken away, for each pair
abbrev mutual
  pub opened : Expr → List Expr
  opened (name n) = []
  opened (bit_select n k) = []
  opened (part_select n h m) = []
  opened (literal w s h) = []
  opened (joined es) = map joined (opened_parts es)
  opened (repeated n es) = map (repeated n) (opened_parts es)
  opened (as_signed e) = map as_signed (opened e)
  opened (as_unsigned e) = map as_unsigned (opened e)
  opened (paren e) = e ∷ map paren (opened e)
  opened (odd e) = map odd (opened e)
  opened (binary o a b) = map (λ x. binary o x b) (opened a) ++ map (λ x. binary o a x) (opened b)
  opened (choice c a b) = map (λ x. choice x a b) (opened c) ++ (map (λ x. choice c x b) (opened a) ++ map (λ x. choice c a x) (opened b))

  pub opened_parts : Exprs → List Exprs
  opened_parts (last e) = map last (opened e)
  opened_parts (more e es) = map (λ x. more x es) (opened e) ++ map (λ xs. more e xs) (opened_parts es)
