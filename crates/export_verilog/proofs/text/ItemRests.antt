-- The rest of a text stands after its items.
use Rattle.std.proofs.Common.{◌≡◌, List, [], ◌∷◌, ◌++◌, Option, codes, refl, sym, ◌∙◌, ap, append_assoc}
use Rattle.verilog_model.specs.Tree.{Numeral, Expr, Load, Block, Connection, Item}
use Rattle.verilog_model.specs.Tree.Block.{load, if_load, if_else, if_else_if, async_reset}
use Rattle.verilog_model.specs.Tree.Expr.{name}
use Rattle.verilog_model.specs.Tree.Item.{wire, reg, assign, always, instance}
use Rattle.verilog_model.specs.Text.{expr_text}
use Rattle.export_verilog.specs.Layout.{Text, range_text, load_text, if_text, event_text, block_text, connection_text, connection_lines, connections_text, item_text, items_text}
use Rattle.export_verilog.proofs.text.Rests.{expr_rest, load_rest, if_rest, range_rest, connection_rest, three_rest}

-- a condition and a load before a rest
if_load_rest : (f i : Text) (c : Expr) (l : Load) (a b : Text) → if_text f c (load_text i l (a ++ b)) ≡ if_text f c (load_text i l a) ++ b
if_load_rest f i c l a b = ap (if_text f c) (load_rest i l a b) ∙ if_rest f c (load_text i l a) b

-- a condition, a load, `else` and another load before a rest
either_rest : (c : Expr) (l m : Load) (a b : Text)
    → if_text (codes "    ") c (load_text (codes "      ") l (codes "    else" ++ (10 ∷ load_text (codes "      ") m (a ++ b))))
    ≡ if_text (codes "    ") c (load_text (codes "      ") l (codes "    else" ++ (10 ∷ load_text (codes "      ") m a))) ++ b
either_rest c l m a b =
    ap (λ x. if_text (codes "    ") c (load_text (codes "      ") l (codes "    else" ++ (10 ∷ x)))) (load_rest (codes "      ") m a b)
    ∙ if_load_rest (codes "    ") (codes "      ") c l (codes "    else" ++ (10 ∷ load_text (codes "      ") m a)) b

event_rest : (k : Block) (a b : Text) → event_text k (a ++ b) ≡ event_text k a ++ b
unfolding event_text
event_rest (load l) a b = refl
event_rest (if_load c l) a b = refl
event_rest (if_else c l m) a b = refl
event_rest (if_else_if c l e m) a b = refl
event_rest (async_reset n l m) a b = ap (λ x. codes " or posedge " ++ x) (sym (append_assoc n (41 ∷ 10 ∷ a) b))

pub block_rest : (k : Block) (a b : Text) → block_text k (a ++ b) ≡ block_text k a ++ b
unfolding block_text
block_rest (load l) a b = load_rest (codes "    ") l a b
block_rest (if_load c l) a b = if_load_rest (codes "    ") (codes "      ") c l a b
block_rest (if_else c l m) a b = either_rest c l m a b
block_rest (async_reset n l m) a b = either_rest (name n) l m a b
block_rest (if_else_if c l e m) a b =
    ap (λ x. if_text (codes "    ") c (load_text (codes "      ") l x)) (if_load_rest (codes "    else ") (codes "      ") e m a b)
    ∙ if_load_rest (codes "    ") (codes "      ") c l (if_text (codes "    else ") e (load_text (codes "      ") m a)) b

pub lines_rest : (c : Connection) (cs : List Connection) (a b : Text) → connection_lines c cs (a ++ b) ≡ connection_lines c cs a ++ b
unfolding connection_lines
lines_rest c [] a b = connection_rest c (10 ∷ a) b
lines_rest c (e ∷ es) a b = ap (λ x. connection_text c (44 ∷ 10 ∷ x)) (lines_rest e es a b) ∙ connection_rest c (44 ∷ 10 ∷ connection_lines e es a) b

pub connections_rest : (cs : List Connection) (a b : Text) → connections_text cs (a ++ b) ≡ connections_text cs a ++ b
unfolding connections_text
connections_rest [] a b = refl
connections_rest (c ∷ cs) a b = ap (λ x. 10 ∷ x) (lines_rest c cs (codes "  );" ++ (10 ∷ a)) b)

named_rest : (h : Option Numeral) (n a b : Text) → range_text h (n ++ (59 ∷ 10 ∷ (a ++ b))) ≡ range_text h (n ++ (59 ∷ 10 ∷ a)) ++ b
named_rest h n a b = ap (range_text h) (sym (append_assoc n (59 ∷ 10 ∷ a) b)) ∙ range_rest h (n ++ (59 ∷ 10 ∷ a)) b

pub item_rest : (i : Item) (a b : Text) → item_text i (a ++ b) ≡ item_text i a ++ b
unfolding item_text
item_rest (wire h n) a b = ap (λ x. codes "  wire " ++ x) (named_rest h n a b)
item_rest (reg h n) a b = ap (λ x. codes "  reg " ++ x) (named_rest h n a b)
item_rest (assign n e) a b =
    ap (λ x. codes "  assign " ++ (n ++ (codes " = " ++ x))) (expr_rest e (59 ∷ 10 ∷ a) b)
    ∙ three_rest (codes "  assign ") n (codes " = ") (expr_text e (59 ∷ 10 ∷ a)) b
item_rest (always clock k) a b =
    ap (λ x. codes "  always @(posedge " ++ (clock ++ x)) (ap (event_text k) (block_rest k a b) ∙ event_rest k (block_text k a) b)
    ∙ ap (λ x. codes "  always @(posedge " ++ x) (sym (append_assoc clock (event_text k (block_text k a)) b))
item_rest (instance m n cs) a b =
    ap (λ x. codes "  " ++ (m ++ (32 ∷ n ++ (codes " (" ++ x)))) (connections_rest cs a b)
    ∙ ap (λ x. codes "  " ++ (m ++ x)) (three_rest (32 ∷ []) n (codes " (") (connections_text cs a) b)
    ∙ ap (λ x. codes "  " ++ x) (sym (append_assoc m (32 ∷ n ++ (codes " (" ++ connections_text cs a)) b))

pub items_rest : (is : List Item) (a b : Text) → items_text is (a ++ b) ≡ items_text is a ++ b
unfolding items_text
items_rest [] a b = refl
items_rest (i ∷ is) a b = ap (item_text i) (items_rest is a b) ∙ item_rest i (items_text is a) b

-- the first of items, and the others
pub items_first : (i : Item) (is : List Item) → items_text (i ∷ is) [] ≡ item_text i [] ++ items_text is []
unfolding items_text
items_first i is = item_rest i [] (items_text is [])

-- items after items
pub items_join : (is js : List Item) (bs : Text) → items_text (is ++ js) bs ≡ items_text is (items_text js bs)
unfolding items_text
items_join [] js bs = refl
items_join (i ∷ is) js bs = ap (item_text i) (items_join is js bs)

pub items_after : (is js : List Item) → items_text (is ++ js) [] ≡ items_text is [] ++ items_text js []
items_after is js = items_join is js [] ∙ items_rest is [] (items_text js [])

-- items that are added after what is there
pub items_added : (out one two : Text) (is js : List Item) → one ≡ out ++ items_text is [] → two ≡ one ++ items_text js [] → two ≡ out ++ items_text (is ++ js) []
items_added out one two is js p q =
    q ∙ ap (λ x. x ++ items_text js []) p ∙ append_assoc out (items_text is []) (items_text js []) ∙ ap (λ x. out ++ x) (sym (items_after is js))
