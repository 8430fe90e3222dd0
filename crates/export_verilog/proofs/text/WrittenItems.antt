-- An item whose expressions are written is that of the expressions.
use Rattle.std.proofs.Common.{◌≡◌, [], ◌∷◌, ◌++◌, Option, Some, None, codes, refl, sym, ◌∙◌, ap}
use Rattle.std.specs.Prelude.{option_map}
use Rattle.hw_model.specs.Types.{Name}
use Rattle.hw_model.specs.Design.{Ref}
use Rattle.hw_model.specs.Flat.{ResetBy}
use Rattle.verilog_model.specs.Tree.{Expr}
use Rattle.verilog_model.specs.Tree.Expr.{name}
use Rattle.verilog_model.specs.Tree.Item.{assign, always}
use Rattle.verilog_model.specs.Text.{expr_text}
use Rattle.export_verilog.specs.Identifiers.{name_or_nothing}
use Rattle.export_verilog.specs.Layout.{Text, load_text, if_text, block_text, event_text, item_text, connection_text}
use Rattle.export_verilog.specs.Written.{WrittenReset, verbatim, written_load, written_block, written_async, written_connection}
use Rattle.export_verilog.specs.Exported.{loads, block_of, async_block}
use Rattle.export_verilog.proofs.text.Rests.{expr_rest}

-- an expression by its bytes
pub written_same : (e : Expr) (bs : Text) → expr_text (verbatim (expr_text e [])) bs ≡ expr_text e bs
unfolding expr_text
written_same e bs = sym (expr_rest e [] bs)

pub load_same : (i : Text) (q : Name) (e : Expr) (bs : Text) → load_text i (written_load q (expr_text e [])) bs ≡ load_text i (loads q e) bs
unfolding load_text
load_same i q e bs = ap (λ x. i ++ (q ++ (codes " <= " ++ x))) (written_same e (59 ∷ 10 ∷ bs))

pub if_same : (f : Text) (e : Expr) (bs : Text) → if_text f (verbatim (expr_text e [])) bs ≡ if_text f e bs
unfolding if_text
if_same f e bs = ap (λ x. f ++ (codes "if (" ++ x)) (written_same e (41 ∷ 10 ∷ bs))

-- a block without an asynchronous reset has one event
pub written_event : (q next : Text) (en : Option Text) (r : Option WrittenReset) (bs : Text) → event_text (written_block q next en r) bs ≡ 41 ∷ 10 ∷ bs
unfolding event_text
written_event q next None None bs = refl
written_event q next (Some en) None bs = refl
written_event q next None (Some r) bs = refl
written_event q next (Some en) (Some r) bs = refl

module _ (asked ex : Ref → Expr) (q : Name) where
  block_event : (next : Ref) (en : Option Ref) (r : Option ResetBy) (bs : Text) → event_text (block_of asked ex q next en r) bs ≡ 41 ∷ 10 ∷ bs
  unfolding event_text
  block_event next None None bs = refl
  block_event next (Some en) None bs = refl
  block_event next None (Some r) bs = refl
  block_event next (Some en) (Some r) bs = refl

  -- the parts of a reset
  abbrev pub parts_text : ResetBy → WrittenReset
  parts_text r = record { signal = expr_text (asked r.signal) []; value = expr_text (ex r.value) [] }

  pub block_same : (next : Ref) (en : Option Ref) (r : Option ResetBy) (bs : Text)
      → block_text (written_block q (expr_text (ex next) []) (option_map (λ x. expr_text (asked x) []) en) (option_map parts_text r)) bs ≡ block_text (block_of asked ex q next en r) bs
  unfolding block_text
  block_same next None None bs = load_same (codes "    ") q (ex next) bs
  block_same next (Some en) None bs =
      if_same (codes "    ") (asked en) (load_text (codes "      ") (written_load q (expr_text (ex next) [])) bs)
      ∙ ap (if_text (codes "    ") (asked en)) (load_same (codes "      ") q (ex next) bs)
  block_same next None (Some r) bs =
      if_same (codes "    ") (asked r.signal) (load_text (codes "      ") (written_load q (expr_text (ex r.value) [])) (codes "    else" ++ (10 ∷ load_text (codes "      ") (written_load q (expr_text (ex next) [])) bs)))
      ∙ ap (if_text (codes "    ") (asked r.signal)) (load_same (codes "      ") q (ex r.value) (codes "    else" ++ (10 ∷ load_text (codes "      ") (written_load q (expr_text (ex next) [])) bs)))
      ∙ ap (λ x. if_text (codes "    ") (asked r.signal) (load_text (codes "      ") (loads q (ex r.value)) (codes "    else" ++ (10 ∷ x)))) (load_same (codes "      ") q (ex next) bs)
  block_same next (Some en) (Some r) bs =
      if_same (codes "    ") (asked r.signal) (load_text (codes "      ") (written_load q (expr_text (ex r.value) []))
      (if_text (codes "    else ") (verbatim (expr_text (asked en) [])) (load_text (codes "      ") (written_load q (expr_text (ex next) [])) bs)))
      ∙ ap (if_text (codes "    ") (asked r.signal)) (load_same (codes "      ") q (ex r.value) (if_text (codes "    else ") (verbatim (expr_text (asked en) [])) (load_text (codes "      ") (written_load q (expr_text (ex next) [])) bs)))
      ∙ ap (λ x. if_text (codes "    ") (asked r.signal) (load_text (codes "      ") (loads q (ex r.value)) x))
      (if_same (codes "    else ") (asked en) (load_text (codes "      ") (written_load q (expr_text (ex next) [])) bs)
      ∙ ap (if_text (codes "    else ") (asked en)) (load_same (codes "      ") q (ex next) bs))

  pub always_same : (clock : Text) (next : Ref) (en : Option Ref) (r : Option ResetBy) (bs : Text)
      → item_text (always clock (written_block q (expr_text (ex next) []) (option_map (λ x. expr_text (asked x) []) en) (option_map parts_text r))) bs ≡ item_text (always clock (block_of asked ex q next en r)) bs
  unfolding item_text
  always_same clock next en r bs =
      ap (λ x. codes "  always @(posedge " ++ (clock ++ x))
      (written_event q (expr_text (ex next) []) (option_map (λ x. expr_text (asked x) []) en) (option_map parts_text r)
      (block_text (written_block q (expr_text (ex next) []) (option_map (λ x. expr_text (asked x) []) en) (option_map parts_text r)) bs)
      ∙ ap (λ x. 41 ∷ 10 ∷ x) (block_same next en r bs) ∙ sym (block_event next en r (block_text (block_of asked ex q next en r) bs)))

  -- the same of a block with an asynchronous reset
  pub async_same : (clock : Text) (named : Ref → Option Name) (literal : Ref → Expr) (next : Ref) (r : ResetBy) (bs : Text)
      → item_text (always clock (written_async q (expr_text (ex next) []) (record { signal = name_or_nothing (named r.signal); value = expr_text (literal r.value) [] }))) bs
      ≡ item_text (always clock (async_block named ex literal q next r)) bs
  unfolding item_text event_text block_text
  async_same clock named literal next r bs =
      ap (λ x. codes "  always @(posedge " ++ (clock ++ (codes " or posedge " ++ (name_or_nothing (named r.signal) ++ (41 ∷ 10 ∷ x)))))
      (ap (if_text (codes "    ") (name (name_or_nothing (named r.signal)))) (load_same (codes "      ") q (literal r.value) (codes "    else" ++ (10 ∷ load_text (codes "      ") (written_load q (expr_text (ex next) [])) bs))
      ∙ ap (λ x. load_text (codes "      ") (loads q (literal r.value)) (codes "    else" ++ (10 ∷ x))) (load_same (codes "      ") q (ex next) bs)))

pub assign_same : (n : Name) (e : Expr) (bs : Text) → item_text (assign n (verbatim (expr_text e []))) bs ≡ item_text (assign n e) bs
unfolding item_text
assign_same n e bs = ap (λ x. codes "  assign " ++ (n ++ (codes " = " ++ x))) (written_same e (59 ∷ 10 ∷ bs))

pub connection_same : (p : Name) (e : Expr) (bs : Text) → connection_text (written_connection p (expr_text e [])) bs ≡ connection_text (record { port = p; value = e }) bs
unfolding connection_text
connection_same p e bs = ap (λ x. codes "    ." ++ (p ++ (40 ∷ x))) (written_same e (41 ∷ bs))
