-- The statement of a register whose parts are written.
use Rattle.std.proofs.Common.{◌≡◌, [], ◌∷◌, ◌++◌, Option, Some, None, codes, ◌∙◌, ap, append_assoc}
use Rattle.std.specs.Prelude.{option_map}
use Rattle.hw_model.specs.Flat.{Register, ResetBy}
use Rattle.verilog_model.specs.Tree.Item.{always}
use Rattle.verilog_expr.specs.Named.{named_of}
use Rattle.verilog_expr.specs.declared.scope.Scope.{Scope}
use Rattle.verilog_expr.specs.declared.value_names.ValueNames.{ValueNames}
use Rattle.lowering_options.specs.declared.lowering.Lowering.{Lowering}
use Rattle.export_verilog.specs.Lowerings.{load_place, own_place}
use Rattle.export_verilog.specs.Identifiers.{name_or_nothing}
use Rattle.export_verilog.specs.Layout.{Text, item_text}
use Rattle.export_verilog.specs.Written.{WrittenReset, written_block, written_async, events_text}
use Rattle.export_verilog.specs.Values.{value_expr, value_literal, used_text, literal_text, reset_text}
use Rattle.export_verilog.specs.Statements.{register_item}
use Rattle.export_verilog.proofs.text.WrittenItems.{always_same, async_same}

pub register_added : (via : Lowering) (s : Scope) (v : ValueNames) (q clock next : Text) (en : Option Text) (r : Register) (out one : Text)
    → clock ≡ name_or_nothing (named_of v r.clock) → next ≡ used_text s v (load_place via) r.next → en ≡ option_map (used_text s v (own_place via)) r.enable
    → one ≡ out ++ item_text (always clock (written_block q next en (option_map (reset_text via s v) r.reset))) []
    → one ≡ out ++ item_text (register_item (named_of v) (value_expr s v (own_place via)) (value_expr s v (load_place via)) (value_literal s) q None r) []
register_added via s v q clock next en r out one c n e is =
    is ∙ ap (λ x. out ++ item_text (always x (written_block q next en (option_map (reset_text via s v) r.reset))) []) c
    ∙ ap (λ x. out ++ item_text (always (name_or_nothing (named_of v r.clock)) (written_block q x en (option_map (reset_text via s v) r.reset))) []) n
    ∙ ap (λ x. out ++ item_text (always (name_or_nothing (named_of v r.clock)) (written_block q (used_text s v (load_place via) r.next) x (option_map (reset_text via s v) r.reset))) []) e
    ∙ ap (λ x. out ++ x) (always_same (value_expr s v (own_place via)) (value_expr s v (load_place via)) q (name_or_nothing (named_of v r.clock)) r.next r.enable r.reset [])

-- the same of one that a reset resets without its clock
pub async_added : (via : Lowering) (s : Scope) (v : ValueNames) (q clock next : Text) (w : WrittenReset) (r : Register) (by : ResetBy) (out one : Text)
    → clock ≡ name_or_nothing (named_of v r.clock) → next ≡ used_text s v (load_place via) r.next → w.signal ≡ name_or_nothing (named_of v by.signal) → w.value ≡ literal_text s by.value
    → one ≡ out ++ item_text (always clock (written_async q next w)) []
    → one ≡ out ++ item_text (register_item (named_of v) (value_expr s v (own_place via)) (value_expr s v (load_place via)) (value_literal s) q (Some by) r) []
async_added via s v q clock next w r by out one c n g l is =
    is ∙ ap (λ x. out ++ item_text (always x (written_async q next w)) []) c
    ∙ ap (λ x. out ++ item_text (always (name_or_nothing (named_of v r.clock)) (written_async q x w)) []) n
    ∙ ap (λ x. out ++ item_text (always (name_or_nothing (named_of v r.clock)) (written_async q (used_text s v (load_place via) r.next) (record { signal = x; value = w.value }))) []) g
    ∙ ap (λ x. out ++ item_text (always (name_or_nothing (named_of v r.clock)) (written_async q (used_text s v (load_place via) r.next) (record { signal = name_or_nothing (named_of v by.signal); value = x }))) []) l
    ∙ ap (λ x. out ++ x) (async_same (value_expr s v (own_place via)) (value_expr s v (load_place via)) q (name_or_nothing (named_of v r.clock)) (named_of v) (value_literal s) r.next by [])

-- events, and a block after them
pub events_added : (out one two clock signal body : Text) → one ≡ out ++ events_text clock signal → two ≡ one ++ body
    → two ≡ out ++ (codes "  always @(posedge " ++ (clock ++ (codes " or posedge " ++ (signal ++ (41 ∷ 10 ∷ body)))))
unfolding events_text
events_added out one two clock signal body p q =
    q ∙ ap (λ x. x ++ body) p
    ∙ append_assoc out (codes "  always @(posedge " ++ (clock ++ (codes " or posedge " ++ (signal ++ (41 ∷ 10 ∷ []))))) body
    ∙ ap (λ x. out ++ (codes "  always @(posedge " ++ x)) (append_assoc clock (codes " or posedge " ++ (signal ++ (41 ∷ 10 ∷ []))) body)
    ∙ ap (λ x. out ++ (codes "  always @(posedge " ++ (clock ++ (codes " or posedge " ++ x)))) (append_assoc signal (41 ∷ 10 ∷ []) body)
