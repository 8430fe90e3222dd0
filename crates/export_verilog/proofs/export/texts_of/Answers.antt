use denote.Param.Send.{sendable}
use Rattle.std.proofs.Crossing.{crosses}
use Rattle.std.proofs.Common.{◌≡◌, ℕ, ◌-◌, length, ap, sym, subst, ◌∙◌, arith}
use Rattle.std.specs.Prelude.{IfOk, List, Result}
use Rattle.std.specs.List.{AllZip}
use Rattle.export_verilog.specs.Layout.{Text}
use Rattle.ir_store.specs.declared.design.Design.{Design}
use Rattle.ir_store.specs.Designs.{design_of, modules_of}
use Rattle.export_verilog.specs.WritableDesigns.{IsWritableDesign}
use Rattle.export_verilog.specs.ModuleTextLists.{IsTextOf}
use Rattle.lowering_options.specs.declared.lowering.Lowering.{Lowering}
use Rattle.export_verilog.proofs.Sharing.{named_sync, lowering_sync}
use Rattle.export_verilog.proofs.text.ModuleTextLists.{number_within, texts_gathered}
use Rattle.export_verilog.proofs.text.StoredModules.{stored_count}
use Rattle.std.specs.declared.alloc.AllocError.{AllocError}
use Rattle.export_verilog.proofs.export.texts_of.Goals as goal

pub map-requires-send-F : goal.map-requires-send-F
map-requires-send-F g c κs within = search (sendable, named_sync, lowering_sync, crosses) depth 40 fits 20000

pub map-requires-sync-F : goal.map-requires-sync-F
map-requires-sync-F g c κs within = search (sendable, named_sync, lowering_sync, crosses) depth 40 fits 20000

pub with_min_len-requires-send-Self : goal.with_min_len-requires-send-Self
with_min_len-requires-send-Self g c κs within = search (sendable, named_sync, lowering_sync, crosses) depth 40 fits 20000

pub collect-requires-send-Self : goal.collect-requires-send-Self
collect-requires-send-Self g c κs within = search (sendable, named_sync, lowering_sync, crosses) depth 40 fits 20000

pub collect-requires-clause-ready : goal.collect-requires-clause-ready
collect-requires-clause-ready g c κs within k d below =
    let it = c.with_min_len.result.base in
    let start : it.base.start ≡ 0 = ap (λ m. m.base.start) c.with_min_len.ensures.base ∙ ap (λ i. i.start) c.map.ensures.base ∙ c.into_par_iter.ensures.0 in
    let end : it.base.end ≡ c.module_count-count.result = ap (λ m. m.base.end) c.with_min_len.ensures.base ∙ ap (λ i. i.end) c.map.ensures.base ∙ c.into_par_iter.ensures.1 in
    let same : it.f.1.now.design.now ≡ c.args.all.now.design.now = ap (λ m. m.f.1.now.design.now) c.with_min_len.ensures.base ∙ ap (λ f. f.1.now.design.now) c.map.ensures.f in
    let count : length (modules_of it.f.1.now.design.now) ≡ length (modules_of c.args.all.now.design.now) = ap (λ (e : Design). length (modules_of e)) same in
    let inside = number_within it.base.start (it.base.end - it.base.start) k d below in
    ((omega (arith, inside, start, end, count, c.module_count-count.ensures), subst (λ (e : Design). IsWritableDesign (design_of e)) (sym same) c.requires), λ y ok. tt)

pub returns : goal.returns
returns g c =
    let it = c.with_min_len.result.base in
    let start : it.base.start ≡ 0 = ap (λ m. m.base.start) c.with_min_len.ensures.base ∙ ap (λ i. i.start) c.map.ensures.base ∙ c.into_par_iter.ensures.0 in
    let end : it.base.end ≡ c.module_count-count.result = ap (λ m. m.base.end) c.with_min_len.ensures.base ∙ ap (λ i. i.end) c.map.ensures.base ∙ c.into_par_iter.ensures.1 in
    let same : it.f.1.now.design.now ≡ c.args.all.now.design.now = ap (λ m. m.f.1.now.design.now) c.with_min_len.ensures.base ∙ ap (λ f. f.1.now.design.now) c.map.ensures.f in
    let same_options : it.f.2.now ≡ c.args.options = ap (λ m. m.f.2.now) c.with_min_len.ensures.base ∙ ap (λ f. f.2.now) c.map.ensures.f in
    let told = c.in_ok-collect.ensures {u = tt} in
    let chain = told.1 in
    texts_gathered c.args.options AllocError (design_of c.args.all.now.design.now) it.base.start it.base.end told.0 c.in_ok-collect.field-0 start
    (end ∙ c.module_count-count.ensures ∙ sym (stored_count (modules_of c.args.all.now.design.now)))
    (subst (λ (ns : List ℕ). AllZip (λ (n : ℕ) (r : Result Text AllocError). IfOk r (IsTextOf c.args.options (design_of c.args.all.now.design.now) n)) ns told.0) chain.1
    (subst (λ (e : Design). AllZip (λ (n : ℕ) (r : Result Text AllocError). IfOk r (IsTextOf c.args.options (design_of e) n)) chain.0 told.0) same
    (subst (λ (w : Lowering). AllZip (λ (n : ℕ) (r : Result Text AllocError). IfOk r (IsTextOf w (design_of it.f.1.now.design.now) n)) chain.0 told.0) same_options chain.2)))
    told.2
