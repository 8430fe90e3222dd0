use Rattle.std.proofs.Common.{◌≡◌, ◌<◌, ◌≤◌, ◌++◌, ◌∷◌, [], map, Some, ap, ◌∙◌, arith, length, get_or}
use Rattle.hw_model.specs.Types.{Name}
use Rattle.hw_model.specs.KindViews.{instance_of}
use Rattle.name_legalise.specs.Legal.{legal_after, legal_name}
use Rattle.name_legalise.specs.LegalViews.{legal_names}
use Rattle.export_verilog.specs.Identifiers.{result_name_hint}
use Rattle.export_verilog.specs.Held.{result_name_hints}
use Rattle.export_verilog.proofs.names.Adding.{names_step, list_step, names_end, list_end, name_hint_count, name_hint_first}
use Rattle.export_verilog.proofs.op_names.add_results.Goals as goal

pub loop-number-preserved : goal.loop-number-preserved
loop-number-preserved c =
    let i = instance_of c.args.instance.now in
    let k = c.loop-number.number in
    let ws = result_name_hints i 0 c.args.count in
    let ts = legal_names c.loop-number.names in
    let us = legal_names c.add_name.new.names in
    let w = result_name_hint i k in
    let old = legal_names c.args.names.now in
    let wholeN = old ++ legal_after old ws in
    let wholeL = map (λ (n : Name). Some n) (legal_after old ws) in
    let name_hint : c.as_bytes.result.now ≡ w = c.as_bytes.ensures ∙ c.in_ok-name_hint.ensures in
    let lt : k < length ws = omega (arith, c.loop-number-test.true, name_hint_count i 0 c.args.count) in
    let at : w ≡ get_or ws k w = name_hint_first i c.args.count k c.loop-number-test.true in
    let is : c.in_ok-name.name ≡ legal_name ts w = c.in_ok-name.ensures.name ∙ ap (legal_name ts) name_hint in
    let took : us ≡ ts ++ legal_name ts w ∷ [] = c.in_ok-name.ensures.names ∙ ap (λ x. ts ++ legal_name ts x ∷ []) name_hint in
    record {
      names = names_step ts us ws wholeN c.loop-number.list.items c.push.new.self.items wholeL k w c.in_ok-name.name lt at is took c.loop-number.invariant.names;
      list = list_step ts us ws wholeN c.loop-number.list.items c.push.new.self.items wholeL k w c.in_ok-name.name lt at is took c.loop-number.invariant.list c.in_ok-push.ensures.items;
    }

pub returns : goal.returns
returns c =
    let ws = result_name_hints (instance_of c.args.instance.now) 0 c.args.count in
    let ts = legal_names c.loop-number.names in
    let old = legal_names c.args.names.now in
    let le : length ws ≤ c.loop-number.number = omega (arith, c.loop-number-test.false, name_hint_count (instance_of c.args.instance.now) 0 c.args.count) in
    record {
      names = names_end ts ws (old ++ legal_after old ws) c.loop-number.number le c.loop-number.invariant.names;
      list = list_end ts ws c.loop-number.list.items (map (λ (n : Name). Some n) (legal_after old ws)) c.loop-number.number le c.loop-number.invariant.list;
    }
