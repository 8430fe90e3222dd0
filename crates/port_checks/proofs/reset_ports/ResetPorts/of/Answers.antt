use Rattle.std.proofs.Common.{◌≡◌, [], ap, ap₂, sym, subst, ◌∙◌, arith, eqb-true}
use Rattle.std.specs.Vec.{vec_len}
use Rattle.ir_store.specs.Designs.{design_of}
use Rattle.graphs.specs.Graphs.{lists_of, AreReached}
use Rattle.port_checks.specs.Pairs.{AddsPairs}
use Rattle.port_checks.specs.Numbers.{port_number, numbers_of}
use Rattle.port_checks.specs.Joins.{pairs_in, made_from}
use Rattle.port_checks.specs.Marked.{has_mark_at}
use Rattle.port_checks.proofs.Reaching.{marks_are, none_reset}
use Rattle.port_checks.proofs.reset_ports.ResetPorts.of.Goals as goal
use Rattle.std.proofs.lemmas.List.{nil_from_length}

pub returns-then-is_empty : goal.returns-then-is_empty
returns-then-is_empty c =
    let d = design_of c.args.design.now in
    let named = c.in_ok-named.named in
    let none : vec_len named ≡ 0 = eqb-true (vec_len named) 0 (sym c.is_empty.ensures ∙ c.if-is_empty.true) in
    let empty : named.items ≡ [] = nil_from_length named.items (omega (arith, none, named.ok.0)) in
    λ i j.
    ap₂ (λ starts marks. has_mark_at marks (port_number starts i j)) c.new.ensures.items c.new-then-is_empty.ensures.items
    ∙ none_reset d (sym empty ∙ c.in_ok-named.ensures) i j

pub returns : goal.returns
returns c =
    let d = design_of c.args.design.now in
    let starts = c.in_ok-row.row.starts.items in
    let fresh = lists_of c.in_ok-row.row.joined.items in
    let lists = lists_of c.push_joins.new.joined.items in
    let numbers = c.in_ok-numbers.numbers.items in
    let marks = c.in_ok-marks.marks.items in
    marks_are d starts c.in_ok-row.ensures.starts fresh lists c.in_ok-row.ensures.joined
    (subst (λ ns. AddsPairs (made_from (pairs_in d ns) 0 d) fresh lists) c.as_slice.ensures.value c.in_ok-push_joins.ensures)
    numbers
    (c.in_ok-numbers.ensures ∙ ap₂ numbers_of c.as_slice-2.ensures.value c.as_slice-3.ensures.value ∙ ap (numbers_of starts) c.in_ok-named.ensures)
    marks
    (subst (λ ns. AreReached lists ns marks) c.as_slice-5.ensures.value (subst (λ js. AreReached (lists_of js) c.as_slice-5.result.now marks) c.as_slice-4.ensures.value c.in_ok-marks.ensures))
