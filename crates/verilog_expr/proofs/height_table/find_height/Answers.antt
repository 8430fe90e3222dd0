use Rattle.std.proofs.Common.{◌≡◌, ◌+◌, ◌-◌, ◌<◌, ◌≤◌, ◌∙◌, suc, length, true, is_some, Some, set, ap, sym, subst, arith}
use Rattle.verilog_expr.specs.Scopes.{scope_ports, scope_ops}
use Rattle.verilog_expr.specs.PartTables.{height_get}
use Rattle.verilog_expr.specs.declared.height_table.Waiting.{Waiting}
use Rattle.verilog_expr.proofs.HeightSteps.{known_set}
use Rattle.verilog_expr.proofs.HeightPaths.{IsPath, waiting_at, path_start, start_first, path_down, path_first, path_room, path_up, length_set, measure_up, measure_down, set_still, set_found}
use Rattle.verilog_expr.proofs.height_table.find_height.Goals as goal

pub loop-depth-init : goal.loop-depth-init
loop-depth-init c =
    let ports = scope_ports c.args.scope.now in
    let os = scope_ops c.args.scope.now in
    let some : 0 < length c.args.path.now = omega (arith, c.requires.room) in
    record {
      known = c.requires.known;
      still = λ i there. there;
      path = subst (λ (w : Waiting). IsPath ports os c.args.heights.now (set c.args.path.now 0 w) 1) (sym c.start.ensures)
          (path_start ports os c.args.heights.now c.args.path.now c.args.position some c.requires.within c.requires.above c.requires.unknown);
      room = omega arith;
      first = λ lt. ap (λ (w : Waiting). (waiting_at (set c.args.path.now 0 w) 0).position) c.start.ensures ∙ start_first ports os c.args.path.now c.args.position some;
      found = λ none. absurd (omega (arith, none));
    }

pub loop-depth-smaller-in-Height : goal.loop-depth-smaller-in-Height
loop-depth-smaller-in-Height c =
    let d = c.loop-depth.depth - 1 in
    let e : c.loop-depth.depth ≡ suc d = omega (arith, c.loop-depth-test.true) in
    let last : d < c.loop-depth.depth = omega (arith, e) in
    measure_up c.loop-depth.heights (waiting_at c.loop-depth.path d).position c.in-Height.height c.loop-depth.depth d e
    (omega (arith, (c.loop-depth.invariant.path.waiting d last).within, c.requires.height_count, c.loop-depth.auto.heights)) (c.loop-depth.invariant.path.unknown d last)

pub loop-depth-preserved-in-Height : goal.loop-depth-preserved-in-Height
loop-depth-preserved-in-Height c =
    let ports = scope_ports c.args.scope.now in
    let os = scope_ops c.args.scope.now in
    let d = c.loop-depth.depth - 1 in
    let e : c.loop-depth.depth ≡ suc d = omega (arith, c.loop-depth-test.true) in
    let last : d < c.loop-depth.depth = omega (arith, e) in
    let hs = c.loop-depth.heights in
    let position = (waiting_at c.loop-depth.path d).position in
    let within : position < length hs = omega (arith, (c.loop-depth.invariant.path.waiting d last).within, c.requires.height_count, c.loop-depth.auto.heights) in
    record {
      known = known_set ports os hs position (Some c.in-Height.height) c.loop-depth.invariant.known within c.in-Height.ensures;
      still = λ i there. set_still hs position c.in-Height.height i (c.loop-depth.invariant.still i there);
      path = path_up ports os c.requires.acyclic hs c.loop-depth.path c.loop-depth.depth d c.in-Height.height e c.loop-depth.invariant.path;
      room = omega (arith, c.loop-depth.invariant.room);
      first = λ lt. c.loop-depth.invariant.first (omega (arith, e));
      found = λ none.
          let is : position ≡ c.args.position = ap (λ k. (waiting_at c.loop-depth.path k).position) none ∙ c.loop-depth.invariant.first (omega (arith, e)) in
          subst (λ p. is_some (height_get (set hs position (Some c.in-Height.height)) p) ≡ true) is (set_found hs position c.in-Height.height within);
    }

pub bounds-path-depth-in-Down-2 : goal.bounds-path-depth-in-Down-2
bounds-path-depth-in-Down-2 c =
    let d = c.loop-depth.depth - 1 in
    let e : c.loop-depth.depth ≡ suc d = omega (arith, c.loop-depth-test.true) in
    let room : c.loop-depth.depth ≤ length (scope_ops c.args.scope.now) =
    path_room (scope_ports c.args.scope.now) (scope_ops c.args.scope.now) c.requires.acyclic c.loop-depth.heights c.loop-depth.path c.loop-depth.depth d c.in-Down.waiting c.in-Down.below e
    c.loop-depth.invariant.path c.in-Down.ensures in
    omega (arith, room, length_set c.loop-depth.path d c.in-Down.waiting, c.requires.room, c.loop-depth.auto.path, length_set c.args.path.now 0 c.start.result)

pub loop-depth-smaller : goal.loop-depth-smaller
loop-depth-smaller c =
    let d = c.loop-depth.depth - 1 in
    let e : c.loop-depth.depth ≡ suc d = omega (arith, c.loop-depth-test.true) in
    let room : c.loop-depth.depth ≤ length (scope_ops c.args.scope.now) =
    path_room (scope_ports c.args.scope.now) (scope_ops c.args.scope.now) c.requires.acyclic c.loop-depth.heights c.loop-depth.path c.loop-depth.depth d c.in-Down.waiting c.in-Down.below e
    c.loop-depth.invariant.path c.in-Down.ensures in
    measure_down c.loop-depth.heights c.loop-depth.depth (omega (arith, room, c.requires.height_count, c.loop-depth.auto.heights))

pub loop-depth-preserved : goal.loop-depth-preserved
loop-depth-preserved c =
    let ports = scope_ports c.args.scope.now in
    let os = scope_ops c.args.scope.now in
    let d = c.loop-depth.depth - 1 in
    let e : c.loop-depth.depth ≡ suc d = omega (arith, c.loop-depth-test.true) in
    let hs = c.loop-depth.heights in
    let path = c.loop-depth.path in
    let room : c.loop-depth.depth ≤ length os = path_room ports os c.requires.acyclic hs path c.loop-depth.depth d c.in-Down.waiting c.in-Down.below e c.loop-depth.invariant.path c.in-Down.ensures in
    let longer : c.loop-depth.depth < length path = omega (arith, room, c.requires.room, c.loop-depth.auto.path, length_set c.args.path.now 0 c.start.result) in
    record {
      known = c.loop-depth.invariant.known;
      still = c.loop-depth.invariant.still;
      path = subst (λ (w : Waiting). IsPath ports os hs (set (set path d c.in-Down.waiting) c.loop-depth.depth w) (c.loop-depth.depth + 1)) (sym c.start-in-Down.ensures)
          (path_down ports os hs path c.loop-depth.depth d c.in-Down.waiting c.in-Down.below e longer c.loop-depth.invariant.path c.in-Down.ensures);
      room = omega (arith, room);
      first = λ lt.
          ap (λ (w : Waiting). (waiting_at (set (set path d c.in-Down.waiting) c.loop-depth.depth w) 0).position) c.start-in-Down.ensures
          ∙ path_first ports os hs path c.loop-depth.depth d c.in-Down.waiting c.in-Down.below e longer c.in-Down.ensures.same
          ∙ c.loop-depth.invariant.first c.loop-depth-test.true;
      found = λ none. absurd (omega (arith, none));
    }
