-- A plain number that stands for nothing gets its location, or is put among those far above.
use Rattle.std.proofs.Common.{◌≡◌, Bool, false, true, refl, sym, subst, IfOk, is_some}
use Rattle.std.proofs.Math.Path.{fun_ext}
use Rattle.std.proofs.lemmas.Result.{on_ok_weaker}
use Rattle.mlir_reader.specs.Meanings.{meanings_of, definition}
use Rattle.mlir_reader.proofs.Tables.{kept_name, is_known, far_unknown, number_put, number_far}
use Rattle.mlir_reader.proofs.names.Names.define_number.Goals as goal

known : (c : goal.Then-is_some) → is_some (meanings_of c.args.self.now c.args.name.now) ≡ true
known c = is_known c.args.self.now c.args.name.now c.args.number c.find_number.result c.is_some.result true c.requires c.find_number.ensures c.is_some.ensures c.if-is_some.true

pub returns-then-is_some-clause-again : goal.returns-then-is_some-clause-again
returns-then-is_some-clause-again c = sym (known c)

pub returns-then-is_some-clause-means : goal.returns-then-is_some-clause-means
returns-then-is_some-clause-means c =
    fun_ext (λ q. kept_name (meanings_of c.args.self.now) (definition c.args.name.now c.args.defined) q (known c))

pub returns-then-number-room-clause-again : goal.returns-then-number-room-clause-again
returns-then-number-room-clause-again c =
    sym (is_known c.args.self.now c.args.name.now c.args.number c.find_number.result c.is_some.result false c.requires c.find_number.ensures c.is_some.ensures c.if-is_some.false)

pub returns-then-number-room-clause-means : goal.returns-then-number-room-clause-means
returns-then-number-room-clause-means c =
    let free = is_known c.args.self.now c.args.name.now c.args.number c.find_number.result c.is_some.result false c.requires c.find_number.ensures c.is_some.ensures c.if-is_some.false in
    number_put c.args.self.now _ c.args.name.now c.args.number c.args.defined c.requires free refl refl c.in_ok-put.ensures

pub returns-clause-again : goal.returns-clause-again
returns-clause-again c =
    let t = c.args.self.now in
    let free = is_known t c.args.name.now c.args.number c.find_number.result c.is_some.result false c.requires c.find_number.ensures c.is_some.ensures c.if-is_some.false in
    subst (λ (b : Bool). IfOk c.define_listed.result (λ again. again ≡ b)) (far_unknown t c.args.name.now c.args.number c.requires free) c.define_listed.ensures.again

pub returns-clause-means : goal.returns-clause-means
returns-clause-means c =
    on_ok_weaker c.define_listed.result (number_far c.args.self.now _ c.args.name.now c.args.number c.args.defined c.requires refl refl) c.define_listed.ensures.means
