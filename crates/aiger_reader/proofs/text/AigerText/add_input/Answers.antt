use Rattle.std.proofs.Common.{rules, ◌≡◌, [], ◌∷◌, length}
use Rattle.aiger_reader.specs.Kept.{tree_of, drivers_of}
use Rattle.aiger_reader.proofs.Adding.{knows_input}
use Rattle.aiger_reader.proofs.text.AigerText.add_input.Goals as goal

pub returns-in_ok-push-in-None-clause-knows : goal.returns-in_ok-push-in-None-clause-knows
returns-in_ok-push-in-None-clause-knows c =
    let place : c.len-place.result ≡ length c.args.self.now.inputs.items = search rules in
    knows_input c.args.most (drivers_of c.args.self.now.drivers) (drivers_of c.define.new.self) (tree_of c.args.self.now) c.in-Some.literal c.len-place.result [] c.in_ok-fault.fault
    c.requires.knows c.in_ok-fault.ensures.fault c.in-None.is c.in_ok-fault.ensures.defines place c.push.new.self.items c.in_ok-push-in-None.ensures.items
