-- Modules whose bodies are put into others.
use Rattle.hw_model.specs.Design.{Module}
use Rattle.ir_store.specs.Bodies.{ops_of}
use Rattle.ir_store.specs.Designs.{module_of, numbered_module}
use Rattle.inline_pass.specs.declared.callees.Callee.{Callee}

-- the module with the body that is put
abbrev pub callee_seen : Callee → Module
callee_seen c = numbered_module (record (module_of c.header.now) { ops = ops_of c.body.now })
