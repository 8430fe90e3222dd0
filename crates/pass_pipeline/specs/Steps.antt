-- What may stand where in a pipeline (MLIR documentation, "Pass infrastructure": textual pass pipeline specification; CIRCT, `circt-opt`):
-- `builtin.module(ITEMS)`, where an item is a pass or `hw.module(PASSES)`.
use Rattle.std.specs.Prelude.{ℕ, cond, not, List, Option, Some, None, Result, Ok, Err, codes}
use Rattle.pass_pipeline.specs.Passes.{same_bytes, runs_on, pass_named}
use Rattle.pass_pipeline.specs.Tokens.{is_name}
use Rattle.pass_pipeline.specs.declared.pass.Pass.{Pass}
use Rattle.pass_pipeline.specs.declared.pass.Anchor.{Anchor}
use Rattle.pass_pipeline.specs.declared.pass.Anchor.TheVariants.{BuiltinModule, HwModule}
use Rattle.pass_pipeline.specs.declared.step.Expected.{Expected}
use Rattle.pass_pipeline.specs.declared.step.Expected.TheVariants.{Root, Opening, FirstItem, Item, Separator, End}
use Rattle.pass_pipeline.specs.declared.step.Step.{Step}
use Rattle.pass_pipeline.specs.declared.pipeline.PipelineFail.{PipelineFail}
use Rattle.pass_pipeline.specs.declared.pipeline.PipelineFail.TheVariants.{UnknownPass, WrongPlace, BadText}

-- a token that names no pass
abbrev pub mark : Expected → Result Step PipelineFail
mark next = Ok (record { pass = None; next = next })

-- after the items of `builtin.module` the text ends, after those of `hw.module` the items of `builtin.module` go on
unfoldable pub closed : Anchor → Step
closed BuiltinModule = record { pass = None; next = End }
closed HwModule = record { pass = None; next = Separator BuiltinModule }

-- a name that is not `builtin.module`, at the start
abbrev pub misplaced : ℕ → Option Pass → Result Step PipelineFail
misplaced at (Some pass) = Err (WrongPlace at)
misplaced at None = Err (UnknownPass at)

-- at the start: `builtin.module`
unfoldable pub root : List Pass → ℕ → List ℕ → Result Step PipelineFail
root offered at token =
    cond (same_bytes token (codes "builtin.module")) (mark (Opening BuiltinModule))
    (cond (not (is_name token)) (Err (BadText at)) (misplaced at (pass_named offered token)))

-- after the name of an operation: `(`
unfoldable pub opening : Anchor → ℕ → List ℕ → Result Step PipelineFail
opening anchor at token = cond (same_bytes token (codes "(")) (mark (FirstItem anchor)) (Err (BadText at))

-- a pass, within the parentheses of an operation
unfoldable pub pass_item : Pass → Anchor → ℕ → Result Step PipelineFail
pass_item pass anchor at = cond (runs_on anchor pass) (Ok (record { pass = Some pass; next = Separator anchor })) (Err (WrongPlace at))

-- a name that is no pass: `hw.module`, within `builtin.module`
unfoldable pub nested : Anchor → ℕ → List ℕ → Result Step PipelineFail
nested BuiltinModule at token = cond (same_bytes token (codes "hw.module")) (mark (Opening HwModule)) (Err (UnknownPass at))
nested HwModule at token = Err (UnknownPass at)

-- an item by its name: a pass where it is one
abbrev pub named_item : Anchor → ℕ → List ℕ → Option Pass → Result Step PipelineFail
named_item anchor at token (Some pass) = pass_item pass anchor at
named_item anchor at token None = nested anchor at token

-- an item
unfoldable pub item : List Pass → Anchor → ℕ → List ℕ → Result Step PipelineFail
item offered anchor at token = cond (not (is_name token)) (Err (BadText at)) (named_item anchor at token (pass_named offered token))

-- after `(`: `)` or an item
unfoldable pub first_item : List Pass → Anchor → ℕ → List ℕ → Result Step PipelineFail
first_item offered anchor at token = cond (same_bytes token (codes ")")) (Ok (closed anchor)) (item offered anchor at token)

-- after an item: `,` or `)`
unfoldable pub separator : Anchor → ℕ → List ℕ → Result Step PipelineFail
separator anchor at token =
    cond (same_bytes token (codes ",")) (mark (Item anchor)) (cond (same_bytes token (codes ")")) (Ok (closed anchor)) (Err (BadText at)))

-- a token with this offset, where this is expected
unfoldable pub step_over : List Pass → Expected → ℕ → List ℕ → Result Step PipelineFail
step_over offered Root at token = root offered at token
step_over offered (Opening anchor) at token = opening anchor at token
step_over offered (FirstItem anchor) at token = first_item offered anchor at token
step_over offered (Item anchor) at token = item offered anchor at token
step_over offered (Separator anchor) at token = separator anchor at token
step_over offered End at token = Err (BadText at)
