use Rattle.std.proofs.Common.{◌≡◌, ◌↔◌, IsTrue, List, Option, Some, map, subst, rules}
use Rattle.std.specs.Option.{option_map}
use Rattle.hw_model.specs.Types.{HwType}
use Rattle.hw_model.specs.Sound.{field_list}
use Rattle.hw_model.specs.TypeViews.{type_of, field_of, fields_of}
use Rattle.hw_model.specs.declared.types.Ty.{the_lemmas}
use Rattle.ir_store.specs.OperationViews.{result_of}
use Rattle.type_inference.specs.ResultTypes.{fields_of as fields_in}
use Rattle.stored_form.specs.ResultTypes.{HaveTypes}
use Rattle.stored_form.proofs.result_types.have_field_types.Goals as goal

pub returns-in-Some-Struct : goal.returns-in-Some-Struct
returns-in-Some-Struct c =
    let seen : map Some (field_list (fields_of (map field_of c.deref.result.now))) ≡ fields_in (option_map (λ t. type_of t.now) c.args.ty) = search (rules, the_lemmas) in
    subst (λ (ts : List (Option HwType)). IsTrue c.have_types_of.result ↔ HaveTypes (map result_of c.args.results.now) ts) seen c.have_types_of.ensures
