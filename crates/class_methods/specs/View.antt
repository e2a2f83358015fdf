-- What contracts see of methods.
use Rattle.std.specs.Prelude.{List, map}
use Rattle.std.specs.declared.vec.Vec.{Vec}
use Rattle.std.specs.declared.alloc.Global.{Global}
use Rattle.name_types.specs.View.{all_shown, shown}
use Rattle.declarations.specs.View.{method_shown}
use Rattle.source_subtypes.specs.declared.substitution.Arguments.{Arguments}
use Rattle.overriding.specs.Methods.{Method}
use Rattle.class_methods.specs.declared.method.Method.{Method as Kept}
use Rattle.class_methods.specs.way.Parts.{Parts}

abbrev pub method_seen : Kept → Method
method_seen m = record {
  holder = m.holder.0;
  place = m.place;
  declared = method_shown m.declared.now;
  parameters = map shown m.parameters.items;
  result = shown m.result;
  throws = map shown m.throws.items;
  is_abstract = m.is_abstract;
}

abbrev pub methods_seen : Vec Kept Global → List Method
methods_seen ms = map method_seen ms.items

-- methods that are listed by class
abbrev pub table_seen : List (Vec Kept Global) → List (List Method)
table_seen table = map methods_seen table

-- type arguments in memory
abbrev pub arguments_seen : Arguments → Parts
arguments_seen a = record { class = a.class.0; arguments = all_shown a.types.now }
