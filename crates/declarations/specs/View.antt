-- What contracts see of declarations.
use Rattle.std.specs.Prelude.{map, option_map}
use Rattle.name_types.specs.View.{shown}
use Rattle.declarations.specs.declared.class.ClassDecl.{ClassDecl}
use Rattle.declarations.specs.declared.class.FieldDecl.{FieldDecl}
use Rattle.declarations.specs.declared.class.MethodDecl.{MethodDecl}
use Rattle.declarations.specs.declared.class.ParameterDecl.{ParameterDecl}
use Rattle.declarations.specs.Declarations.{DeclaredClass, DeclaredField, DeclaredMethod, DeclaredParameter}

abbrev pub parameter_shown : ParameterDecl → DeclaredParameter
parameter_shown q = record { name = q.name; bound = option_map shown q.bound }

abbrev pub field_shown : FieldDecl → DeclaredField
field_shown f = record { name = f.name; ty = shown f.ty; is_static = f.is_static; is_final = f.is_final; access = f.access }

abbrev pub method_shown : MethodDecl → DeclaredMethod
method_shown m = record {
  name = m.name;
  is_constructor = m.is_constructor;
  parameters = map shown m.parameters.items;
  result = shown m.result;
  throws = map shown m.throws.items;
  flags = m.flags;
}

abbrev pub class_shown : ClassDecl → DeclaredClass
class_shown c = record {
  kind = c.kind;
  access = c.access;
  parameters = map parameter_shown c.parameters.items;
  heads = map shown c.heads.items;
  fields = map field_shown c.fields.items;
  methods = map method_shown c.methods.items;
}
