-- The head of a method as it is written in memory.
use Rattle.std.specs.Prelude.{map, option_map}
use Rattle.je_ast.specs.Types.{formal_view, name_view, type_view}
use Rattle.je_scopes.specs.Members.{MethodSite}
use Rattle.declarations.specs.declared.methods.MethodTree.{MethodTree}

abbrev pub site_of : MethodTree → MethodSite
site_of t = record {
  is_constructor = t.is_constructor;
  modifiers = t.modifiers.now;
  name = t.name;
  result = option_map (λ w. type_view w.now) t.result;
  formals = map formal_view t.formals.now;
  throws = map name_view t.throws.now;
}
