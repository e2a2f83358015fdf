-- The reading functions over what reads the height below, in a setting.
use Rattle.std.specs.Prelude.{ℕ, List}
use Rattle.je_base.specs.declared.span.Span.{Span}
use Rattle.je_token.specs.declared.token.Token.{Token}
use Rattle.je_ast.specs.declared.decl.Modifier.{Modifier}
use Rattle.je_ast.specs.Trees.{Member, Members, MaybeBlock, ConstructorInvocation, Declaration}
use Rattle.parse_laws.specs.way.Tokens.{Read}
use Rattle.parse_laws.specs.way.Expressions.{Closed}
use Rattle.parse_laws.specs.way.Members as reading
use Rattle.parse_below.specs.declared.settings.Setting.{Setting}
use Rattle.parse_below.specs.way.Readings.{below_at}

abbrev pub class_body_at : Setting → List Token → Closed Members
class_body_at s ts = reading.class_body_at s.texts.now s.names.now s.below (below_at s) ts

abbrev pub class_at : Setting → List Modifier → Span → List Token → Read Declaration
class_at s ms first ts = reading.class_at s.texts.now s.names.now s.below (below_at s) ms first ts

abbrev pub interface_at : Setting → List Modifier → Span → List Token → Read Declaration
interface_at s ms first ts = reading.interface_at s.texts.now s.names.now s.below (below_at s) ms first ts

abbrev pub declared_at : Setting → List Modifier → Span → List Token → Read Declaration
declared_at s ms first ts = reading.declared_at s.texts.now s.names.now s.below (below_at s) ms first ts

abbrev pub declaration_layer : Setting → List Token → Read Declaration
declaration_layer s ts = reading.declaration_layer s.texts.now s.names.now s.below (below_at s) ts

abbrev pub local_class_at : Setting → List Token → Read Declaration
local_class_at s ts = reading.local_class_at s.texts.now s.names.now s.below (below_at s) ts

abbrev pub method_body_at : Setting → List Token → Closed MaybeBlock
method_body_at s ts = reading.method_body_at s.texts.now s.names.now s.below (below_at s) ts

abbrev pub method_at : Setting → List Modifier → Span → List Token → Read Member
method_at s ms first ts = reading.method_at s.texts.now s.names.now s.below (below_at s) ms first ts

abbrev pub first_call_at : Setting → List Token → Read ConstructorInvocation
first_call_at s ts = reading.first_call_at s.texts.now s.names.now s.below (below_at s) ts

abbrev pub explicit_or_implicit_at : Setting → List Token → Read ConstructorInvocation
explicit_or_implicit_at s ts = reading.explicit_or_implicit_at s.texts.now s.names.now s.below (below_at s) ts

abbrev pub constructor_at : Setting → List Modifier → Span → List Token → Read Member
constructor_at s ms first ts = reading.constructor_at s.texts.now s.names.now s.below (below_at s) ms first ts

abbrev pub field_at : Setting → List Modifier → Span → List Token → Read Member
field_at s ms first ts = reading.field_at s.texts.now s.names.now s.below (below_at s) ms first ts

abbrev pub initializer_at : Setting → List Token → Read Member
initializer_at s ts = reading.initializer_at s.texts.now s.names.now s.below (below_at s) ts

abbrev pub modified_at : Setting → List Modifier → Span → List Token → Read Member
modified_at s ms first ts = reading.modified_at s.texts.now s.names.now s.below (below_at s) ms first ts

abbrev pub member_layer : Setting → List Token → Read Member
member_layer s ts = reading.member_layer s.texts.now s.names.now s.below (below_at s) ts
