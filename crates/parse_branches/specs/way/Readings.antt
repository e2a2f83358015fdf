-- The reading functions of branches over what reads the height below, in a setting.
use Rattle.std.specs.Prelude.{List}
use Rattle.je_base.specs.declared.span.Span.{Span}
use Rattle.je_token.specs.declared.token.Token.{Token}
use Rattle.je_ast.specs.declared.name.Identifier.{Identifier}
use Rattle.je_ast.specs.Trees.{Expression, Statement}
use Rattle.parse_laws.specs.way.Tokens.{Read}
use Rattle.parse_laws.specs.way.Statements as reading
use Rattle.parse_below.specs.declared.settings.Setting.{Setting}
use Rattle.parse_below.specs.way.Readings.{below_at}

abbrev pub condition_at : Setting → List Token → Read Expression
condition_at s ts = reading.condition_at s.below (below_at s) ts

abbrev pub else_at : Setting → Statement → List Token → Read Statement
else_at s b ts = reading.else_at s.below (below_at s) b ts

abbrev pub if_at : Setting → Span → List Token → Read Statement
if_at s w ts = reading.if_at s.below (below_at s) w ts

abbrev pub while_at : Setting → Span → List Token → Read Statement
while_at s w ts = reading.while_at s.below (below_at s) w ts

abbrev pub do_at : Setting → Span → List Token → Read Statement
do_at s w ts = reading.do_at s.below (below_at s) w ts

abbrev pub labelled_at : Setting → Identifier → List Token → Read Statement
labelled_at s n ts = reading.labelled_at s.below (below_at s) n ts
