-- The reading functions of the height below, in a setting.
use Rattle.std.specs.Prelude.{List}
use Rattle.je_token.specs.declared.token.Token.{Token}
use Rattle.je_ast.specs.Trees.{Members}
use Rattle.parse_laws.specs.way.Below.{Below}
use Rattle.parse_laws.specs.way.Knot.{at}
use Rattle.parse_laws.specs.way.Members.{class_body_at}
use Rattle.parse_laws.specs.way.Expressions.{Closed}
use Rattle.parse_below.specs.declared.settings.Setting.{Setting}

-- what reads the height below
abbrev pub below_at : Setting → Below
below_at s = at s.names.now s.texts.now s.below

-- a class body, whose members are of the height below
abbrev pub body_at : Setting → List Token → Closed Members
body_at s ts = class_body_at s.texts.now s.names.now s.below (below_at s) ts
