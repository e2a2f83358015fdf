-- What stands behind an identifier, the word `super` and what stands first of an operand.
use Rattle.std.proofs.Common.{◌≡◌, true, false, Some, None, List, refl}
use Rattle.je_base.specs.declared.span.Span.{Span}
use Rattle.je_token.specs.declared.token.Token.{Token}
use Rattle.je_ast.specs.declared.name.Identifier.{Identifier}
use Rattle.je_ast.specs.declared.operator.PrefixOp.{PrefixOp}
use Rattle.je_ast.specs.Trees.{Expressions}
use Rattle.je_ast.specs.Trees as tree
use Rattle.je_ast.specs.Spans.{join}
use Rattle.je_grammar.specs.Tokens.{first_span}
use Rattle.parse_laws.specs.way.Tokens.{identifier_at}
use Rattle.parse_laws.specs.way.Types.{is_cast_at}
use Rattle.parse_laws.specs.way.Expressions.{is_outer_this_at, prefix_operator}
use Rattle.parse_laws.specs.way.Expressions as reading
use Rattle.parse_below.specs.declared.settings.Setting.{Setting}
use Rattle.parse_operators.specs.way.Readings.{behind_super_at, arguments_at, named_at, super_member_at, postfix_at, cast_at, prefix_at, unary_at}

pub named_call : (s : Setting) (ts mid rest : List Token) (x : Identifier) (es : Expressions) (close : Span) → is_outer_this_at ts ≡ false →
    identifier_at ts ≡ Some (x, mid) → arguments_at s mid ≡ Some (es, close, rest) → named_at s ts ≡ Some (tree.call x es (join x.span close), rest)
unfolding reading.named_at
named_call s ts mid rest x es close inner named args = rw (inner, named, args) refl

pub super_called : (s : Setting) (ts mid rest : List Token) (x : Identifier) (es : Expressions) (close : Span) →
    behind_super_at ts ≡ Some (x, mid) → arguments_at s mid ≡ Some (es, close, rest) →
    super_member_at s ts ≡ Some (tree.super_call (first_span ts) x es (join (first_span ts) close), rest)
unfolding reading.super_member_at
super_called s ts mid rest x es close member args = rw (member, args) refl

pub unary_prefix : (s : Setting) (ts rest : List Token) (o : PrefixOp) → prefix_operator ts ≡ Some (o, rest) → unary_at s ts ≡ prefix_at s o (first_span ts) rest
unfolding reading.unary_at
unary_prefix s ts rest o before = rw before refl

pub unary_cast : (s : Setting) (ts : List Token) → prefix_operator ts ≡ None → is_cast_at ts ≡ true → unary_at s ts ≡ cast_at s ts
unfolding reading.unary_at
unary_cast s ts none cast = rw (none, cast) refl

pub unary_postfix : (s : Setting) (ts : List Token) → prefix_operator ts ≡ None → is_cast_at ts ≡ false → unary_at s ts ≡ postfix_at s ts
unfolding reading.unary_at
unary_postfix s ts none no_cast = rw (none, no_cast) refl
