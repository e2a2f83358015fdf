-- What is created behind the word `new`.
use Rattle.std.proofs.Common.{◌≡◌, ◌<◌, true, Some, None, List, refl}
use Rattle.std.specs.Prelude.{nat_lt}
use Rattle.std.proofs.lemmas.Bool.{lt-ltb}
use Rattle.je_base.specs.declared.span.Span.{Span}
use Rattle.je_token.specs.declared.keyword.Keyword.TheVariants as word
use Rattle.je_token.specs.declared.token.Token.{Token}
use Rattle.je_ast.specs.Types.{TypeName}
use Rattle.je_ast.specs.Trees.{Expressions, Members}
use Rattle.je_ast.specs.Trees as tree
use Rattle.je_ast.specs.Spans.{join}
use Rattle.je_grammar.specs.Tokens.{first_span}
use Rattle.parse_laws.specs.way.Tokens.{behind_word}
use Rattle.parse_laws.specs.way.Types.{element_at, reference_at}
use Rattle.parse_laws.specs.way.Expressions as reading
use Rattle.parse_below.specs.declared.settings.Setting.{Setting}
use Rattle.parse_below.specs.way.Readings.{body_at}
use Rattle.parse_operators.specs.way.Readings.{arguments_at, sized_at, array_at, object_at, created_at, creation_at}

pub creation_made : (s : Setting) (ts made : List Token) → behind_word word.New ts ≡ Some made → 0 < s.below → creation_at s ts ≡ created_at s (first_span ts) made
unfolding reading.creation_at
creation_made s ts made new room = let lt : nat_lt 0 s.below ≡ true = lt-ltb _ _ room in rw (new, lt) refl

pub array_element : (s : Setting) (w : Span) (ts rest : List Token) (t : TypeName) → element_at ts ≡ Some (t, rest) → array_at s w ts ≡ sized_at s w t rest
unfolding reading.array_at
array_element s w ts rest t element = rw element refl

pub object_plain : (s : Setting) (w : Span) (ts mid rest : List Token) (c : TypeName) (es : Expressions) (close : Span) →
    reference_at s.below ts ≡ Some (c, mid) → arguments_at s mid ≡ Some (es, close, rest) → body_at s rest ≡ None →
    object_at s w ts ≡ Some (tree.new_object w c es (join w close), rest)
unfolding reading.object_at
object_plain s w ts mid rest c es close class args none = rw (class, args, none) refl

pub object_anonymous : (s : Setting) (w : Span) (ts mid rest other : List Token) (c : TypeName) (es : Expressions) (close : Span) (ms : Members) (end : Span) →
    reference_at s.below ts ≡ Some (c, mid) → arguments_at s mid ≡ Some (es, close, rest) → body_at s rest ≡ Some (ms, end, other) →
    object_at s w ts ≡ Some (tree.new_anonymous w c es ms (join w end), other)
unfolding reading.object_at
object_anonymous s w ts mid rest other c es close ms end class args members = rw (class, args, members) refl
