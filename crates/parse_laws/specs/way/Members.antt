-- Reading members and type declarations, one definition for each function of the parser, over what reads the height below.
use Rattle.std.specs.Prelude.{ℕ, zero, suc, Bool, true, false, ◌||◌, nat_lt, List, [], ◌∷◌, ◌++◌, length, Option, Some, None, if◌then◌else◌}
use Rattle.je_base.specs.declared.span.Span.{Span}
use Rattle.je_token.specs.declared.keyword.Keyword.TheVariants as word
use Rattle.je_token.specs.declared.symbol.Symbol.{Symbol}
use Rattle.je_token.specs.declared.symbol.Symbol.TheVariants as symbol
use Rattle.je_token.specs.declared.token.Token.{Token}
use Rattle.je_ast.specs.declared.name.Identifier.{Identifier}
use Rattle.je_ast.specs.declared.decl.Modifier.{Modifier}
use Rattle.je_ast.specs.Types.{TypeName, TypeNames, TypeParameter, FormalParameter, QualifiedName}
use Rattle.je_ast.specs.Trees.{Member, Members, MaybeBlock, ConstructorInvocation, Declaration, Statements}
use Rattle.je_ast.specs.Trees as tree
use Rattle.je_ast.specs.Height.{constants_height}
use Rattle.je_ast.specs.Spans.{join}
use Rattle.je_grammar.specs.Tokens.{first_span}
use Rattle.parse_laws.specs.way.Tokens.{Read, ◌>>=◌, with, behind, behind_word, is_symbol, is_word, identifier_at}
use Rattle.parse_laws.specs.way.Types.{type_at, past_type_at, formals_at, throws_at, parameters_at, superclass_at, references_at, modifiers_at}
use Rattle.parse_laws.specs.way.Below.{Below}
use Rattle.parse_laws.specs.way.Lists.{members}
use Rattle.parse_laws.specs.way.Expressions.{Closed, arguments_at}
use Rattle.parse_laws.specs.way.Statements.{variables_at, block_statements_at}

-- a class's head, before its `{`
pub record ClassHead : Type 0 where
  pub name : Identifier
  pub parameters : List TypeParameter
  pub extends : Option TypeName
  pub implements : TypeNames

pub record InterfaceHead : Type 0 where
  pub name : Identifier
  pub parameters : List TypeParameter
  pub extends : TypeNames

pub record MethodHead : Type 0 where
  pub result : Option TypeName
  pub name : Identifier
  pub formals : List FormalParameter
  pub throws : List QualifiedName

pub record ConstructorHead : Type 0 where
  pub name : Identifier
  pub formals : List FormalParameter
  pub throws : List QualifiedName

unfoldable pub class_head_at : ℕ → List Token → Read ClassHead
class_head_at h ts = behind_word word.Class ts >>= identifier_at >>= λ x. parameters_at h x.1 >>= λ ps. superclass_at h ps.1 >>= λ e.
    references_at word.Implements h e.1 >>= λ is. if is_symbol symbol.OpenBrace is.1
    then Some (record { name = x.0; parameters = ps.0; extends = e.0; implements = is.0 }, is.1) else None

unfoldable pub interface_head_at : ℕ → List Token → Read InterfaceHead
interface_head_at h ts = behind_word word.Interface ts >>= identifier_at >>= λ x. parameters_at h x.1 >>= λ ps.
    references_at word.Extends h ps.1 >>= λ es. if is_symbol symbol.OpenBrace es.1
    then Some (record { name = x.0; parameters = ps.0; extends = es.0 }, es.1) else None

-- Ty | "void"
unfoldable pub result_type_at : ℕ → List Token → Read (Option TypeName)
result_type_at h ts = with (behind_word word.Void ts) (λ rest. Some (None, rest)) (type_at h ts >>= λ t. Some (Some t.0, t.1))

unfoldable pub method_head_at : ℕ → List Token → Read MethodHead
method_head_at h ts = result_type_at h ts >>= λ r. identifier_at r.1 >>= λ x. formals_at h x.1 >>= λ fs. throws_at fs.1 >>= λ ns.
    Some (record { result = r.0; name = x.0; formals = fs.0; throws = ns.0 }, ns.1)

unfoldable pub constructor_head_at : ℕ → List Token → Read ConstructorHead
constructor_head_at h ts = identifier_at ts >>= λ x. formals_at h x.1 >>= λ fs. throws_at fs.1 >>= λ ns.
    if is_symbol symbol.OpenBrace ns.1 then Some (record { name = x.0; formals = fs.0; throws = ns.0 }, ns.1) else None

-- [id {"," id}] [","], and how many identifiers at most
unfoldable pub more_constants_at : ℕ → List Identifier → List Token → List Identifier × List Token
more_constants_at zero front ts = (front, ts)
more_constants_at (suc n) front ts = with (identifier_at ts)
    (λ x. with (behind symbol.Comma x.1) (λ mid. more_constants_at n (front ++ x.0 ∷ []) mid) (front ++ x.0 ∷ [], x.1)) (front, ts)

-- behind a symbol, where it stands first
abbrev pub past_symbol : Symbol → List Token → List Token
past_symbol y ts = with (behind y ts) (λ rest. rest) ts

abbrev pub past_lone_comma : List Identifier → List Token → List Token
past_lone_comma [] ts = past_symbol symbol.Comma ts
past_lone_comma (x ∷ xs) ts = ts

unfoldable pub constants_at : List Token → Closed (List Identifier)
constants_at ts = let xs = more_constants_at (length ts) [] ts in let end = past_symbol symbol.Semicolon (past_lone_comma xs.0 xs.1) in
    behind symbol.CloseBrace end >>= λ rest. Some (xs.0, first_span end, rest)

unfoldable pub enum_at : ℕ → List Modifier → Span → List Token → Read Declaration
enum_at h ms s ts = behind_word word.Enum ts >>= identifier_at >>= λ x. behind symbol.OpenBrace x.1 >>= constants_at >>= λ cs.
    if nat_lt h (constants_height cs.0) then None else Some (tree.enum_declaration ms x.0 cs.0 (join s cs.1), cs.2)

abbrev pub begins_declared_at : List Token → Bool
begins_declared_at ts = is_word word.Class ts || is_word word.Interface ts || is_word word.Enum ts

-- {"final" | "abstract"} "class"
unfoldable pub begins_local_class_at : ℕ → List Token → Bool
begins_local_class_at zero ts = is_word word.Class ts
begins_local_class_at (suc n) ts = with (behind_word word.Final ts) (begins_local_class_at n)
    (with (behind_word word.Abstract ts) (begins_local_class_at n) (is_word word.Class ts))

-- id "("
abbrev pub begins_constructor_at : List Token → Bool
begins_constructor_at ts = with (identifier_at ts) (λ x. is_symbol symbol.OpenParen x.1) false

-- (Ty | "void") id "(", or `void`
unfoldable pub begins_method_at : ℕ → List Token → Bool
begins_method_at h ts = is_word word.Void ts || with (past_type_at h ts) begins_constructor_at false

-- ["static"] "{"
abbrev pub begins_initializer_at : List Token → Bool
begins_initializer_at ts = is_symbol symbol.OpenBrace (with (behind_word word.Static ts) (λ rest. rest) ts)

-- `this` or `super`, and whether it is `super`
abbrev pub call_word_at : List Token → Read Bool
call_word_at ts = with (behind_word word.This ts) (λ rest. Some (false, rest)) (behind_word word.Super ts >>= λ rest. Some (true, rest))

module _ (texts names : List (List ℕ)) (h : ℕ) (p : Below) where
  -- {Member | ";"} "}"
  unfoldable pub more_members_at : ℕ → List Member → List Token → Closed Members
  more_members_at zero front ts = None
  more_members_at (suc n) front ts = with (behind symbol.CloseBrace ts) (λ rest. Some (members front, first_span ts, rest))
      (with (behind symbol.Semicolon ts) (more_members_at n front) (p.member ts >>= λ x. more_members_at n (front ++ x.0 ∷ []) x.1))

  unfoldable pub class_body_at : List Token → Closed Members
  class_body_at ts = behind symbol.OpenBrace ts >>= λ inside. more_members_at (length inside) [] inside

  unfoldable pub class_at : List Modifier → Span → List Token → Read Declaration
  class_at ms s ts = class_head_at h ts >>= λ c. class_body_at c.1 >>= λ b.
      Some (tree.class_declaration ms c.0.name c.0.parameters c.0.extends c.0.implements b.0 (join s b.1), b.2)

  unfoldable pub interface_at : List Modifier → Span → List Token → Read Declaration
  interface_at ms s ts = interface_head_at h ts >>= λ c. class_body_at c.1 >>= λ b.
      Some (tree.interface_declaration ms c.0.name c.0.parameters c.0.extends b.0 (join s b.1), b.2)

  unfoldable pub declared_at : List Modifier → Span → List Token → Read Declaration
  declared_at ms s ts = if is_word word.Class ts then class_at ms s ts else if is_word word.Interface ts then interface_at ms s ts else enum_at h ms s ts

  unfoldable pub declaration_layer : List Token → Read Declaration
  declaration_layer ts = let ms = modifiers_at names ts in declared_at ms.0 (first_span ts) ms.1

  unfoldable pub local_class_at : List Token → Read Declaration
  local_class_at ts = let ms = modifiers_at names ts in class_at ms.0 (first_span ts) ms.1

  -- Block | ";", with the span of the last token
  unfoldable pub method_body_at : List Token → Closed MaybeBlock
  method_body_at ts = with (behind symbol.Semicolon ts) (λ rest. Some (tree.no_block, first_span ts, rest))
      (p.block ts >>= λ b. Some (tree.a_block b.0.opening b.0.statements b.0.closing, b.0.closing, b.1))

  unfoldable pub method_at : List Modifier → Span → List Token → Read Member
  method_at ms s ts = method_head_at h ts >>= λ m. method_body_at m.1 >>= λ b.
      Some (tree.method ms m.0.result m.0.name m.0.formals m.0.throws b.0 (join s b.1), b.2)

  -- ("this" | "super") Args ";"
  unfoldable pub first_call_at : List Token → Read ConstructorInvocation
  first_call_at ts = call_word_at ts >>= λ w. arguments_at texts h p class_body_at w.1 >>= λ es. behind symbol.Semicolon es.2 >>= λ rest.
      Some (tree.explicit w.0 (first_span ts) es.0, rest)

  unfoldable pub explicit_or_implicit_at : List Token → Read ConstructorInvocation
  explicit_or_implicit_at ts = if with (call_word_at ts) (λ w. is_symbol symbol.OpenParen w.1) false then first_call_at ts else Some (tree.implicit, ts)

  unfoldable pub constructor_at : List Modifier → Span → List Token → Read Member
  constructor_at ms s ts = constructor_head_at h ts >>= λ c. behind symbol.OpenBrace c.1 >>= explicit_or_implicit_at >>= λ f. block_statements_at h p f.1 >>= λ b.
      Some (tree.constructor ms c.0.name c.0.formals c.0.throws f.0 (first_span c.1) b.0 b.1 (join s b.1), b.2)

  unfoldable pub field_at : List Modifier → Span → List Token → Read Member
  field_at ms s ts = type_at h ts >>= λ t. variables_at h p t.1 >>= λ vs. behind symbol.Semicolon vs.1 >>= λ rest.
      Some (tree.field ms t.0 vs.0 (join s (first_span vs.1)), rest)

  unfoldable pub initializer_at : List Token → Read Member
  initializer_at ts = with (behind_word word.Static ts)
      (λ begin. p.block begin >>= λ b. Some (tree.initializer (Some (first_span ts)) b.0.opening b.0.statements b.0.closing (join (first_span ts) b.0.closing), b.1))
      (p.block ts >>= λ b. Some (tree.initializer None b.0.opening b.0.statements b.0.closing (join (first_span ts) b.0.closing), b.1))

  unfoldable pub modified_at : List Modifier → Span → List Token → Read Member
  modified_at ms s ts =
      if begins_declared_at ts then (declared_at ms s ts >>= λ d. Some (tree.member_type d.0, d.1))
      else if begins_constructor_at ts then constructor_at ms s ts
      else if begins_method_at h ts then method_at ms s ts
      else field_at ms s ts

  unfoldable pub member_layer : List Token → Read Member
  member_layer ts = if begins_initializer_at ts then initializer_at ts
      else let ms = modifiers_at names ts in modified_at ms.0 (first_span ts) ms.1
