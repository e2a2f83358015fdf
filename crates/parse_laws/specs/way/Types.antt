-- Reading names, types, modifiers, type parameters and formal parameters, one definition for each function of the parser.
use Rattle.std.specs.Prelude.{ℕ, zero, suc, nat_eq, Bool, true, false, ◌&&◌, ◌||◌, List, [], ◌∷◌, ◌++◌, length, Option, Some, None, if◌then◌else◌, codes, slice_get, option_map}
use Rattle.je_base.specs.declared.span.Span.{Span}
use Rattle.je_token.specs.declared.keyword.Keyword.{Keyword}
use Rattle.je_token.specs.declared.keyword.Keyword.TheVariants as word
use Rattle.je_token.specs.declared.symbol.Symbol.TheVariants as symbol
use Rattle.je_token.specs.declared.token.Token.{Token}
use Rattle.je_token.specs.declared.token.TokenKind.{TokenKind}
use Rattle.je_token.specs.declared.token.TokenKind.TheVariants as kind
use Rattle.je_ast.specs.declared.name.Identifier.{Identifier}
use Rattle.je_ast.specs.declared.ty_name.Primitive.{Primitive}
use Rattle.je_ast.specs.declared.ty_name.Primitive.TheVariants as prim
use Rattle.je_ast.specs.declared.decl.Modifier.{Modifier}
use Rattle.je_ast.specs.declared.decl.ModifierKind.{ModifierKind}
use Rattle.je_ast.specs.declared.decl.ModifierKind.TheVariants as modifier
use Rattle.je_ast.specs.Types.{QualifiedName, TypeName, TypeNames, primitive, class_type, no_types, TypeParameter, FormalParameter}
pub use Rattle.je_ast.specs.Types.{type_names}
use Rattle.je_ast.specs.Spans.{join}
use Rattle.je_grammar.specs.Tokens.{first_span}
use Rattle.je_grammar.specs.Types.{is_plain_primitive}
use Rattle.je_grammar.specs.Context.{begins_operand}
use Rattle.parse_laws.specs.way.Tokens.{Read, ◌>>=◌, with, is_some, behind, behind_word, is_identifier, identifier_at, closes_at}

-- "." id
abbrev pub part_at : List Token → Read Identifier
part_at ts = behind symbol.Dot ts >>= identifier_at

-- The numbers below bound how many items come.
unfoldable pub parts_at : ℕ → List Identifier → Span → List Token → QualifiedName × List Token
parts_at zero front s ts = (record { parts = front; span = s }, ts)
parts_at (suc n) front s ts = with (part_at ts) (λ x. parts_at n (front ++ x.0 ∷ []) (join s x.0.span) x.1) (record { parts = front; span = s }, ts)

unfoldable pub name_at : List Token → Read QualifiedName
name_at ts = identifier_at ts >>= λ x. Some (parts_at (length ts) (x.0 ∷ []) x.0.span x.1)

unfoldable pub more_names_at : ℕ → List QualifiedName → List Token → Read (List QualifiedName)
more_names_at zero front ts = Some (front, ts)
more_names_at (suc n) front ts = with (behind symbol.Comma ts) (λ mid. name_at mid >>= λ x. more_names_at n (front ++ x.0 ∷ []) x.1) (Some (front, ts))

unfoldable pub names_at : List Token → Read (List QualifiedName)
names_at ts = name_at ts >>= λ x. more_names_at (length ts) (x.0 ∷ []) x.1

-- "[" "]", with the span of the second one
abbrev pub pair_at : List Token → Read Span
pair_at ts = behind symbol.OpenBracket ts >>= λ mid. behind symbol.CloseBracket mid >>= λ rest. Some (first_span mid, rest)

unfoldable pub more_dims_at : ℕ → ℕ → Span → List Token → ℕ × Span × List Token
more_dims_at zero count s ts = (count, s, ts)
more_dims_at (suc n) count s ts = with (pair_at ts) (λ x. more_dims_at n (suc count) (join s x.0) x.1) (count, s, ts)

unfoldable pub dims_at : Span → List Token → ℕ × Span × List Token
dims_at s ts = more_dims_at (length ts) 0 s ts

abbrev pub primitive_kind : TokenKind → Option Primitive
primitive_kind (kind.Keyword word.Boolean) = Some prim.Boolean
primitive_kind (kind.Keyword word.Byte) = Some prim.Byte
primitive_kind (kind.Keyword word.Short) = Some prim.Short
primitive_kind (kind.Keyword word.Char) = Some prim.Char
primitive_kind (kind.Keyword word.Int) = Some prim.Int
primitive_kind (kind.Keyword word.Long) = Some prim.Long
primitive_kind _ = None

abbrev pub primitive_at : List Token → Read Primitive
primitive_at [] = None
primitive_at (t ∷ ts) = primitive_kind t.kind >>= λ p. Some (p, ts)

-- a primitive type with the brackets behind its word
unfoldable pub primitive_type_at : Primitive → Span → List Token → TypeName × List Token
primitive_type_at p s ts = let d = dims_at s ts in (primitive p d.0 d.1, d.2)

-- a class type without brackets, with those behind it
abbrev pub with_dims : TypeName × List Token → TypeName × List Token
with_dims (class_type n args k s, ts) = let d = dims_at s ts in (class_type n args d.0 d.1, d.2)
with_dims (primitive p k s, ts) = (primitive p k s, ts)

-- `p` reads a type of the height below
module _ (p : List Token → Read TypeName) where
  unfoldable pub type_argument_at : List Token → Read TypeName
  type_argument_at ts = p ts >>= λ x. if is_plain_primitive x.0 then None else Some x

  unfoldable pub type_arguments_at : ℕ → List TypeName → List Token → Option (TypeNames × Span × List Token)
  type_arguments_at zero front ts = None
  type_arguments_at (suc n) front ts = type_argument_at ts >>= λ x.
      with (behind symbol.Comma x.1) (λ mid. type_arguments_at n (front ++ x.0 ∷ []) mid)
      (closes_at x.1 >>= λ c. Some (type_names (front ++ x.0 ∷ []), c.0, c.1))

  unfoldable pub reference_layer : List Token → Read TypeName
  reference_layer ts = name_at ts >>= λ n.
      with (behind symbol.Less n.1) (λ mid. type_arguments_at (length mid) [] mid >>= λ us. Some (class_type n.0 us.0 0 (join n.0.span us.1), us.2))
      (Some (class_type n.0 no_types 0 n.0.span, n.1))

  unfoldable pub type_layer : List Token → Read TypeName
  type_layer ts = with (primitive_at ts) (λ x. Some (primitive_type_at x.0 (first_span ts) x.1)) (reference_layer ts >>= λ x. Some (with_dims x))

-- the type of at most this height
unfoldable pub type_at : ℕ → List Token → Read TypeName
type_at zero ts = None
type_at (suc h) ts = type_layer (type_at h) ts

unfoldable pub reference_at : ℕ → List Token → Read TypeName
reference_at zero ts = None
reference_at (suc h) ts = reference_layer (type_at h) ts

-- Prim | Name
unfoldable pub element_at : List Token → Read TypeName
element_at ts = with (primitive_at ts) (λ x. Some (primitive x.0 0 (first_span ts), x.1)) (name_at ts >>= λ n. Some (class_type n.0 no_types 0 n.0.span, n.1))

-- (Prim | Name) Dims
unfoldable pub plain_type_at : List Token → Read TypeName
plain_type_at ts = with (primitive_at ts) (λ x. Some (primitive_type_at x.0 (first_span ts) x.1)) (name_at ts >>= λ n. Some (with_dims (class_type n.0 no_types 0 n.0.span, n.1)))

-- the tokens behind a type, a name, brackets: where what follows them decides
unfoldable pub past_type_at : ℕ → List Token → Option (List Token)
past_type_at h ts = option_map (λ x. x.1) (type_at h ts)

unfoldable pub past_name_at : List Token → Option (List Token)
past_name_at ts = option_map (λ x. x.1) (name_at ts)

unfoldable pub past_dims_at : List Token → List Token
past_dims_at ts = (dims_at (first_span ts) ts).2

-- whether a cast begins: a primitive type or an array type in brackets, or a name in brackets before an operand
unfoldable pub is_cast_at : List Token → Bool
is_cast_at ts = with (behind symbol.OpenParen ts) (λ inside.
    is_some (primitive_at inside) || with (past_name_at inside) (λ rest.
    with (behind symbol.CloseParen (past_dims_at rest)) (λ operand. is_some (pair_at rest) || begins_operand operand) false) false) false

-- ["final"]
abbrev pub final_at : List Token → Bool × List Token
final_at ts = with (behind_word word.Final ts) (λ rest. (true, rest)) (false, ts)

-- the tokens behind a type that an identifier follows
unfoldable pub begins_local_at : ℕ → List Token → Bool
begins_local_at h ts = with (past_type_at h ts) is_identifier false

-- Formal
unfoldable pub formal_at : ℕ → List Token → Read FormalParameter
formal_at h ts = let f = final_at ts in
    type_at h f.1 >>= λ t. identifier_at t.1 >>= λ x. let d = dims_at x.0.span x.1 in
    Some (record { is_final = f.0; declared = t.0; name = x.0; dims = d.0 }, d.2)

unfoldable pub more_formals_at : ℕ → ℕ → List FormalParameter → List Token → Read (List FormalParameter)
more_formals_at zero h front ts = None
more_formals_at (suc n) h front ts = formal_at h ts >>= λ x.
    with (behind symbol.Comma x.1) (λ mid. more_formals_at n h (front ++ x.0 ∷ []) mid)
    (behind symbol.CloseParen x.1 >>= λ rest. Some (front ++ x.0 ∷ [], rest))

unfoldable pub formals_at : ℕ → List Token → Read (List FormalParameter)
formals_at h ts = behind symbol.OpenParen ts >>= λ inside.
    with (behind symbol.CloseParen inside) (λ rest. Some ([], rest)) (more_formals_at (length inside) h [] inside)

unfoldable pub throws_at : List Token → Read (List QualifiedName)
throws_at ts = with (behind_word word.Throws ts) names_at (Some ([], ts))

-- id ["extends" Ref]
unfoldable pub parameter_at : ℕ → List Token → Read TypeParameter
parameter_at h ts = identifier_at ts >>= λ x.
    with (behind_word word.Extends x.1) (λ mid. reference_at h mid >>= λ b. Some (record { name = x.0; bound = Some b.0 }, b.1))
    (Some (record { name = x.0; bound = None }, x.1))

unfoldable pub more_parameters_at : ℕ → ℕ → List TypeParameter → List Token → Read (List TypeParameter)
more_parameters_at zero h front ts = None
more_parameters_at (suc n) h front ts = parameter_at h ts >>= λ x.
    with (behind symbol.Comma x.1) (λ mid. more_parameters_at n h (front ++ x.0 ∷ []) mid)
    (closes_at x.1 >>= λ c. Some (front ++ x.0 ∷ [], c.1))

unfoldable pub parameters_at : ℕ → List Token → Read (List TypeParameter)
parameters_at h ts = with (behind symbol.Less ts) (λ inside. more_parameters_at (length ts) h [] inside) (Some ([], ts))

-- ["extends" Ref]
unfoldable pub superclass_at : ℕ → List Token → Read (Option TypeName)
superclass_at h ts = with (behind_word word.Extends ts) (λ mid. reference_at h mid >>= λ x. Some (Some x.0, x.1)) (Some (None, ts))

unfoldable pub more_references_at : ℕ → ℕ → List TypeName → List Token → Read TypeNames
more_references_at zero h front ts = None
more_references_at (suc n) h front ts = reference_at h ts >>= λ x.
    with (behind symbol.Comma x.1) (λ mid. more_references_at n h (front ++ x.0 ∷ []) mid) (Some (type_names (front ++ x.0 ∷ []), x.1))

-- [word Ref {"," Ref}]
unfoldable pub references_at : Keyword → ℕ → List Token → Read TypeNames
references_at w h ts = with (behind_word w ts) (λ mid. more_references_at (length ts) h [] mid) (Some (no_types, ts))

-- the modifier that is this word
abbrev pub modifier_kind : TokenKind → Option ModifierKind
modifier_kind (kind.Keyword word.Public) = Some modifier.Public
modifier_kind (kind.Keyword word.Protected) = Some modifier.Protected
modifier_kind (kind.Keyword word.Private) = Some modifier.Private
modifier_kind (kind.Keyword word.Static) = Some modifier.Static
modifier_kind (kind.Keyword word.Final) = Some modifier.Final
modifier_kind (kind.Keyword word.Abstract) = Some modifier.Abstract
modifier_kind (kind.Keyword word.Native) = Some modifier.Native
modifier_kind _ = None

abbrev pub word_modifier_at : List Token → Read Modifier
word_modifier_at [] = None
word_modifier_at (t ∷ ts) = modifier_kind t.kind >>= λ k. Some (record { kind = k; span = t.span }, ts)

abbrev pub same_text : List ℕ → List ℕ → Bool
same_text [] [] = true
same_text (a ∷ cs) (b ∷ ds) = nat_eq a b && same_text cs ds
same_text _ _ = false

module _ (names : List (List ℕ)) where
  -- "@" "Override"
  unfoldable pub override_at : List Token → Read Modifier
  override_at ts = behind symbol.At ts >>= identifier_at >>= λ x. slice_get names x.0.name.0 >>= λ text.
      if same_text text (codes "Override") then Some (record { kind = modifier.Override; span = join (first_span ts) x.0.span }, x.1) else None

  unfoldable pub modifier_at : List Token → Read Modifier
  modifier_at ts = with (word_modifier_at ts) (λ x. Some x) (override_at ts)

  unfoldable pub more_modifiers_at : ℕ → List Modifier → List Token → List Modifier × List Token
  more_modifiers_at zero front ts = (front, ts)
  more_modifiers_at (suc n) front ts = with (modifier_at ts) (λ x. more_modifiers_at n (front ++ x.0 ∷ []) x.1) (front, ts)

  unfoldable pub modifiers_at : List Token → List Modifier × List Token
  modifiers_at ts = more_modifiers_at (length ts) [] ts
