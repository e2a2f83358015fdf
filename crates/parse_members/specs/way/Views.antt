-- What the functions give, without where it lies in memory.
use Rattle.std.specs.Prelude.{◌≡◌, ℕ, ◌≤◌, max, Bool, false, List, map, Vec, Option, Some, option_map, IfSome}
use Rattle.std.specs.declared.alloc.Global.{Global}
use denote.Ref.{Bor}
use Rattle.je_base.specs.declared.span.Span.{Span}
use Rattle.je_token.specs.declared.symbol.Symbol.TheVariants as symbol
use Rattle.je_token.specs.declared.token.Token.{Token}
use Rattle.je_grammar.specs.Tokens.{first_span}
use Rattle.je_ast.specs.declared.name.Identifier.{Identifier}
use Rattle.je_ast.specs.declared.name.Name.{Name}
use Rattle.je_ast.specs.declared.decl.ConstructorCall.{ConstructorCall}
use Rattle.je_ast.specs.declared.stmt.Block.{Block}
use Rattle.je_ast.specs.declared.ty_name.TyName.{TyName}
use Rattle.je_ast.specs.Trees.{MaybeBlock, Member, Declaration}
use Rattle.je_ast.specs.Trees as tree
use Rattle.je_ast.specs.Types.{name_view, TypeName, type_view_of_option}
use Rattle.je_ast.specs.View.{block_view_of_option, constructor_invocation_view}
use Rattle.je_ast.specs.Height.{type_height_if, formals_height, constants_height, block_height_if, constructor_invocation_height}
use Rattle.parse_laws.specs.way.Tokens.{Read, ◌>>=◌, with, behind, is_symbol, identifier_at}
use Rattle.parse_laws.specs.way.Expressions.{Closed}
use Rattle.parse_laws.specs.way.Members as read
use Rattle.parse_types.specs.declared.found.Closed as found
use Rattle.parse_types.specs.declared.found.Found.{Found}
use Rattle.parse_types.specs.way.Views.{formals_view, HasHeight}
use Rattle.parse_members.specs.declared.constructors.ConstructorHead.{ConstructorHead}
use Rattle.parse_members.specs.declared.methods.MethodHead.{MethodHead}
use Rattle.parse_members.specs.declared.methods.MethodBody.{MethodBody}

abbrev pub seen_list : Vec Identifier Global × Bor (List Token) → List Identifier × List Token
seen_list x = (x.0.items, x.1.now)

abbrev pub seen_constants : Option (found.Closed Identifier) → Closed (List Identifier)
seen_constants o = option_map (λ x. (x.items.items, x.close, x.rest.now)) o

-- constants before what closes them
abbrev pub closed_constants_at : List Identifier × List Token → Closed (List Identifier)
closed_constants_at xs = let end = read.past_symbol symbol.Semicolon (read.past_lone_comma xs.0 xs.1) in
    behind symbol.CloseBrace end >>= λ rest. Some (xs.0, first_span end, rest)

abbrev pub ConstantsHeight : Option (found.Closed Identifier) → Type 0
ConstantsHeight o = IfSome o (λ x. x.height ≡ constants_height x.items.items)

abbrev pub named_result_view : Option TyName × Identifier → Option TypeName × Identifier
named_result_view x = (type_view_of_option x.0, x.1)

-- a result type, and the name behind it
unfoldable pub named_result_at : ℕ → List Token → Read (Option TypeName × Identifier)
named_result_at h ts = read.result_type_at h ts >>= λ r. identifier_at r.1 >>= λ x. Some ((r.0, x.0), x.1)

abbrev pub NamedResultHeight : ℕ → Option (Found (Option TyName × Identifier)) → Type 0
NamedResultHeight limit o = HasHeight (λ x. type_height_if (type_view_of_option x.0)) limit o

abbrev pub seen_method_head : Option MethodHead → Read read.MethodHead
seen_method_head o = option_map (λ x. (record { result = type_view_of_option x.result; name = x.name; formals = formals_view x.formals; throws = map name_view x.throws.items }, x.rest.now)) o

abbrev pub MethodHeadHeight : ℕ → Option MethodHead → Type 0
MethodHeadHeight limit o = IfSome o (λ x. (x.height ≡ max (type_height_if (type_view_of_option x.result)) (formals_height (formals_view x.formals))) × (x.height ≤ limit))

abbrev pub seen_method_body : Option MethodBody → Closed MaybeBlock
seen_method_body o = option_map (λ x. (block_view_of_option x.block, x.close, x.rest.now)) o

abbrev pub MethodBodyHeight : ℕ → Option MethodBody → Type 0
MethodBodyHeight limit o = IfSome o (λ x. (x.height ≡ block_height_if (block_view_of_option x.block)) × (x.height ≤ limit))

abbrev pub seen_constructor_head : Option ConstructorHead → Read read.ConstructorHead
seen_constructor_head o = option_map (λ x. (record { name = x.name; formals = formals_view x.formals; throws = map name_view x.throws.items }, x.rest.now)) o

abbrev pub ConstructorHeadHeight : ℕ → Option ConstructorHead → Type 0
ConstructorHeadHeight limit o = IfSome o (λ x. (x.height ≡ formals_height (formals_view x.formals)) × (x.height ≤ limit))

abbrev pub CallHeight : ℕ → Option (Found ConstructorCall) → Type 0
CallHeight limit o = HasHeight (λ f. constructor_invocation_height (constructor_invocation_view f)) limit o

-- `this` or `super` before a `(`
abbrev pub begins_first_call_at : List Token → Bool
begins_first_call_at ts = with (read.call_word_at ts) (λ w. is_symbol symbol.OpenParen w.1) false

-- type declarations as members
abbrev pub as_members : Read Declaration → Read Member
as_members o = option_map (λ d. (tree.member_type d.0, d.1)) o
