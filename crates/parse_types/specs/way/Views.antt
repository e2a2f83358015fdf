-- What the functions give, without where it lies in memory.
use Rattle.std.specs.Prelude.{Bool, suc, ◌≡◌, ℕ, ◌≤◌, ◌∷◌, List, map, Option, Some, None, option_map, IfSome}
use Rattle.std.specs.declared.alloc.Global.{Global}
use Rattle.std.specs.Prelude.{Bool, suc, Vec}
use denote.Ref.{Bor}
use Rattle.je_token.specs.declared.symbol.Symbol.TheVariants as symbol
use Rattle.je_grammar.specs.Tokens.{left_of}
use Rattle.parse_types.specs.declared.rest_of_type.Rest.{Rest}
use Rattle.parse_types.specs.declared.rest_of_type.Rest.TheVariants as rest
use Rattle.je_base.specs.declared.span.Span.{Span}
use Rattle.je_token.specs.declared.token.Token.{Token}
use Rattle.je_ast.specs.declared.name.Name.{Name}
use Rattle.je_ast.specs.Types.{QualifiedName, name_view, TypeName, TypeNames, class_type, type_view, type_views_of, type_height, types_height, FormalParameter, formal_view}
use Rattle.je_ast.specs.declared.ty_name.TyName.{TyName}
use Rattle.je_ast.specs.declared.decl.Formal.{Formal}
use Rattle.je_ast.specs.declared.decl.Modifier.{Modifier}
use Rattle.parse_types.specs.declared.found.Found.{Found}
use Rattle.parse_types.specs.declared.types.FoundType.{FoundType}
use Rattle.parse_types.specs.declared.types.ClassType.{ClassType}
use Rattle.parse_types.specs.declared.types.Arguments.{Arguments}
use Rattle.parse_laws.specs.way.Tokens.{Read}

abbrev pub rest_of : Option (Bor (List Token)) → Option (List Token)
rest_of o = option_map (λ r. r.now) o

-- what was read, and the tokens behind it
abbrev pub read_of : {A : Type 0} → Option (A × Bor (List Token)) → Read A
read_of o = option_map (λ x. (x.0, x.1.now)) o

abbrev pub seen_name : Option (Name × Bor (List Token)) → Read QualifiedName
seen_name o = option_map (λ x. (name_view x.0, x.1.now)) o

abbrev pub seen_names : Option (Vec Name Global × Bor (List Token)) → Read (List QualifiedName)
seen_names o = option_map (λ x. (map name_view x.0.items, x.1.now)) o

abbrev pub seen_dims : ℕ × Span × Bor (List Token) → ℕ × Span × List Token
seen_dims d = (d.0, d.1, d.2.now)

-- the tokens, what is left of a `>>` or `>>>` before them included
abbrev pub seen_rest : Rest → List Token
seen_rest (rest.Whole ts) = ts.now
seen_rest (rest.Greater t ts) = left_of symbol.Greater t ∷ ts.now
seen_rest (rest.ShiftRight t ts) = left_of symbol.ShiftRight t ∷ ts.now

abbrev pub whole_of : Rest → Option (List Token)
whole_of (rest.Whole ts) = Some ts.now
whole_of (rest.Greater t ts) = None
whole_of (rest.ShiftRight t ts) = None

abbrev pub seen_close : Option (Span × Rest) → Read Span
seen_close o = option_map (λ x. (x.0, seen_rest x.1)) o

abbrev pub seen_dims_rest : ℕ × Span × Rest → ℕ × Span × List Token
seen_dims_rest d = (d.0, d.1, seen_rest d.2)

abbrev pub seen_found_type : FoundType → TypeName × List Token
seen_found_type x = (type_view x.tree, seen_rest x.rest)

abbrev pub seen_type : Option FoundType → Read TypeName
seen_type o = option_map seen_found_type o

-- the height is right and within the limit
abbrev pub HasTypeHeight : ℕ → Option FoundType → Type 0
HasTypeHeight limit o = IfSome o (λ x. (x.height ≡ type_height (type_view x.tree)) × (x.height ≤ limit))

abbrev pub seen_class : ClassType → TypeName × List Token
seen_class x = (class_type (name_view x.name) (type_views_of x.args.items) 0 x.span, seen_rest x.rest)

abbrev pub seen_reference : Option ClassType → Read TypeName
seen_reference o = option_map seen_class o

abbrev pub ReferenceHeight : ℕ → Option ClassType → Type 0
ReferenceHeight limit o = IfSome o (λ x. (x.height ≡ suc (types_height (type_views_of x.args.items))) × (x.height ≤ limit))

abbrev pub seen_arguments : Option Arguments → Option (TypeNames × Span × List Token)
seen_arguments o = option_map (λ x. (type_views_of x.list.items, x.close, seen_rest x.rest)) o

abbrev pub ArgumentsHeight : ℕ → Option Arguments → Type 0
ArgumentsHeight limit o = IfSome o (λ x. (x.height ≡ types_height (type_views_of x.list.items)) × (x.height ≤ limit))

abbrev pub seen_plain : TyName × Bor (List Token) → TypeName × List Token
seen_plain x = (type_view x.0, x.1.now)

abbrev pub seen_plain_type : Option (TyName × Bor (List Token)) → Read TypeName
seen_plain_type o = option_map seen_plain o

-- a type without type arguments
abbrev pub IsLow : Option (TyName × Bor (List Token)) → Type 0
IsLow o = IfSome o (λ x. type_height (type_view x.0) ≡ 1)

-- what was read, where trees are seen by `see`
abbrev pub seen : {T A : Type 0} → (T → A) → Option (Found T) → Read A
seen see o = option_map (λ x. (see x.tree, x.rest.now)) o

-- the height is right and within the limit
abbrev pub HasHeight : {T : Type 0} → (T → ℕ) → ℕ → Option (Found T) → Type 0
HasHeight height_of limit o = IfSome o (λ x. (x.height ≡ height_of x.tree) × (x.height ≤ limit))

abbrev pub formals_view : Vec Formal Global → List FormalParameter
formals_view fs = map formal_view fs.items

abbrev pub seen_final : Bool × Bor (List Token) → Bool × List Token
seen_final x = (x.0, x.1.now)

abbrev pub seen_modifiers : Vec Modifier Global × Bor (List Token) → List Modifier × List Token
seen_modifiers x = (x.0.items, x.1.now)
