-- JLS 8.1, 8.4, 8.8, 9.1: what stands before the body of a class, an interface, a method and a constructor.
use Rattle.std.specs.Prelude.{ℕ, List, ◌∷◌, Option}
use Rattle.je_token.specs.declared.keyword.Keyword.TheVariants as word
use Rattle.je_token.specs.declared.symbol.Symbol.TheVariants as symbol
use Rattle.je_token.specs.declared.token.Token.{Token}
use Rattle.je_ast.specs.Types.{QualifiedName, TypeName, TypeNames, TypeParameter, FormalParameter}
use Rattle.je_ast.specs.Height.{formals_height}
use Rattle.je_grammar.specs.Tokens.{IsWord, IsSymbol, IsIdentifier, identifier}
use Rattle.je_grammar.specs.Types.{SpellsTypeParameters, SpellsFormals, SpellsThrows, SpellsResult}
use Rattle.je_grammar.specs.Grammar.{SpellsExtends, SpellsImplements, SpellsExtendsAll}
use Rattle.je_grammar.specs.Place.{class_head_height, interface_head_height, method_head_height}
use Rattle.parse_laws.specs.way.Members.{ClassHead, InterfaceHead, MethodHead, ConstructorHead}

-- "class" id [Params] ["extends" Ref] ["implements" Refs], before a `{`
pub data SpellsClassHead : ClassHead → List Token → List Token → Type 0 where
  class_head : {w t o : Token} {ps : List TypeParameter} {e : Option TypeName} {is : TypeNames} {ts mid next rest : List Token} →
      IsWord word.Class w → IsIdentifier t → SpellsTypeParameters ps ts mid → SpellsExtends e mid next → SpellsImplements is next (o ∷ rest) → IsSymbol symbol.OpenBrace o →
      SpellsClassHead (record { name = identifier t; parameters = ps; extends = e; implements = is }) (w ∷ t ∷ ts) (o ∷ rest)

-- "interface" id [Params] ["extends" Refs], before a `{`
pub data SpellsInterfaceHead : InterfaceHead → List Token → List Token → Type 0 where
  interface_head : {w t o : Token} {ps : List TypeParameter} {es : TypeNames} {ts mid rest : List Token} →
      IsWord word.Interface w → IsIdentifier t → SpellsTypeParameters ps ts mid → SpellsExtendsAll es mid (o ∷ rest) → IsSymbol symbol.OpenBrace o →
      SpellsInterfaceHead (record { name = identifier t; parameters = ps; extends = es }) (w ∷ t ∷ ts) (o ∷ rest)

-- (Ty | "void") id Formals Throws
pub data SpellsMethodHead : MethodHead → List Token → List Token → Type 0 where
  method_head : {r : Option TypeName} {t : Token} {fs : List FormalParameter} {ns : List QualifiedName} {ts next last rest : List Token} →
      SpellsResult r ts (t ∷ next) → IsIdentifier t → SpellsFormals fs next last → SpellsThrows ns last rest →
      SpellsMethodHead (record { result = r; name = identifier t; formals = fs; throws = ns }) ts rest

-- id Formals Throws, before a `{`
pub data SpellsConstructorHead : ConstructorHead → List Token → List Token → Type 0 where
  constructor_head : {t o : Token} {fs : List FormalParameter} {ns : List QualifiedName} {ts last rest : List Token} →
      IsIdentifier t → SpellsFormals fs ts last → SpellsThrows ns last (o ∷ rest) → IsSymbol symbol.OpenBrace o →
      SpellsConstructorHead (record { name = identifier t; formals = fs; throws = ns }) (t ∷ ts) (o ∷ rest)

-- the height of the types in a head

abbrev pub class_height : ClassHead → ℕ
class_height c = class_head_height c.parameters c.extends c.implements

abbrev pub interface_height : InterfaceHead → ℕ
interface_height c = interface_head_height c.parameters c.extends

abbrev pub method_height : MethodHead → ℕ
method_height m = method_head_height m.result m.formals

abbrev pub constructor_height : ConstructorHead → ℕ
constructor_height c = formals_height c.formals
