-- What stands first in a member.
use Rattle.std.proofs.Common.{◌≡◌, ℕ, false, List, ◌∷◌, Option, Some, None, refl}
use Rattle.je_token.specs.declared.keyword.Keyword.{Keyword}
use Rattle.je_token.specs.declared.keyword.Keyword.TheVariants as word
use Rattle.je_token.specs.declared.symbol.Symbol.TheVariants as symbol
use Rattle.je_token.specs.declared.token.Token.{Token}
use Rattle.je_token.specs.declared.token.TokenKind.{TokenKind}
use Rattle.je_token.specs.declared.token.TokenKind.TheVariants as kind
use Rattle.je_base.specs.declared.span.Span.{Span}
use Rattle.je_ast.specs.declared.ty_name.Primitive.TheVariants as prim
use Rattle.je_ast.specs.declared.decl.Modifier.{Modifier}
use Rattle.je_ast.specs.declared.decl.ModifierKind.{ModifierKind}
use Rattle.je_ast.specs.declared.decl.ModifierKind.TheVariants as modifier
use Rattle.je_ast.specs.Types.{TypeName}
use Rattle.je_ast.specs.Trees.{Member, Declaration}
use Rattle.je_grammar.specs.Tokens.{it_is, IsWord, IsSymbol}
use Rattle.je_grammar.specs.Types.{modifier_word, override_modifier, word_modifier, SpellsModifiers, no_modifiers, more_modifiers, SpellsResult, void_result, typed_result}
use Rattle.je_grammar.specs.Grammar.{SpellsMember, is_type, is_field, is_method, is_constructor, is_initializer, is_static_initializer, is_class, is_interface, is_enum, SpellsClass, class_declaration, SpellsInterface, interface_declaration, SpellsEnum, enum_declaration}
use Rattle.parse_laws.specs.way.Tokens.{behind, behind_word, is_symbol}
use Rattle.parse_laws.specs.way.Types.{modifier_at, override_at}
use Rattle.parse_laws.specs.way.Members.{begins_initializer_at}
use Rattle.parse_laws.proofs.Rules.{either}
use Rattle.parse_laws.proofs.Fronts.{Front, front, behind_front}
use Rattle.type_laws.specs.Laws.{modifiers_on}
use Rattle.type_laws.proofs.Types.{TypeFront, primitive_front, name_front, type_begins}

-- what stands behind modifiers
pub data ItemFront : List Token → Type 0 where
  class_front : {w : Token} {rest : List Token} → IsWord word.Class w → ItemFront (w ∷ rest)
  interface_front : {w : Token} {rest : List Token} → IsWord word.Interface w → ItemFront (w ∷ rest)
  enum_front : {w : Token} {rest : List Token} → IsWord word.Enum w → ItemFront (w ∷ rest)
  void_front : {w : Token} {rest : List Token} → IsWord word.Void w → ItemFront (w ∷ rest)
  type_front : {ts : List Token} → TypeFront ts → ItemFront ts

-- what a member begins with
pub data MemberFront : List Token → Type 0 where
  override_front : {a : Token} {rest : List Token} → IsSymbol symbol.At a → MemberFront (a ∷ rest)
  modifier_front : {k : Keyword} {w : Token} {rest : List Token} (m : ModifierKind) → modifier_word m ≡ Some k → IsWord k w → MemberFront (w ∷ rest)
  item_front : {ts : List Token} → ItemFront ts → MemberFront ts
  brace_front : {o : Token} {rest : List Token} → IsSymbol symbol.OpenBrace o → MemberFront (o ∷ rest)

type_stops : {ts : List Token} → TypeFront ts → (behind symbol.CloseBrace ts ≡ None) × (behind symbol.Semicolon ts ≡ None)
type_stops (primitive_front p it_is) = (refl, refl)
type_stops (name_front it_is) = (refl, refl)

item_stops : {ts : List Token} → ItemFront ts → (behind symbol.CloseBrace ts ≡ None) × (behind symbol.Semicolon ts ≡ None)
item_stops (class_front it_is) = (refl, refl)
item_stops (interface_front it_is) = (refl, refl)
item_stops (enum_front it_is) = (refl, refl)
item_stops (void_front it_is) = (refl, refl)
item_stops (type_front t) = type_stops t

-- no member begins with `}` or `;`
pub member_stops : {ts : List Token} → MemberFront ts → (behind symbol.CloseBrace ts ≡ None) × (behind symbol.Semicolon ts ≡ None)
member_stops (override_front it_is) = (refl, refl)
member_stops (modifier_front m e it_is) = (refl, refl)
member_stops (item_front i) = item_stops i
member_stops (brace_front it_is) = (refl, refl)

pub result_begins : {r : Option TypeName} {ts rest : List Token} → SpellsResult r ts rest → ItemFront ts
result_begins (void_result w) = void_front w
result_begins (typed_result t) = type_front (type_begins t)

-- an item's first token is no modifier, and no brace
type_no_modifier : (names : List (List ℕ)) {ts : List Token} → TypeFront ts → modifiers_on names ts ≡ false
unfolding modifier_at override_at
type_no_modifier names (primitive_front prim.Boolean it_is) = refl
type_no_modifier names (primitive_front prim.Byte it_is) = refl
type_no_modifier names (primitive_front prim.Short it_is) = refl
type_no_modifier names (primitive_front prim.Char it_is) = refl
type_no_modifier names (primitive_front prim.Int it_is) = refl
type_no_modifier names (primitive_front prim.Long it_is) = refl
type_no_modifier names (name_front it_is) = refl

pub no_modifier : (names : List (List ℕ)) {ts : List Token} → ItemFront ts → modifiers_on names ts ≡ false
unfolding modifier_at override_at
no_modifier names (class_front it_is) = refl
no_modifier names (interface_front it_is) = refl
no_modifier names (enum_front it_is) = refl
no_modifier names (void_front it_is) = refl
no_modifier names (type_front t) = type_no_modifier names t

type_no_initializer : {ts : List Token} → TypeFront ts → (is_symbol symbol.OpenBrace ts ≡ false) × (begins_initializer_at ts ≡ false)
type_no_initializer (primitive_front prim.Boolean it_is) = (refl, refl)
type_no_initializer (primitive_front prim.Byte it_is) = (refl, refl)
type_no_initializer (primitive_front prim.Short it_is) = (refl, refl)
type_no_initializer (primitive_front prim.Char it_is) = (refl, refl)
type_no_initializer (primitive_front prim.Int it_is) = (refl, refl)
type_no_initializer (primitive_front prim.Long it_is) = (refl, refl)
type_no_initializer (name_front it_is) = (refl, refl)

item_no_initializer : {ts : List Token} → ItemFront ts → (is_symbol symbol.OpenBrace ts ≡ false) × (begins_initializer_at ts ≡ false)
item_no_initializer (class_front it_is) = (refl, refl)
item_no_initializer (interface_front it_is) = (refl, refl)
item_no_initializer (enum_front it_is) = (refl, refl)
item_no_initializer (void_front it_is) = (refl, refl)
item_no_initializer (type_front t) = type_no_initializer t

behind_it : {k : TokenKind} {t : Token} {rest mid : List Token} → Front k (t ∷ rest) mid → is_symbol symbol.OpenBrace rest ≡ false → is_symbol symbol.OpenBrace mid ≡ false
behind_it (front i) n = n

word_is_no_brace : {k : Keyword} {w : Token} (rest : List Token) → IsWord k w → is_symbol symbol.OpenBrace (w ∷ rest) ≡ false
word_is_no_brace rest it_is = refl

word_no_initializer : {k : Keyword} {w : Token} (rest : List Token) → IsWord k w → is_symbol symbol.OpenBrace rest ≡ false → begins_initializer_at (w ∷ rest) ≡ false
word_no_initializer {w = w} rest i n =
    either (behind_word word.Static (w ∷ rest)) (λ mid. mid) (w ∷ rest) (Front (kind.Keyword word.Static) (w ∷ rest)) (λ (us : List Token). is_symbol symbol.OpenBrace us ≡ false)
    (behind_front (kind.Keyword word.Static) (w ∷ rest)) (λ mid f. behind_it f n) (word_is_no_brace rest i)

module _ (names : List (List ℕ)) where
  pub no_brace : {ms : List Modifier} {ts mid : List Token} → SpellsModifiers names ms ts mid → ItemFront mid → is_symbol symbol.OpenBrace ts ≡ false
  no_brace no_modifiers i = (item_no_initializer i).0
  no_brace (more_modifiers (override_modifier it_is t o) ms) i = refl
  no_brace (more_modifiers (word_modifier e it_is) ms) i = refl

  -- an item behind modifiers is no initializer
  pub no_initializer : {ms : List Modifier} {ts mid : List Token} → SpellsModifiers names ms ts mid → ItemFront mid → begins_initializer_at ts ≡ false
  no_initializer no_modifiers i = (item_no_initializer i).1
  no_initializer (more_modifiers (override_modifier it_is t o) ms) i = refl
  no_initializer (more_modifiers (word_modifier {rest = rest} e w) ms) i = word_no_initializer rest w (no_brace ms i)

  pub modifiers_begin : {ms : List Modifier} {ts mid : List Token} → SpellsModifiers names ms ts mid → ItemFront mid → MemberFront ts
  modifiers_begin no_modifiers i = item_front i
  modifiers_begin (more_modifiers (override_modifier a t o) ms) i = override_front a
  modifiers_begin (more_modifiers (word_modifier {m} e w) ms) i = modifier_front m e w

  module _ (texts : List (List ℕ)) where
    pub class_begins : {ms : List Modifier} {s : Span} {d : Declaration} {ts rest : List Token} → SpellsClass names texts ms s d ts rest → ItemFront ts
    class_begins (class_declaration w t ps e is b) = class_front w

    pub interface_begins : {ms : List Modifier} {s : Span} {d : Declaration} {ts rest : List Token} → SpellsInterface names texts ms s d ts rest → ItemFront ts
    interface_begins (interface_declaration w t ps es b) = interface_front w

    pub enum_begins : {ms : List Modifier} {s : Span} {d : Declaration} {ts rest : List Token} → SpellsEnum ms s d ts rest → ItemFront ts
    enum_begins (enum_declaration w t o cs k s c) = enum_front w

    pub member_begins : {m : Member} {ts rest : List Token} → SpellsMember names texts m ts rest → MemberFront ts
    member_begins (is_type (is_class ms c)) = modifiers_begin ms (class_begins c)
    member_begins (is_type (is_interface ms c)) = modifiers_begin ms (interface_begins c)
    member_begins (is_type (is_enum ms c)) = modifiers_begin ms (enum_begins c)
    member_begins (is_field ms t vs c) = modifiers_begin ms (type_front (type_begins t))
    member_begins (is_method ms r i fs ns b) = modifiers_begin ms (result_begins r)
    member_begins (is_constructor ms i fs ns o f b) = modifiers_begin ms (type_front (name_front i))
    member_begins (is_initializer o b) = brace_front o
    member_begins (is_static_initializer w o b) = modifier_front modifier.Static refl w
