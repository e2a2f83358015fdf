-- What statements begin with, and what stops those before them.
use Rattle.std.proofs.Common.{◌≡◌, ℕ, Bool, true, false, List, [], ◌∷◌, Option, Some, None, IfSome, refl, subst, ◌||◌}
use Rattle.je_base.specs.declared.span.Span.{Span}
use Rattle.je_token.specs.declared.keyword.Keyword.TheVariants as word
use Rattle.je_token.specs.declared.symbol.Symbol.TheVariants as symbol
use Rattle.je_token.specs.declared.token.Token.{Token}
use Rattle.je_token.specs.declared.token.TokenKind.{TokenKind}
use Rattle.je_token.specs.declared.token.TokenKind.TheVariants as kind
use Rattle.je_ast.specs.declared.operator.PrefixOp.{PrefixOp}
use Rattle.je_ast.specs.declared.ty_name.Primitive.{Primitive}
use Rattle.je_ast.specs.declared.ty_name.Primitive.TheVariants as prim
use Rattle.je_ast.specs.declared.decl.Modifier.{Modifier}
use Rattle.je_ast.specs.declared.decl.ModifierKind.{ModifierKind}
use Rattle.je_ast.specs.declared.decl.ModifierKind.TheVariants as modifier
use Rattle.je_ast.specs.Types.{TypeName}
use Rattle.je_ast.specs.Trees.{Expression, Statement, Statements, Declaration}
use Rattle.je_grammar.specs.Tokens.{Is, it_is}
use Rattle.je_grammar.specs.Context.{kind_begins_operand}
use Rattle.je_grammar.specs.Types.{SpellsTypeName, SpellsFinal, not_final, is_final, SpellsModifiers, no_modifiers, more_modifiers, override_modifier, word_modifier, modifier_word, primitive_word}
use Rattle.je_grammar.specs.Grammar.{Spells, SpellsClass, class_declaration, SpellsBlockStatement, is_local, is_local_class, is_statement, SpellsStatements, last_statement, more_statements}
use Rattle.je_grammar.specs.Grammar.{SpellsStatement, is_block, is_empty, is_labelled, is_if_only, is_if_else, is_while, is_do, is_for, is_for_each, is_switch, is_break, is_continue, is_return, is_throw, is_try, is_try_finally, is_expression_statement}
use Rattle.parse_laws.specs.way.Tokens.{◌>>=◌, is_some, behind_kind}
use Rattle.parse_laws.specs.way.Expressions.{prefix_kind}
use Rattle.parse_laws.specs.way.Readers.{continues}
use Rattle.parse_laws.proofs.Fronts.{Front, front}
use Rattle.expression_laws.proofs.Begins.{may_begin, expression_begins}
use Rattle.expression_laws.proofs.Inner.{not_front}
use Rattle.type_laws.proofs.Types.{TypeFront, primitive_front, name_front, type_begins}

-- what holds of the first token's kind
abbrev pub first_is : (TokenKind → Bool) → List Token → Bool
first_is f [] = false
first_is f (t ∷ ts) = f t.kind

pub first_front : (f : TokenKind → Bool) {k : TokenKind} {ts rest : List Token} → Front k ts rest → first_is f ts ≡ f k
first_front f (front it_is) = refl

pub first_kind : (f : TokenKind → Bool) {k : TokenKind} {t : Token} (ts : List Token) → Is k t → first_is f (t ∷ ts) ≡ f k
first_kind f ts it_is = refl

pub no_front : (f : TokenKind → Bool) (k : TokenKind) (ts : List Token) → f k ≡ false → first_is f ts ≡ true → behind_kind k ts ≡ None
no_front f k ts e g = not_front k ts (λ r fr. let a = first_front f fr in cc)

-- ---- the kinds of what begins an expression, a type, a statement of a block

abbrev pub begins_expression : TokenKind → Bool
begins_expression k = kind_begins_operand k || is_some (prefix_kind k)

abbrev pub begins_type : TokenKind → Bool
begins_type (kind.Keyword word.Boolean) = true
begins_type (kind.Keyword word.Byte) = true
begins_type (kind.Keyword word.Short) = true
begins_type (kind.Keyword word.Char) = true
begins_type (kind.Keyword word.Int) = true
begins_type (kind.Keyword word.Long) = true
begins_type kind.Identifier = true
begins_type _ = false

abbrev pub begins_item : TokenKind → Bool
begins_item (kind.Keyword word.Else) = false
begins_item (kind.Keyword word.Catch) = false
begins_item (kind.Keyword word.Finally) = false
begins_item (kind.Keyword word.Case) = false
begins_item (kind.Keyword word.Default) = false
begins_item (kind.Symbol symbol.CloseBrace) = false
begins_item _ = true

expression_item : (k : TokenKind) → begins_expression k ≡ true → begins_item k ≡ true
expression_item (kind.Keyword word.Else) e = absurd cc
expression_item (kind.Keyword word.Catch) e = absurd cc
expression_item (kind.Keyword word.Finally) e = absurd cc
expression_item (kind.Keyword word.Case) e = absurd cc
expression_item (kind.Keyword word.Default) e = absurd cc
expression_item (kind.Symbol symbol.CloseBrace) e = absurd cc
expression_item _ e = refl

type_item : (k : TokenKind) → begins_type k ≡ true → begins_item k ≡ true
type_item (kind.Keyword word.Else) e = absurd cc
type_item (kind.Keyword word.Catch) e = absurd cc
type_item (kind.Keyword word.Finally) e = absurd cc
type_item (kind.Keyword word.Case) e = absurd cc
type_item (kind.Keyword word.Default) e = absurd cc
type_item (kind.Symbol symbol.CloseBrace) e = absurd cc
type_item _ e = refl

primitive_type : (p : Primitive) → begins_type (kind.Keyword (primitive_word p)) ≡ true
primitive_type prim.Boolean = refl
primitive_type prim.Byte = refl
primitive_type prim.Short = refl
primitive_type prim.Char = refl
primitive_type prim.Int = refl
primitive_type prim.Long = refl

modifier_item : (m : ModifierKind) → IfSome (modifier_word m) (λ w. begins_item (kind.Keyword w) ≡ true)
modifier_item modifier.Override = tt
modifier_item modifier.Public = refl
modifier_item modifier.Protected = refl
modifier_item modifier.Private = refl
modifier_item modifier.Static = refl
modifier_item modifier.Final = refl
modifier_item modifier.Abstract = refl
modifier_item modifier.Native = refl

some_prefix : (o : Option PrefixOp) (ts : List Token) → is_some {A = PrefixOp × List Token} (o >>= λ x. Some (x, ts)) ≡ is_some o
some_prefix (Some x) ts = refl
some_prefix None ts = refl

first_begins : (ts : List Token) → may_begin ts ≡ true → first_is begins_expression ts ≡ true
first_begins [] e = absurd cc
first_begins (t ∷ ts) e = subst (λ b. (kind_begins_operand t.kind || b) ≡ true) (some_prefix (prefix_kind t.kind) ts) e

first_more : (f g : TokenKind → Bool) → ((k : TokenKind) → f k ≡ true → g k ≡ true) → (ts : List Token) → first_is f ts ≡ true → first_is g ts ≡ true
first_more f g more [] e = absurd cc
first_more f g more (t ∷ ts) e = more t.kind e

front_type : {ts : List Token} → TypeFront ts → first_is begins_type ts ≡ true
front_type (primitive_front p {rest = rest} w) = rw (first_kind begins_type rest w) (primitive_type p)
front_type (name_front it_is) = refl

pub type_first : {t : TypeName} {ts rest : List Token} → SpellsTypeName t ts rest → first_is begins_type ts ≡ true
type_first d = front_type (type_begins d)

-- no `else`, `catch` or `finally`
pub stops : (ts : List Token) → first_is begins_item ts ≡ true → continues ts ≡ false
stops ts e = rw (no_front begins_item (kind.Keyword word.Else) ts refl e, no_front begins_item (kind.Keyword word.Catch) ts refl e, no_front begins_item (kind.Keyword word.Finally) ts refl e) refl

module _ (names texts : List (List ℕ)) where
  pub expression_first : {e : Expression} {ts rest : List Token} → Spells names texts e ts rest → first_is begins_expression ts ≡ true
  expression_first {ts = ts} d = first_begins ts (expression_begins names texts d)

  pub statement_first : {b : Statement} {ts rest : List Token} → SpellsStatement names texts b ts rest → first_is begins_item ts ≡ true
  statement_first (is_block it_is _) = refl
  statement_first (is_empty it_is) = refl
  statement_first (is_labelled it_is _ _) = refl
  statement_first (is_if_only it_is _ _) = refl
  statement_first (is_if_else _ it_is _ _ _ _) = refl
  statement_first (is_while it_is _ _) = refl
  statement_first (is_do it_is _ _ _ _) = refl
  statement_first (is_for it_is _ _ _ _ _ _ _ _) = refl
  statement_first (is_for_each it_is _ _ _ _ _ _ _ _) = refl
  statement_first (is_switch it_is _ _ _) = refl
  statement_first (is_break it_is _ _) = refl
  statement_first (is_continue it_is _ _) = refl
  statement_first (is_return it_is _ _) = refl
  statement_first (is_throw it_is _ _) = refl
  statement_first (is_try _ it_is _ _ _) = refl
  statement_first (is_try_finally it_is _ _ _ _ _ _) = refl
  statement_first {ts = ts} (is_expression_statement _ d _) = first_more begins_expression begins_item expression_item ts (expression_first d)

  local_first : {m : Bool} {t : TypeName} {ts mid rest : List Token} → SpellsFinal m ts mid → SpellsTypeName t mid rest → first_is begins_item ts ≡ true
  local_first {ts = ts} not_final d = first_more begins_type begins_item type_item ts (type_first d)
  local_first (is_final it_is) d = refl

  class_first : {ms all : List Modifier} {ts mid rest : List Token} {d : Declaration} {s : Span} → SpellsModifiers names ms ts mid → SpellsClass names texts all s d mid rest → first_is begins_item ts ≡ true
  class_first no_modifiers (class_declaration it_is _ _ _ _ _) = refl
  class_first (more_modifiers (override_modifier it_is _ _) _) d = refl
  class_first (more_modifiers {mid = mid} (word_modifier {m} e w) _) d = rw (first_kind begins_item mid w) (subst (λ o. IfSome o (λ k. begins_item (kind.Keyword k) ≡ true)) e (modifier_item m))

  pub item_first : {b : Statement} {ts rest : List Token} → SpellsBlockStatement names texts b ts rest → first_is begins_item ts ≡ true
  item_first (is_local f t _ _) = local_first f t
  item_first (is_local_class _ m d) = class_first m d
  item_first (is_statement d) = statement_first d

  pub items_first : {bs : Statements} {ts rest : List Token} → SpellsStatements names texts bs ts rest → first_is begins_item ts ≡ true
  items_first (last_statement d) = item_first d
  items_first (more_statements d l) = item_first d
