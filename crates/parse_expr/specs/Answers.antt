-- What the reading calls answer: the longest tree that begins at a token, or where none begins.
use Rattle.std.specs.Prelude.{◌≡◌, ℕ, ◌-◌, ◌≤◌, min, List, length, drop}
use Rattle.je_base.specs.declared.span.Span.{Span}
use Rattle.je_token.specs.declared.token.Token.{Token}
use Rattle.je_ast.specs.declared.expr.Expr.{Expr}
use Rattle.je_ast.specs.declared.stmt.Stmt.{Stmt}
use Rattle.je_ast.specs.declared.decl.Member as node
use Rattle.je_ast.specs.declared.decl.Decl.{Decl}
use Rattle.je_ast.specs.View.{view, statement_view, member_view, declaration_view}
use Rattle.je_ast.specs.Height.{height, statement_height, member_height, declaration_height}
use Rattle.je_grammar.specs.Tokens.{first_span}
use Rattle.je_grammar.specs.Grammar.{Spells, SpellsBlockStatement, SpellsMember, SpellsDeclaration}
use Rattle.je_grammar.specs.Longest.{IsLongest}
use Rattle.je_lexer.specs.Lexing.{AreWhole}
use Rattle.je_lexer.specs.declared.file_tokens.Tokens.{Tokens}
use Rattle.parse_expr.specs.declared.fault.ParseFault.{ParseFault}
use Rattle.parse_expr.specs.declared.fault.ParseFault.TheVariants as fault

-- the greatest height of a tree
abbrev pub max_height : ℕ
max_height = 300

-- The last token of the file is its end, and what the tokens say of names and texts is there.
abbrev pub IsFile : Tokens → Type 0
IsFile f = AreWhole f.list.items f.names f.texts.items

-- the span of the token at the place, or of the file's end where none is left
abbrev pub fault_span : List Token → ℕ → Span
fault_span list from = first_span (drop (min from (length list - 1)) list)

-- The tree is the longest that begins at the token `from`, and the token at the place is the first behind it.
pub record IsLongestAt {T : Type 0} (spells : T → List Token → List Token → Type 0) (height_of : T → ℕ) (list : List Token) (from : ℕ) (t : T) (place : ℕ) : Type 0 where
  pub longest : IsLongest spells height_of max_height t (drop from list) (drop place list)
  pub inside : place ≤ length list

-- No tree begins at the token `from`, and the fault stands there.
pub record NoneBegins {T : Type 0} (spells : T → List Token → List Token → Type 0) (height_of : T → ℕ) (list : List Token) (from : ℕ) (span : Span) : Type 0 where
  pub none : (t : T) (rest : List Token) → spells t (drop from list) rest → ¬ (height_of t ≤ max_height)
  pub there : span ≡ fault_span list from

-- why nothing is given
abbrev pub IsUnread : {T : Type 0} → (T → List Token → List Token → Type 0) → (T → ℕ) → List Token → ℕ → ParseFault → Type 0
IsUnread spells height_of list from fault.Memory = Unit {0}
IsUnread spells height_of list from (fault.Syntax span) = NoneBegins spells height_of list from span

-- ---- of each call

abbrev pub ExpressionAt : Tokens → ℕ → Expr × ℕ → Type 0
ExpressionAt f from r = IsLongestAt (Spells f.names f.texts.items) height f.list.items from (view r.0) r.1

abbrev pub NoExpression : Tokens → ℕ → ParseFault → Type 0
NoExpression f from e = IsUnread (Spells f.names f.texts.items) height f.list.items from e

abbrev pub StatementAt : Tokens → ℕ → Stmt × ℕ → Type 0
StatementAt f from r = IsLongestAt (SpellsBlockStatement f.names f.texts.items) statement_height f.list.items from (statement_view r.0) r.1

abbrev pub NoStatement : Tokens → ℕ → ParseFault → Type 0
NoStatement f from e = IsUnread (SpellsBlockStatement f.names f.texts.items) statement_height f.list.items from e

abbrev pub MemberAt : Tokens → ℕ → node.Member × ℕ → Type 0
MemberAt f from r = IsLongestAt (SpellsMember f.names f.texts.items) member_height f.list.items from (member_view r.0) r.1

abbrev pub NoMember : Tokens → ℕ → ParseFault → Type 0
NoMember f from e = IsUnread (SpellsMember f.names f.texts.items) member_height f.list.items from e

abbrev pub DeclarationAt : Tokens → ℕ → Decl × ℕ → Type 0
DeclarationAt f from r = IsLongestAt (SpellsDeclaration f.names f.texts.items) declaration_height f.list.items from (declaration_view r.0) r.1

abbrev pub NoDeclaration : Tokens → ℕ → ParseFault → Type 0
NoDeclaration f from e = IsUnread (SpellsDeclaration f.names f.texts.items) declaration_height f.list.items from e
