-- Laws of reading statements, over any reader of the height below that reads right.
use Rattle.std.specs.Prelude.{◌≡◌, ℕ, suc, ◌≤◌, Bool, true, false, ◌||◌, List, [], ◌∷◌, length, Some, IfSome}
use Rattle.je_token.specs.declared.keyword.Keyword.TheVariants as word
use Rattle.je_token.specs.declared.symbol.Symbol.{Symbol}
use Rattle.je_token.specs.declared.symbol.Symbol.TheVariants as symbol
use Rattle.je_token.specs.declared.token.Token.{Token}
use Rattle.je_grammar.specs.Tokens.{IsSymbol, IsIdentifier}
use Rattle.je_grammar.specs.Types.{SpellsTypeName}
use Rattle.je_grammar.specs.Context.{is_step}
use Rattle.je_base.specs.declared.span.Span.{Span}
use Rattle.je_ast.specs.Types.{TypeName}
use Rattle.je_ast.specs.Trees.{Expression, Expressions, Statement, Variables, Groups}
use Rattle.je_ast.specs.Trees as tree
use Rattle.je_ast.specs.Height.{height, heights, statement_height, variables_height, groups_height}
use Rattle.je_grammar.specs.Grammar.{Spells, SpellsMaybeSteps, SpellsCondition, SpellsGroups, SpellsVariables, SpellsStatement, SpellsBlockStatement}
use Rattle.parse_laws.specs.way.Tokens.{is_word}
use Rattle.parse_laws.specs.way.Types.{begins_local_at}
use Rattle.parse_laws.specs.way.Below.{Below}
use Rattle.parse_laws.specs.way.Readers.{IsBelow, IsRead, IsReader, SpellsBlockTree, block_tree_height, GoesOn, any, never}
use Rattle.parse_laws.specs.way.Statements.{condition_at, steps_before_at, groups_at, variables_at, block_layer, statement_layer, local_at}

-- what holds over each reader of the height below that reads right
abbrev pub OverReaders : ((List (List ℕ)) → (List (List ℕ)) → ℕ → Below → Type 0) → Type 0
OverReaders Law = (names texts : List (List ℕ)) (h : ℕ) (p : Below) → IsBelow names texts h p → Law names texts h p

-- What is read as variables spells the tokens up to the rest, and is no higher than below.
abbrev pub VariablesAreSpelled : Type 0
VariablesAreSpelled = OverReaders (λ names texts h p. (ts : List Token) →
    IfSome (variables_at h p ts) (IsRead (SpellsVariables names texts) variables_height any h ts))

-- Statements are read right, one higher than below: what is read spells the tokens up to the rest and is no higher than
-- was asked, and what spells them is read, or something longer where the next token goes on with it.
abbrev pub StatementsAreRead : Type 0
StatementsAreRead = OverReaders (λ names texts h p. IsReader (SpellsStatement names texts) statement_height any GoesOn (suc h) (statement_layer h p))

-- What is read as a declaration of local variables spells the tokens up to the rest, and is no higher than was asked.
abbrev pub LocalVariablesAreSpelled : Type 0
LocalVariablesAreSpelled = OverReaders (λ names texts h p. (ts : List Token) →
    IfSome (local_at h p ts) (IsRead (SpellsBlockStatement names texts) statement_height any (suc h) ts))

-- Variables that spell the tokens up to a semicolon are read, and so is a block that spells them up to any rest.
abbrev pub VariablesAreRead : Type 0
VariablesAreRead = OverReaders (λ names texts h p. (vs : Variables) (c : Token) (ts rest : List Token) → SpellsVariables names texts vs ts (c ∷ rest) → IsSymbol symbol.Semicolon c → variables_height vs ≤ h →
    variables_at h p ts ≡ Some (vs, c ∷ rest))

abbrev pub BlocksAreRead : Type 0
BlocksAreRead = OverReaders (λ names texts h p. IsReader (SpellsBlockTree names texts) block_tree_height any never (suc h) (block_layer h p))

-- A declaration of local variables is read where it is spelled.
abbrev pub LocalVariablesAreRead : Type 0
LocalVariablesAreRead = OverReaders (λ names texts h p. (f s : Span) (m : Bool) (t : TypeName) (vs : Variables) (ts rest : List Token) → SpellsBlockStatement names texts (tree.local f m t vs s) ts rest →
    statement_height (tree.local f m t vs s) ≤ suc h → local_at h p ts ≡ Some (tree.local f m t vs s, rest))

-- Conditions, steps up to their end, and the groups of a `switch` are read where they are spelled.
abbrev pub ConditionsAreRead : Type 0
ConditionsAreRead = OverReaders (λ names texts h p. (e : Expression) (ts rest : List Token) → SpellsCondition names texts e ts rest → height e ≤ h → condition_at h p ts ≡ Some (e, rest))

abbrev pub StepsAreRead : Symbol → Type 0
StepsAreRead y = OverReaders (λ names texts h p. (es : Expressions) (c : Token) (ts rest : List Token) → SpellsMaybeSteps names texts es ts (c ∷ rest) → IsSymbol y c → heights es ≤ h → steps_before_at h p y ts ≡ Some (es, rest))

abbrev pub GroupsAreRead : Type 0
GroupsAreRead = OverReaders (λ names texts h p. (gs : Groups) (c : Span) (ts rest : List Token) → SpellsGroups names texts gs c ts rest → groups_height gs ≤ h → groups_at h p (length ts) [] ts ≡ Some (gs, c, rest))

-- A step begins with no type before an identifier.
abbrev pub NoStepBeginsLocal : Type 0
NoStepBeginsLocal = (names texts : List (List ℕ)) (e : Expression) (t : TypeName) (k : Token) (ts rest all : List Token) → Spells names texts e ts rest → is_step e ≡ true → SpellsTypeName t ts (k ∷ all) → ¬ IsIdentifier k

-- No statement begins with `final` or with a type before an identifier, and each declaration of local variables does.
abbrev pub NoStatementBeginsLocal : Type 0
NoStatementBeginsLocal = (names texts : List (List ℕ)) (h : ℕ) (b : Statement) (ts rest : List Token) → SpellsStatement names texts b ts rest → (is_word word.Final ts || begins_local_at h ts) ≡ false

abbrev pub LocalVariablesBegin : Type 0
LocalVariablesBegin = (names texts : List (List ℕ)) (h : ℕ) (f s : Span) (m : Bool) (t : TypeName) (vs : Variables) (ts rest : List Token) → SpellsBlockStatement names texts (tree.local f m t vs s) ts rest →
    statement_height (tree.local f m t vs s) ≤ suc h → (is_word word.Final ts || begins_local_at h ts) ≡ true
