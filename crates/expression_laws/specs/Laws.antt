-- Laws of reading expressions, over any reader of the height below that reads right.
use Rattle.std.specs.Prelude.{◌≡◌, ℕ, suc, ◌<◌, ◌≤◌, List, Some, IfSome, if◌then◌else◌}
use Rattle.je_base.specs.declared.span.Span.{Span}
use Rattle.je_token.specs.declared.token.Token.{Token}
use Rattle.je_ast.specs.Trees.{Expression, Expressions, Members}
use Rattle.je_ast.specs.Height.{height, heights}
use Rattle.je_grammar.specs.Operators.{level}
use Rattle.je_grammar.specs.Grammar.{Spells, SpellsArguments, SpellsArrayInit, SpellsInit}
use Rattle.je_token.specs.declared.symbol.Symbol.TheVariants as symbol
use Rattle.parse_laws.specs.way.Tokens.{is_symbol}
use Rattle.parse_laws.specs.way.Below.{Below}
use Rattle.parse_laws.specs.way.Readers.{IsBelow, IsRead, IsReader, reach, any}
use Rattle.parse_laws.specs.way.Expressions.{Closed, arguments_at, expression_layer, array_initializer_layer}
use Rattle.expression_laws.specs.way.Parts.{ReadTypes, ReadBodies}

-- what holds over each reader of the height below that reads right, with readers of class bodies and types
abbrev pub OverReaders : ((List (List ℕ)) → (List (List ℕ)) → ℕ → Below → (List Token → Closed Members) → Type 0) → Type 0
OverReaders Law = (names texts : List (List ℕ)) (h : ℕ) (p : Below) (body : List Token → Closed Members) → IsBelow names texts h p → ReadBodies names texts h body → ReadTypes h → Law names texts h p body

-- Each level of expressions is read right, one higher than below: what is read spells the tokens up to the rest and binds
-- as tightly as was asked, and what spells them is read, or something longer where the next token can go on with it.
abbrev pub ExpressionsAreRead : Type 0
ExpressionsAreRead = OverReaders (λ names texts h p body. (least : ℕ) → 0 < least → least ≤ 13 →
    IsReader (Spells names texts) height (λ e. least ≤ level e) (λ e rest. least ≤ reach rest) (suc h) (expression_layer texts h p body least))

-- Array initializers are read where they are spelled, and else nothing is.
abbrev pub ArrayInitializersAreSpelled : Type 0
ArrayInitializersAreSpelled = OverReaders (λ names texts h p body. (ts : List Token) →
    IfSome (array_initializer_layer texts h p body ts) (IsRead (SpellsArrayInit names texts) height any (suc h) ts))

abbrev pub ArrayInitializersAreRead : Type 0
ArrayInitializersAreRead = OverReaders (λ names texts h p body. (e : Expression) (ts rest : List Token) → SpellsArrayInit names texts e ts rest → height e ≤ suc h →
    array_initializer_layer texts h p body ts ≡ Some (e, rest))

-- An initializer is an array initializer where a brace stands first, and else an expression.
abbrev pub InitializersAreRead : Type 0
InitializersAreRead = OverReaders (λ names texts h p body.
    IsReader (SpellsInit names texts) height any (λ e rest. (1 ≤ level e) × (1 ≤ reach rest)) (suc h)
    (λ ts. if is_symbol symbol.OpenBrace ts then array_initializer_layer texts h p body ts else expression_layer texts h p body 1 ts))

-- Arguments are read where they are spelled, and else nothing is.
pub record AreArguments (names texts : List (List ℕ)) (most : ℕ) (ts : List Token) (x : Expressions × Span × List Token) : Type 0 where
  pub spelled : SpellsArguments names texts x.0 x.1 ts x.2
  pub within : heights x.0 ≤ most

abbrev pub ArgumentsAreSpelled : Type 0
ArgumentsAreSpelled = OverReaders (λ names texts h p body. (ts : List Token) → IfSome (arguments_at texts h p body ts) (AreArguments names texts h ts))

abbrev pub ArgumentsAreRead : Type 0
ArgumentsAreRead = OverReaders (λ names texts h p body. (es : Expressions) (c : Span) (ts rest : List Token) → SpellsArguments names texts es c ts rest → heights es ≤ h →
    arguments_at texts h p body ts ≡ Some (es, c, rest))
