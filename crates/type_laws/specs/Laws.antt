-- What a reading function gives at the front of a list of tokens, beside what a relation of the grammar spells there.
use Rattle.std.specs.Prelude.{◌≡◌, ℕ, ◌<◌, ◌≤◌, ◌⊎◌, Bool, true, false, ◌||◌, List, length, Option, Some, IfSome}
use Rattle.je_base.specs.declared.span.Span.{Span}
use Rattle.je_token.specs.declared.keyword.Keyword.TheVariants as word
use Rattle.je_token.specs.declared.symbol.Symbol.TheVariants as symbol
use Rattle.je_token.specs.declared.token.Token.{Token}
use Rattle.je_ast.specs.Types.{TypeName, FormalParameter, type_height}
use Rattle.je_grammar.specs.Types.{SpellsTypeName, has_arguments}
use Rattle.parse_laws.specs.way.Tokens.{Read, is_some, is_symbol, is_word}
use Rattle.parse_laws.specs.way.Types.{part_at, pair_at, modifier_at}
use Rattle.parse_laws.specs.way.Readers.{Reads}

-- the tree spells the tokens up to the rest, and is of at most this height
abbrev pub Within : {T : Type 0} → (T → List Token → List Token → Type 0) → (T → ℕ) → ℕ → T → List Token → List Token → Type 0
Within spells height_of most t ts rest = spells t ts rest × (height_of t ≤ most)

-- What is read spells the tokens up to the rest.
abbrev pub Sound : {T : Type 0} → (T → List Token → List Token → Type 0) → (List Token → Read T) → Type 0
Sound spells read = (ts : List Token) → IfSome (read ts) (λ x. spells x.0 ts x.1)

-- Each tree that spells the tokens up to a rest is what is read, or the rest goes on with it and something longer is read.
abbrev pub Exact : {T : Type 0} → (T → List Token → List Token → Type 0) → (List Token → Bool) → (List Token → Read T) → Type 0
Exact {T} spells goes_on read = (t : T) (ts rest : List Token) → spells t ts rest → Reads (read ts) t rest (goes_on rest ≡ true)

-- Each tree that spells the tokens up to a rest is what is read, where the rest doesn't go on with it.
abbrev pub Complete : {T : Type 0} → (T → List Token → List Token → Type 0) → (List Token → Bool) → (List Token → Read T) → Type 0
Complete {T} spells goes_on read = (t : T) (ts rest : List Token) → spells t ts rest → goes_on rest ≡ false → read ts ≡ Some (t, rest)

-- what is read is this tree with this rest, or leaves fewer tokens
abbrev pub IsAsLong : {T : Type 0} → T → List Token → T × List Token → Type 0
IsAsLong t rest x = (x ≡ (t, rest)) ⊎ (length x.1 < length rest)

-- What is read, if anything, is as long as each tree that spells the tokens up to a rest, and no other one than it where
-- it is no longer.
abbrev pub Longest : {T : Type 0} → (T → List Token → List Token → Type 0) → (List Token → Read T) → Type 0
Longest {T} spells read = (t : T) (ts rest : List Token) → spells t ts rest → IfSome (read ts) (IsAsLong t rest)

-- No two trees spell the same tokens up to a rest that goes on with neither.
abbrev pub Unique : {T : Type 0} → (T → List Token → List Token → Type 0) → (List Token → Bool) → Type 0
Unique {T} spells goes_on = (t u : T) (ts rest : List Token) → spells t ts rest → spells u ts rest → goes_on rest ≡ false → t ≡ u

-- What is passed over is a tree that spells the tokens before it.
abbrev pub PassesSpelled : {T : Type 0} → (T → List Token → List Token → Type 0) → (List Token → Option (List Token)) → Type 0
PassesSpelled {T} spells past = (ts : List Token) → IfSome (past ts) (λ rest. (t : T) × spells t ts rest)

-- Each tree that spells the tokens up to a rest is passed over, where the rest doesn't go on with it.
abbrev pub PassesEach : {T : Type 0} → (T → List Token → List Token → Type 0) → (List Token → Bool) → (List Token → Option (List Token)) → Type 0
PassesEach {T} spells goes_on past = (t : T) (ts rest : List Token) → spells t ts rest → goes_on rest ≡ false → past ts ≡ Some rest

-- this tree with this rest, or, where the rest goes on with it, something that leaves fewer tokens
abbrev pub IsExact : {T : Type 0} → Bool → T → List Token → T × List Token → Type 0
IsExact goes_on t rest x = (x ≡ (t, rest)) ⊎ ((length x.1 < length rest) × (goes_on ≡ true))

-- the same for brackets, their number and the span that they come to
abbrev pub IsExactDims : Bool → ℕ → Span → List Token → ℕ × Span × List Token → Type 0
IsExactDims goes_on n e rest y = (y ≡ (n, e, rest)) ⊎ ((length y.2 < length rest) × (goes_on ≡ true))

-- (Prim | Name) Dims: a type without type arguments
abbrev pub SpellsPlainType : TypeName → List Token → List Token → Type 0
SpellsPlainType t ts rest = SpellsTypeName t ts rest × (has_arguments t ≡ false)

-- the height of a formal parameter's type, without the brackets behind its name
abbrev pub declared_height : FormalParameter → ℕ
declared_height f = type_height f.declared

-- What goes on with a tree that ends before these tokens.

-- "." id
abbrev pub names_on : List Token → Bool
names_on rest = is_some (part_at rest)

-- "[" "]"
abbrev pub dims_on : List Token → Bool
dims_on rest = is_some (pair_at rest)

abbrev pub references_on : List Token → Bool
references_on rest = names_on rest || is_symbol symbol.Less rest

abbrev pub types_on : List Token → Bool
types_on rest = references_on rest || dims_on rest

abbrev pub plain_types_on : List Token → Bool
plain_types_on rest = names_on rest || dims_on rest

abbrev pub throws_on : List Token → Bool
throws_on rest = is_word word.Throws rest || (names_on rest || is_symbol symbol.Comma rest)

abbrev pub extends_on : List Token → Bool
extends_on rest = is_word word.Extends rest || references_on rest

abbrev pub extends_all_on : List Token → Bool
extends_all_on rest = is_word word.Extends rest || (references_on rest || is_symbol symbol.Comma rest)

abbrev pub implements_on : List Token → Bool
implements_on rest = is_word word.Implements rest || (references_on rest || is_symbol symbol.Comma rest)

abbrev pub parameters_on : List Token → Bool
parameters_on rest = is_symbol symbol.Less rest

-- `final`
abbrev pub final_on : List Token → Bool
final_on rest = is_word word.Final rest

-- nothing goes on
abbrev pub never : List Token → Bool
never rest = false

-- a modifier
abbrev pub modifiers_on : List (List ℕ) → List Token → Bool
modifiers_on names rest = is_some (modifier_at names rest)
