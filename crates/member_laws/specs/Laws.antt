-- Laws of reading members and declarations, over any reader of the height below that reads right.
use Rattle.std.specs.Prelude.{◌≡◌, ℕ, suc, true, List, length, None, if◌then◌else◌}
use Rattle.je_token.specs.declared.token.Token.{Token}
use Rattle.je_ast.specs.Trees.{Statement, Declaration}
use Rattle.je_ast.specs.Trees as tree
use Rattle.je_ast.specs.Height.{member_height, declaration_height}
use Rattle.je_grammar.specs.Grammar.{SpellsMember, SpellsDeclaration, SpellsBlockStatement}
use Rattle.parse_laws.specs.way.Tokens.{Read}
use Rattle.parse_laws.specs.way.Below.{Below}
use Rattle.parse_laws.specs.way.Readers.{IsBelow, IsReader, any, never}
use Rattle.parse_laws.specs.way.Members.{class_body_at, declaration_layer, local_class_at, begins_local_class_at, member_layer}
use Rattle.expression_laws.specs.way.Parts.{ReadBodies}
use Rattle.member_laws.specs.way.Parts.{ReadStatements}

abbrev pub OverReaders : ((List (List ℕ)) → (List (List ℕ)) → ℕ → Below → Type 0) → Type 0
OverReaders Law = (names texts : List (List ℕ)) (h : ℕ) (p : Below) → IsBelow names texts h p → Law names texts h p

-- A class body with members of at most the height below is read where it is spelled, and else nothing is.
abbrev pub BodiesAreRead : Type 0
BodiesAreRead = OverReaders (λ names texts h p. ReadBodies names texts h (class_body_at texts names h p))

-- Declarations are read right, one higher than below.
abbrev pub DeclarationsAreRead : Type 0
DeclarationsAreRead = OverReaders (λ names texts h p. IsReader (SpellsDeclaration names texts) declaration_height any never (suc h) (declaration_layer texts names h p))

-- a local class as a statement of a block
abbrev pub SpellsLocalClass : (List (List ℕ)) → (List (List ℕ)) → Declaration → List Token → List Token → Type 0
SpellsLocalClass names texts d ts rest = SpellsBlockStatement names texts (tree.local_class d) ts rest

-- a class behind local modifiers, where one begins
abbrev pub local_class_where : (List (List ℕ)) → (List (List ℕ)) → ℕ → Below → List Token → Read Declaration
local_class_where texts names h p ts = if begins_local_class_at (length ts) ts then local_class_at texts names h p ts else None

-- Local classes are read right, one higher than below.
abbrev pub LocalClassesAreRead : Type 0
LocalClassesAreRead = OverReaders (λ names texts h p. IsReader (SpellsLocalClass names texts) declaration_height any never (suc h) (local_class_where texts names h p))

-- Where a local class is spelled, the words before it say so.
abbrev pub LocalClassesAreSeen : Type 0
LocalClassesAreSeen = (names texts : List (List ℕ)) (d : Declaration) (ts rest : List Token) → SpellsLocalClass names texts d ts rest → begins_local_class_at (length ts) ts ≡ true

-- Where they say so, nothing else is spelled as a statement of a block.
abbrev pub LocalClassesAreAlone : Type 0
LocalClassesAreAlone = (names texts : List (List ℕ)) (b : Statement) (ts rest : List Token) → SpellsBlockStatement names texts b ts rest → begins_local_class_at (length ts) ts ≡ true → (d : Declaration) × (b ≡ tree.local_class d)

-- Members are read right, one higher than below, with readers of variables and of blocks that read right.
abbrev pub MembersAreRead : Type 0
MembersAreRead = OverReaders (λ names texts h p. ReadStatements names texts h p → IsReader (SpellsMember names texts) member_height any never (suc h) (member_layer texts names h p))
