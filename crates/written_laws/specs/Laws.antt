-- What files are read as is written as the grammar has it (JLS 18): trees that tokens spell, the units of files, and
-- the classes of their source, those in bodies among them.
use Rattle.std.specs.Prelude.{ℕ, List, All}
use Rattle.je_token.specs.declared.token.Token.{Token}
use Rattle.je_ast.specs.Trees.{CompilationUnit, Declaration, Expression, Member, Statement}
use Rattle.je_grammar.specs.Grammar.{Spells, SpellsBlockStatement, SpellsDeclaration, SpellsMember}
use Rattle.je_scopes.specs.Headers.{members_in, site_at}
use Rattle.je_scopes.specs.Sites.{sites}
use Rattle.je_scopes.specs.Source.{source}
use Rattle.body_laws.specs.Written.{DeclarationIsWritten, IsWritten, MemberIsWritten, MembersAreWritten}
use Rattle.body_laws.specs.Written.{StatementIsWritten}
use Rattle.judged_laws.specs.Written.{HeadersAreWritten}
use Rattle.source_units.specs.Units.{AreUnitsOf}

-- ---- what tokens spell, over any names and texts

abbrev pub ExpressionsAreWritten : Type 0
ExpressionsAreWritten = (names texts : List (List ℕ)) (e : Expression) (ts rest : List Token) →
    Spells names texts e ts rest → IsWritten e

abbrev pub StatementsAreWritten : Type 0
StatementsAreWritten = (names texts : List (List ℕ)) (b : Statement) (ts rest : List Token) →
    SpellsBlockStatement names texts b ts rest → StatementIsWritten b

abbrev pub SpelledMembersAreWritten : Type 0
SpelledMembersAreWritten = (names texts : List (List ℕ)) (m : Member) (ts rest : List Token) →
    SpellsMember names texts m ts rest → MemberIsWritten m

abbrev pub DeclarationsAreWritten : Type 0
DeclarationsAreWritten = (names texts : List (List ℕ)) (d : Declaration) (ts rest : List Token) →
    SpellsDeclaration names texts d ts rest → DeclarationIsWritten d

-- ---- what files are read as

abbrev pub UnitIsWritten : CompilationUnit → Type 0
UnitIsWritten u = All DeclarationIsWritten u.declarations

abbrev pub UnitsAreWritten : Type 0
UnitsAreWritten = (files before : List (List ℕ)) (units : List CompilationUnit) (names : List (List ℕ)) →
    AreUnitsOf files before units names → All UnitIsWritten units

abbrev pub SourcesAreWritten : Type 0
SourcesAreWritten = (files before : List (List ℕ)) (units : List CompilationUnit) (names : List (List ℕ)) →
    AreUnitsOf files before units names → HeadersAreWritten (source names units)

-- of each class, wherever it is written
abbrev pub ClassesAreWritten : Type 0
ClassesAreWritten = (files before : List (List ℕ)) (units : List CompilationUnit) (names : List (List ℕ)) →
    AreUnitsOf files before units names → (c : ℕ) →
    MembersAreWritten (members_in (site_at (sites units) c).written)
