-- What follows from no break of the rules on what a program uses, for a body and for the program, where the taming text enables no
-- wild member.
use Rattle.std.specs.Prelude.{◌≡◌, ℕ, true, false, not, List, [], Some, slice_get}
use Rattle.je_core.specs.declared.types.ClassId.{ClassId}
use Rattle.je_core.specs.Core.{CoreStmt, CoreInitializer, CoreMethod, CoreClass, CoreProgram}
use Rattle.je_classes.specs.Hierarchy.{class_at}
use Rattle.je_classes.specs.Members.{Member}
use Rattle.je_fitting.specs.Members.{is_guest}
use Rattle.je_fitting.specs.Types.{string}
use Rattle.plain_programs.specs.Nodes.{every_expression, every_statement}
use Rattle.plain_programs.specs.Plain.{has_finally, names_wild, joins_wild, Implements}
use Rattle.plain_programs.specs.Wild.{is_wild, is_wild_text}
use Rattle.taming_db.specs.Rows.{Row}
use Rattle.rule_breaks.specs.declared.breaks.Break.{Break}
use Rattle.rule_breaks.specs.Breaks.{Breaks, IsAmong, IsListOf}
use Rattle.node_rules.specs.Enabled.{may_use}
use Rattle.use_rules.specs.Programs.{program_breaks}
use Rattle.use_rules.specs.Statements.{statement_breaks}

-- no rule is broken
pub record IsUnbroken (breaks : Breaks) : Type 0 where
  pub none_among : (b : Break) → ¬ IsAmong b breaks

abbrev pub EnablesNoneWild : List Row → Type 0
EnablesNoneWild rows = (m : Member) → may_use rows false m ≡ true → is_wild m ≡ false

-- It has no `finally`, names no wild member, and joins no text by one; that of a String isn't wild.
pub record IsPlainBody (p : CoreProgram) (s : CoreStmt) : Type 0 where
  pub no_finally : every_statement (λ f. not (has_finally f)) s ≡ true
  pub no_wild_named : every_expression (λ f. not (names_wild f)) s ≡ true
  pub no_wild_joined : every_expression (λ f. not (joins_wild p f)) s ≡ true

abbrev pub UnbrokenBodiesArePlain : Type 0
UnbrokenBodiesArePlain = (p : CoreProgram) (rows : List Row) (s : CoreStmt) → EnablesNoneWild rows → is_wild_text p string ≡ false → IsUnbroken (statement_breaks p rows s) → IsPlainBody p s

-- What a program's own classes use is plain: each body, and each method of the library by which one implements that of an interface.
pub record UsesArePlain (p : CoreProgram) : Type 0 where
  pub methods : (class : ClassId) (c : CoreClass) (at : ℕ) (m : CoreMethod) (s : CoreStmt) → is_guest class ≡ true → class_at p class ≡ Some c → slice_get c.methods at ≡ Some m → m.body ≡ Some s → IsPlainBody p s
  pub initializers : (class : ClassId) (c : CoreClass) (at : ℕ) (i : CoreInitializer) → is_guest class ≡ true → class_at p class ≡ Some c → slice_get c.initializers at ≡ Some i → IsPlainBody p i.body
  pub implements : (class : ClassId) (m : Member) → Implements p class m → is_wild m ≡ false

abbrev pub UnbrokenUsesArePlain : Type 0
UnbrokenUsesArePlain = (p : CoreProgram) (rows : List Row) → EnablesNoneWild rows → is_wild_text p string ≡ false → IsUnbroken (program_breaks p rows) → UsesArePlain p

-- An empty list is that of a set without members.
abbrev pub EmptyListIsUnbroken : Type 0
EmptyListIsUnbroken = (breaks : Breaks) → IsListOf breaks [] → IsUnbroken breaks
