-- The rules that no catch takes an error, and that no `finally` stands (JLS 14.20, 11.5): what is left half done by an error is seen by
-- nobody (Mettler, Wagner, Close, 'Joe-E: A Security-Oriented Subset of Java', NDSS 2010).
use Rattle.std.specs.Prelude.{Bool, ◌||◌, codes}
use Rattle.je_base.specs.declared.span.Span.{Span}
use Rattle.je_core.specs.declared.types.ClassId.{ClassId}
use Rattle.je_core.specs.Core.{MaybeStmt, CoreProgram, no_stmt, a_stmt}
use Rattle.je_classes.specs.Hierarchy.{is_below, library_class, same_class}
use Rattle.rule_breaks.specs.declared.rules.ConfinementRule.TheVariants as rule
use Rattle.rule_breaks.specs.Breaks.{Breaks, none, break_at, break_where}

unfoldable pub throwable : ClassId
throwable = library_class (codes "java.lang.Throwable")

unfoldable pub error : ClassId
error = library_class (codes "java.lang.Error")

-- Throwable, Error or a class below Error
abbrev pub takes_errors : CoreProgram → ClassId → Bool
takes_errors p class = same_class class throwable || is_below p class error

-- at the class's name in the catch
abbrev pub error_breaks : CoreProgram → ClassId → Span → Breaks
error_breaks p class span = break_where (takes_errors p class) rule.CatchError span

-- at the word `finally`
abbrev pub finally_breaks : Span → MaybeStmt → Breaks
finally_breaks word no_stmt = none
finally_breaks word (a_stmt s) = break_at rule.Finally word
