-- A fault for each checked exception that is neither caught nor declared, and for each catch that takes nothing (JLS 11.2.3, 14.21).
use Rattle.std.specs.Prelude.{Bool, not, ◌&&◌, ◌||◌, List, [], ◌∷◌, ◌++◌, codes}
use Rattle.std.specs.List.{list_any}
use Rattle.je_base.specs.declared.span.Span.{Span}
use Rattle.je_core.specs.declared.types.ClassId.{ClassId}
use Rattle.je_core.specs.Core.{CoreCatches, CoreProgram, catch, no_catches, more_catches}
use Rattle.je_classes.specs.Hierarchy.{library_class, is_below, same_class}
use Rattle.flow_base.specs.declared.faults.FaultKind.TheVariants as kind
use Rattle.flow_base.specs.FaultSets.{Faults, none, ◌∪◌, fault_where}
use Rattle.reported_exceptions.specs.declared.throws.Throw.{Throw}
use Rattle.reported_exceptions.specs.Throws.{is_checked}

unfoldable pub throwable : ClassId
throwable = library_class (codes "java.lang.Throwable")

unfoldable pub exception : ClassId
exception = library_class (codes "java.lang.Exception")

-- at or below a class of these
abbrev pub is_below_one : CoreProgram → List ClassId → ClassId → Bool
is_below_one p classes class = list_any (λ c. is_below p class c) classes

-- What comes out of a body is declared: each that isn't is a fault, at the token that throws it.
abbrev pub unreported : CoreProgram → List ClassId → Throw → Faults
unreported p declared t = fault_where (not (is_below_one p declared t.class)) kind.Unreported t.at

-- Some exception of the class may come out: one of a class at, below or above it is thrown.
abbrev pub may_come : CoreProgram → List Throw → ClassId → Bool
may_come p thrown class = list_any (λ t. is_below p t.class class || is_below p class t.class) thrown

-- These may be thrown anywhere, as they have unchecked exceptions below them.
abbrev pub is_any : ClassId → Bool
is_any class = same_class class exception || same_class class throwable

abbrev pub is_never_thrown : CoreProgram → List Throw → ClassId → Bool
is_never_thrown p thrown class = is_checked p class && not (is_any class) && not (may_come p thrown class)

-- A catch behind one of the same class or of one above, and a catch of a checked class that the block doesn't throw.
abbrev pub takes_nothing : CoreProgram → List Throw → List ClassId → ClassId → Bool
takes_nothing p thrown earlier class = is_below_one p earlier class || is_never_thrown p thrown class

abbrev pub catch_fault : CoreProgram → List Throw → List ClassId → ClassId → Span → Faults
catch_fault p thrown earlier class at = fault_where (takes_nothing p thrown earlier class) kind.Unreachable at

-- of each catch of a `try`, at its type
abbrev pub catch_faults : CoreProgram → List Throw → List ClassId → CoreCatches → Faults
catch_faults p thrown earlier no_catches = none
catch_faults p thrown earlier (more_catches (catch local class span body) cs) =
    catch_fault p thrown earlier class span ∪ catch_faults p thrown (earlier ++ class ∷ []) cs
