-- The faults of exceptions of classes and whole programs (JLS 11.2.3, 8.6, 8.7, 15.9.5.1).
use Rattle.std.specs.Prelude.{Bool, true, false, ◌&&◌, List, [], ◌∷◌, ◌++◌, map, Option, Some, None, if◌then◌else◌}
use Rattle.je_core.specs.declared.program.Sort.{Sort}
use Rattle.je_core.specs.declared.program.Sort.TheVariants as sort
use Rattle.je_core.specs.declared.types.ClassId.{ClassId}
use Rattle.je_core.specs.Core.{CoreStmt, CoreInitializer, CoreMethod, CoreClass, CoreProgram}
use Rattle.je_classes.specs.Members.{Member, names_constructors}
use Rattle.constructor_calls.specs.Calls.{implicitly_called}
use Rattle.flow_base.specs.FaultSets.{Faults, none, ◌∪◌, of_each}
use Rattle.reported_exceptions.specs.declared.throws.Throw.{Throw}
use Rattle.reported_exceptions.specs.Throws.{Throws, nothing, ◌also◌, out_of}
use Rattle.reported_exceptions.specs.Expressions.{call_throws}
use Rattle.reported_exceptions.specs.Handled.{unreported}
use Rattle.reported_exceptions.specs.Statements.{statement_throws, statement_faults}

abbrev pub is_anonymous_sort : Sort → Bool
is_anonymous_sort sort.Anonymous = true
is_anonymous_sort _ = false

abbrev pub is_anonymous : CoreClass → Bool
is_anonymous c = is_anonymous_sort c.kind.sort

abbrev pub class_of : Throw → ClassId
class_of t = t.class

-- what comes out where these are declared
abbrev pub all_unreported : CoreProgram → List ClassId → List Throw → Faults
all_unreported p declared thrown = of_each (unreported p declared) thrown

-- What instance initializers throw, each constructor declares.
abbrev pub declaring_faults : CoreProgram → List Throw → CoreMethod → Faults
declaring_faults p thrown m = if names_constructors p m.name then all_unreported p m.throws thrown else none

-- A superclass's constructor that one calls by no word of its own throws at the class (JLS 8.8.7, 8.8.9, 11.2.3).
abbrev pub implicit_throws : CoreProgram → CoreClass → Option Member → Throws
implicit_throws p c None = nothing
implicit_throws p c (Some called) = call_throws p called.class called.at c.span

abbrev pub implicit_faults : CoreProgram → CoreClass → CoreMethod → Faults
implicit_faults p c m = all_unreported p m.throws (out_of p (implicit_throws p c (implicitly_called p c.superclass m)))

module _ (p : CoreProgram) (makings : List (List ClassId)) where
  -- ---- of the static initializers of a class, and of the others

  abbrev pub initializer_throws : Bool → CoreInitializer → Throws
  initializer_throws true i = if i.is_static then statement_throws p makings i.body else nothing
  initializer_throws false i = if i.is_static then nothing else statement_throws p makings i.body

  abbrev pub initializers_throw : Bool → List CoreInitializer → Throws
  initializers_throw static [] = nothing
  initializers_throw static (i ∷ is) = initializer_throws static i also initializers_throw static is

  abbrev pub initializer_faults : Bool → CoreInitializer → Faults
  initializer_faults true i = if i.is_static then statement_faults p makings i.body else none
  initializer_faults false i = if i.is_static then none else statement_faults p makings i.body

  -- ---- the making of an object of an anonymous class

  abbrev pub constructor_throws : CoreMethod → Throws
  constructor_throws m = if names_constructors p m.name then of_body m.body else nothing where
    of_body : Option CoreStmt → Throws
    of_body None = nothing
    of_body (Some body) = statement_throws p makings body

  abbrev pub constructors_throw : List CoreMethod → Throws
  constructors_throw [] = nothing
  constructors_throw (m ∷ ms) = constructor_throws m also constructors_throw ms

  -- The initializers and the constructor of an anonymous class may throw anything: the `new` throws it.
  unfoldable pub making : CoreClass → List ClassId
  making c = if is_anonymous c then map class_of (out_of p (initializers_throw false c.initializers also constructors_throw c.methods)) else []

  -- ---- faults

  abbrev pub static_faults : List CoreInitializer → Faults
  static_faults is = of_each (initializer_faults true) is ∪ all_unreported p [] (out_of p (initializers_throw true is))

  abbrev pub instance_faults : Bool → CoreClass → Faults
  instance_faults anonymous c = of_each (initializer_faults false) c.initializers
      ∪ (if anonymous then none else of_each (declaring_faults p (out_of p (initializers_throw false c.initializers))) c.methods)

  -- of the body of a method, or of a constructor of an anonymous class
  abbrev pub body_faults : Bool → List ClassId → CoreStmt → Faults
  body_faults may_throw throws body =
      statement_faults p makings body ∪ (if may_throw then none else all_unreported p throws (out_of p (statement_throws p makings body)))

  abbrev pub method_faults : Bool → CoreMethod → Faults
  method_faults anonymous m = of_body m.body where
    of_body : Option CoreStmt → Faults
    of_body None = none
    of_body (Some body) = body_faults (anonymous && names_constructors p m.name) m.throws body

  unfoldable pub class_faults : CoreClass → Faults
  class_faults c = static_faults c.initializers ∪ instance_faults (is_anonymous c) c ∪ of_each (method_faults (is_anonymous c)) c.methods
      ∪ of_each (implicit_faults p c) c.methods

-- From the last class on, since an anonymous class stands behind the one in which its `new` does.
abbrev pub makings : CoreProgram → List CoreClass → List (List ClassId)
makings p [] = []
makings p (c ∷ cs) = makings p cs ++ making p (makings p cs) c ∷ []

abbrev pub classes_faults : CoreProgram → List CoreClass → Faults
classes_faults p [] = none
classes_faults p (c ∷ cs) = classes_faults p cs ∪ class_faults p (makings p cs) c

unfoldable pub program_faults : CoreProgram → Faults
program_faults p = classes_faults p p.classes
