-- What of a class and of a method of a core program follows from headers and signatures without fault
-- (JLS 8.1.4, 8.1.5, 8.4, 8.8, 9.1.3, 9.4).
use Rattle.std.specs.Prelude.{◌≡◌, ℕ, List, true, not, ◌||◌, is_some}
use Rattle.je_base.specs.declared.span.Span.{Span}
use Rattle.source_types.specs.Heads.{ClassHead}
use Rattle.declarations.specs.Declarations.{DeclaredClass}
use Rattle.je_typing.specs.Judged.{gives}
use Rattle.overriding.specs.Overrides.{all_implemented}
use Rattle.override_laws.specs.Inherited.{InheritsWell}
use Rattle.je_core.specs.declared.types.ClassId.{ClassId}
use Rattle.je_core.specs.Core.{CoreClass, CoreMethod, CoreProgram}
use Rattle.je_classes.specs.Hierarchy.{class_at}
use Rattle.je_classes.specs.Members.{In}
use Rattle.je_fitting.specs.Classes.{SuperclassFits}
use Rattle.je_fitting.specs.Expressions.{is_constructor, is_interface_sort}
use Rattle.je_fitting.specs.Members.{ConstructorFits, is_interface}

-- It has a body, unless it is abstract or native, in an interface it is abstract, and a constructor is one. What it throws
-- is there.
pub record SignatureStands (program : CoreProgram) (class : CoreClass) (m : CoreMethod) : Type 0 where
  pub has_body : is_some m.body ≡ not (m.flags.is_abstract || m.flags.is_native)
  pub of_interface : is_interface_sort class.kind.sort ≡ true → m.flags.is_abstract ≡ true
  pub throws : (d : ClassId) → In m.throws d → is_some (class_at program d) ≡ true
  pub constructor : is_constructor program m ≡ true → ConstructorFits m

-- What stands above a class may stand there: a class that may be extended, and interfaces.
pub record HeaderStands (program : CoreProgram) (id : ClassId) (class : CoreClass) : Type 0 where
  pub superclass : SuperclassFits program id class class.superclass
  pub interfaces : (i : ClassId) → In class.interfaces i → is_interface (class_at program i) ≡ true

-- No fault stands at what a class inherits, and it has a body for each method, unless it is abstract.
pub record IsImplemented (heads : List ClassHead) (classes : List DeclaredClass) (c : ℕ) : Type 0 where
  pub inherits : InheritsWell heads classes c
  pub span : Span
  pub implemented : all_implemented heads classes c span ≡ gives tt
