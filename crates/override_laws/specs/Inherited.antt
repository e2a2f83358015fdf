-- What inheriting without fault says of the methods of a core program: one with a body stands for an abstract one that
-- a class inherits beside it (JLS 8.4.8).
use Rattle.std.specs.Prelude.{◌≡◌, ℕ, ◌&&◌, ◌⊎◌, true, false, List}
use Rattle.je_base.specs.declared.span.Span.{Span}
use Rattle.je_core.specs.Core.{CoreMethod, CoreProgram}
use Rattle.je_classes.specs.Dispatch.{same_signature}
use Rattle.je_classes.specs.Members.{In}
use Rattle.je_fitting.specs.Members.{StandsFor}
use Rattle.source_types.specs.Heads.{ClassHead}
use Rattle.declarations.specs.Declarations.{DeclaredClass}
use Rattle.je_typing.specs.Judged.{gives}
use Rattle.overriding.specs.Methods.{Method, inherited, is_same, overrides}
use Rattle.overriding.specs.Overrides.{good_implementations, no_inherited_clash}
use Rattle.name_typing.specs.Program.{Program}
use Rattle.fitting_laws.specs.Methods.{HasMethods}
use Rattle.fitting_laws.specs.Represented.{Represents}
use Rattle.override_laws.specs.Fitting.{AreGood, IsOfMethod}

-- No fault of overriding stands at what a class inherits.
pub record InheritsWell (heads : List ClassHead) (classes : List DeclaredClass) (c : ℕ) : Type 0 where
  pub span : Span
  pub implementations : good_implementations heads classes c span ≡ gives tt
  pub clashes : no_inherited_clash heads classes c span ≡ gives tt

module _ (p : Program) (program : CoreProgram) where
  -- An inherited method with a body stands for an inherited abstract one of its erased signature, or is overridden by
  -- it.
  abbrev pub ImplementationsStand : Type 0
  ImplementationsStand = Represents p program → HasMethods p program → ((d : ℕ) → AreGood p d) →
      (c : ℕ) → InheritsWell p.heads p.classes c →
      (m n : Method) → In (inherited p.heads p.classes c) m → In (inherited p.heads p.classes c) n →
      m.is_abstract ≡ false → n.is_abstract ≡ true → is_same m n ≡ false →
      (by k : CoreMethod) → IsOfMethod program m.holder m.place m.declared by →
      IsOfMethod program n.holder n.place n.declared k → same_signature by k ≡ true →
      (by.flags.is_static && k.flags.is_static) ≡ false →
      StandsFor program by k ⊎ (overrides p.heads p.classes n m ≡ true)
