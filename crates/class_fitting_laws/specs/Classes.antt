-- What is known of a class of a source in the core program.
use Rattle.std.specs.Prelude.{◌≡◌, ℕ, true, List, [], Option, Some, None, codes}
use Rattle.je_base.specs.declared.span.NameId.{NameId}
use Rattle.je_core.specs.Core.{CoreProgram}
use Rattle.je_ast.specs.declared.name.Identifier.{Identifier}
use Rattle.je_classes.specs.Members.{In, names_constructors}
use Rattle.je_scopes.specs.Looks.{a_class}
use Rattle.je_scopes.specs.Sites.{Context}
use Rattle.je_core.specs.declared.types.ClassId.{ClassId}
use Rattle.source_types.specs.Erasure.{class_numbered}
use Rattle.header_typing.specs.Supers.{class_in}
use Rattle.library_classes.specs.Numbers.{number_in}
use Rattle.name_typing.specs.Accesses.{superclass_of}
use Rattle.name_typing.specs.Program.{Frame, LocalVariable, Program}
use Rattle.name_typing.specs.Qualified.{class_named}
use Rattle.body_types.specs.BodyTypes.{look_at}
use Rattle.class_typing.specs.Places.{member_frame}
use Rattle.fitting_laws.specs.Methods.{HasDefault}
use Rattle.fitting_laws.specs.Represented.{IsThere, LocalIsSound, StandRound}

-- The class and the bodies round it are there, with what names mean in its members. Constructors have their name.
pub record ClassStands (p : Program) (program : CoreProgram) (c : ℕ) (around : List Frame) : Type 0 where
  pub there : IsThere program c
  pub round : StandRound p program c around
  pub sound : (f : Frame) (v : LocalVariable) → In around f → In f.locals v → LocalIsSound p program v
  pub named : (context : Context) (x : NameId) (d : ℕ) →
      class_named p (member_frame c context None []) x ≡ a_class d → IsThere program d
  pub written : (context : Context) (parts : List Identifier) (d : ℕ) →
      look_at p (member_frame c context None []) parts ≡ a_class d → IsThere program d
  pub constructors : names_constructors program (number_in p.source.texts (codes "new")) ≡ true

-- the class directly above (JLS 8.1.4), if the source names one that there is
abbrev pub IsDirectlyAbove : Program → ℕ → Option ClassId → Type 0
IsDirectlyAbove p c superclass = (d : ℕ) → class_in (superclass_of p.heads c) ≡ Some d →
    superclass ≡ Some (class_numbered d)

-- What a constructor of the class may call at its head: default constructors stand where they are asked for
-- (JLS 8.8.7.1, 8.8.9).
pub record HeadCallsStand (p : Program) (program : CoreProgram) (c : ℕ) (superclass : Option ClassId) : Type 0 where
  pub above : IsDirectlyAbove p c superclass
  pub own_default : HasDefault p program c
  pub default_above : (d : ℕ) → class_in (superclass_of p.heads c) ≡ Some d → HasDefault p program d
