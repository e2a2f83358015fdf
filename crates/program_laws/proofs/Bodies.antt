-- The code of the classes of a source fits, with the constant strings of the program.
use Rattle.std.proofs.Common.{◌≡◌, ℕ, ◌≤◌, Some, ap, subst}
use Rattle.std.specs.Prelude.{is_some}
use Rattle.je_core.specs.Core.{CoreClass, CoreInitializer, CoreMethod, CoreProgram}
use Rattle.je_classes.specs.Hierarchy.{class_at}
use Rattle.je_classes.specs.Members.{In}
use Rattle.je_scopes.specs.Source.{Source}
use Rattle.source_types.specs.Erasure.{class_numbered}
use Rattle.fitting_laws.specs.Methods.{HasMethods}
use Rattle.fitting_laws.specs.Represented.{Represents}
use Rattle.typing_laws.specs.Fitting.{Gives}
use Rattle.class_typing.specs.Elaboration.{hidden_count}
use Rattle.class_typing.specs.Programs.{library_count, plain_program}
use Rattle.class_fitting_laws.specs.Classes.{ClassStands}
use Rattle.class_fitting_laws.specs.Fitting as members
use Rattle.class_fitting_laws.proofs.Unwritten.{class_members_fit}
use Rattle.elaborated_laws.specs.Elaborated.{IsElaborated, IsMade, captured_by}
use Rattle.elaborated_laws.proofs.ClassTexts.{texts_stand}
use Rattle.elaborated_laws.proofs.Representing.{constructors_named, methods_there, sources_represented}
use Rattle.judged_laws.proofs.Concrete.{methods_are_concrete}
use Rattle.program_laws.proofs.Sources.{heads-named, variables-sound}
use Rattle.program_laws.specs.Laws.{CodeFits}
use Rattle.program_laws.specs.Parts.{ClassCodeFits}
use Rattle.program_laws.specs.Premises.{BodiesStand, SourceIsSound, declared, known, named_first, round}

module _ (source : Source) (program : CoreProgram) (e : IsElaborated source program) (sound : SourceIsSound source program e) where
  pub represents : Represents (declared source program e) program
  represents = sources_represented source program e sound.sites (heads-named source program e sound) (variables-sound source program e sound) sound.types

  pub has-methods : HasMethods (declared source program e) program
  has-methods = methods_there source program e sound.sites sound.words sound.methods (methods_are_concrete source program e sound.sites)

  module _ (c : ℕ) (class : CoreClass) (le : library_count source ≤ c) (there : class_at program (class_numbered c) ≡ Some class)
      (bodies : BodiesStand source program e c) where
    made : IsMade source e.first c class
    made = e.has.guests c class le there

    class-stands : ClassStands (declared source program e) program c (round source program e c)
    unfolding plain_program
    class-stands = record {
      there = ap is_some there;
      round = bodies.scope.around;
      sound = bodies.scope.sound;
      named = bodies.scope.named;
      written = bodies.scope.written;
      constructors = constructors_named source program e;
    }

    done-fits : members.CodeFits program (class_numbered c) (named_first (declared source program e) c) made.done
    unfolding plain_program
    done-fits =
        subst (Gives (members.CodeFits program (class_numbered c) (named_first (declared source program e) c))) made.walked
        (class_members_fit (declared source program e) (known source program e) program c (round source program e c)
        (named_first (declared source program e) c) represents has-methods class-stands e.first.met (hidden_count source (captured_by source e.first) c)
        (sound.members c) bodies.written bodies.unwritten)

    initializer-fits : (i : CoreInitializer) → In class.initializers i →
        members.InitializerCodeFits program (class_numbered c) i
    initializer-fits i q = done-fits.initializers i (subst (λ (k : CoreClass). In k.initializers i) made.is q)

    method-fits : (m : CoreMethod) → In class.methods m →
        members.MethodCodeFits program (class_numbered c) (named_first (declared source program e) c) m
    method-fits m q = done-fits.methods m (subst (λ (k : CoreClass). In k.methods m) made.is q)

    class-fits : ClassCodeFits program (class_numbered c) class (named_first (declared source program e) c)
    class-fits = let texts = texts_stand source program e c class le there in record {
      initializers = λ i q. (initializer-fits i q).body program.texts (texts.initializers i q);
      initializer_locals = λ i q. (initializer-fits i q).locals;
      params = λ m q. (method-fits m q).params;
      locals = λ m q. (method-fits m q).locals;
      first_locals = λ m q. (method-fits m q).first_locals;
      bodies = λ m s q b. (method-fits m q).body s b program.texts (texts.methods m s q b);
    }

pub code_fits : (source : Source) (program : CoreProgram) (e : IsElaborated source program) → CodeFits source program e
code_fits source program e sound c class le there bodies = class-fits source program e sound c class le there bodies
