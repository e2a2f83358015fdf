-- An elaborated program represents what its source declares.
use Rattle.std.proofs.Common.{◌≡◌, ℕ, ◌<◌, List, length, Some, sym, ap, ◌∙◌, subst, arith}
use Rattle.std.specs.Prelude.{true, codes, is_some}
use Rattle.std.specs.Str.{bytes_eq}
use Rattle.std.proofs.lemmas.List.Quantifiers.{position-Some}
use Rattle.je_core.specs.Core.{CoreProgram}
use Rattle.je_classes.specs.Hierarchy.{class_at, library_class, object_class, supers_in}
use Rattle.je_table.specs.declared.classes.LibraryClass.TheVariants as class
use Rattle.je_table.specs.Library.{Class, class_number, class_row, classes as rows}
use Rattle.je_scopes.specs.Source.{Source, full_text}
use Rattle.library_classes.specs.Library.{all_due, class_due}
use Rattle.fitting_laws.specs.Represented.{IsThere}
use Rattle.class_typing.specs.Programs.{classes, library_count, number, plain_program}
use Rattle.elaborated_laws.specs.Elaborated.{IsElaborated}
use Rattle.elaborated_laws.specs.Laws.{ClassesAreThere, ConstructorsAreNamed, MethodsAreThere, SourcesAreRepresented}
use Rattle.elaborated_laws.proofs.Classes.{classes-count}
use Rattle.elaborated_laws.proofs.Declared.{in-library, library-many}
use Rattle.elaborated_laws.proofs.Fields.{fields_stand}
use Rattle.elaborated_laws.proofs.Heads.{kinds_stand}
use Rattle.elaborated_laws.proofs.Lists.{placed}
use Rattle.elaborated_laws.proofs.Methods.{methods_stand, names-new, nat-itself}
use Rattle.elaborated_laws.proofs.Supers.{supers_stand}

module _ (source : Source) (program : CoreProgram) (e : IsElaborated source program) where
  pub is-there : (c : ℕ) → c < length (classes source) → IsThere program c
  is-there c l = ap is_some (placed program.classes c (subst (λ n. c < n) (sym e.has.count) l)).is

  library-there : (c : ℕ) → c < library_count source → IsThere program c
  library-there c l = ap is_some (e.has.library c l ∙ (in-library source c l).due)

  within-there : (c : ℕ) → c < length source.sites → IsThere program c
  within-there c l = is-there c (omega (arith, classes-count source, l))

  few : (c : ℕ) → c < 39 → c < library_count source
  few c l = let m : library_count source ≡ 39 = library-many source in omega (arith, m, l)

  object-there : class_at program object_class ≡ Some (class_due (number source) 0 (class_row class.Object))
  unfolding object_class library_class all_due
  object-there = e.has.library 0 (few 0 (omega arith))

  string-there : is_some (class_at program (library_class (codes "java.lang.String"))) ≡ true
  unfolding library_class
  string-there = library-there 1 (few 1 (omega arith))

  numbered : (text : List ℕ) (c : ℕ) → class_number text ≡ Some c → c < library_count source
  numbered text c h =
      let within = (position-Some (λ (k : Class). bytes_eq k.name text) rows c (class_row class.Object) h).0 in
      few c within

pub sources_represented : (source : Source) (program : CoreProgram) (e : IsElaborated source program) →
    SourcesAreRepresented source program e
unfolding plain_program
sources_represented source program e sites named variables sound = record {
  heads = record {
    supers = supers_stand source program e named;
    bounds = variables.bounds;
    variables = variables.erased_alike;
  };
  sound = sound.heads;
  top = ap supers_in (object-there source program e);
  object = ap is_some (object-there source program e);
  string = string-there source program e;
  kinds = kinds_stand source program e;
  fields = fields_stand source program e sites;
  field_types = sound.fields;
  constants = sound.constants;
  members = λ x c d h. within-there source program e d (sites.members x c d h);
  library = λ parts c h. library-there source program e c (numbered source program e (full_text source.texts parts) c h);
}

pub methods_there : (source : Source) (program : CoreProgram) (e : IsElaborated source program) → MethodsAreThere source program e
methods_there source program e sites words sound concrete = record {
  methods = methods_stand source program e sites words;
  sound = sound.sound;
  parameters = sound.parameters;
  concrete = concrete;
}

pub classes_there : (source : Source) (program : CoreProgram) (e : IsElaborated source program) → ClassesAreThere source program e
classes_there source program e c l = within-there source program e c l

pub constructors_named : (source : Source) (program : CoreProgram) (e : IsElaborated source program) →
    ConstructorsAreNamed source program e
constructors_named source program e =
    names-new source program e (number source (codes "new")) ∙ nat-itself (number source (codes "new")).0
