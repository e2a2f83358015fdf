-- The fields of the classes of a source fit.
use Rattle.std.proofs.Common.{◌≡◌, ℕ, ◌<◌, ◌≤◌, Some, ap, ◌∙◌, subst, sym, arith}
use Rattle.std.specs.Prelude.{true, slice_get}
use Rattle.std.specs.List.{AllZip}
use Rattle.std.proofs.lemmas.Option.{slice_get_within}
use Rattle.je_core.specs.Core.{CoreClass, CoreField, CoreProgram}
use Rattle.je_classes.specs.Hierarchy.{class_at}
use Rattle.je_fitting.specs.Members.{is_interface}
use Rattle.je_fitting.specs.Types.{is_variable_type}
use Rattle.je_scopes.specs.Source.{Source}
use Rattle.source_types.specs.Erasure.{class_numbered}
use Rattle.name_typing.specs.Fields.{fields_of, member}
use Rattle.fitting_laws.proofs.Sound.{sound-variable}
use Rattle.class_typing.specs.Programs.{library_count}
use Rattle.elaborated_laws.specs.Elaborated.{IsElaborated}
use Rattle.elaborated_laws.proofs.Classes.{classes-count}
use Rattle.elaborated_laws.proofs.Fields.{Alike, own-alike}
use Rattle.elaborated_laws.proofs.Guests.{guest-declared, within-sites}
use Rattle.elaborated_laws.proofs.Lists.{in-got, beside-first}
use Rattle.judged_laws.proofs.InterfaceFields.{fields_are_static}
use Rattle.program_laws.specs.Laws.{FieldsFit}
use Rattle.program_laws.specs.Premises.{SourceIsSound, declared}
use Rattle.program_laws.proofs.Bodies.{represents}

module _ (source : Source) (program : CoreProgram) (e : IsElaborated source program) (sound : SourceIsSound source program e)
    (c : ℕ) (class : CoreClass) (le : library_count source ≤ c) (there : class_at program (class_numbered c) ≡ Some class) where
  alike : AllZip (Alike (declared source program e).heads) class.fields (fields_of (declared source program e).classes c)
  alike =
      let made = e.has.guests c class le there in
      let l = subst (λ n. c < n) e.has.count (slice_get_within program.classes c class there) in
      let within = within-sites source c le (subst (λ n. c < n) (classes-count source) l) in
      subst (λ (k : CoreClass). AllZip (Alike (declared source program e).heads) k.fields (fields_of (declared source program e).classes c))
      (sym made.is)
      (own-alike source e.first c (sound.sites.guests c le within) (guest-declared source c le within) sound.sites.constants
      made.done made.walked)

  pub field-variable : (at : ℕ) (f : CoreField) → slice_get class.fields at ≡ Some f → is_variable_type program f.ty ≡ true
  field-variable at f here =
      let b = beside-first (Alike (declared source program e).heads) class.fields (fields_of (declared source program e).classes c)
      at f alike here in
      ap (is_variable_type program) b.holds.type
      ∙ sound-variable program (declared source program e).heads (represents source program e sound).heads (omega arith)
      (sound.types.fields (member c at) b.element b.is)

pub fields_fit : (source : Source) (program : CoreProgram) (e : IsElaborated source program) → FieldsFit source program e
fields_fit source program e sound c class le there parts at f here =
    record {
      type = field-variable source program e sound c class le there at f here;
      of_interface = λ i. fields_are_static source program e sound.sites sound.interfaces c class le there
          (sym (ap is_interface there) ∙ i) at f here;
      constant = λ k. parts.constants f k (in-got class.fields at f here);
    }
