-- Each class of the library fits.
use Rattle.std.proofs.Common.{◌≡◌, Some, sym, subst, ◌∙◌}
use Rattle.std.specs.Prelude.{false, slice_get}
use Rattle.std.proofs.lemmas.Option.{same_Some}
use Rattle.je_core.specs.declared.types.ClassId.{ClassId}
use Rattle.je_core.specs.Core.{CoreProgram}
use Rattle.je_classes.specs.Laws.{SubtypesAreDecided}
use Rattle.je_table.specs.Library.{Class, classes}
use Rattle.je_fitting.specs.Members.{MethodFits, is_guest}
use Rattle.je_fitting.specs.Program.{FitsWhole, IsPart, Part, PartFits, a_field, a_method, field_fits, is_field, is_itself, is_method, itself, itself_fits, method_fits}
use Rattle.library_classes.specs.Library.{LibraryStands, class_due, method_due}
use Rattle.library_fits.specs.Laws.{LibraryFits}
use Rattle.library_fits.proofs.Classes.{class-fits}
use Rattle.library_fits.proofs.Members.{field-fits, library-row, mapped, method-fits}
use Rattle.library_fits.proofs.Table.{class-there}
use Rattle.library_fits.proofs.Tests.{methods_by}

module _ (decided : SubtypesAreDecided) (p : CoreProgram) (s : LibraryStands p) (k : ClassId) (c : Class) (there : slice_get classes k.0 ≡ Some c) (g : is_guest k ≡ false) where
  part-fits : (part : Part) → IsPart (class_due s.number k.0 c) part → PartFits p k (class_due s.number k.0 c) part
  part-fits itself is_itself = itself_fits (class-fits decided p s k c there g)
  part-fits (a_field at) (is_field {f = f} e) = field_fits e (field-fits decided p s k c there g at f e)
  part-fits (a_method at) (is_method {m = m} e) =
      let r = mapped (method_due s.number c) (methods_by c) at m e in
      method_fits e (subst (λ x. MethodFits p k (class_due s.number k.0 c) x) r.2 (method-fits decided p s k c there g at r.0 r.1))

pub library_fits : SubtypesAreDecided → LibraryFits
library_fits decided p s k class g there =
    let r = library-row k g in
    let is = same_Some (class_due s.number k.0 r.row) class (sym (class-there p s k r.row r.there) ∙ there) in
    subst (FitsWhole p k) is (record { parts = part-fits decided p s k r.row r.there g })
