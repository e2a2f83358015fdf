-- Strings: what fits String is a text.
use Rattle.std.proofs.Common.{◌≡◌, ℕ, List, [], ◌∷◌, Some, refl, ap, subst, ◌∙◌}
use Rattle.std.specs.Prelude.{true, false, codes}
use Rattle.std.proofs.lemmas.Option.{same_Some}
use Rattle.je_base.specs.declared.span.NameId.{NameId}
use Rattle.je_core.specs.declared.object.Obj.{Obj}
use Rattle.je_core.specs.declared.object.Obj.TheVariants.{Instance, Array, Text, Builder, Row, Cap}
use Rattle.je_core.specs.declared.types.ClassId.{ClassId}
use Rattle.je_core.specs.declared.value.ObjId.{ObjId}
use Rattle.je_core.specs.declared.value.Value.TheVariants as value
use Rattle.je_core.specs.Core.{CoreProgram}
use Rattle.je_table.specs.declared.classes.LibraryClass.TheVariants as class
use Rattle.je_table.specs.Library.{class_row}
use Rattle.je_classes.specs.Hierarchy.{library_class, object_class}
use Rattle.je_fitting.specs.Types.{string}
use Rattle.je_java.specs.LibraryClasses.{string_class}
use Rattle.je_java.specs.World.{World, class_in, units_in, units_of}
use Rattle.je_sound.specs.Objects.{throwable_class, token_class, const_row, int_row, text_row, device_interfaces, has_instances, is_row_class, is_device_interface, IsObject, an_instance, a_row, a_capability}
use Rattle.je_sound.specs.Values.{ValueFits}
use Rattle.je_sound.specs.Worlds.{Sound}
use Rattle.library_classes.specs.Library.{all_due, class_due, rows}
use Rattle.library_fits.proofs.Table.{apart}
use Rattle.eval_sound.proofs.Finals.{FinalDue, object-of}
use Rattle.eval_sound.proofs.Types.{Known}

-- String is final, no interface, and below Object and Comparable alone
string-due : (number : List ℕ → NameId) → FinalDue number string_class
unfolding library_class object_class string_class throwable_class token_class all_due rows
string-due number = record {
  class = class_due number 1 (class_row class.String);
  there = refl;
  final = refl;
  plain = refl;
  round = string_class ∷ object_class ∷ library_class (codes "java.lang.Comparable") ∷ [];
  is_round = record { closed = refl; among = refl };
  not_throwable = refl;
  not_object = refl;
  bare = refl;
}

no-row : is_row_class string_class ≡ false
unfolding library_class string_class const_row int_row text_row
no-row = refl

no-device : is_device_interface string_class ≡ false
unfolding library_class string_class device_interfaces
no-device = refl

module _ (p : CoreProgram) (known : Known p) where
  pub string-units : (world : World) (o : ObjId) → Sound p world → ValueFits p world.objects string (value.Ref o) → (units : List ℕ) × (units_of world.objects o.0 ≡ Some units)
  unfolding string_class
  string-units world o s f = let x = object-of p known string_class (string-due known.library.number) world o s f in
      let u = by x.no_instance x.object x.class x.kind in (u.0, ap units_in x.there ∙ u.1)
    where
      by : ¬ (has_instances p string_class ≡ true) → (x : Obj) → class_in (Some x) ≡ Some string_class → IsObject p x → (units : List ℕ) × (units_in (Some x) ≡ Some units)
      by none (Instance k slots) e (an_instance there made has) = absurd (none (subst (λ (x : ClassId). has_instances p x ≡ true) (same_Some k string_class e) has))
      by none (Array element slots) e k = absurd cc
      by none (Text units) e k = (units, refl)
      by none (Builder units) e k = (units, refl)
      by none (Row k slots) e (a_row there is) = apart (subst (λ (x : ClassId). is_row_class x ≡ true) (same_Some k string_class e) is) no-row
      by none (Cap device k) e (a_capability there is) = apart (subst (λ (x : ClassId). is_device_interface x ≡ true) (same_Some k string_class e) is) no-device
