-- A new instance, its slots at their defaults.
use Rattle.std.proofs.Common.{◌≡◌, ℕ, zero, suc, List, [], ◌∷◌, map, Option, Some, None, refl, sym, ap, subst, ◌∙◌}
use Rattle.std.specs.Prelude.{true}
use Rattle.std.specs.List.{All}
use Rattle.std.proofs.lemmas.List.Elements.{All-nil, All-head, All-tail, All-append, All-filter}
use Rattle.std.proofs.lemmas.Option.{same_Some}
use Rattle.je_core.specs.Defaults.{default_of}
use Rattle.je_core.specs.declared.object.Obj.{Obj}
use Rattle.je_core.specs.declared.types.ClassId.{ClassId}
use Rattle.je_core.specs.declared.value.Value.{Value}
use Rattle.je_core.specs.Core.{CoreField, CoreClass, CoreProgram}
use Rattle.je_classes.specs.Hierarchy.{class_at}
use Rattle.je_classes.specs.Slots.{is_instance, own_slots, behind_above, fields_upwards, slot_fields, begin_as}
use Rattle.je_fitting.specs.Types.{is_variable_type}
use Rattle.je_fitting.specs.Program.{a_field, is_field, FitsProgram}
use Rattle.je_fitting.proofs.ClassesDecided.{field_of}
use Rattle.je_sound.specs.Laws.{FreshInstancesFit}
use Rattle.je_sound.specs.Objects.{an_instance, field_type}
use Rattle.je_sound.specs.Values.{ValuesFit}
use Rattle.je_sound.proofs.Lists.{all-places}
use Rattle.je_sound.proofs.Values.{defaults_fit}

module _ (p : CoreProgram) (f : FitsProgram p) where
  abbrev IsVariable : CoreField → Type 0
  IsVariable g = is_variable_type p g.ty ≡ true

  of-class : (class : ClassId) (c : CoreClass) → class_at p class ≡ Some c → All IsVariable c.fields
  of-class class c there = all-places IsVariable c.fields λ at g e. (field_of p class c at g e ((f class c there).parts (a_field at) (is_field e))).type

  upwards : (n : ℕ) (o : Option ClassId) → All IsVariable (fields_upwards p n o)
  upwards zero None = All-nil IsVariable
  upwards (suc n) None = All-nil IsVariable
  upwards zero (Some class) = All-nil IsVariable
  upwards (suc n) (Some class) = by (class_at p class) refl (upwards n)
    where
      by : (o : Option CoreClass) → class_at p class ≡ o → ((s : Option ClassId) → All IsVariable (fields_upwards p n s)) → All IsVariable (behind_above (fields_upwards p n) o)
      by None e more = All-nil IsVariable
      by (Some c) e more = All-append IsVariable (fields_upwards p n c.superclass) (own_slots c) (more c.superclass) (All-filter is_instance IsVariable c.fields (of-class class c e))

  slots-variable : (o : Option ClassId) → All IsVariable (slot_fields p o)
  unfolding slot_fields
  slots-variable o = upwards _ o

  begins : (objects : List Obj) (fs : List CoreField) → All IsVariable fs → ValuesFit p objects (map field_type fs) (map (λ (g : CoreField). default_of g.ty) fs)
  begins objects [] a = tt
  begins objects (g ∷ fs) a = (defaults_fit p objects g.ty (All-head IsVariable g fs a), begins objects fs (All-tail IsVariable g fs a))

pub fresh_instances_fit : FreshInstancesFit
fresh_instances_fit p objects class c slots f there made has e =
    let fs = slot_fields p (Some class) in
    let same : map (λ (g : CoreField). default_of g.ty) fs ≡ slots = same_Some _ _ (sym (ap (begin_as fs) there) ∙ e) in
    record {
      kind = an_instance there made has;
      slots = subst (λ (vs : List Value). ValuesFit p objects (map field_type fs) vs) same (begins p f objects fs (slots-variable p f (Some class)));
    }
