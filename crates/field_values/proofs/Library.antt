-- The constants of the library, class by class.
use Rattle.std.proofs.Common.{◌≡◌, ℕ, zero, suc, ◌<◌, ◌≤◌, ◌^◌, List, [], ◌∷◌, length, map, get_or, refl, sym, ap, ◌∙◌, subst, arith}
use Rattle.std.specs.Prelude.{Bool, true, false, Option, Some, None, option_map, slice_get, if◌then◌else◌}
use Rattle.std.specs.declared.vec.Vec.{Vec}
use Rattle.std.specs.declared.alloc.Global.{Global}
use Rattle.std.proofs.lemmas.List.{length-map}
use Rattle.std.proofs.lemmas.Option.{slice_get_past}
use Rattle.je_base.specs.declared.span.NameId.{NameId}
use Rattle.je_core.specs.declared.program.Class.{Class}
use Rattle.je_core.specs.Core.{CoreClass, CoreField}
use Rattle.je_core.specs.View.{class_view, field_view}
use Rattle.je_classes.specs.Members.{Member}
use Rattle.je_scopes.specs.Headers.{is_guest, site_at}
use Rattle.je_scopes.specs.Source.{Source}
use Rattle.je_scopes.proofs.Either.{by_either, within_or_past}
use Rattle.je_table.specs.Library as table
use Rattle.library_classes.specs.Library.{all_due, classes_due}
use Rattle.library_classes.specs.Numbers.{number_in}
use Rattle.name_typing.specs.Program as program
use Rattle.body_places.specs.declared.tables.Constant.{Constant}
use Rattle.body_places.specs.Tables.{constant_at, constant_in, constant_seen, values_in}
use Rattle.class_typing.specs.ConstantFields.{constant_of_field, fields_in, library_constants}
use Rattle.field_values.specs.way.Library.{constant_kept, constants_due}

length-due : (number : List ℕ → NameId) (at : ℕ) (cs : List table.Class) → length (classes_due number at cs) ≡ length cs
length-due number at [] = refl
length-due number at (c ∷ cs) = ap suc (length-due number (suc at) cs)

-- the number of each fits
pub few_classes : (number : List ℕ → NameId) (cs : List Class) → map class_view cs ≡ all_due number → length cs < 2 ^ 32
unfolding all_due
few_classes number cs e = omega (arith, length-map cs class_view, ap length e, length-due number 0 table.classes)

-- the fields of one of them
pub fields_there : (cs : List Class) (c : ℕ) (d : Class) → c < length cs → fields_in (slice_get (map class_view cs) c) ≡ map field_view (get_or cs c d).fields.items
fields_there [] c d l = absurd (omega arith)
fields_there (k ∷ cs) zero d l = refl
fields_there (k ∷ cs) (suc c) d l = fields_there cs c d (omega (arith, l))

abbrev pub joined : Option (Option program.Constant) → Option program.Constant
joined None = None
joined (Some constant) = constant

pub seen_at : (constants : List (Option Constant)) (at : ℕ) → constant_in (slice_get constants at) ≡ joined (slice_get (map (option_map constant_seen) constants) at)
seen_at [] at = refl
seen_at (None ∷ constants) zero = refl
seen_at (Some k ∷ constants) zero = refl
seen_at (k ∷ constants) (suc at) = seen_at constants at

kept-at : (fs : List CoreField) (at : ℕ) → joined (slice_get (map constant_kept fs) at) ≡ constant_of_field (slice_get fs at)
kept-at [] at = refl
kept-at (f ∷ fs) zero = refl
kept-at (f ∷ fs) (suc at) = kept-at fs at

due-at : (b : Bool) (fs : List CoreField) (at : ℕ) → joined (slice_get (if b then [] else map constant_kept fs) at) ≡ (if b then None else constant_of_field (slice_get fs at))
due-at true fs at = refl
due-at false fs at = kept-at fs at

abbrev no_constant : Option program.Constant
no_constant = None

none-either : (b : Bool) → no_constant ≡ (if b then None else None)
none-either true = refl
none-either false = refl

module _ (s : Source) (library : List Class) where
  abbrev due : List CoreClass → Member → Option program.Constant
  due cs m = if is_guest (site_at s.sites m.class.0).written then None else constant_of_field (slice_get (fields_in (slice_get cs m.class.0)) m.at)

  module _ (all : List (Vec (Option Constant) Global)) where
    within : (m : Member) →
        map (option_map constant_seen) (values_in (slice_get all m.class.0)) ≡ constants_due (site_at s.sites m.class.0).written (fields_in (slice_get (map class_view library) m.class.0)) →
        constant_at all m ≡ due (map class_view library) m
    within m here =
        seen_at (values_in (slice_get all m.class.0)) m.at
        ∙ ap (λ (constants : List (Option program.Constant)). joined (slice_get constants m.at)) here
        ∙ due-at (is_guest (site_at s.sites m.class.0).written) (fields_in (slice_get (map class_view library) m.class.0)) m.at

    past : (m : Member) → length all ≤ m.class.0 → length (map class_view library) ≤ m.class.0 → constant_at all m ≡ due (map class_view library) m
    past m l k =
        ap (λ (o : Option (Vec (Option Constant) Global)). constant_in (slice_get (values_in o) m.at)) (slice_get_past all m.class.0 l)
        ∙ none-either (is_guest (site_at s.sites m.class.0).written)
        ∙ sym (ap (λ (o : Option CoreClass). if is_guest (site_at s.sites m.class.0).written then None else constant_of_field (slice_get (fields_in o) m.at))
        (slice_get_past (map class_view library) m.class.0 k))

    pub library_is : map class_view library ≡ all_due (number_in s.texts) → length all ≡ length library →
        ((c : ℕ) → c < length library →
        map (option_map constant_seen) (values_in (slice_get all c)) ≡ constants_due (site_at s.sites c).written (fields_in (slice_get (map class_view library) c))) →
        constant_at all ≡ library_constants s
    unfolding library_constants
    library_is e whole each = (λ i. λ m. here m i) ∙ ap due e
      where
        here : (m : Member) → constant_at all m ≡ due (map class_view library) m
        here m = by_either (λ l. within m (each m.class.0 l))
            (λ l. past m (subst (λ (n : ℕ). n ≤ m.class.0) (sym whole) l) (subst (λ (n : ℕ). n ≤ m.class.0) (sym (length-map library class_view)) l))
            (within_or_past m.class.0 (length library))
