-- Where static fields and constant strings stand.
use Rattle.std.proofs.Common.{◌≡◌, ℕ, zero, suc, ◌+◌, ◌<◌, List, [], ◌∷◌, ◌++◌, length, take, get_or, Option, Some, None, refl, sym, ap, subst, ◌∙◌, arith, length-append}
use Rattle.std.specs.Prelude.{Bool, true, false, filter, count_by, slice_get, option_map, if◌then◌else◌}
use Rattle.std.specs.List.{flat_map, sum_by}
use Rattle.std.proofs.lemmas.List.{length-map}
use Rattle.std.proofs.lemmas.List.Sums.{sum_by-cons, length-filter}
use Rattle.std.proofs.lemmas.Option.{same_Some, slice_get-map, slice_get_within, slice_get-get_or}
use Rattle.je_base.specs.Names.{place_of}
use Rattle.je_core.specs.declared.types.Ty.{Ty}
use Rattle.je_core.specs.declared.value.Value.{Value}
use Rattle.je_core.specs.declared.value.Value.TheVariants.{Null}
use Rattle.je_core.specs.Core.{CoreField, CoreClass}
use Rattle.je_classes.specs.Fields.{fields_in}
use Rattle.je_classes.specs.Hierarchy.{class_at}
use Rattle.je_classes.specs.Statics.{is_static, static_count, statics_before, static_after, static_place_in}
use Rattle.je_base.proofs.Numbering.{place-text}
use Rattle.je_java.specs.Classes.{statics_of}
use Rattle.je_fitting.proofs.ClassesDecided.{at-place}
use Rattle.je_sound.specs.Laws.{StaticsAreTyped, TextsAreThere}
use Rattle.je_sound.specs.Objects.{field_type}
use Rattle.je_sound.specs.Values.{ValueFits}
use Rattle.je_sound.specs.Worlds.{static_types_of, static_types, IsText}
use Rattle.je_sound.proofs.Kept.{kept-at}
use Rattle.je_sound.proofs.Lists.{in-front, behind, zip-length}

types-count : (c : CoreClass) → length (static_types_of c) ≡ static_count c
types-count c = length-map (filter is_static c.fields) field_type ∙ length-filter is_static c.fields

-- the type of a class's own static field
own-type : (c : CoreClass) (at : ℕ) (g : CoreField) → slice_get c.fields at ≡ Some g → is_static g ≡ true → slice_get (static_types_of c) (count_by is_static (take at c.fields)) ≡ Some g.ty
own-type c at g e s = slice_get-map field_type (filter is_static c.fields) (count_by is_static (take at c.fields)) ∙ ap (option_map field_type) (kept-at is_static c.fields at g e s)

-- and among those of all classes
among-all : (cs : List CoreClass) (n : ℕ) (c : CoreClass) (k : ℕ) (t : Ty) → slice_get cs n ≡ Some c → slice_get (static_types_of c) k ≡ Some t →
    slice_get (flat_map static_types_of cs) (sum_by static_count (take n cs) + k) ≡ Some t
among-all [] n c k t e h = absurd cc
among-all (x ∷ cs) zero c k t e h =
    let z : sum_by static_count (take 0 (x ∷ cs)) + k ≡ k = omega arith in
    ap (slice_get (flat_map static_types_of (x ∷ cs))) z ∙ in-front (static_types_of x) (flat_map static_types_of cs) k t (ap (λ (y : CoreClass). slice_get (static_types_of y) k) (same_Some x c e) ∙ h)
among-all (x ∷ cs) (suc n) c k t e h =
    let s : sum_by static_count (x ∷ take n cs) ≡ static_count x + sum_by static_count (take n cs) = sum_by-cons static_count x (take n cs) in
    let l : length (static_types_of x) ≡ static_count x = types-count x in
    let z : sum_by static_count (x ∷ take n cs) + k ≡ length (static_types_of x) + (sum_by static_count (take n cs) + k) = omega (arith, s, l) in
    ap (slice_get (static_types_of x ++ flat_map static_types_of cs)) z ∙ behind (static_types_of x) (flat_map static_types_of cs) (sum_by static_count (take n cs) + k) ∙ among-all cs n c k t e h

pub statics_are_typed : StaticsAreTyped
statics_are_typed p class at place g e s = by (class_at p class) refl e s
  where
    at-field : (c : CoreClass) → class_at p class ≡ Some c → slice_get c.fields at ≡ Some g → (b : Bool) → g.is_static ≡ b →
        (if b then Some (statics_before p class.0 + count_by is_static (take at c.fields)) else None) ≡ Some place → slice_get (static_types p) place ≡ Some g.ty
    at-field c q h true b i = subst (λ n. slice_get (static_types p) n ≡ Some g.ty) (same_Some _ _ i)
        (among-all p.classes class.0 c (count_by is_static (take at c.fields)) g.ty q (own-type c at g h b))
    at-field c q h false b i = absurd cc

    by : (o : Option CoreClass) → class_at p class ≡ o → slice_get (fields_in o) at ≡ Some g → static_place_in p class o at ≡ Some place → slice_get (static_types p) place ≡ Some g.ty
    by None q h i = absurd cc
    by (Some c) q h i = at-field c q h g.is_static refl (ap (λ f. static_after f (statics_before p class.0 + count_by is_static (take at c.fields))) (sym h) ∙ i)

-- ---- constant strings

types-before : (cs : List CoreClass) → length (flat_map static_types_of cs) ≡ sum_by static_count cs
types-before [] = refl
types-before (c ∷ cs) =
    let l : length (static_types_of c ++ flat_map static_types_of cs) ≡ length (static_types_of c) + length (flat_map static_types_of cs) = length-append (static_types_of c) (flat_map static_types_of cs) in
    let s : sum_by static_count (c ∷ cs) ≡ static_count c + sum_by static_count cs = sum_by-cons static_count c cs in
    let k : length (static_types_of c) ≡ static_count c = types-count c in
    let h : length (flat_map static_types_of cs) ≡ sum_by static_count cs = types-before cs in
    omega (arith, l, s, k, h)

pub texts_are_there : TextsAreThere
texts_are_there p world units at f e = by (place_of p.texts units) refl e
  where
    fields-count : length f.fields ≡ statics_of p.classes
    fields-count = sym (zip-length (ValueFits p world.objects) (static_types p) f.fields f.fields_fit) ∙ types-before p.classes

    at-text : (n : ℕ) → slice_get p.texts n ≡ Some units → statics_of p.classes + n ≡ at → (value : Value) × (slice_get world.statics at ≡ Some value) × IsText world.objects value
    at-text n q h =
        let within : n < length p.texts = slice_get_within p.texts n units q in
        let count : length f.texts ≡ length p.texts = f.texts_count in
        let there = slice_get-get_or f.texts n Null (omega (arith, within, count)) in
        let value = get_or f.texts n Null in
        let place : at ≡ length f.fields + n = omega (arith, fields-count, h) in
        (value, ap (λ vs. slice_get vs at) f.statics ∙ ap (slice_get (f.fields ++ f.texts)) place ∙ behind f.fields f.texts n ∙ there, at-place (IsText world.objects) f.texts n value f.are_texts there)

    by : (o : Option ℕ) → place_of p.texts units ≡ o → option_map (λ n. statics_of p.classes + n) o ≡ Some at → (value : Value) × (slice_get world.statics at ≡ Some value) × IsText world.objects value
    by None q h = absurd cc
    by (Some n) q h = at-text n (place-text p.texts units n q) (same_Some _ _ h)
