-- What the table of fields answers.
use Rattle.std.proofs.Common.{◌≡◌, ℕ, ◌+◌, ◌-◌, ◌<◌, ◌≤◌, List, length, take, Option, Some, None, refl, sym, ap, ◌∙◌, subst, arith, inl, inr}
use Rattle.std.specs.Prelude.{Bool, true, false, not, ◌⊎◌, filter, slice_get, unwrap_or, if◌then◌else◌}
use Rattle.std.specs.List.{count_by}
use Rattle.std.specs.Global.{Vec}
use Rattle.std.proofs.lemmas.Bool.{cases_lt}
use Rattle.std.proofs.lemmas.List.{length-take-le}
use Rattle.std.proofs.lemmas.List.Sums.{length-filter, count_by-le-length}
use Rattle.std.proofs.lemmas.List.Filters.{length-filter_both}
use Rattle.std.proofs.lemmas.Option.{same_Some, slice_get_past, slice_get_within}
use Rattle.je_core.specs.declared.types.ClassId.{ClassId}
use Rattle.je_core.specs.Core.{CoreField, CoreClass, CoreProgram}
use Rattle.je_classes.specs.Fields.{fields_in, fields_of}
use Rattle.je_classes.specs.Hierarchy.{class_at}
use Rattle.je_classes.specs.Slots.{is_instance, slot_fields, slot_after, field_slot_in, field_slot}
use Rattle.class_tables.specs.FieldTables.{first_slot_in, first_slot, IsFieldTableOf}
use Rattle.je_classes.specs.Statics.{is_static, statics_before, static_after, static_place_in, static_place}
use Rattle.class_tables.specs.declared.table.FieldTable.{FieldTable}
use Rattle.class_tables.specs.way.Order.{IsWhole}
use Rattle.class_tables.specs.way.Slots.{total_of, known, known_above, AreTotals, AreBefore, list_at, fields_at}
use Rattle.class_tables.proofs.StaticPlaces.{before-fits}
use Rattle.class_tables.proofs.Totals.{total-past, known-past, slots-few}

-- all totals are known
pub all-known : (p : CoreProgram) (order : List ClassId) (totals : List ℕ) → IsWhole p order → AreTotals p order totals → (c : ClassId) → known totals c ≡ total_of p c
all-known p order totals w t c = by (cases_lt c.0 (length p.classes))
  where
    by : (c.0 < length p.classes) ⊎ (length p.classes ≤ c.0) → known totals c ≡ total_of p c
    by (inl l) = t.each c (w.each c l) l
    by (inr l) = known-past totals c (let n = t.count in omega (arith, n, l)) ∙ sym (total-past p c (slice_get_past p.classes c.0 l))

pub above-is : (p : CoreProgram) (totals : List ℕ) → ((c : ClassId) → known totals c ≡ total_of p c) → (o : Option ClassId) → known_above totals o ≡ length (slot_fields p o)
unfolding slot_fields
above-is p totals f None = refl
above-is p totals f (Some c) = f c

not-instance : (f : CoreField) → is_static f ≡ not (is_instance f)
not-instance f = by f.is_static refl
  where
    by : (b : Bool) → f.is_static ≡ b → f.is_static ≡ not (if f.is_static then false else true)
    by true q = q ∙ ap (λ b. not (if b then false else true)) (sym q)
    by false q = q ∙ ap (λ b. not (if b then false else true)) (sym q)

-- so many fields are static ones
pub statics-are : (fs : List CoreField) (at : ℕ) → at ≤ length fs → at - count_by is_instance (take at fs) ≡ count_by is_static (take at fs)
statics-are fs at l =
    let x : length (filter is_instance (take at fs)) + length (filter is_static (take at fs)) ≡ length (take at fs) = length-filter_both is_instance is_static not-instance (take at fs) in
    let y : length (filter is_instance (take at fs)) ≡ count_by is_instance (take at fs) = length-filter is_instance (take at fs) in
    let z : length (filter is_static (take at fs)) ≡ count_by is_static (take at fs) = length-filter is_static (take at fs) in
    let w : length (take at fs) ≡ at = length-take-le at fs l in omega (arith, x, y, z, w)

-- what the lists of counts have
pub before-is : (p : CoreProgram) (before : List (Vec ℕ)) (c : ClassId) (k : CoreClass) (at : ℕ) → AreBefore p before → class_at p c ≡ Some k → at < length k.fields →
    list_at (slice_get before c.0) at ≡ Some (count_by is_instance (take at k.fields))
before-is p before c k at b e l = subst (λ o. at < length (fields_at o) → list_at (slice_get before c.0) at ≡ Some (count_by is_instance (take at (fields_at o)))) e
    (b.each c.0 at (slice_get_within p.classes c.0 k e)) l

take-few : (fs : List CoreField) (at : ℕ) → at ≤ length fs → count_by is_instance (take at fs) ≤ at
take-few fs at l =
    let y : count_by is_instance (take at fs) ≤ length (take at fs) = count_by-le-length is_instance (take at fs) in
    let z : length (take at fs) ≡ at = length-take-le at fs l in omega (arith, y, z)

-- a field of a class that is there
module _ (p : CoreProgram) (table : FieldTable) (t : IsFieldTableOf p table) (c : ClassId) (at : ℕ) (f : CoreField) (g : slice_get (fields_of p c) at ≡ Some f) where
  -- the class
  there : (o : Option CoreClass) → class_at p c ≡ o → slice_get (fields_in o) at ≡ Some f → (k : CoreClass) × (class_at p c ≡ Some k)
  there None e h = absurd cc
  there (Some k) e h = (k, e)

  own : (k : CoreClass) × (class_at p c ≡ Some k)
  own = there (class_at p c) refl g

  in-own : slice_get own.0.fields at ≡ Some f
  in-own = ap (λ o. slice_get (fields_in o) at) (sym own.1) ∙ g

  few : at < 2147483648
  few = let x : length own.0.fields < 2147483648 = t.few.fields c own.0 own.1 in let y : at < length own.0.fields = slice_get_within own.0.fields at f in-own in omega (arith, x, y)

  counted : unwrap_or (list_at (slice_get table.before.items c.0) at) 0 ≡ count_by is_instance (take at own.0.fields)
  counted = ap (λ o. unwrap_or o 0) (before-is p table.before.items c own.0 at t.before own.1 (slice_get_within own.0.fields at f in-own))

  pub rest-fits : unwrap_or (list_at (slice_get table.before.items c.0) at) 0 ≤ at
  rest-fits = let l : at < length own.0.fields = slice_get_within own.0.fields at f in-own in
      let y : count_by is_instance (take at own.0.fields) ≤ at = take-few own.0.fields at (omega (arith, l)) in omega (arith, y, counted)

  placed : unwrap_or (slice_get table.statics.items c.0) 0 ≡ statics_before p c.0
  placed = ap (λ o. unwrap_or o 0) (t.statics.each c.0 (slice_get_within p.classes c.0 own.0 own.1))

  pub place-fits : unwrap_or (slice_get table.statics.items c.0) 0 + (at - unwrap_or (list_at (slice_get table.before.items c.0) at) 0) < 4611686020574871552
  place-fits =
      let x : statics_before p c.0 < 4611686018427387904 = before-fits p t.few c.0 (let n = slice_get_within p.classes c.0 own.0 own.1 in omega (arith, n)) in
      omega (arith, x, few, placed)

  place-of : static_place p c at ≡ (if f.is_static then Some (statics_before p c.0 + count_by is_static (take at own.0.fields)) else None)
  place-of = ap (λ o. static_place_in p c o at) own.1 ∙ ap (λ o. static_after o (statics_before p c.0 + count_by is_static (take at own.0.fields))) in-own

  pub place-is : f.is_static ≡ true → Some (unwrap_or (slice_get table.statics.items c.0) 0 + (at - unwrap_or (list_at (slice_get table.before.items c.0) at) 0)) ≡ static_place p c at
  place-is q = sym (place-of ∙ ap (λ b. if b then Some (statics_before p c.0 + count_by is_static (take at own.0.fields)) else None) q
      ∙ (λ i. Some (sym placed i + (sym (statics-are own.0.fields at (let l : at < length own.0.fields = slice_get_within own.0.fields at f in-own in omega (arith, l))) ∙ ap (λ n. at - n) (sym counted)) i)))

  pub no-place : f.is_static ≡ false → None ≡ static_place p c at
  no-place q = sym (place-of ∙ ap (λ b. if b then Some (statics_before p c.0 + count_by is_static (take at own.0.fields)) else None) q)

  -- in the class that is there
  module _ (k : CoreClass) (e : class_at p c ≡ Some k) where
    same : own.0 ≡ k
    same = same_Some own.0 k (sym own.1 ∙ e)

    above : known_above table.totals.items k.superclass ≡ length (slot_fields p k.superclass)
    above = above-is p table.totals.items t.totals k.superclass

    here : unwrap_or (list_at (slice_get table.before.items c.0) at) 0 ≡ count_by is_instance (take at k.fields)
    here = counted ∙ ap (λ (x : CoreClass). count_by is_instance (take at x.fields)) same

    pub slot-fits : known_above table.totals.items k.superclass + unwrap_or (list_at (slice_get table.before.items c.0) at) 0 < 4611686020574871552
    slot-fits = let x : length (slot_fields p k.superclass) < 4611686018427387904 = slots-few p t.few k.superclass in omega (arith, x, few, rest-fits, above)

    slot-of : field_slot p c at ≡ (if f.is_static then None else Some (length (slot_fields p k.superclass) + count_by is_instance (take at k.fields)))
    slot-of = ap (λ o. field_slot_in p o at) e ∙ ap (λ o. slot_after o (length (slot_fields p k.superclass) + count_by is_instance (take at k.fields))) (ap (λ o. slice_get (fields_in o) at) (sym e) ∙ g)

    pub slot-is : f.is_static ≡ false → Some (known_above table.totals.items k.superclass + unwrap_or (list_at (slice_get table.before.items c.0) at) 0) ≡ field_slot p c at
    slot-is q = sym (slot-of ∙ ap (λ b. if b then None else Some (length (slot_fields p k.superclass) + count_by is_instance (take at k.fields))) q ∙ (λ i. Some (sym above i + sym here i)))

    pub no-slot : f.is_static ≡ true → None ≡ field_slot p c at
    no-slot q = sym (slot-of ∙ ap (λ b. if b then None else Some (length (slot_fields p k.superclass) + count_by is_instance (take at k.fields))) q)

-- a field that isn't there
module _ (p : CoreProgram) (c : ClassId) (at : ℕ) where
  static-in : (o : Option CoreClass) → class_at p c ≡ o → slice_get (fields_in o) at ≡ None → static_place p c at ≡ None
  static-in None e g = ap (λ o. static_place_in p c o at) e
  static-in (Some k) e g = ap (λ o. static_place_in p c o at) e ∙ ap (λ o. static_after o (statics_before p c.0 + count_by is_static (take at k.fields))) g

  pub place-nowhere : slice_get (fields_of p c) at ≡ None → None ≡ static_place p c at
  place-nowhere g = sym (static-in (class_at p c) refl g)

pub first-is : (p : CoreProgram) (table : FieldTable) → IsFieldTableOf p table → (c : ClassId) (k : CoreClass) → class_at p c ≡ Some k → known_above table.totals.items k.superclass ≡ first_slot p c
first-is p table t c k e = above-is p table.totals.items t.totals k.superclass ∙ sym (ap (first_slot_in p) e)
