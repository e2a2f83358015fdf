-- What a class of the library is in a program in which the library stands.
use Rattle.std.proofs.Common.{◌≡◌, ℕ, zero, suc, ◌<◌, List, [], ◌∷◌, ◌++◌, map, length, Option, Some, None, option_map, refl, sym, ap, ◌∙◌, subst, arith}
use Rattle.std.specs.Prelude.{Bool, true, false, not, filter, nat_lt, slice_get, codes, if◌then◌else◌}
use Rattle.std.specs.List.{list_all}
use Rattle.std.specs.Str.{bytes_eq}
use Rattle.std.proofs.lemmas.List.Folds.{list_all-append}
use Rattle.std.proofs.lemmas.Bool.{ltb-true}
use Rattle.std.proofs.lemmas.Option.{none-some, same_Some, slice_get-map}
use Rattle.je_base.specs.declared.span.NameId.{NameId}
use Rattle.je_core.specs.declared.types.ClassId.{ClassId}
use Rattle.je_core.specs.Core.{CoreField, CoreInitializer, CoreMethod, CoreClass, CoreProgram}
use Rattle.je_table.specs.Library.{Class, classes}
use Rattle.je_table.specs.Rows.{Row}
use Rattle.je_classes.specs.Hierarchy.{class_at}
use Rattle.je_classes.proofs.Lists.{bool_cases}
use Rattle.je_fitting.specs.Members.{is_guest}
use Rattle.je_fitting.proofs.Booleans.{two, both}
use Rattle.library_classes.specs.Library.{LibraryStands, all_due, class_due, classes_due, constant_field, fields_due, hidden_fields, is_field_of, is_method_of, method_due, rows}

-- the class of a row
pub record IsDue (number : List ℕ → NameId) (c : CoreClass) : Type 0 where
  pub at : ℕ
  pub row : Class
  pub due : class_due number at row ≡ c

due-at : (number : List ℕ → NameId) (n : ℕ) (cs : List Class) (i : ℕ) (c : CoreClass) → slice_get (classes_due number n cs) i ≡ Some c → IsDue number c
due-at number n [] i c e = absurd (none-some c e)
due-at number n (row ∷ cs) zero c e = record { at = n; row = row; due = same_Some (class_due number n row) c e }
due-at number n (row ∷ cs) (suc i) c e = due-at number (suc n) cs i c e

due-length : (number : List ℕ → NameId) (n : ℕ) (cs : List Class) → length (classes_due number n cs) ≡ length cs
due-length number n [] = refl
due-length number n (c ∷ cs) = ap suc (due-length number (suc n) cs)

front : {A : Type 0} (xs ys : List A) (i : ℕ) → i < length xs → slice_get (xs ++ ys) i ≡ slice_get xs i
front [] ys i h = absurd (omega arith)
front (x ∷ xs) ys zero h = refl
front (x ∷ xs) ys (suc i) h = front xs ys i (omega arith)

stands-before : (class : ClassId) → is_guest class ≡ false → class.0 < length classes
stands-before class g = ltb-true class.0 (length classes) (bool_cases (λ b. not b ≡ false → b ≡ true) (nat_lt class.0 (length classes)) (λ _ _. refl) (λ _ h. sym h) g)

module _ (p : CoreProgram) (library : LibraryStands p) where
  pub class-due : (class : ClassId) (c : CoreClass) → is_guest class ≡ false → class_at p class ≡ Some c → IsDue library.number c
  unfolding all_due
  class-due class c g e =
      let counted : length classes ≡ length (classes_due library.number 0 classes) = sym (due-length library.number 0 classes) in
      let within : class.0 < length (classes_due library.number 0 classes) = subst (λ (n : ℕ). class.0 < n) counted (stands-before class g) in
      due-at library.number 0 classes class.0 c (sym (front (all_due library.number) library.others class.0 within) ∙ ap (λ cs. slice_get cs class.0) (sym library.first) ∙ e)

module _ (number : List ℕ → NameId) where
  -- a method of the class of a row
  record IsMethodDue (row : Class) (m : CoreMethod) : Type 0 where
    of : Row
    due : method_due number row of ≡ m

  row-of : (c : CoreClass) (d : IsDue number c) (at : ℕ) (m : CoreMethod) → slice_get c.methods at ≡ Some m → IsMethodDue d.row m
  row-of c d at m e = by (slice_get (filter (is_method_of d.row) rows) at) (sym (slice_get-map (method_due number d.row) (filter (is_method_of d.row) rows) at) ∙ ap (λ (k : CoreClass). slice_get k.methods at) d.due ∙ e)
    where
      by : (o : Option Row) → option_map (method_due number d.row) o ≡ Some m → IsMethodDue d.row m
      by None q = absurd (none-some m q)
      by (Some r) q = record { of = r; due = same_Some (method_due number d.row r) m q }

  -- it is not native, and has no body
  pub not-native : (c : CoreClass) → IsDue number c → (at : ℕ) (m : CoreMethod) → slice_get c.methods at ≡ Some m → m.flags.is_native ≡ false
  not-native c d at m e = ap (λ (k : CoreMethod). k.flags.is_native) (sym (row-of c d at m e).due)

  pub no-body : (c : CoreClass) → IsDue number c → (at : ℕ) (m : CoreMethod) → slice_get c.methods at ≡ Some m → m.body ≡ None
  no-body c d at m e = ap (λ (k : CoreMethod). k.body) (sym (row-of c d at m e).due)

  pub no-initializer : (c : CoreClass) → IsDue number c → (at : ℕ) (i : CoreInitializer) → slice_get c.initializers at ≡ Some i → ⊥
  no-initializer c d at i e = none-some i (ap (λ (k : CoreClass). slice_get k.initializers at) d.due ∙ e)

  -- all fields are final
  abbrev final : CoreField → Bool
  final f = f.is_final

  constants-final : (c : Class) (rs : List Row) → list_all final (map (constant_field number c) rs) ≡ true
  constants-final c [] = refl
  constants-final c (r ∷ rs) = constants-final c rs

  hidden-final : (throwable refused : Bool) (a b : CoreField) → a.is_final ≡ true → b.is_final ≡ true → list_all final (if throwable then a ∷ [] else (if refused then b ∷ [] else [])) ≡ true
  hidden-final true refused a b h k = both h refl
  hidden-final false true a b h k = both k refl
  hidden-final false false a b h k = refl

  fields-final : (c : Class) → list_all final (fields_due number c) ≡ true
  fields-final c = list_all-append final (map (constant_field number c) (filter (is_field_of c) rows)) (hidden_fields number c)
      ∙ both (constants-final c (filter (is_field_of c) rows)) (hidden-final (bytes_eq c.name (codes "java.lang.Throwable")) (bytes_eq c.name (codes "host.Refused")) _ _ refl refl)

  one-final : (fs : List CoreField) (at : ℕ) (f : CoreField) → list_all final fs ≡ true → slice_get fs at ≡ Some f → f.is_final ≡ true
  one-final [] at f h e = absurd (none-some f e)
  one-final (g ∷ fs) zero f h e = ap final (sym (same_Some g f e)) ∙ (two {a = final g} h).0
  one-final (g ∷ fs) (suc at) f h e = one-final fs at f (two {a = final g} h).1 e

  pub field-final : (c : CoreClass) → IsDue number c → (at : ℕ) (f : CoreField) → slice_get c.fields at ≡ Some f → f.is_final ≡ true
  field-final c d at f e = one-final (fields_due number d.row) at f (fields-final d.row) (ap (λ (k : CoreClass). slice_get k.fields at) d.due ∙ e)
