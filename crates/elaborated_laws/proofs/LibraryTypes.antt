-- Types in the rows of the library are erased to those of its classes in the core program.
use Rattle.std.proofs.Common.{◌≡◌, ℕ, zero, suc, ◌+◌, ◌<◌, ◌≤◌, List, [], ◌∷◌, Option, Some, None, refl, sym, ap, ◌∙◌, arith}
use Rattle.std.specs.Prelude.{Bool, true, false, ◌&&◌, min, filter, if◌then◌else◌, map, nat_lt, slice_get, unwrap_or}
use Rattle.std.specs.List.{list_all}
use Rattle.std.proofs.lemmas.Bool.Decides.{nat_tests}
use Rattle.std.proofs.lemmas.List.Sums.{get_or-le-sum_by}
use Rattle.std.proofs.lemmas.Option.{get_or_from_slice_get, slice_get_within}
use Rattle.je_base.specs.declared.span.NameId.{NameId}
use Rattle.je_core.specs.declared.types.Base.TheVariants as base
use Rattle.je_classes.specs.Hierarchy.{object_class}
use Rattle.je_table.specs.declared.classes.LibraryClass.{LibraryClass}
use Rattle.je_table.specs.declared.classes.LibraryClass.TheVariants as class
use Rattle.je_table.specs.declared.types.RowBase.{RowBase}
use Rattle.je_table.specs.declared.types.RowBase.TheVariants as row_base
use Rattle.je_table.specs.declared.types.RowType.{RowType}
use Rattle.je_table.specs.Library.{Class}
use Rattle.je_table.specs.Rows.{Row}
use Rattle.je_scopes.specs.SourceTypes.{of_variable}
use Rattle.source_types.specs.Erasure.{erased, erased_array, erased_within, type}
use Rattle.source_types.specs.Heads.{ClassHead, bound_count, bound_of, bounds_in, head_at, or_object, variable_count}
use Rattle.source_types.proofs.Same.{and-left, and-right}
use Rattle.library_classes.specs.Library.{number_of_class, rows}
use Rattle.library_classes.specs.Library as due
use Rattle.library_declarations.specs.Library.{array_declared, class_declared, class_type, type_declared}
use Rattle.class_heads.specs.Headers.{head_of}
use Rattle.declarations.specs.Declarations.{DeclaredClass}

-- ---- rows have few dimensions

abbrev pub is_flat : RowType → Bool
is_flat t = nat_lt t.dims 256

abbrev pub is_flat_row : Row → Bool
is_flat_row r = is_flat r.returns && list_all is_flat (unwrap_or r.parameters [])

pub rows-flat : list_all is_flat_row rows ≡ true
unfolding rows
rows-flat = refl

pub all-filtered : {A : Type 0} (good test : A → Bool) (xs : List A) → list_all good xs ≡ true → list_all good (filter test xs) ≡ true
all-filtered good test [] h = refl
all-filtered good test (x ∷ xs) h = by (test x) (and-left _ _ h) (all-filtered good test xs (and-right (good x) _ h))
  where
    by : (b : Bool) → good x ≡ true → list_all good (filter test xs) ≡ true →
        list_all good (if b then x ∷ filter test xs else filter test xs) ≡ true
    by true f g = ap (λ b. b && list_all good (filter test xs)) f ∙ g
    by false f g = g

few : (t : RowType) → is_flat t ≡ true → t.dims ≤ 255
few t h = let l : t.dims < 256 = grind (arith, nat_tests) in omega (arith, l)

-- ---- the type parameter of a class

module _ (heads : List ClassHead) (all : List DeclaredClass) (number : List ℕ → NameId) (c : ℕ) (row : Class)
    (there : head_at heads c ≡ Some (head_of all c (class_declared number c row))) where
  bound-is : (o : Option LibraryClass) → row.bound ≡ o → bound_of heads c 0 ≡ class_type (unwrap_or o class.Object)
  unfolding object_class
  bound-is None e =
      ap (λ o. or_object (slice_get (bounds_in o) 0)) there ∙ rw e refl
  bound-is (Some b) e = ap (λ o. or_object (slice_get (bounds_in o) 0)) there ∙ rw e refl

  has-variable : (b : LibraryClass) → row.bound ≡ Some b → 1 ≤ variable_count heads
  has-variable b e =
      let d = head_of all c (class_declared number c row) in
      let one : bound_count d ≡ 1 = rw e refl in
      let within = slice_get_within heads c d there in
      omega (arith, one, ap bound_count (get_or_from_slice_get heads c d d there), get_or-le-sum_by bound_count heads c d within)

  within-steps : (steps n : ℕ) → n ≤ 255 → (o : Option LibraryClass) → row.bound ≡ o → ((b : LibraryClass) → o ≡ Some b → 1 ≤ steps) →
      erased_within heads steps (of_variable c 0 n) ≡ type (base.Class (number_of_class (unwrap_or o class.Object))) n
  unfolding object_class
  within-steps zero n le None e h = refl
  within-steps zero n le (Some b) e h = let l = h b refl in absurd (omega (arith, l))
  within-steps (suc s) n le o e h =
      let m : min 255 (0 + n) ≡ n = omega (arith, le) in
      ap (λ t. erased_array (erased_within heads s t) n) (bound-is o e) ∙ ap (type (base.Class (number_of_class (unwrap_or o class.Object)))) m

  variable-erased : (n : ℕ) → n ≤ 255 → erased heads (of_variable c 0 n) ≡ type (base.Class (due.bound_of row)) n
  unfolding erased
  variable-erased n le = within-steps (variable_count heads) n le row.bound refl has-variable

  -- ---- all types

  base-erased : (b : RowBase) (n : ℕ) → n ≤ 255 → type (due.erased_base row b) n ≡ erased heads (array_declared c b n)
  unfolding erased
  base-erased row_base.Void n le = refl
  base-erased row_base.Boolean n le = refl
  base-erased row_base.Char n le = refl
  base-erased row_base.Int n le = refl
  base-erased row_base.Long n le = refl
  base-erased (row_base.Class d) n le = refl
  base-erased row_base.Parameter n le = sym (variable-erased n le)

  pub type-erased : (t : RowType) → is_flat t ≡ true → due.erased row t ≡ erased heads (type_declared c t)
  type-erased t h = base-erased t.base t.dims (few t h)

  pub types-erased : (ts : List RowType) → list_all is_flat ts ≡ true →
      map (due.erased row) ts ≡ map (erased heads) (map (type_declared c) ts)
  types-erased [] h = refl
  types-erased (t ∷ ts) h = λ i. type-erased t (and-left _ _ h) i ∷ types-erased ts (and-right (is_flat t) _ h) i
