-- The constants of fields, class by class.
use Rattle.std.proofs.Common.{◌≡◌, ℕ, ◌+◌, ◌<◌, ◌≤◌, List, length, map, Option, Some, None, get_or, take, zero, suc, [], ◌∷◌, ◌++◌, refl, sym, ap, ◌∙◌, subst, le_trans, arith}
use Rattle.std.specs.List.{sum_by}
use Rattle.std.specs.Prelude.{Bool, true, option_map, slice_get, unwrap_or}
use Rattle.std.specs.declared.vec.Vec.{Vec}
use Rattle.std.specs.declared.alloc.Global.{Global}
use Rattle.std.proofs.lemmas.List.{length-map}
use Rattle.std.proofs.lemmas.List.Sums.{sum_by-cons}
use Rattle.std.proofs.lemmas.Option.{slice_get_past}
use Rattle.je_classes.specs.Members.{Member}
use Rattle.je_scopes.proofs.Either.{by_either, within_or_past}
use Rattle.source_types.specs.Erasure.{class_numbered}
use Rattle.je_ast.specs.Trees.{Expression}
use Rattle.declarations.specs.Declarations.{DeclaredClass, DeclaredField}
use Rattle.name_typing.specs.Fields.{field_at, fields_of}
use Rattle.name_typing.specs.Program as program
use Rattle.name_typing.specs.Program.{Frame, Program}
use Rattle.body_typing.specs.Expressions.{Known, expression, initial, value}
use Rattle.body_typing.specs.FinalVariables.{Scope}
use Rattle.body_places.specs.declared.tables.Constant.{Constant}
use Rattle.body_places.specs.Tables.{constant_at, constant_in, constant_seen}
use Rattle.body_places.specs.Tables as tables
use Rattle.class_typing.specs.ConstantFields.{if_final, in_initializer, nothing_known, unwritten}
use Rattle.class_typing.specs.ConstantFields as words
use Rattle.field_values.specs.declared.values.FieldValue.{FieldValue}
use Rattle.field_values.specs.Values.{value_at, value_seen, values_in}
use Rattle.field_values.proofs.Library.{joined, seen_at}
use Rattle.type_decl.specs.way.Rows.{constant_due, constant_for, fields_declared}

pub kept_constant : (constant : Option Constant) → constant_in (Some constant) ≡ option_map constant_seen constant
kept_constant None = refl
kept_constant (Some c) = refl

module _ (q : Program) (frames : List Frame) (m : Member) where
  none-for : (f : Option DeclaredField) → constant_for q frames m f unwritten ≡ None
  none-for None = refl
  none-for (Some f) = refl

  pub none_unwritten : constant_due q frames m unwritten ≡ None
  none_unwritten = none-for (field_at q.classes m)

-- of a field with an initializer
pub initializer_due : (q : Program) (k : Known) (frames : List Frame) (m : Member) (f : DeclaredField) (o : Option DeclaredField) (e : Expression) (v : words.FieldValue) (s : Scope) →
    o ≡ Some f → v ≡ words.by e → k ≡ nothing_known q → s ≡ in_initializer f.is_static m.class.0 m.at frames →
    if_final f (value (expression q k s (initial f.ty) e)) ≡ constant_for q frames m o v
initializer_due q k frames m f o e v s there written known scope =
    (λ i. if_final f (value (expression q (known i) (scope i) (initial f.ty) e))) ∙ (λ i. constant_for q frames m (sym there i) (sym written i))

-- how many fields there are up to a class
pub sum_next : (ds : List DeclaredClass) (at : ℕ) → at < length ds → sum_by fields_declared (take (suc at) ds) ≡ sum_by fields_declared (take at ds) + length (fields_of ds at)
sum_next [] at l = absurd (omega (arith, l))
sum_next (d ∷ ds) zero l = omega arith
sum_next (d ∷ ds) (suc at) l =
    let h : sum_by fields_declared (take (suc at) ds) ≡ sum_by fields_declared (take at ds) + length (fields_of ds at) = sum_next ds at (omega (arith, l)) in
    let a : sum_by fields_declared (take (suc (suc at)) (d ∷ ds)) ≡ length d.fields + sum_by fields_declared (take (suc at) ds) = sum_by-cons fields_declared d (take (suc at) ds) in
    let b : sum_by fields_declared (take (suc at) (d ∷ ds)) ≡ length d.fields + sum_by fields_declared (take at ds) = sum_by-cons fields_declared d (take at ds) in
    let k : length (fields_of (d ∷ ds) (suc at)) ≡ length (fields_of ds at) = refl in
    omega (arith, h, a, b, k)

-- what holds of each field that is written holds of all
pub row_is : (due : ℕ → words.FieldValue → Option program.Constant) (row : List (Option Constant)) (values : List FieldValue) →
    ((k : ℕ) → due k unwritten ≡ None) → length row ≡ length values →
    ((k : ℕ) → k < length values → constant_in (slice_get row k) ≡ due k (unwrap_or (slice_get (map value_seen values) k) unwritten)) →
    (k : ℕ) → constant_in (slice_get row k) ≡ due k (unwrap_or (slice_get (map value_seen values) k) unwritten)
row_is due row values none whole each k = by_either (each k)
    (λ l. ap constant_in (slice_get_past row k (subst (λ (n : ℕ). n ≤ k) (sym whole) l))
    ∙ sym (none k)
    ∙ ap (due k) (sym (ap (λ (o : Option words.FieldValue). unwrap_or o unwritten)
    (slice_get_past (map value_seen values) k (subst (λ (n : ℕ). n ≤ k) (sym (length-map values value_seen)) l)))))
    (within_or_past k (length values))

-- of all classes
pub rows_are : (due : Member → words.FieldValue → Option program.Constant) (asked : ℕ → Bool) (rows : List (Vec (Option Constant) Global)) (values : List (Vec FieldValue Global)) (count : ℕ) →
    ((m : Member) → due m unwritten ≡ None) → length rows ≡ count → length values ≤ count →
    ((c : ℕ) → c < count → asked c ≡ true → (place : ℕ) →
    constant_in (slice_get (tables.values_in (slice_get rows c)) place)
    ≡ due (record { class = class_numbered c; at = place }) (unwrap_or (slice_get (values_in (slice_get values c)) place) unwritten)) →
    (m : Member) → asked m.class.0 ≡ true → constant_at rows m ≡ due m (value_at values m)
rows_are due asked rows values count none whole few each m is_asked = by_either (λ l. each m.class.0 l is_asked m.at)
    (λ l. ap (λ (o : Option (Vec (Option Constant) Global)). constant_in (slice_get (tables.values_in o) m.at))
    (slice_get_past rows m.class.0 (subst (λ (n : ℕ). n ≤ m.class.0) (sym whole) l))
    ∙ sym (none m)
    ∙ ap (due m) (sym (ap (λ (o : Option (Vec FieldValue Global)). unwrap_or (slice_get (values_in o) m.at) unwritten)
    (slice_get_past values m.class.0 (le_trans few l)))))
    (within_or_past m.class.0 count)

pub value_there : (vs : List FieldValue) (k : ℕ) (d : FieldValue) → k < length vs → unwrap_or (slice_get (map value_seen vs) k) unwritten ≡ value_seen (get_or vs k d)
value_there [] k d l = absurd (omega arith)
value_there (v ∷ vs) zero d l = refl
value_there (v ∷ vs) (suc k) d l = value_there vs k d (omega (arith, l))

-- ---- classes without constants behind

row-behind : (xs : List (Vec (Option Constant) Global)) (v : Vec (Option Constant) Global) → v.items ≡ [] → (c : ℕ) →
    tables.values_in (slice_get (xs ++ v ∷ []) c) ≡ tables.values_in (slice_get xs c)
row-behind [] v e zero = e
row-behind [] v e (suc c) = refl
row-behind (x ∷ xs) v e zero = refl
row-behind (x ∷ xs) v e (suc c) = row-behind xs v e c

pub empty_behind : (xs : List (Vec (Option Constant) Global)) (v : Vec (Option Constant) Global) → v.items ≡ [] → constant_at (xs ++ v ∷ []) ≡ constant_at xs
empty_behind xs v e = λ i. λ m. constant_in (slice_get (row-behind xs v e m.class.0 i) m.at)

-- ---- constants that are the same

pub same_there : (asked : ℕ → Bool) (rows constants : List (Vec (Option Constant) Global)) → length rows ≡ length constants →
    ((c : ℕ) → c < length rows → asked c ≡ true →
    map (option_map constant_seen) (tables.values_in (slice_get rows c)) ≡ map (option_map constant_seen) (tables.values_in (slice_get constants c))) →
    (m : Member) → asked m.class.0 ≡ true → constant_at rows m ≡ constant_at constants m
same_there asked rows constants whole each m is_asked = by_either
    (λ l. seen_at (tables.values_in (slice_get rows m.class.0)) m.at
    ∙ ap (λ (cs : List (Option program.Constant)). joined (slice_get cs m.at)) (each m.class.0 l is_asked)
    ∙ sym (seen_at (tables.values_in (slice_get constants m.class.0)) m.at))
    (λ l. ap (λ (o : Option (Vec (Option Constant) Global)). constant_in (slice_get (tables.values_in o) m.at))
    (slice_get_past rows m.class.0 l ∙ sym (slice_get_past constants m.class.0 (subst (λ (n : ℕ). n ≤ m.class.0) whole l))))
    (within_or_past m.class.0 (length rows))
