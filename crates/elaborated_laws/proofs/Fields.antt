-- The fields of a class stand at their places, the hidden ones first.
use Rattle.std.proofs.Common.{◌≡◌, ℕ, ◌+◌, ◌<◌, ◌≤◌, ◌⊎◌, inl, inr, List, [], ◌∷◌, ◌++◌, length, Option, Some, None, refl, sym, ap, ◌∙◌, subst, arith, length-append}
use Rattle.std.specs.Prelude.{Bool, true, false, filter, if◌then◌else◌, map, slice_get}
use Rattle.std.specs.List.{AllZip, list_all}
use Rattle.std.proofs.lemmas.Bool.{cases_lt}
use Rattle.std.proofs.lemmas.List.{length-map}
use Rattle.std.proofs.lemmas.Option.{none-some, slice_get_past, slice_get_within}
use Rattle.je_base.specs.declared.span.NameId.{NameId}
use Rattle.je_core.specs.Core.{Core, CoreClass, CoreField, CoreProgram}
use Rattle.je_classes.specs.Fields as core_fields
use Rattle.je_classes.specs.Hierarchy.{class_at}
use Rattle.je_classes.specs.Members.{Member}
use Rattle.je_table.specs.Rows.{Row}
use Rattle.source_types.proofs.Same.{and-left, and-right}
use Rattle.name_walk.proofs.Standing.{slice_get-append}
use Rattle.library_classes.specs.Library.{class_due, constant_field, is_field_of, rows}
use Rattle.library_classes.specs.Library as due
use Rattle.library_declarations.specs.Library.{class_declared, field_declared}
use Rattle.je_scopes.specs.Headers.{constants_in, is_guest, members_in, site_at}
use Rattle.je_scopes.specs.Members.{constant_site, field_sites}
use Rattle.je_scopes.specs.Members.{fields_of as sites_of}
use Rattle.je_scopes.specs.Sites.{Written}
use Rattle.je_typing.specs.Judged.{gives}
use Rattle.class_typing.specs.Enums.{enum_methods}
use Rattle.je_scopes.specs.Source.{Source}
use Rattle.je_scopes.specs.SourceTypes.{SourceType}
use Rattle.source_types.specs.Erasure.{erased}
use Rattle.source_types.specs.Heads.{ClassHead}
use Rattle.declarations.specs.Declarations.{DeclaredClass, DeclaredField, declared_class, is_enum_sort}
use Rattle.declarations.specs.Declarations as declarations
use Rattle.name_typing.specs.Fields.{fields_of}
use Rattle.name_typing.specs.Fields as declared_fields
use Rattle.name_typing.specs.Program.{Program}
use Rattle.typing_laws.specs.Fitting.{Gives}
use Rattle.fitting_laws.specs.Represented.{FieldStands}
use Rattle.fitting_laws.proofs.Gives.{weaker}
use Rattle.class_typing.specs.Classes.{core_class, declared_from, enum_names, hidden_from, names_before, outer_names}
use Rattle.class_typing.specs.Classes as core_classes
use Rattle.class_typing.specs.Elaboration.{BodiesMet, hidden_count, members_of}
use Rattle.class_typing.specs.Members.{MembersDone}
use Rattle.class_typing.specs.Places.{round_met}
use Rattle.class_typing.specs.Programs.{CapturedLocal, classes, enclosing, enum_types, hidden_fields, library_count, outer_types, plain_program, types_before, with_enum_methods, with_hidden}
use Rattle.class_typing.specs.Programs as declared_of
use Rattle.elaborated_laws.specs.Elaborated.{IsElaborated, captured_by, program_of, world_of}
use Rattle.elaborated_laws.specs.Laws.{FieldsStand}
use Rattle.elaborated_laws.specs.Premises.{EnumsHaveConstants, GuestsFollow, LibraryIsFirst}
use Rattle.elaborated_laws.proofs.Classes.{classes-count}
use Rattle.elaborated_laws.proofs.Constants.{class-many, fields-written, total}
use Rattle.elaborated_laws.proofs.Declared.{InLibrary, as-many-classes, classes-are, hidden-there, in-library}
use Rattle.elaborated_laws.proofs.Guests.{guest-declared, within-sites}
use Rattle.elaborated_laws.proofs.Heads.{get-head}
use Rattle.elaborated_laws.proofs.LibraryTypes.{all-filtered, is_flat_row, rows-flat, type-erased}
use Rattle.elaborated_laws.proofs.Lists.{Beside, beside, placed, zipped-append}

-- a field of the core program as it is declared
pub record Alike (heads : List ClassHead) (field : CoreField) (f : DeclaredField) : Type 0 where
  pub type : field.ty ≡ erased heads f.ty
  pub is_static : field.is_static ≡ f.is_static
  pub is_final : field.is_final ≡ f.is_final

-- ---- hidden fields

of-three : {A : Type 0} (xs ys zs : List A) → length (xs ++ ys ++ zs) ≡ length xs + length ys + length zs
of-three xs ys zs = length-append (xs ++ ys) zs ∙ ap (λ n. n + length zs) (length-append xs ys)

module _ (p : Program) (captured : ℕ → List CapturedLocal) (c : ℕ) where
  hidden-alike : (xs : List NameId) (ts : List SourceType) → length xs ≡ length ts →
      AllZip (Alike p.heads) (hidden_from p captured c xs ts) (map (declared_of.hidden_field p.source) ts)
  hidden-alike [] [] e = tt
  hidden-alike [] (t ∷ ts) e = absurd (omega (arith, e))
  hidden-alike (x ∷ xs) [] e = absurd (omega (arith, e))
  hidden-alike (x ∷ xs) (t ∷ ts) e =
      (record { type = refl; is_static = refl; is_final = refl }, hidden-alike xs ts (omega (arith, e)))

  declared-alike : (fs : List DeclaredField) (cs : List (Option Core)) → length cs ≡ length fs →
      AllZip (Alike p.heads) (declared_from p captured c fs cs) fs
  declared-alike [] [] e = tt
  declared-alike [] (k ∷ cs) e = tt
  declared-alike (f ∷ fs) [] e = absurd (omega (arith, e))
  declared-alike (f ∷ fs) (k ∷ cs) e =
      (record { type = refl; is_static = refl; is_final = refl }, declared-alike fs cs (omega (arith, e)))

  outer-many : (source : Source) (o : Option ℕ) → length (outer_names p captured c o) ≡ length (outer_types source o)
  outer-many source None = refl
  outer-many source (Some d) = refl

  enum-many : (source : Source) (b : Bool) → length (enum_names p captured c b) ≡ length (enum_types source b)
  enum-many source true = refl
  enum-many source false = refl

  pub many-hidden : length (names_before p captured c) ≡ length (types_before p.source captured c)
  many-hidden =
      let sort = is_enum_sort (site_at p.source.sites c).sort in
      let o = enclosing p.source c in
      of-three (outer_names p captured c o) (map (core_classes.captured_name p captured c) (captured c)) (enum_names p captured c sort)
      ∙ ap (λ n. n + length (map (core_classes.captured_name p captured c) (captured c)) + length (enum_names p captured c sort)) (outer-many p.source o)
      ∙ ap (λ n. length (outer_types p.source o) + n + length (enum_names p captured c sort))
      (length-map (captured c) (core_classes.captured_name p captured c) ∙ sym (length-map (captured c) (declared_of.captured_type p.source)))
      ∙ ap (λ n. length (outer_types p.source o) + length (map (declared_of.captured_type p.source) (captured c)) + n) (enum-many p.source sort)
      ∙ sym (of-three (outer_types p.source o) (map (declared_of.captured_type p.source) (captured c)) (enum_types p.source sort))

-- ---- the fields of a class of the source

pub same-fields : (source : Source) (c : ℕ) (d : DeclaredClass) → (with_enum_methods source c d).fields ≡ d.fields
same-fields source c d = by (is_enum_sort d.kind.sort)
  where
    by : (b : Bool) → (if b then record d { methods = enum_methods (declared_of.number source) c } else d).fields ≡ d.fields
    by true = refl
    by false = refl

module _ (source : Source) (first : BodiesMet) (c : ℕ) where
  abbrev p : Program
  p = program_of source first

  abbrev caught : ℕ → List CapturedLocal
  caught = captured_by source first

  abbrev written : Written
  written = (site_at source.sites c).written

  abbrev own : DeclaredClass
  own = with_enum_methods source c (declared_class source c)

  many-declared : length own.fields ≡ total (members_in written) + length (constants_in written)
  unfolding declared_class
  many-declared =
      ap length (same-fields source c (declared_class source c))
      ∙ length-map (sites_of source c) (declarations.declared_field source c)
      ∙ length-append (map constant_site (constants_in written)) (field_sites (members_in written))
      ∙ omega (arith, length-map (constants_in written) constant_site, fields-written (members_in written))

  sources-same : p.source ≡ source
  unfolding plain_program
  sources-same = refl

  module _ (guest : is_guest written ≡ true) (there : slice_get (classes source) c ≡ Some own) (enums : EnumsHaveConstants source) where
    fields-are : fields_of p.classes c ≡ hidden_fields source caught c ++ own.fields
    fields-are =
        ap (λ ds. fields_of ds c) (classes-are source first)
        ∙ ap declared_fields.fields_in (hidden-there source caught c own there)

    constants-many : (done : MembersDone) → members_of source (world_of source first) caught first.met c ≡ gives done →
        length done.constants ≡ length own.fields
    unfolding plain_program
    constants-many done walked =
        subst (Gives (λ (d : MembersDone). length d.constants ≡ length own.fields)) walked
        (weaker (λ (d : MembersDone). length d.constants ≡ total (members_in written) + length (constants_in written))
        (λ (d : MembersDone). length d.constants ≡ length own.fields)
        (members_of source (world_of source first) caught first.met c)
        (class-many p (world_of source first).known c (round_met source.sites first.met c) first.met (hidden_count source caught c)
        (omega (arith, ap length fields-are, length-append (hidden_fields source caught c) own.fields, many-declared))
        (enums c)) (λ d h. h ∙ sym many-declared))

    pub own-alike : (done : MembersDone) → members_of source (world_of source first) caught first.met c ≡ gives done →
        AllZip (Alike p.heads) (core_classes.fields p caught c done) (fields_of p.classes c)
    unfolding plain_program
    own-alike done walked =
        subst (AllZip (Alike p.heads) (core_classes.fields p caught c done))
        (ap (λ b. (if b then map (declared_of.hidden_field source) (types_before source caught c) else []) ++ own.fields) (sym guest) ∙ sym fields-are)
        (zipped-append (Alike p.heads)
        (hidden_from p caught c (names_before p caught c) (types_before p.source caught c))
        (map (declared_of.hidden_field source) (types_before source caught c))
        (declared_from p caught c (core_classes.written_fields p caught c) done.constants) own.fields
        (hidden-alike p caught c (names_before p caught c) (types_before source caught c) (many-hidden p caught c))
        (subst (λ fs. AllZip (Alike p.heads) (declared_from p caught c fs done.constants) own.fields)
        (sym (ap (core_classes.fields_in p caught c) there))
        (declared-alike p caught c own.fields done.constants (constants-many done walked))))

-- ---- all classes

module _ (source : Source) (program : CoreProgram) (e : IsElaborated source program) (library-first : LibraryIsFirst source)
    (guests-follow : GuestsFollow source) (enums : EnumsHaveConstants source) where
  abbrev whole : Program
  whole = program_of source e.first

  -- by the classes on both sides
  stands-by : (m : Member) (f : DeclaredField) (class : CoreClass) → class_at program m.class ≡ Some class →
      Beside (Alike whole.heads) class.fields m.at f → FieldStands program whole.heads m f
  stands-by m f class there b = record {
    field = b.element;
    there = ap (λ o. slice_get (core_fields.fields_in o) m.at) there ∙ b.is;
    type = b.holds.type;
    is_static = b.holds.is_static;
    is_final = b.holds.is_final;
  }

  guest-stands : (m : Member) (f : DeclaredField) → library_count source ≤ m.class.0 → m.class.0 < length (classes source) →
      declared_fields.field_at whole.classes m ≡ Some f → FieldStands program whole.heads m f
  guest-stands m f le l h =
      let c = m.class.0 in
      let class = placed program.classes c (subst (λ n. c < n) (sym e.has.count) l) in
      let made = e.has.guests c class.element le class.is in
      let within = within-sites source c le (subst (λ n. c < n) (classes-count source) l) in
      let guest = guests-follow c le within in
      let there = guest-declared source c le within in
      stands-by m f class.element class.is
      (beside (Alike whole.heads) class.element.fields (fields_of whole.classes c) m.at f
      (subst (λ (k : CoreClass). AllZip (Alike whole.heads) k.fields (fields_of whole.classes c)) (sym made.is)
      (own-alike source e.first c guest there enums made.done made.walked)) h)

  -- ---- the library's

  rows-alike : (c : ℕ) (l : InLibrary source c) (rs : List Row) → list_all is_flat_row rs ≡ true →
      AllZip (Alike whole.heads) (map (constant_field (declared_of.number source) l.row) rs) (map (field_declared (declared_of.number source) c) rs)
  rows-alike c l [] h = tt
  rows-alike c l (r ∷ rs) h =
      let there = get-head source program e c (class_declared (declared_of.number source) c l.row) l.declared in (
        record {
          type = type-erased whole.heads (classes source) (declared_of.number source) c l.row there r.returns
              (and-left _ _ (and-left (is_flat_row r) _ h));
          is_static = refl;
          is_final = refl;
        },
        rows-alike c l rs (and-right (is_flat_row r) _ h),
      )

  library-fields : (c : ℕ) → c < library_count source → (l : InLibrary source c) →
      fields_of whole.classes c ≡ map (field_declared (declared_of.number source) c) (filter (is_field_of l.row) rows)
  library-fields c within l =
      ap (λ ds. fields_of ds c) (classes-are source e.first)
      ∙ ap declared_fields.fields_in (hidden-there source (captured_by source e.first) c (class_declared (declared_of.number source) c l.row) l.declared)
      ∙ ap (λ b. (if b then map (declared_of.hidden_field source) (types_before source (captured_by source e.first) c) else [])
      ++ map (field_declared (declared_of.number source) c) (filter (is_field_of l.row) rows)) (library-first c within)

  library-stands : (m : Member) (f : DeclaredField) → m.class.0 < library_count source →
      declared_fields.field_at whole.classes m ≡ Some f → FieldStands program whole.heads m f
  library-stands m f within h =
      let c = m.class.0 in
      let l = in-library source c within in
      let number = declared_of.number source in
      let own = filter (is_field_of l.row) rows in
      let b = beside (Alike whole.heads) (map (constant_field number l.row) own) (map (field_declared number c) own) m.at f
      (rows-alike c l own (all-filtered is_flat_row (is_field_of l.row) rows rows-flat))
      (sym (ap (λ fs. slice_get fs m.at) (library-fields c within l)) ∙ h) in
      stands-by m f (class_due number c l.row) (e.has.library c within ∙ l.due) (record {
        element = b.element;
        is = slice_get-append (map (constant_field number l.row) own) (due.hidden_fields number l.row) m.at
            (slice_get_within _ m.at b.element b.is) ∙ b.is;
        holds = b.holds;
      })

  stands : (m : Member) (f : DeclaredField) → declared_fields.field_at whole.classes m ≡ Some f → FieldStands program whole.heads m f
  stands m f h = by (cases_lt m.class.0 (library_count source)) (cases_lt m.class.0 (length (classes source)))
    where
      by : (m.class.0 < library_count source ⊎ library_count source ≤ m.class.0) →
          (m.class.0 < length (classes source) ⊎ length (classes source) ≤ m.class.0) → FieldStands program whole.heads m f
      by (inl l) other = library-stands m f l h
      by (inr le) (inl l) = guest-stands m f le l h
      by (inr le) (inr past) = absurd (none-some f
          (sym (ap (λ o. slice_get (declared_fields.fields_in o) m.at)
          (slice_get_past whole.classes m.class.0 (subst (λ n. n ≤ m.class.0) (sym (as-many-classes source e.first)) past))) ∙ h))

pub fields_stand : (source : Source) (program : CoreProgram) (e : IsElaborated source program) → FieldsStand source program e
fields_stand source program e sites m f h = stands source program e sites.library sites.guests sites.constants m f h
