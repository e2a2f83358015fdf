-- The fields of an interface are static: it has no hidden ones, and those that are written are by their declarations.
use Rattle.std.proofs.Common.{◌≡◌, ℕ, ◌<◌, ◌≤◌, List, [], ◌∷◌, ◌++◌, filter, length, map, None, Some, refl, sym, ap, ◌∙◌, subst}
use Rattle.std.specs.Prelude.{Bool, true, false, flat_map, ◌||◌, if◌then◌else◌, slice_get}
use Rattle.std.specs.List.{AllZip}
use Rattle.std.proofs.lemmas.Grind.{flat_map-append}
use Rattle.std.proofs.lemmas.Option.{slice_get_within}
use Rattle.je_core.specs.Core.{CoreClass, CoreProgram}
use Rattle.je_classes.specs.Hierarchy.{class_at}
use Rattle.je_classes.specs.Members.{In}
use Rattle.je_scopes.specs.Headers.{is_interface_sort, site_at, within}
use Rattle.je_scopes.specs.Members.{FieldSite, fields_of as sites_of}
use Rattle.je_scopes.specs.Sites.{Site, static}
use Rattle.je_scopes.specs.Source.{Source}
use Rattle.je_scopes.specs.SourceTypes.{SourceType}
use Rattle.source_types.specs.Erasure.{class_numbered}
use Rattle.declarations.specs.Declarations.{DeclaredClass, DeclaredField, declared_class, declared_field, is_enum_sort}
use Rattle.name_typing.specs.Fields.{fields_in, fields_of}
use Rattle.name_typing.specs.Instances.{is_instance}
use Rattle.name_typing.specs.Program.{Frame, Program}
use Rattle.body_typing.specs.Bodies.{Met}
use Rattle.class_typing.specs.Captures.{captured_locals, is_captured, locals_of_frame, reversed}
use Rattle.class_typing.specs.Elaboration.{first_program}
use Rattle.class_typing.specs.Places.{bodies_without_locals, in_body, member_body, met_at, round_if, round_met, round_without_locals}
use Rattle.class_typing.specs.Programs.{CapturedLocal, captured_type, classes, enum_types, hidden_field, hidden_fields, library_count, outer_types, types_before, with_enum_methods}
use Rattle.fitting_laws.proofs.Lists.{mapped}
use Rattle.elaborated_laws.specs.Elaborated.{IsElaborated, captured_by, program_of}
use Rattle.elaborated_laws.specs.Premises.{HasSites}
use Rattle.elaborated_laws.proofs.Classes.{classes-count}
use Rattle.elaborated_laws.proofs.Declared.{classes-are, hidden-there}
use Rattle.elaborated_laws.proofs.Fields.{Alike, own-alike, same-fields}
use Rattle.elaborated_laws.proofs.Guests.{guest-declared, within-sites}
use Rattle.elaborated_laws.proofs.Lists.{beside-first, in-got}
use Rattle.judged_laws.specs.Laws.{FieldsAreStatic}
use Rattle.judged_laws.proofs.StaticClasses.{interface-in-no-body}
use Rattle.judged_laws.proofs.Sorts.{no-enum, same-sorts, sort-is}

-- ---- what stands in no body captures nothing

module _ (p : Program) (met : List Met) (sites : List Site) where
  abbrev locals-of : Frame → List CapturedLocal
  locals-of = locals_of_frame p met (round_met sites met)

  none-round : (c : ℕ) (ds : List ℕ) → flat_map locals-of (reversed (bodies_without_locals sites c ds)) ≡ []
  none-round c [] = refl
  none-round c (d ∷ ds) =
      flat_map-append locals-of (reversed (bodies_without_locals sites d ds)) (member_body sites c d ∷ [])
      ∙ ap (λ (ls : List CapturedLocal). ls ++ []) (none-round d ds)

  none-captured : (c : ℕ) → in_body sites c ≡ None → captured_locals p met (round_met sites met) c ≡ []
  unfolding captured_locals round_met round_without_locals
  none-captured c h =
      ap (λ o. filter (is_captured p met (round_met sites met) c)
      (flat_map locals-of (reversed (round_if sites (met_at sites met o) c)))) h
      ∙ ap (filter (is_captured p met (round_met sites met) c)) (none-round c (site_at sites c).spot.round)

-- ---- fields

either-in : (a b s : Bool) → b ≡ true → (a || b || s) ≡ true
either-in true b s h = refl
either-in false true s h = refl
either-in false false s h = absurd cc

module _ (source : Source) (c : ℕ) (interface : is_interface_sort (site_at source.sites c).sort ≡ true) where
  declared-static : (fs : List FieldSite) (f : DeclaredField) → In (map (declared_field source c) fs) f → f.is_static ≡ true
  declared-static fs f i =
      let m = mapped (declared_field source c) fs f i in
      sym (ap (λ (x : DeclaredField). x.is_static) m.is) ∙ either-in _ _ _ interface

  none-before : (captured : ℕ → List CapturedLocal) → (site_at source.sites c).spot.context ≡ static → captured c ≡ [] → types_before source captured c ≡ []
  none-before captured context nothing =
      ap (λ k. outer_types source (if is_instance k then within (site_at source.sites c) else None)
      ++ map (captured_type source) (captured c) ++ enum_types source (is_enum_sort (site_at source.sites c).sort)) context
      ∙ ap (λ ls. map (captured_type source) ls ++ enum_types source (is_enum_sort (site_at source.sites c).sort)) nothing
      ∙ ap (enum_types source) (no-enum (site_at source.sites c).sort interface)

  none-hidden : (captured : ℕ → List CapturedLocal) → types_before source captured c ≡ [] → hidden_fields source captured c ≡ []
  none-hidden captured h = by _ (types_before source captured c) h
    where
      by : (b : Bool) (ts : List SourceType) → ts ≡ [] → (if b then map (hidden_field source) ts else []) ≡ []
      by true ts e = ap (map (hidden_field source)) e
      by false ts e = refl

module _ (source : Source) (program : CoreProgram) (e : IsElaborated source program) (sites : HasSites source)
    (c : ℕ) (class : CoreClass) (le : library_count source ≤ c) (there : class_at program (class_numbered c) ≡ Some class) where
  abbrev p : Program
  p = program_of source e.first

  abbrev own : DeclaredClass
  own = with_enum_methods source c (declared_class source c)

  inside : c < length source.sites
  inside = within-sites source c le (subst (λ n. c < n) (e.has.count ∙ classes-count source) (slice_get_within program.classes c class there))

  declared-there : slice_get (classes source) c ≡ Some own
  declared-there = guest-declared source c le inside

  alike : AllZip (Alike p.heads) class.fields (fields_of p.classes c)
  alike =
      let made = e.has.guests c class le there in
      subst (λ (k : CoreClass). AllZip (Alike p.heads) k.fields (fields_of p.classes c)) (sym made.is)
      (own-alike source e.first c (sites.guests c le inside) declared-there sites.constants made.done made.walked)

  fields-are : is_interface_sort (site_at source.sites c).sort ≡ true → (site_at source.sites c).spot.context ≡ static →
      fields_of p.classes c ≡ map (declared_field source c) (sites_of source c)
  unfolding declared_class
  fields-are interface context =
      ap (λ ds. fields_of ds c) (classes-are source e.first)
      ∙ ap fields_in (hidden-there source (captured_by source e.first) c own declared-there)
      ∙ ap (λ fs. fs ++ own.fields) (none-hidden source c interface (captured_by source e.first)
      (none-before source c interface (captured_by source e.first) context
      (none-captured (first_program source) e.first.met source.sites c
      (interface-in-no-body source program e sites c le inside interface context))))
      ∙ same-fields source c (declared_class source c)

pub fields_are_static : (source : Source) (program : CoreProgram) (e : IsElaborated source program) → FieldsAreStatic source program e
fields_are_static source program e sites static-ones c class le there interface at f here =
    let made = e.has.guests c class le there in
    let sort : is_interface_sort (site_at source.sites c).sort ≡ true =
    ap is_interface_sort (sym (sort-is source program e c class made (declared-there source program e sites c class le there)))
    ∙ sym (same-sorts class.kind.sort) ∙ interface in
    let b = beside-first (Alike (program_of source e.first).heads) class.fields (fields_of (program_of source e.first).classes c) at f
    (alike source program e sites c class le there) here in
    b.holds.is_static
    ∙ declared-static source c sort (sites_of source c) b.element
    (subst (λ fs. In fs b.element) (fields-are source program e sites c class le there sort (static-ones c sort))
    (in-got (fields_of (program_of source e.first).classes c) at b.element b.is))
