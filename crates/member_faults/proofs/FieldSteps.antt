-- The fields of a class, one after another.
use Rattle.std.proofs.Common.{◌≡◌, ℕ, ◌+◌, ◌<◌, ◌≤◌, List, [], ◌∷◌, ◌++◌, Some, length, map, drop, get_or, refl, sym, ◌∙◌, ap, subst, add-one, drop-cons, arith}
use Rattle.std.specs.Prelude.{Bool, true, false, ◌||◌, suc}
use Rattle.std.specs.List.{list_any}
use Rattle.std.proofs.Math.ListN.{drop_of_length-le}
use Rattle.je_base.specs.declared.span.NameId.{NameId}
use Rattle.je_ast.specs.declared.name.Identifier.{Identifier}
use Rattle.je_ast.specs.declared.decl.Member.{Member}
use Rattle.je_ast.specs.declared.decl.Modifier.{Modifier}
use Rattle.je_ast.specs.declared.stmt.Var.{Var}
use Rattle.je_ast.specs.Types.{TypeName}
use Rattle.je_ast.specs.View.{member_view, member_views_of, variable_views_of}
use Rattle.je_scopes.specs.Headers.{is_interface_sort, same_name, site_at}
use Rattle.je_scopes.specs.Sites.{has_static}
use Rattle.je_scopes.specs.Source.{Source}
use Rattle.je_scopes.specs.Scope.{Part}
use Rattle.je_scopes.specs.Members.{FieldSite, constant_site, field_part, field_sites, fields_before, part_of, variable_sites}
use Rattle.je_scopes.specs.Faults.{Fault, least, name_of_field, of_field, of_fields, of_optional_type, of_type, twice, where_so}
use Rattle.name_faults.specs.declared.faults.Faults.{Faults}
use Rattle.name_faults.specs.View.{Adds, earliest, first_of}
use Rattle.name_faults.proofs.Earliest.{earliest-assoc}
use Rattle.name_faults.proofs.Left.{Left, adds_both, adds_none, left_all, left_done, left_step}
use Rattle.name_faults.proofs.Covers.{Covers, among}
use Rattle.name_faults.specs.declared.met.Met.{Met}
use Rattle.name_faults.specs.Met.{is_met}
use Rattle.member_faults.specs.Progress.{FieldsLeft}

any-last : {X : Type 0} (test : X → Bool) (xs : List X) (x : X) → list_any test (xs ++ x ∷ []) ≡ (list_any test xs || test x)
any-last test [] x = by (test x)
  where
    by : (b : Bool) → (b || false) ≡ b
    by true = refl
    by false = refl
any-last test (y ∷ ys) x = ap (λ (b : Bool). test y || b) (any-last test ys x) ∙ by (test y)
  where
    by : (b : Bool) → (b || (list_any test ys || test x)) ≡ ((b || list_any test ys) || test x)
    by true = refl
    by false = refl

-- what is found ahead of its turn
left-ahead : {start a b : Faults} (before known behind whole : List Fault) → Left start a (before ++ known ++ behind) whole → Adds a b known → Left start b (before ++ known ++ behind) whole
left-ahead {a = a} before known behind whole l s = record {
  first = ap (λ o. earliest o (least (before ++ known ++ behind))) s.first ∙ earliest-assoc (first_of a) (least known) (least (before ++ known ++ behind)) ∙ ap (earliest (first_of a)) (among before known behind) ∙ l.first;
}

module _ (p : Source) (c : ℕ) (whole : List Fault) where
  pub fields_begin : (a : Faults) (met : Met) (fs : List FieldSite) → ((x : NameId) → is_met met x ≡ false) → FieldsLeft p c a a met fs (of_fields p c [] fs)
  fields_begin a met fs none = record { earlier = []; have = none; left = left_all a (of_fields p c [] fs) }

  pub fields_done : (start a : Faults) (met : Met) → FieldsLeft p c start a met [] whole → Adds start a whole
  fields_done start a met l = left_done whole l.left

  pub field_next : (start a b d : Faults) (met new : Met) (f : FieldSite) (rest : List FieldSite) → FieldsLeft p c start a met (f ∷ rest) whole →
      ((x : NameId) → is_met new x ≡ (is_met met x || same_name f.name.name x)) → Adds a b (where_so (is_met met f.name.name) (twice f.name.span)) → Adds b d (of_optional_type p c (field_part p c f) f.written) →
      FieldsLeft p c start d new rest whole
  field_next start a b d met new f rest l m s t = record {
    earlier = l.earlier ++ f ∷ [];
    have = λ x. m x ∙ ap (λ (k : Bool). k || same_name f.name.name x) (l.have x) ∙ sym (any-last (λ (e : FieldSite). same_name (name_of_field e) x) l.earlier f);
    left = left_step (of_field p c l.earlier f) (of_fields p c (l.earlier ++ f ∷ []) rest) whole l.left
        (subst (λ (k : Bool). Adds a d (where_so k (twice f.name.span) ++ of_optional_type p c (field_part p c f) f.written)) (l.have f.name.name)
        (adds_both (where_so (is_met met f.name.name) (twice f.name.span)) (of_optional_type p c (field_part p c f) f.written) s t));
  }

  field-ahead : (start a b : Faults) (met : Met) (f : FieldSite) (rest : List FieldSite) → FieldsLeft p c start a met (f ∷ rest) whole → Adds a b (of_optional_type p c (field_part p c f) f.written) →
      FieldsLeft p c start b met (f ∷ rest) whole
  field-ahead start a b met f rest l s = record {
    earlier = l.earlier;
    have = l.have;
    left = left-ahead (where_so (list_any (λ (e : FieldSite). same_name (name_of_field e) f.name.name) l.earlier) (twice f.name.span)) (of_optional_type p c (field_part p c f) f.written) (of_fields p c (l.earlier ++ f ∷ []) rest) whole l.left s;
  }

  -- ---- an enum's constants

  module _ (constants : List Identifier) (i : ℕ) (rest : List FieldSite) where
    pub constant_next : (start a b : Faults) (met new : Met) (d : Identifier) → i < length constants → FieldsLeft p c start a met (map constant_site (drop i constants) ++ rest) whole →
        ((x : NameId) → is_met new x ≡ (is_met met x || same_name (get_or constants i d).name x)) → Adds a b (where_so (is_met met (get_or constants i d).name) (twice (get_or constants i d).span)) →
        FieldsLeft p c start b new (map constant_site (drop (i + 1) constants) ++ rest) whole
    constant_next start a b met new d within l m s =
        let next : drop i constants ≡ get_or constants i d ∷ drop (i + 1) constants = rw (add-one, drop-cons constants i d) refl in
        field_next start a b b met new (constant_site (get_or constants i d)) (map constant_site (drop (i + 1) constants) ++ rest)
        (subst (λ (ks : List Identifier). FieldsLeft p c start a met (map constant_site ks ++ rest) whole) next l) m s (adds_none b)

    pub constants_end : (start a : Faults) (met : Met) → length constants ≤ i → FieldsLeft p c start a met (map constant_site (drop i constants) ++ rest) whole → FieldsLeft p c start a met rest whole
    constants_end start a met past l = subst (λ (ks : List Identifier). FieldsLeft p c start a met (map constant_site ks ++ rest) whole) (drop_of_length-le constants past) l

  -- ---- fields that are declared together

  pub variables_ahead : (ms : List Modifier) (t : TypeName) (vars : List Var) (rest : List FieldSite) (start a b : Faults) (met : Met) → 0 < length vars →
      Adds a b (of_type p c (part_of (is_interface_sort (site_at p.sites c).sort || has_static ms)) t) → FieldsLeft p c start a met (variable_sites ms t (variable_views_of vars) ++ rest) whole →
      FieldsLeft p c start b met (variable_sites ms t (variable_views_of vars) ++ rest) whole
  variables_ahead ms t [] rest start a b met h s l = absurd (omega arith)
  variables_ahead ms t (v ∷ vs) rest start a b met h s l =
      field-ahead start a b met (record { name = v.name; modifiers = ms; written = Some t; dims = v.dims }) (variable_sites ms t (variable_views_of vs) ++ rest) l s

  module _ (ms : List Modifier) (t : TypeName) (vars : List Var) (i : ℕ) (rest : List FieldSite) where
    abbrev part : Part
    part = part_of (is_interface_sort (site_at p.sites c).sort || has_static ms)

    abbrev site : Var → FieldSite
    site v = record { name = v.name; modifiers = ms; written = Some t; dims = v.dims }

    pub variable_next : (start a b : Faults) (met new : Met) (v : Var) → i < length vars → v ≡ get_or vars i v → FieldsLeft p c start a met (variable_sites ms t (variable_views_of (drop i vars)) ++ rest) whole →
        Covers b (of_type p c (part_of (is_interface_sort (site_at p.sites c).sort || has_static ms)) t) → ((x : NameId) → is_met new x ≡ (is_met met x || same_name v.name.name x)) → Adds a b (where_so (is_met met v.name.name) (twice v.name.span)) →
        FieldsLeft p c start b new (variable_sites ms t (variable_views_of (drop (i + 1) vars)) ++ rest) whole
    variable_next start a b met new v within is l known m s =
        let next : drop i vars ≡ v ∷ drop (i + 1) vars = rw (add-one, drop-cons vars i v) (ap (λ (k : Var). k ∷ drop (suc i) vars) (sym is)) in
        let covered : Adds b b (of_type p c part t) = record { first = sym known.first } in
        field_next start a b b met new (site v) (variable_sites ms t (variable_views_of (drop (i + 1) vars)) ++ rest)
        (subst (λ (ks : List Var). FieldsLeft p c start a met (variable_sites ms t (variable_views_of ks) ++ rest) whole) next l) m s covered

    pub variables_end : (start a : Faults) (met : Met) → length vars ≤ i → FieldsLeft p c start a met (variable_sites ms t (variable_views_of (drop i vars)) ++ rest) whole → FieldsLeft p c start a met rest whole
    variables_end start a met past l = subst (λ (ks : List Var). FieldsLeft p c start a met (variable_sites ms t (variable_views_of ks) ++ rest) whole) (drop_of_length-le vars past) l

  -- ---- members

  module _ (members : List Member) (i : ℕ) (start a : Faults) (met : Met) where
    pub member_next : (d : Member) → i < length members → d ≡ get_or members i d → FieldsLeft p c start a met (field_sites (member_views_of (drop i members))) whole →
        FieldsLeft p c start a met (fields_before (member_view d) (field_sites (member_views_of (drop (i + 1) members)))) whole
    member_next d within is l =
        let next : drop i members ≡ d ∷ drop (i + 1) members = rw (add-one, drop-cons members i d) (ap (λ (k : Member). k ∷ drop (suc i) members) (sym is)) in
        subst (λ (ks : List Member). FieldsLeft p c start a met (field_sites (member_views_of ks)) whole) next l

    pub members_end : length members ≤ i → FieldsLeft p c start a met (field_sites (member_views_of (drop i members))) whole → FieldsLeft p c start a met [] whole
    members_end past l = subst (λ (ks : List Member). FieldsLeft p c start a met (field_sites (member_views_of ks)) whole) (drop_of_length-le members past) l
