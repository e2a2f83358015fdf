-- The faults of a name and of a type, by what is known of headers.
use Rattle.std.proofs.Common.{◌≡◌, ℕ, ◌+◌, ◌<◌, ◌≤◌, List, ◌∷◌, ◌++◌, length, map, drop, get_or, refl, sym, ◌∙◌, ap, subst, add-one, drop-cons}
use Rattle.std.specs.Prelude.{Bool, not, suc, []}
use Rattle.std.specs.List.{list_all}
use Rattle.std.proofs.Math.ListN.{drop_of_length-le}
use Rattle.je_base.specs.declared.span.Span.{Span}
use Rattle.je_ast.specs.declared.ty_name.TyName.{TyName}
use Rattle.je_ast.specs.Types.{QualifiedName, TypeName, class_type, type_names, type_view, type_views_of}
use Rattle.je_scopes.specs.Looks.{Look}
use Rattle.je_scopes.specs.Source.{Source}
use Rattle.je_scopes.specs.Scope.{Known, Part, is_accessible, meaning, named}
use Rattle.je_scopes.specs.Settled.{settled}
use Rattle.je_scopes.specs.SourceTypes.{count}
use Rattle.je_scopes.specs.Faults.{Fault, by_meaning, not_accessible, of_name, of_type, of_types, where_so}
use Rattle.name_faults.specs.declared.faults.Faults.{Faults}
use Rattle.name_faults.specs.View.{Adds}
use Rattle.name_faults.proofs.Left.{Left, adds_both, left_done, left_step}

pub name_faults : (p : Source) (known : Known) (c : ℕ) (part : Part) (q : QualifiedName) (arguments : ℕ) (accessible : Bool) (names : List ℕ) (look : Look) → settled p ≡ known →
    accessible ≡ list_all (is_accessible p c) names → names ≡ named p known c part q.parts → look ≡ meaning p known c part q.parts →
    where_so (not accessible) (not_accessible q.span) ++ by_meaning p look arguments q.span ≡ of_name p c part q arguments
name_faults p known c part q arguments accessible names look settles a n l =
    ap (λ (b : Bool). where_so (not b) (not_accessible q.span) ++ by_meaning p look arguments q.span) (a ∙ ap (list_all (is_accessible p c)) n)
    ∙ ap (λ (k : Look). where_so (not (list_all (is_accessible p c) (named p known c part q.parts))) (not_accessible q.span) ++ by_meaning p k arguments q.span) l
    ∙ ap (λ (k : Known). where_so (not (list_all (is_accessible p c) (named p k c part q.parts))) (not_accessible q.span) ++ by_meaning p (meaning p k c part q.parts) arguments q.span) (sym settles)

pub count_is : {X : Type 0} (see : X → TypeName) (ts : List X) → length ts ≡ count (type_names (map see ts))
count_is see [] = refl
count_is see (t ∷ ts) = ap suc (count_is see ts)

-- ---- types

module _ (p : Source) (c : ℕ) (part : Part) where
  pub class_faults : {a b d : Faults} (q : QualifiedName) (ts : List TyName) (arguments dims : ℕ) (span : Span) → arguments ≡ length ts → Adds a b (of_name p c part q arguments) →
      Adds b d (of_types p c part (type_views_of ts)) → Adds a d (of_type p c part (class_type q (type_views_of ts) dims span))
  class_faults {a = a} {b = b} q ts arguments dims span e s t =
      adds_both (of_name p c part q (count (type_views_of ts))) (of_types p c part (type_views_of ts)) (subst (λ (n : ℕ). Adds a b (of_name p c part q n)) (e ∙ count_is type_view ts) s) t

  module _ (ts : List TyName) (i : ℕ) (whole : List Fault) where
    pub types_next : {start a b : Faults} (t : TyName) → i < length ts → t ≡ get_or ts i t → Left start a (of_types p c part (type_views_of (drop i ts))) whole → Adds a b (of_type p c part (type_view t)) →
        Left start b (of_types p c part (type_views_of (drop (i + 1) ts))) whole
    types_next {start = start} {a = a} t within is l s =
        let next : drop i ts ≡ t ∷ drop (i + 1) ts = rw (add-one, drop-cons ts i t) (ap (λ (k : TyName). k ∷ drop (suc i) ts) (sym is)) in
        left_step (of_type p c part (type_view t)) (of_types p c part (type_views_of (drop (i + 1) ts))) whole (subst (λ (ks : List TyName). Left start a (of_types p c part (type_views_of ks)) whole) next l) s

    pub types_end : {start a : Faults} → length ts ≤ i → Left start a (of_types p c part (type_views_of (drop i ts))) whole → Adds start a whole
    types_end {start = start} {a = a} past l = left_done whole (subst (λ (ks : List TyName). Left start a (of_types p c part (type_views_of ks)) whole) (drop_of_length-le ts past) l)
