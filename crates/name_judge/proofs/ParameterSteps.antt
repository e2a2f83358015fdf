-- The type parameters of a class, one after another.
use Rattle.std.proofs.Common.{◌≡◌, ℕ, suc, ◌+◌, ◌<◌, ◌≤◌, List, [], ◌∷◌, ◌++◌, length, map, take, drop, get_or, refl, sym, ap, subst, ◌∙◌, add-one, drop-cons}
use Rattle.std.specs.Prelude.{Bool, true, false, ◌||◌}
use Rattle.std.specs.List.{list_any}
use Rattle.std.proofs.lemmas.List.{map-append, take-map, take_more}
use Rattle.std.proofs.lemmas.List.Folds.{list_any-append}
use Rattle.std.proofs.Math.ListN.{drop_of_length-le}
use Rattle.je_base.specs.declared.span.NameId.{NameId}
use Rattle.je_ast.specs.declared.decl.TypeParam.{TypeParam}
use Rattle.je_ast.specs.Types.{TypeParameter, parameter_view, type_view_of_option}
use Rattle.je_scopes.specs.Headers.{same_name}
use Rattle.je_scopes.specs.Scope.{header}
use Rattle.je_scopes.specs.Source.{Source}
use Rattle.je_scopes.specs.Faults.{Fault, comes_by, cycle_in_bound, name_of_parameter, next_variable, of_optional_type, of_parameter, of_parameters_from, twice, where_so}
use Rattle.name_faults.specs.declared.faults.Faults.{Faults}
use Rattle.name_faults.specs.declared.met.Met.{Met}
use Rattle.name_faults.specs.Met.{is_met}
use Rattle.name_faults.specs.View.{Adds}
use Rattle.name_faults.proofs.Left.{Left, left_done, left_step}

or-none : (b : Bool) → (b || false) ≡ b
or-none true = refl
or-none false = refl

abbrev pub named : NameId → TypeParameter → Bool
named x r = same_name (name_of_parameter r) x

-- The names of some type parameters were met.
pub record NamesMet (met : Met) (qs : List TypeParameter) : Type 0 where
  pub have : (x : NameId) → is_met met x ≡ list_any (named x) qs

module _ (p : Source) (c : ℕ) (ps : List TypeParam) (i : ℕ) (q : TypeParam) (within : i < length ps) (is : q ≡ get_or ps i q) where
  -- its name too
  pub names_more : (met new : Met) → NamesMet met (map parameter_view (take i ps)) → ((x : NameId) → is_met new x ≡ (is_met met x || same_name q.name.name x)) → NamesMet new (map parameter_view (take (i + 1) ps))
  names_more met new before more = record {
    have = λ x. more x ∙ ap (λ (b : Bool). b || same_name q.name.name x) (before.have x)
        ∙ ap (λ (b : Bool). list_any (named x) (map parameter_view (take i ps)) || b) (sym (or-none (same_name q.name.name x)))
        ∙ sym (list_any-append (named x) (map parameter_view (take i ps)) (parameter_view q ∷ []))
        ∙ ap (list_any (named x)) (sym more-views);
  }
    where
      more-views : map parameter_view (take (i + 1) ps) ≡ map parameter_view (take i ps) ++ parameter_view q ∷ []
      more-views = ap (map parameter_view) (take_more ps i q within ∙ ap (λ (k : TypeParam). take i ps ++ k ∷ []) (sym is)) ∙ map-append parameter_view (take i ps) (q ∷ [])

  pub parameter_next : (whole : List Fault) (start a b : Faults) (met : Met) (back : Bool) → NamesMet met (map parameter_view (take i ps)) → back ≡ comes_by p c (length (map parameter_view ps)) (next_variable p c i) i →
      Left start a (of_parameters_from p c (map parameter_view ps) i (map parameter_view (drop i ps))) whole →
      Adds a b (where_so (is_met met q.name.name) (twice q.name.span) ++ of_optional_type p c header (type_view_of_option q.bound) ++ cycle_in_bound back (type_view_of_option q.bound)) →
      Left start b (of_parameters_from p c (map parameter_view ps) (i + 1) (map parameter_view (drop (i + 1) ps))) whole
  parameter_next whole start a b met back before leads l s =
      let all = map parameter_view ps in
      let next : drop i ps ≡ q ∷ drop (i + 1) ps = rw (add-one, drop-cons ps i q) (ap (λ (k : TypeParam). k ∷ drop (suc i) ps) (sym is)) in
      let met-so : is_met met q.name.name ≡ list_any (named q.name.name) (take i all) = before.have q.name.name ∙ ap (list_any (named q.name.name)) (sym (take-map parameter_view i ps)) in
      let found : Adds a b (of_parameter p c all i (parameter_view q)) =
      subst (λ (fs : List Fault). Adds a b fs)
      (λ j. where_so (met-so j) (twice q.name.span) ++ of_optional_type p c header (type_view_of_option q.bound) ++ cycle_in_bound (leads j) (type_view_of_option q.bound)) s in
      let left : Left start a (of_parameter p c all i (parameter_view q) ++ of_parameters_from p c all (suc i) (map parameter_view (drop (i + 1) ps))) whole =
      subst (λ (ks : List TypeParam). Left start a (of_parameters_from p c all i (map parameter_view ks)) whole) next l in
      subst (λ (k : ℕ). Left start b (of_parameters_from p c all k (map parameter_view (drop (i + 1) ps))) whole) (sym (add-one i))
      (left_step (of_parameter p c all i (parameter_view q)) (of_parameters_from p c all (suc i) (map parameter_view (drop (i + 1) ps))) whole left found)

pub parameters_end : (p : Source) (c : ℕ) (ps : List TypeParam) (i : ℕ) (whole : List Fault) (start a : Faults) → length ps ≤ i →
    Left start a (of_parameters_from p c (map parameter_view ps) i (map parameter_view (drop i ps))) whole → Adds start a whole
parameters_end p c ps i whole start a past l =
    left_done whole (subst (λ (ks : List TypeParam). Left start a (of_parameters_from p c (map parameter_view ps) i (map parameter_view ks)) whole) (drop_of_length-le ps past) l)
