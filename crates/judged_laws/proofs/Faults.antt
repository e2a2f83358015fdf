-- Faults of names in a class are faults of the source.
use Rattle.std.proofs.Common.{◌≡◌, ℕ, zero, suc, ◌+◌, ◌<◌, List, [], ◌∷◌, ◌++◌, length, Some, sym, subst, arith}
use Rattle.std.specs.Prelude.{true, slice_get}
use Rattle.std.specs.List.{Contains, flat_map}
use Rattle.std.proofs.lemmas.Option.{none-some, same_Some}
use Rattle.je_ast.specs.Types.{TypeParameter}
use Rattle.je_scopes.specs.Faults.{Fault, below, faults, guests, of_class, of_class_name, of_fields, of_heads, of_imports, of_methods, of_parameter, of_parameters, of_parameters_from}
use Rattle.je_scopes.specs.Headers.{is_guest, site_at}
use Rattle.je_scopes.specs.Members.{fields_of, methods_of}
use Rattle.je_scopes.specs.Source.{Source}
use Rattle.je_scopes.proofs.Lists.{in-below, in-filter, in-flat, in-left, in-right}

module _ (p : Source) (c : ℕ) where
  pub in-parameters : (all qs : List TypeParameter) (at k : ℕ) (q : TypeParameter) (f : Fault) → slice_get qs k ≡ Some q →
      Contains (of_parameter p c all (at + k) q) f → Contains (of_parameters_from p c all at qs) f
  in-parameters all [] at k q f e h = absurd (none-some q e)
  in-parameters all (r ∷ qs) at zero q f e h =
      let here : at + 0 ≡ at = omega arith in
      in-left (of_parameter p c all at r) (of_parameters_from p c all (suc at) qs) f
      (subst (λ n. Contains (of_parameter p c all n r) f) here
      (subst (λ x. Contains (of_parameter p c all (at + 0) x) f) (sym (same_Some r q e)) h))
  in-parameters all (r ∷ qs) at (suc k) q f e h =
      let there : at + suc k ≡ suc at + k = omega arith in
      in-right (of_parameter p c all at r) (of_parameters_from p c all (suc at) qs) f
      (in-parameters all qs (suc at) k q f e (subst (λ n. Contains (of_parameter p c all n q) f) there h))

  module _ (within : c < length p.sites) (guest : is_guest (site_at p.sites c).written ≡ true) where
    class-faults : (f : Fault) → Contains (of_class p c) f → Contains (faults p) f
    unfolding faults
    class-faults f h =
        in-right (flat_map (of_imports p.texts []) p.imports) (flat_map (of_class p) (guests p)) f
        (in-flat (of_class p) (guests p) c f
        (in-filter (λ k. is_guest (site_at p.sites k).written) (below (length p.sites)) c (in-below (length p.sites) c within) guest) h)

    pub parameter-faults : (f : Fault) → Contains (of_parameters p c) f → Contains (faults p) f
    parameter-faults f h = class-faults f
        (in-left (of_class_name p c ++ of_parameters p c ++ of_heads p c ++ of_fields p c [] (fields_of p c)) (of_methods p c [] (methods_of p c)) f
        (in-left (of_class_name p c ++ of_parameters p c ++ of_heads p c) (of_fields p c [] (fields_of p c)) f
        (in-left (of_class_name p c ++ of_parameters p c) (of_heads p c) f
        (in-right (of_class_name p c) (of_parameters p c) f h))))

    pub head-faults : (f : Fault) → Contains (of_heads p c) f → Contains (faults p) f
    head-faults f h = class-faults f
        (in-left (of_class_name p c ++ of_parameters p c ++ of_heads p c ++ of_fields p c [] (fields_of p c)) (of_methods p c [] (methods_of p c)) f
        (in-left (of_class_name p c ++ of_parameters p c ++ of_heads p c) (of_fields p c [] (fields_of p c)) f
        (in-right (of_class_name p c ++ of_parameters p c) (of_heads p c) f h)))
