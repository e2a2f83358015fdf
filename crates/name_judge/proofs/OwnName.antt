-- The faults of a class's own name, test by test.
use Rattle.std.proofs.Common.{◌≡◌, ℕ, ◌++◌}
use Rattle.std.specs.Prelude.{Bool, ◌&&◌, not}
use Rattle.std.specs.List.{list_any}
use Rattle.std.specs.Str.{bytes_eq}
use Rattle.je_base.specs.declared.span.Span.{Span}
use Rattle.je_scopes.specs.Headers.{is_local_sort, name_in, site_at, span_in, within}
use Rattle.je_scopes.specs.Source.{Source}
use Rattle.je_scopes.specs.Scope.{is_static_context}
use Rattle.je_scopes.specs.BinaryNames.{binary_name}
use Rattle.je_scopes.specs.Faults.{below, is_generic, is_imported, is_name_round, is_top, of_class_name, out_of_profile, twice, where_so}

module _ (p : Source) (c : ℕ) (span : Span) (repeated imported round inner : Bool) where
  pub class_name_faults : span ≡ span_in (site_at p.sites c).written → repeated ≡ list_any (λ d. bytes_eq (binary_name p d) (binary_name p c)) (below c)
      → imported ≡ (is_top (within (site_at p.sites c)) && is_imported p (name_in (site_at p.sites c).written))
      → round ≡ is_name_round p (name_in (site_at p.sites c).written) (site_at p.sites c).spot.round
      → inner ≡ (not (is_local_sort (site_at p.sites c).sort) && is_generic p (within (site_at p.sites c)) && not (is_static_context (site_at p.sites c).spot.context))
      → where_so repeated (twice span) ++ where_so imported (twice span) ++ where_so round (twice span) ++ where_so inner (out_of_profile span) ≡ of_class_name p c
  class_name_faults s r m o n = λ i. where_so (r i) (twice (s i)) ++ where_so (m i) (twice (s i)) ++ where_so (o i) (twice (s i)) ++ where_so (n i) (out_of_profile (s i))
