-- The graph of dependences, class by class.
use Rattle.std.proofs.Common.{◌≡◌, ℕ, ◌<◌, ◌≤◌, List, [], length, Option, refl, sym, ◌∙◌, ap, subst}
use Rattle.std.specs.Prelude.{◌↔◌, Bool, true, false, slice_get}
use Rattle.std.specs.List.{Contains, flat_map}
use Rattle.std.proofs.lemmas.Option.{slice_get_past}
use Rattle.je_ast.specs.Types.{TypeName}
use Rattle.je_scopes.specs.Sites.{Site}
use Rattle.je_scopes.specs.Headers.{heads_in, or_nothing}
use Rattle.je_scopes.specs.Source.{Source}
use Rattle.je_scopes.specs.Scope.{Known, header, named}
use Rattle.je_scopes.specs.Settled.{dependences, depends, heads_of, parts_of, settled}
use Rattle.je_scopes.specs.Laws.{HasLibrary}
use Rattle.je_scopes.proofs.Either.{by_either, within_or_past}
use Rattle.je_scopes.proofs.Lists.{flat-from}
use Rattle.je_scopes.proofs.Ranges.{named-are}
use Rattle.scope_laws.specs.Ways.{Leads}
use Rattle.scope_laws.proofs.Cycles.{depends_by_ways}
use Rattle.name_cycles.specs.declared.cycles.Dependences.{Dependences}
use Rattle.name_cycles.specs.Graph.{list_view, depends_on, AreDependencesOf}

module _ (p : Source) (g : Dependences) where
  lists-past : (c : ℕ) → length g.lists.items ≤ c → list_view (slice_get g.lists.items c) ≡ []
  lists-past c l = ap list_view (slice_get_past g.lists.items c l)

  dependences-past : (c : ℕ) → length p.sites ≤ c → dependences p c ≡ []
  dependences-past c l = ap (λ (o : Option Site). flat_map (λ t. named p (settled p) c header (parts_of t)) (heads_in (or_nothing o).written)) (slice_get_past p.sites c l)

  -- each class was read
  pub all_read : length g.lists.items ≡ length p.sites → ((c : ℕ) → c < length p.sites → list_view (slice_get g.lists.items c) ≡ dependences p c) → AreDependencesOf p g
  unfolding depends_on
  all_read w h = record {
    whole = w;
    right = λ c. by_either (λ l. h c l) (λ l. lists-past c (subst (λ n. n ≤ c) (sym w) l) ∙ sym (dependences-past c l)) (within_or_past c (length p.sites));
  }

  -- It leads to classes of the program alone.
  pub leads_within : HasLibrary p → AreDependencesOf p g → (c d : ℕ) → Contains (depends_on g c) d → d < length g.lists.items
  leads_within whole a c d q =
      let r = flat-from (λ t. named p (settled p) c header (parts_of t)) (heads_of p c) d (subst (λ (l : List ℕ). Contains l d) (a.right c) q) in
      subst (λ n. d < n) (sym a.whole) (named-are p whole (settled p) c header (parts_of r.from) d r.has)

  -- what leads to a class depends on it
  pub leading_depends : AreDependencesOf p g → (c d : ℕ) (leads : Bool) → (leads ≡ true) ↔ Leads (depends_on g) c d → leads ≡ depends p c d
  leading_depends a c d leads h = same leads (depends p c d) (λ e. (depends_by_ways p (depends_on g) a.right c d).1 (h.0 e)) (λ e. h.1 ((depends_by_ways p (depends_on g) a.right c d).0 e))
    where
      same : (b d : Bool) → (b ≡ true → d ≡ true) → (d ≡ true → b ≡ true) → b ≡ d
      same true d f g = sym (f refl)
      same false true f g = g refl
      same false false f g = refl

-- what is read over settled headers
pub read_settled : (p : Source) (known : Known) (c : ℕ) (list : List ℕ) → settled p ≡ known → list ≡ flat_map (λ (t : TypeName). named p known c header (parts_of t)) (heads_of p c) → list ≡ dependences p c
read_settled p known c list e h = h ∙ ap (λ (k : Known). flat_map (λ t. named p k c header (parts_of t)) (heads_of p c)) (sym e)
