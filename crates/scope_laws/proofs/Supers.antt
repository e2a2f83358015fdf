-- A header names classes of the program.
use Rattle.std.proofs.Common.{◌≡◌, ℕ, ◌<◌, List, [], ◌∷◌, length, Option, Some, None, refl, sym, subst, ap, arith}
use Rattle.std.specs.Prelude.{Bool, true, false, if◌then◌else◌}
use Rattle.std.specs.List.{list_all, Contains}
use Rattle.je_ast.specs.Types.{TypeName}
use Rattle.je_classes.proofs.Lists.{contains-cases}
use Rattle.je_scopes.specs.Looks.{Look, waits, nothing, a_class, a_variable, unclear}
use Rattle.je_scopes.specs.Source.{Source}
use Rattle.je_scopes.specs.Scope.{Known, header, meaning, named, is_accessible}
use Rattle.je_scopes.specs.Settled.{heads_of, parts_of, also, supers_in}
use Rattle.je_scopes.specs.Laws.{HasLibrary}
use Rattle.je_scopes.proofs.Either.{by_either, nothing-in}
use Rattle.je_scopes.proofs.Found.{meant-named}
use Rattle.je_scopes.proofs.Ranges.{named-are}
use Rattle.scope_laws.specs.Laws.{HeadersAreWithin}

-- all below a bound, where they are known
abbrev AreBelow : ℕ → Option (List ℕ) → Type 0
AreBelow n o = (ds : List ℕ) → o ≡ Some ds → (d : ℕ) → Contains ds d → d < n

list_in : Option (List ℕ) → List ℕ
list_in None = []
list_in (Some ds) = ds

same-list : (ds es : List ℕ) → Some ds ≡ Some es → ds ≡ es
unfolding list_in
same-list ds es e = ap list_in e

some-below : (n : ℕ) (ds : List ℕ) → ((d : ℕ) → Contains ds d → d < n) → AreBelow n (Some ds)
some-below n ds h es e d q = h d (subst (λ (l : List ℕ). Contains l d) (sym (same-list ds es e)) q)

one-more : (n : ℕ) (b : Bool) (c : ℕ) (ds : List ℕ) → c < n → AreBelow n (Some ds) → AreBelow n (Some (if b then c ∷ ds else ds))
one-more n true c ds l h = some-below n (c ∷ ds) (λ d q. by_either (λ e. let k : c < n = l in omega (arith, e, k)) (λ r. h ds refl d r) (contains-cases c d ds q))
one-more n false c ds l h = h

below-also : (n : ℕ) (b : Bool) (look : Look) (o : Option (List ℕ)) → ((c : ℕ) → look ≡ a_class c → c < n) → AreBelow n o → AreBelow n (also b look o)
below-also n b waits o h k = λ ds e. absurd (cc)
below-also n b nothing None h k = k
below-also n b nothing (Some ds) h k = k
below-also n b (a_class c) None h k = λ ds e. absurd (cc)
below-also n b (a_class c) (Some ds) h k = one-more n b c ds (h c refl) k
below-also n b (a_variable c at) None h k = k
below-also n b (a_variable c at) (Some ds) h k = k
below-also n b unclear None h k = k
below-also n b unclear (Some ds) h k = k

below-supers : (p : Source) → HasLibrary p → (known : Known) (c : ℕ) (ts : List TypeName) → AreBelow (length p.sites) (supers_in p known c ts)
below-supers p whole known c [] = some-below (length p.sites) [] (λ d q. absurd (nothing-in d q))
below-supers p whole known c (t ∷ ts) = below-also (length p.sites) (list_all (is_accessible p c) (named p known c header (parts_of t))) (meaning p known c header (parts_of t)) (supers_in p known c ts)
    (λ d e. named-are p whole known c header (parts_of t) d (meant-named p known c header (parts_of t) d e)) (below-supers p whole known c ts)

pub headers_are_within : HeadersAreWithin
headers_are_within p whole known c ds e d q = below-supers p whole known c (heads_of p c) ds e d q
