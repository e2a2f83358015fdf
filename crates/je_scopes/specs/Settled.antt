-- What each class names as above it, and on which classes it depends (JLS 8.1.4, 8.1.5, 9.1.3). A name in a header is looked
-- up among members that the classes round it inherit, for which their own headers must be known: so headers are settled in
-- rounds, and one that waits for itself is never settled.
use Rattle.std.specs.Prelude.{ℕ, zero, suc, Bool, false, ◌||◌, List, [], ◌∷◌, length, Option, Some, None, nat_eq, if◌then◌else◌}
use Rattle.std.specs.List.{list_any, list_all, flat_map, Contains}
use Rattle.je_ast.specs.declared.name.Identifier.{Identifier}
use Rattle.je_ast.specs.Types.{TypeName, primitive, class_type}
use Rattle.je_scopes.specs.Headers.{site_at, heads_in}
use Rattle.je_scopes.specs.Looks.{Look, waits, a_class}
use Rattle.je_scopes.specs.Source.{Source}
use Rattle.je_scopes.specs.Scope.{Known, header, meaning, named, is_accessible}

-- the parts of the name of a type; a primitive type has none
abbrev pub parts_of : TypeName → List Identifier
parts_of (primitive p dims span) = []
parts_of (class_type q args dims span) = q.parts

abbrev pub heads_of : Source → ℕ → List TypeName
heads_of p c = heads_in (site_at p.sites c).written

-- the supers so far, and one more; a name that is no class, or names one that isn't accessible, gives none
abbrev pub also : Bool → Look → Option (List ℕ) → Option (List ℕ)
also accessible waits ds = None
also accessible look None = None
also accessible (a_class d) (Some ds) = Some (if accessible then d ∷ ds else ds)
also accessible look (Some ds) = Some ds

abbrev pub supers_in : Source → Known → ℕ → List TypeName → Option (List ℕ)
supers_in p known c [] = Some []
supers_in p known c (t ∷ ts) = also (list_all (is_accessible p c) (named p known c header (parts_of t))) (meaning p known c header (parts_of t)) (supers_in p known c ts)

-- A header is settled in a round where all that its look-ups meet was settled before. What is settled stays.
abbrev pub settled_within : Source → ℕ → Known
settled_within p zero c = None
settled_within p (suc n) c = supers_in p (settled_within p n) c (heads_of p c)

-- In one round more than there are classes all is settled that ever is.
unfoldable pub settled : Source → Known
settled p = settled_within p (suc (length p.sites))

-- ---- dependence

-- a class directly depends on the classes that its header names, as qualifiers too; type arguments aside
abbrev pub dependences : Source → ℕ → List ℕ
dependences p c = flat_map (λ t. named p (settled p) c header (parts_of t)) (heads_of p c)

-- A class depends on what it directly depends on, and on what that depends on.
pub data Depends (p : Source) : ℕ → ℕ → Type 0 where
  direct : {c d : ℕ} → Contains (dependences p c) d → Depends p c d
  onward : {c d e : ℕ} → Contains (dependences p c) d → Depends p d e → Depends p c e

-- the same, decided: in so many steps at most
abbrev pub depends_within : Source → ℕ → ℕ → ℕ → Bool
depends_within p zero c d = false
depends_within p (suc n) c d = list_any (λ e. nat_eq e d || depends_within p n e d) (dependences p c)

unfoldable pub depends : Source → ℕ → ℕ → Bool
depends p c d = depends_within p (suc (length p.sites)) c d
