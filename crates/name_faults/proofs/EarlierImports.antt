-- What an import's simple name means at the top of its unit, against the imports before it.
use Rattle.std.proofs.Common.{◌≡◌, ℕ, ◌+◌, ◌<◌, ◌≤◌, List, [], ◌∷◌, ◌++◌, suc, length, map, take, drop, get_or, option_map, Option, Some, None, refl, sym, ◌∙◌, ap, subst, arith, add-one, drop-cons}
use Rattle.std.specs.Prelude.{Bool, true, false, is_some, not, nat_eq, if◌then◌else◌, slice_get}
use Rattle.std.proofs.lemmas.List.{map-append, take-append-drop, take_more}
use Rattle.std.proofs.lemmas.Option.{slice_get-map}
use Rattle.std.proofs.Math.ListN.{drop_of_length-le}
use Rattle.std.proofs.lemmas.Bool.Decides.{nat_tests}
use Rattle.je_base.specs.declared.span.NameId.{NameId}
use Rattle.je_ast.specs.declared.name.Identifier.{Identifier}
use Rattle.je_ast.specs.declared.name.Name.{Name}
use Rattle.je_ast.specs.declared.decl.Unit.{Unit}
use Rattle.je_ast.specs.Types.{QualifiedName, name_view}
use Rattle.je_ast.specs.View.{unit_view}
use Rattle.je_scopes.specs.Looks.{Look, waits, nothing, a_class, a_variable, unclear, found, or_further}
use Rattle.je_scopes.specs.Source.{Source, implicit_class, imports_of, library_class}
use Rattle.je_scopes.specs.Scope.{at_top, declared, first_import, is_last_part, last_part, or_no_imports}
use Rattle.je_scopes.specs.Faults.{Fault, is_other, name_of_last, of_import, of_imports, twice, unknown, where_so}
use Rattle.name_faults.specs.declared.faults.Faults.{Faults}
use Rattle.name_faults.specs.View.{Adds}
use Rattle.name_faults.proofs.Left.{Left, left_done, left_step}
use Rattle.name_faults.specs.Imports.{in_unit, last_at_top, of_class}

-- the first import of a name, where this one of it names a class
import-split : (texts : List (List ℕ)) (x : NameId) (earlier later : List QualifiedName) (q : QualifiedName) (c : ℕ) → library_class texts q.parts ≡ Some c → is_last_part x (last_part q.parts) ≡ true →
    first_import texts x (earlier ++ q ∷ later) ≡ or_further (first_import texts x earlier) (a_class c)
import-split texts x [] later q c e t = rw (t, e) refl
import-split texts x (r ∷ earlier) later q c e t = by (import-split texts x earlier later q c e t) (is_last_part x (last_part r.parts)) (library_class texts r.parts)
  where
    by : first_import texts x (earlier ++ q ∷ later) ≡ or_further (first_import texts x earlier) (a_class c) → (b : Bool) (o : Option ℕ) → (if b then or_further (found o) (first_import texts x (earlier ++ q ∷ later)) else first_import texts x (earlier ++ q ∷ later))
        ≡ or_further (if b then or_further (found o) (first_import texts x earlier) else first_import texts x earlier) (a_class c)
    by rest true None = rest
    by rest true (Some d) = refl
    by rest false o = rest

same : (c : ℕ) → nat_eq c c ≡ true
same c = grind (arith, nat_tests)

-- What comes behind the earlier ones is no other class.
is-other : (c : ℕ) (earlier rest : Look) → is_other (Some c) (or_further (or_further earlier (a_class c)) rest) ≡ is_other (Some c) earlier
is-other c waits rest = refl
is-other c nothing rest = ap not (same c)
is-other c (a_class d) rest = refl
is-other c (a_variable d at) rest = refl
is-other c unclear rest = refl

module _ (p : Source) (unit : ℕ) (earlier later : List QualifiedName) (q : QualifiedName) (there : or_no_imports (slice_get p.imports unit) ≡ earlier ++ q ∷ later) where
  other-so : (c : ℕ) → library_class p.texts q.parts ≡ Some c → (l : Option Identifier) → last_part q.parts ≡ l → is_other (Some c) (last_at_top p unit l) ≡ is_other (Some c) (name_of_last l earlier p.texts)
  other-so c e None is = refl
  other-so c e (Some i) is =
      let last : is_last_part i.name (last_part q.parts) ≡ true = rw is (same i.name.0) in
      ap (λ (qs : List QualifiedName). is_other (Some c) (or_further (first_import p.texts i.name qs) (or_further (declared p None i.name) (found (implicit_class p.texts i.name))))) there
      ∙ ap (λ (k : Look). is_other (Some c) (or_further k (or_further (declared p None i.name) (found (implicit_class p.texts i.name))))) (import-split p.texts i.name earlier later q c e last)
      ∙ is-other c (first_import p.texts i.name earlier) (or_further (declared p None i.name) (found (implicit_class p.texts i.name)))

  of-class : (o : Option ℕ) → library_class p.texts q.parts ≡ o → of_class o (last_at_top p unit (last_part q.parts)) q
      ≡ where_so (not (is_some o)) (unknown q.span) ++ where_so (is_other o (name_of_last (last_part q.parts) earlier p.texts)) (twice q.span)
  of-class None e = refl
  of-class (Some c) e = ap (λ b. where_so b (twice q.span)) (other-so c e (last_part q.parts) refl)

  pub import_is : in_unit p unit q ≡ of_import p.texts earlier q
  import_is = of-class (library_class p.texts q.parts) refl

-- an import of a class, by what its last part means
pub last_means : (p : Source) (unit : ℕ) (q : QualifiedName) (c : ℕ) (last : Identifier) (other : Bool) → library_class p.texts q.parts ≡ Some c → last_part q.parts ≡ Some last →
    other ≡ is_other (Some c) (at_top p unit last.name) → where_so other (twice q.span) ≡ in_unit p unit q
last_means p unit q c last other e l o =
    ap (λ (b : Bool). where_so b (twice q.span)) o ∙ ap (λ (k : Option Identifier). where_so (is_other (Some c) (last_at_top p unit k)) (twice q.span)) (sym l)
    ∙ ap (λ (k : Option ℕ). of_class k (last_at_top p unit (last_part q.parts)) q) (sym e)

-- an import of no class, and one of no parts
pub no_class : (p : Source) (unit : ℕ) (q : QualifiedName) → library_class p.texts q.parts ≡ None → unknown q.span ∷ [] ≡ in_unit p unit q
no_class p unit q e = ap (λ (o : Option ℕ). of_class o (last_at_top p unit (last_part q.parts)) q) (sym e)

pub no_parts : (p : Source) (unit : ℕ) (q : QualifiedName) (c : ℕ) → library_class p.texts q.parts ≡ Some c → last_part q.parts ≡ None → [] ≡ in_unit p unit q
no_parts p unit q c e l =
    ap (λ (k : Option Identifier). where_so (is_other (Some c) (last_at_top p unit k)) (twice q.span)) (sym l)
    ∙ ap (λ (o : Option ℕ). of_class o (last_at_top p unit (last_part q.parts)) q) (sym e)

-- ---- import by import, of a unit in memory

module _ (p : Source) (imports : List Name) (i : ℕ) (whole : List Fault) where
  pub import_next : {start a b : Faults} (unit : ℕ) (import : Name) → slice_get p.imports unit ≡ Some (map name_view imports) → i < length imports → import ≡ get_or imports i import →
      Left start a (of_imports p.texts (map name_view (take i imports)) (map name_view (drop i imports))) whole → Adds a b (in_unit p unit (name_view import)) →
      Left start b (of_imports p.texts (map name_view (take (i + 1) imports)) (map name_view (drop (i + 1) imports))) whole
  import_next {start = start} {a = a} {b = b} unit import there within is l s =
      let q = name_view import in
      let earlier = map name_view (take i imports) in
      let later = map name_view (drop (i + 1) imports) in
      let next : drop i imports ≡ import ∷ drop (i + 1) imports = rw (add-one, drop-cons imports i import) (ap (λ (n : Name). n ∷ drop (suc i) imports) (sym is)) in
      let parted : map name_view imports ≡ earlier ++ q ∷ later =
      ap (map name_view) (sym (take-append-drop i imports)) ∙ map-append name_view (take i imports) (drop i imports) ∙ ap (λ (ns : List Name). earlier ++ map name_view ns) next in
      let taken : map name_view (take (i + 1) imports) ≡ earlier ++ q ∷ [] =
      ap (map name_view) (take_more imports i import within) ∙ map-append name_view (take i imports) (get_or imports i import ∷ []) ∙ ap (λ (n : Name). earlier ++ name_view n ∷ []) (sym is) in
      subst (λ (qs : List QualifiedName). Left start b (of_imports p.texts qs later) whole) (sym taken)
      (left_step (of_import p.texts earlier q) (of_imports p.texts (earlier ++ q ∷ []) later) whole
      (subst (λ (ns : List Name). Left start a (of_imports p.texts earlier (map name_view ns)) whole) next l)
      (subst (λ (fs : List Fault). Adds a b fs) (import_is p unit earlier later q (ap or_no_imports there ∙ parted)) s))

  pub imports_end : {start a : Faults} → length imports ≤ i → Left start a (of_imports p.texts (map name_view (take i imports)) (map name_view (drop i imports))) whole → Adds start a whole
  imports_end {start = start} {a = a} past l =
      left_done whole (subst (λ (ns : List Name). Left start a (of_imports p.texts (map name_view (take i imports)) (map name_view ns)) whole) (drop_of_length-le imports past) l)

-- ---- unit by unit

abbrev pub imports_in : Unit → List QualifiedName
imports_in u = imports_of (unit_view u)

pub views : (units : List Unit) → map imports_of (map unit_view units) ≡ map imports_in units
views [] = refl
views (u ∷ us) = ap (λ (k : List (List QualifiedName)). imports_in u ∷ k) (views us)

pub unit_imports : (units : List Unit) (imports : List (List QualifiedName)) (at : ℕ) (unit : Unit) → imports ≡ map imports_of (map unit_view units) → slice_get units at ≡ Some unit →
    slice_get imports at ≡ Some (map name_view unit.imports.items)
unit_imports units imports at unit e g =
    ap (λ (k : List (List QualifiedName)). slice_get k at) (e ∙ views units) ∙ slice_get-map imports_in units at ∙ ap (λ (o : Option Unit). option_map imports_in o) g
