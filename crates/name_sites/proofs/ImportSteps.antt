-- Imports one by one.
use Rattle.std.proofs.Common.{◌≡◌, ℕ, suc, ◌+◌, ◌-◌, ◌<◌, ◌≤◌, Bool, true, false, ◌&&◌, nat_lt, nat_eq, List, [], ◌∷◌, length, map, Option, Some, None, if◌then◌else◌, refl, ◌∙◌, sym, ap, arith, drop, get_or, add-one, drop-cons, Result, Ok, Err, OnOk}
use Rattle.std.specs.Prelude.{slice_get, option_map}
use Rattle.std.proofs.lemmas.Bool.{eqb-true, eqb-false, ltb-true, ltb-false, lt-ltb, le-ltb}
use Rattle.std.proofs.lemmas.List.{length-map}
use Rattle.std.proofs.lemmas.Option.{slice_get-map, slice_get_past}
use Rattle.je_base.specs.declared.span.NameId.{NameId}
use Rattle.je_ast.specs.declared.name.Identifier.{Identifier}
use Rattle.je_ast.specs.declared.name.Name.{Name}
use Rattle.je_ast.specs.declared.decl.Unit.{Unit}
use Rattle.je_ast.specs.Types.{QualifiedName, name_view}
use Rattle.je_ast.specs.Trees.{CompilationUnit}
use Rattle.je_ast.specs.View.{unit_view}
use Rattle.je_scopes.specs.Headers.{same_name}
use Rattle.je_scopes.specs.Looks.{Look, waits, nothing, a_class, a_variable, unclear, found, or_further}
use Rattle.je_scopes.specs.Scope.{first_import, is_last_part, last_part, or_no_imports, same_place}
use Rattle.je_scopes.specs.Source.{imports_of, library_class}
use Rattle.name_sites.specs.ByName.{at_key, or_else}
use Rattle.name_sites.specs.Imports.{import_named, imports_among, in_unit}

assoc : (a b c : Look) → or_further (or_further a b) c ≡ or_further a (or_further b c)
assoc waits b c = refl
assoc nothing b c = refl
assoc (a_class d) b c = refl
assoc (a_variable d at) b c = refl
assoc unclear b c = refl

or_nothing : (a : Look) → or_further a nothing ≡ a
or_nothing waits = refl
or_nothing nothing = refl
or_nothing (a_class d) = refl
or_nothing (a_variable d at) = refl
or_nothing unclear = refl

found_or : (a b : Option ℕ) → found (or_else a b) ≡ or_further (found a) (found b)
found_or None b = refl
found_or (Some n) b = refl

parted : (s : Bool) (a b : Look) → or_further (if s then a else nothing) (if s then b else nothing) ≡ (if s then or_further a b else nothing)
parted true a b = refl
parted false a b = refl

one_import : (b : Bool) (a r : Look) → (if b then or_further a r else r) ≡ or_further (if b then a else nothing) r
one_import true a r = refl
one_import false a r = refl

pub imports_step : (k : Look) (unit : ℕ) (p : Option ℕ) (texts : List (List ℕ)) (x : NameId) (q : QualifiedName) (qs : List QualifiedName)
    → or_further (or_further k (in_unit unit p (import_named texts x q))) (in_unit unit p (first_import texts x qs)) ≡ or_further k (in_unit unit p (first_import texts x (q ∷ qs)))
imports_step k unit p texts x q qs =
    assoc k (in_unit unit p (import_named texts x q)) (in_unit unit p (first_import texts x qs))
    ∙ ap (λ (l : Look). or_further k l)
    (parted (same_place (Some unit) p) (import_named texts x q) (first_import texts x qs)
    ∙ ap (λ (l : Look). in_unit unit p l) (sym (one_import (is_last_part x (last_part q.parts)) (found (library_class texts q.parts)) (first_import texts x qs))))

pub no_imports : (k : Look) (unit : ℕ) (p : Option ℕ) → or_further k (in_unit unit p nothing) ≡ k
no_imports k unit p = ap (λ (l : Look). or_further k l) (same (same_place (Some unit) p)) ∙ or_nothing k
  where
    same : (b : Bool) → (if b then nothing else nothing) ≡ nothing
    same true = refl
    same false = refl

-- an import of a class, by the last part of its name
pub one_kept : (k : Option ℕ) (unit : ℕ) (p : Option ℕ) (texts : List (List ℕ)) (x : NameId) (q : QualifiedName) (i : Identifier) (c : ℕ)
    → last_part q.parts ≡ Some i → library_class texts q.parts ≡ Some c
    → found (or_else k (at_key (Some unit) i.name c p x)) ≡ or_further (found k) (in_unit unit p (import_named texts x q))
one_kept k unit p texts x q i c e h =
    found_or k (at_key (Some unit) i.name c p x)
    ∙ ap (λ (l : Look). or_further (found k) l) (rw (e, h) (of (same_place (Some unit) p) (same_name i.name x)))
  where
    of : (s n : Bool) → found (if (s && n) then Some c else None) ≡ (if s then (if n then found (Some c) else nothing) else nothing)
    of true true = refl
    of true false = refl
    of false n = refl

pub none_kept : (k : Option ℕ) (unit : ℕ) (p : Option ℕ) (texts : List (List ℕ)) (x : NameId) (q : QualifiedName)
    → library_class texts q.parts ≡ None → found k ≡ or_further (found k) (in_unit unit p (import_named texts x q))
none_kept k unit p texts x q h =
    sym (ap (λ (l : Look). or_further (found k) (in_unit unit p l)) (rw h (same (is_last_part x (last_part q.parts)))) ∙ no_imports (found k) unit p)
  where
    same : (b : Bool) → (if b then nothing else nothing) ≡ nothing
    same true = refl
    same false = refl

pub nameless_kept : (k : Option ℕ) (unit : ℕ) (p : Option ℕ) (texts : List (List ℕ)) (x : NameId) (q : QualifiedName)
    → last_part q.parts ≡ None → found k ≡ or_further (found k) (in_unit unit p (import_named texts x q))
nameless_kept k unit p texts x q h = sym (ap (λ (l : Look). or_further (found k) (in_unit unit p l)) (rw h refl) ∙ no_imports (found k) unit p)

-- the next import of those that are left
pub imports_on : (unit : ℕ) (p : Option ℕ) (texts : List (List ℕ)) (x : NameId) (all : List Name) (i : ℕ) (import : Name) → i < length all → import ≡ get_or all i import → (k now whole : Look)
    → now ≡ or_further k (in_unit unit p (import_named texts x (name_view import))) → or_further k (in_unit unit p (first_import texts x (map name_view (drop i all)))) ≡ whole
    → or_further now (in_unit unit p (first_import texts x (map name_view (drop (i + 1) all)))) ≡ whole
imports_on unit p texts x all i import within is k now whole step h =
    let next : drop i all ≡ get_or all i import ∷ drop (i + 1) all = rw (add-one, drop-cons all i import) refl in
    ap (λ (l : Look). or_further l (in_unit unit p (first_import texts x (map name_view (drop (i + 1) all))))) step
    ∙ imports_step k unit p texts x (name_view import) (map name_view (drop (i + 1) all))
    ∙ ap (λ (n : Name). or_further k (in_unit unit p (first_import texts x (map name_view (n ∷ drop (i + 1) all))))) is
    ∙ ap (λ (ns : List Name). or_further k (in_unit unit p (first_import texts x (map name_view ns)))) (sym next)
    ∙ h

-- where all is well, what follows from that
pub on_ok : {T E P Q : Type 0} (r : Result T E) → (P → Q) → OnOk r P → OnOk r Q
on_ok (Ok x) f h = f h
on_ok (Err e) f h = tt

-- the last part is the one at the last place
pub last_is : (parts : List Identifier) → last_part parts ≡ slice_get parts (length parts - 1)
last_is [] = refl
last_is (i ∷ []) = refl
last_is (i ∷ j ∷ parts) =
    let one : suc (length parts) - 1 ≡ length parts = omega arith in
    let two : suc (suc (length parts)) - 1 ≡ suc (length parts) = omega arith in
    last_is (j ∷ parts) ∙ ap (λ (k : ℕ). slice_get (j ∷ parts) k) one ∙ ap (λ (k : ℕ). slice_get (i ∷ j ∷ parts) k) (sym two)

-- ---- unit by unit

pub imports_at : (units : List Unit) (at : ℕ) (unit : Unit) → slice_get units at ≡ Some unit → imports_among units at ≡ map name_view unit.imports.items
imports_at units at unit e =
    ap or_no_imports (slice_get-map imports_of (map unit_view units) at ∙ ap (λ (o : Option CompilationUnit). option_map imports_of o) (slice_get-map unit_view units at ∙ ap (λ (o : Option Unit). option_map unit_view o) e))

imports_past : (units : List Unit) (at : ℕ) → length units ≤ at → imports_among units at ≡ []
imports_past units at h =
    ap or_no_imports (slice_get_past (map imports_of (map unit_view units)) at (omega (arith, length-map (map unit_view units) imports_of, length-map units unit_view)))

pub units_step : (u at : ℕ) (k now a b : Look) → k ≡ (if nat_lt u at then b else nothing) → now ≡ or_further k (in_unit at (Some u) a) → (u ≡ at → a ≡ b) → now ≡ (if nat_lt u (at + 1) then b else nothing)
units_step u at k now a b before step same = n ∙ of (nat_lt u at) refl (nat_eq at u) refl
  where
    n : now ≡ or_further (if nat_lt u at then b else nothing) (if nat_eq at u then a else nothing)
    n = step ∙ ap (λ (l : Look). or_further l (if nat_eq at u then a else nothing)) before

    of : (t : Bool) → nat_lt u at ≡ t → (e : Bool) → nat_eq at u ≡ e → or_further (if nat_lt u at then b else nothing) (if nat_eq at u then a else nothing) ≡ (if nat_lt u (at + 1) then b else nothing)
    of true p true q = let z : at ≡ u = eqb-true at u q in let y : u < at = ltb-true u at p in absurd (omega arith)
    of true p false q = let y : u < at = ltb-true u at p in let m : nat_lt u (at + 1) ≡ true = lt-ltb u (at + 1) (omega arith) in rw (p, q, m) (or_nothing b)
    of false p true q =
        let z : at ≡ u = eqb-true at u q in
        let m : nat_lt u (at + 1) ≡ true = lt-ltb u (at + 1) (omega arith) in rw (p, q, m) (same (sym z))
    of false p false q =
        let past : at ≤ u = ltb-false u at p in
        let apart : at ≡ u → ⊥ = eqb-false at u q in
        let m : nat_lt u (at + 1) ≡ false = le-ltb u (at + 1) (omega arith) in rw (p, q, m) refl

pub units_end : (units : List Unit) (u : ℕ) (texts : List (List ℕ)) (x : NameId) (k : Look) (at : ℕ) → length units ≤ at
    → k ≡ (if nat_lt u at then first_import texts x (imports_among units u) else nothing) → k ≡ first_import texts x (imports_among units u)
units_end units u texts x k at h e = e ∙ of (nat_lt u at) refl
  where
    of : (t : Bool) → nat_lt u at ≡ t → (if nat_lt u at then first_import texts x (imports_among units u) else nothing) ≡ first_import texts x (imports_among units u)
    of true p = rw p refl
    of false p =
        let past : at ≤ u = ltb-false u at p in
        let none : imports_among units u ≡ [] = imports_past units u (omega arith) in
        rw (p, none) refl
