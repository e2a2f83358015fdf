-- The simple names of classes that are imported.
use Rattle.std.proofs.Common.{◌≡◌, ℕ, List, [], ◌∷◌, Option, Some, None, refl, sym, ◌∙◌, ap}
use Rattle.std.specs.Prelude.{Bool, true, false, ◌&&◌, ◌||◌, is_some, not, Result, Ok, Err, IsErr, OnOk}
use Rattle.std.specs.List.{list_any}
use Rattle.std.proofs.Math.Bool.{and-false, and-true, or-false}
use Rattle.je_base.specs.declared.span.NameId.{NameId}
use Rattle.je_core.specs.declared.types.ClassId.{ClassId}
use Rattle.je_ast.specs.declared.name.Identifier.{Identifier}
use Rattle.je_ast.specs.Types.{QualifiedName}
use Rattle.je_scopes.specs.Headers.{same_name}
use Rattle.je_scopes.specs.Source.{Source, library_class}
use Rattle.je_scopes.specs.Scope.{is_last_part, last_part}
use Rattle.je_scopes.specs.Faults.{imports_name, is_imported}
use Rattle.name_sites.specs.Number.{number_in}

none-in : (texts : List (List ℕ)) (qs : List QualifiedName) → list_any (imports_name texts None) qs ≡ false
none-in texts [] = refl
none-in texts (q ∷ qs) = none-in texts qs

none-among : (texts : List (List ℕ)) (us : List (List QualifiedName)) → list_any (λ qs. list_any (imports_name texts None) qs) us ≡ false
none-among texts [] = refl
none-among texts (qs ∷ us) = ap (λ (b : Bool). b || list_any (λ rs. list_any (imports_name texts None) rs) us) (none-in texts qs) ∙ none-among texts us

-- no unit imports a class without a name
pub nameless : (p : Source) → false ≡ is_imported p None
nameless p = sym (none-among p.texts p.imports)

-- an import of a class of the library, by its last part
pub by_last : (texts : List (List ℕ)) (q : QualifiedName) (last : Identifier) (x : NameId) → last_part q.parts ≡ Some last → is_some (library_class texts q.parts) ≡ true
    → same_name last.name x ≡ imports_name texts (Some x) q
by_last texts q last x l s = sym (and-true (same_name last.name x)) ∙ (λ i. is_last_part x (sym l i) && sym s i)

-- a class that is there
pub known_so : (o : Option ClassId) (n : Option ℕ) (absent : Bool) → number_in o ≡ n → is_some o ≡ not absent → absent ≡ false → is_some n ≡ true
known_so None n absent e h f = absurd (let k : false ≡ true = h ∙ ap not f in cc)
known_so (Some c) n absent e h f = ap is_some (sym e)

-- ---- imports that give a name nothing

-- one of no parts
pub no_parts : (texts : List (List ℕ)) (q : QualifiedName) (x : NameId) (met : Bool) → last_part q.parts ≡ None → met ≡ (met || imports_name texts (Some x) q)
no_parts texts q x met l = sym (or-false met) ∙ ap (λ (o : Option Identifier). met || (is_last_part x o && is_some (library_class texts q.parts))) (sym l)

-- one of no class of the library
pub no_class : (texts : List (List ℕ)) (q : QualifiedName) (x : NameId) (met : Bool) (o : Option ClassId) (absent : Bool) → number_in o ≡ library_class texts q.parts → is_some o ≡ not absent → absent ≡ true
    → met ≡ (met || imports_name texts (Some x) q)
no_class texts q x met None absent e h f = sym (or-false met) ∙ ap (λ (b : Bool). met || b) (sym (and-false (is_last_part x (last_part q.parts))) ∙ ap (λ (n : Option ℕ). is_last_part x (last_part q.parts) && is_some n) e)
no_class texts q x met (Some c) absent e h f = absurd (let k : true ≡ false = h ∙ ap not f in cc)

-- an error promises nothing
pub on_err : {T E : Type 0} (P : Type 0) (r : Result T E) → IsErr r → OnOk r P
on_err P (Ok x) h = absurd (let k : false ≡ true = h in cc)
on_err P (Err e) h = tt
