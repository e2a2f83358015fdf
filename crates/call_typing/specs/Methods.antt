-- The methods that a type has under a name (JLS 4.4, 8.2, 8.4.8, 9.2, 10.7, 15.12.1).
use Rattle.std.specs.Prelude.{ℕ, zero, List, [], map, filter}
use Rattle.je_base.specs.declared.span.NameId.{NameId}
use Rattle.je_scopes.specs.Headers.{same_name}
use Rattle.je_scopes.specs.SourceTypes.{SourceType, plain, of_class, of_variable}
use Rattle.source_types.specs.Heads.{ClassHead, object_type}
use Rattle.declarations.specs.Declarations.{DeclaredClass}
use Rattle.je_typing.specs.Castable.{bounded}
use Rattle.overriding.specs.Methods.{Method, name_of, put_in, seen_in}
use Rattle.overriding.specs.Overrides.{has_methods}
use Rattle.call_typing.specs.Overloads.{Candidate}

-- ---- of a class: those that it declares, and those that it inherits, with its own type variables

abbrev pub named : NameId → List Method → List Method
named x ms = filter (λ m. same_name (name_of m) x) ms

abbrev pub methods_of : List ClassHead → List DeclaredClass → NameId → ℕ → List Method
methods_of heads classes x c = named x (has_methods heads classes c)

-- ---- of a type: with the type arguments put in

-- A type variable has those of its bound that aren't private (JLS 4.4), an array those of Object (JLS 10.7), and a
-- primitive type none.
abbrev pub methods_in : List ClassHead → List DeclaredClass → NameId → SourceType → List Method
methods_in heads classes x (plain b zero) = []
methods_in heads classes x (of_class c args zero) = map (put_in (of_class c args zero)) (methods_of heads classes x c)
methods_in heads classes x (of_variable c at zero) =
    seen_in (methods_of heads classes x) (bounded heads (of_variable c at zero))
methods_in heads classes x t = seen_in (methods_of heads classes x) object_type

abbrev pub candidate_of : Method → Candidate
candidate_of m = record {
  class = m.holder;
  place = m.place;
  flags = m.declared.flags;
  parameters = m.parameters;
  result = m.result;
  declared = m.declared.result;
  is_abstract = m.is_abstract;
}

-- those that a call on a value of the type may choose
unfoldable pub candidates : List ClassHead → List DeclaredClass → NameId → SourceType → List Candidate
candidates heads classes x t = map candidate_of (methods_in heads classes x t)
