-- Constructors of a class, and the one that arguments choose (JLS 8.8, 15.9.3).
use Rattle.std.specs.Prelude.{ℕ, suc, Bool, false, List, [], ◌∷◌, map, length, Option, Some, None, slice_get, if◌then◌else◌}
use Rattle.je_base.specs.declared.span.Span.{Span}
use Rattle.je_core.specs.declared.program.Access.{Access}
use Rattle.je_core.specs.declared.program.Access.TheVariants as access
use Rattle.je_core.specs.declared.program.Flags.{Flags}
use Rattle.je_core.specs.declared.types.Base.TheVariants as base
use Rattle.je_scopes.specs.Headers.{is_guest, site_at}
use Rattle.je_scopes.specs.Sites.{Site}
use Rattle.je_scopes.specs.SourceTypes.{SourceType, plain, of_class}
use Rattle.declarations.specs.Declarations.{DeclaredClass, DeclaredMethod}
use Rattle.je_typing.specs.declared.fault.TypeRule.TheVariants.{NoConstructor}
use Rattle.je_typing.specs.Judged.{Judged}
use Rattle.je_typing.specs.Typed.{TypedNode}
use Rattle.name_typing.specs.Program.{Program}
use Rattle.overriding.specs.Methods.{Method, methods_in, own_method, put_in}
use Rattle.call_typing.specs.Calls.{type_of}
use Rattle.call_typing.specs.Methods.{candidate_of}
use Rattle.call_typing.specs.Overloads.{Candidate, choice, chosen}

-- ---- those that a class declares, with the type arguments of its type put in

abbrev pub constructors_from : ℕ → ℕ → List DeclaredMethod → List Method
constructors_from c at [] = []
constructors_from c at (m ∷ ms) =
    if m.is_constructor then own_method c at m ∷ constructors_from c (suc at) ms else constructors_from c (suc at) ms

abbrev pub constructors_of : List DeclaredClass → ℕ → List Method
constructors_of classes c = constructors_from c 0 (methods_in (slice_get classes c))

abbrev pub declared_in : List DeclaredClass → ℕ → SourceType → List Candidate
declared_in classes c t = map candidate_of (map (put_in t) (constructors_of classes c))

-- ---- the default constructor of a class of a program that declares none (JLS 8.8.9): it takes nothing, has the access
-- of its class, and stands behind the methods that are declared

abbrev pub default_place : List DeclaredClass → ℕ → ℕ
default_place classes c = length (methods_in (slice_get classes c))

abbrev pub access_in : Option DeclaredClass → Access
access_in None = access.Package
access_in (Some d) = d.access

abbrev pub default_flags : Access → Flags
default_flags a =
    record { is_static = false; is_final = false; is_abstract = false; is_native = false; is_finalizer = false; access = a }

abbrev pub default_constructor : List DeclaredClass → ℕ → Candidate
default_constructor classes c = record {
  class = c;
  place = default_place classes c;
  flags = default_flags (access_in (slice_get classes c));
  parameters = [];
  result = plain base.Void 0;
  declared = plain base.Void 0;
  is_abstract = false;
}

-- a class of the library has those alone that are listed
abbrev pub default_if : Bool → List DeclaredClass → ℕ → List Candidate
default_if is_guest classes c = if is_guest then default_constructor classes c ∷ [] else []

abbrev pub or_default : List Site → List DeclaredClass → ℕ → List Candidate → List Candidate
or_default sites classes c [] = default_if (is_guest (site_at sites c).written) classes c
or_default sites classes c ms = ms

-- ---- those of a type that a creation may choose

unfoldable pub constructors_in : List Site → List DeclaredClass → SourceType → List Candidate
constructors_in sites classes (of_class c args n) =
    or_default sites classes c (declared_in classes c (of_class c args n))
constructors_in sites classes t = []

-- the one that arguments choose, in a class; `at` is where a fault stands
unfoldable pub constructor_for : Program → ℕ → SourceType → Span → List TypedNode → Judged Candidate
constructor_for p c t at args =
    chosen NoConstructor at
    (choice p.heads p.source.sites c (constructors_in p.source.sites p.classes t) (map type_of args))
