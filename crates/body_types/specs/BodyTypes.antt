-- Types that are written in a body: of a local or a catch, behind `new`, of a cast and of `instanceof` (JLS 4.3 to 4.5, 6.5.4, 6.5.5,
-- 6.6.1). A fault of a name stands at the whole name; type arguments stand before the type that takes them.
use Rattle.std.specs.Prelude.{ℕ, Bool, true, false, List, [], ◌∷◌, nat_eq}
use Rattle.std.specs.List.{list_all}
use Rattle.je_ast.specs.declared.name.Identifier.{Identifier}
use Rattle.je_ast.specs.Types.{QualifiedName, TypeName, TypeNames, primitive, class_type, no_types, more_types}
use Rattle.je_scopes.specs.Looks.{Look, nothing, a_class, a_variable}
use Rattle.je_scopes.specs.Scope.{is_accessible, named_on, or_full_name, or_whole, qualified}
use Rattle.je_scopes.specs.Settled.{settled}
use Rattle.je_scopes.specs.SourceTypes.{SourceType, SourceTypes, arity_of, base_of, count, more_source_types, no_source_types, null_type, of_class, of_variable, plain}
use Rattle.header_typing.specs.WrittenTypes.{bounded, is_in_limit}
use Rattle.je_typing.specs.declared.fault.TypeRule.TheVariants.{BadArray, NotAccessible, UnknownName}
use Rattle.je_typing.specs.Judged.{Judged, gives, ◌>>=◌, ◌>>◌, check}
use Rattle.name_typing.specs.Program.{Frame, Program}
use Rattle.name_typing.specs.Qualified.{class_named}

module _ (p : Program) (here : Frame) where
  -- ---- what the name of a type means (JLS 6.5.5): its first part as a class that is in scope, else the whole a full name

  abbrev pub first_look : Identifier → Look
  first_look i = class_named p here i.name

  abbrev pub look_at : List Identifier → Look
  look_at [] = nothing
  look_at (i ∷ is) = or_full_name p.source (i ∷ is) (first_look i) (qualified p.source (settled p.source) (first_look i) is)

  -- the classes that it names: each part that is one
  abbrev pub classes_at : List Identifier → List ℕ
  classes_at [] = []
  classes_at (i ∷ is) = or_whole p.source (i ∷ is) (first_look i) (named_on p.source (settled p.source) (first_look i) is)

  -- a private member class may be named in its top-level class alone (JLS 6.6.1)
  abbrev pub may_be_named : List Identifier → Bool
  may_be_named parts = list_all (is_accessible p.source here.class) (classes_at parts)

  -- ---- a class with as many arguments as it takes, or a type variable without any (JLS 4.4, 4.5)

  abbrev pub takes : Look → ℕ → Bool
  takes (a_class c) n = nat_eq n (arity_of p.source c)
  takes (a_variable c at) n = nat_eq n 0
  takes look n = false

  abbrev pub is_type : Look → Bool
  is_type (a_class c) = true
  is_type (a_variable c at) = true
  is_type look = false

  abbrev pub type_of_look : Look → SourceTypes → ℕ → SourceType
  type_of_look (a_class c) ts dims = of_class c ts dims
  type_of_look (a_variable c at) ts dims = of_variable c at dims
  type_of_look look ts dims = null_type dims

  abbrev pub type_at : QualifiedName → SourceTypes → ℕ → SourceType
  type_at q ts dims = type_of_look (look_at q.parts) ts dims

  abbrev mutual
    pub body_type : TypeName → Judged SourceType
    body_type (primitive word dims span) = do
      check BadArray span (is_in_limit dims)
      gives (plain (base_of word) dims)
    body_type (class_type q args dims span) = do
      ts ← body_types args
      check UnknownName q.span (takes (look_at q.parts) (count args))
      bounded p.heads (type_at q ts dims) args
      check NotAccessible q.span (may_be_named q.parts)
      check BadArray span (is_in_limit dims)
      gives (type_at q ts dims)

    pub body_types : TypeNames → Judged SourceTypes
    body_types no_types = gives no_source_types
    body_types (more_types t ts) = do
      u ← body_type t
      us ← body_types ts
      gives (more_source_types u us)

  -- ---- the type of a cast, of `instanceof`, and of the elements of a new array: written without type arguments. Whether it may be
  -- generic is asked where it stands (JLS 15.10, 15.16, 15.20.2).

  unfoldable pub bare_type : TypeName → Judged SourceType
  bare_type (primitive word dims span) = do
    check BadArray span (is_in_limit dims)
    gives (plain (base_of word) dims)
  bare_type (class_type q args dims span) = do
    check UnknownName q.span (is_type (look_at q.parts))
    check NotAccessible q.span (may_be_named q.parts)
    check BadArray span (is_in_limit dims)
    gives (type_at q no_source_types dims)
