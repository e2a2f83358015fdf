-- What the laws ask of a source, as its grammar, words, names and headers give it where nothing of these has a fault.
use Rattle.std.specs.Prelude.{◌≡◌, ℕ, ◌<◌, ◌≤◌, Bool, true, false, List, [], ◌∷◌, length, codes}
use Rattle.std.specs.List.{Contains}
use Rattle.je_base.specs.declared.span.NameId.{NameId}
use Rattle.je_base.specs.declared.span.Span.{Span}
use Rattle.je_ast.specs.declared.decl.Modifier.{Modifier}
use Rattle.je_ast.specs.declared.name.Identifier.{Identifier}
use Rattle.je_ast.specs.Trees.{Declaration}
use Rattle.je_ast.specs.Trees as tree
use Rattle.je_classes.specs.Members.{In, same_name}
use Rattle.je_scopes.specs.Headers.{constants_in, is_guest, is_interface_sort, is_local_sort, site_at}
use Rattle.je_scopes.specs.Members.{MethodSite, methods_of}
use Rattle.je_scopes.specs.Sites.{Written, declared}
use Rattle.je_scopes.specs.Looks.{a_class}
use Rattle.je_scopes.specs.Scope.{member_class}
use Rattle.je_scopes.specs.Settled.{settled}
use Rattle.je_scopes.specs.Source.{Source}
use Rattle.je_scopes.specs.SourceTypes.{SourceType, SourceTypes, of_class}
use Rattle.source_types.specs.Heads.{supers_of}
use Rattle.declarations.specs.Declarations.{is_enum_sort}
use Rattle.class_names.specs.Words.{AreNumbered, library_words}
use Rattle.class_typing.specs.Programs.{heads, library_count, number}

-- a class with its type arguments, and no array of it
pub record IsClassType (t : SourceType) : Type 0 where
  pub class : ℕ
  pub arguments : SourceTypes
  pub is : t ≡ of_class class arguments 0

-- behind `extends`, `implements` and `new` stand classes (JLS 8.1.4, 8.1.5, 9.1.3, 15.9.5)
abbrev pub HeadsAreClasses : Source → Type 0
HeadsAreClasses source = (c : ℕ) (t : SourceType) → library_count source ≤ c → Contains (supers_of (heads source) c) t →
    IsClassType t

-- the sites of a source: the library's classes first, and none behind them (JLS 7.3)
abbrev pub LibraryIsFirst : Source → Type 0
LibraryIsFirst source = (c : ℕ) → c < library_count source → is_guest (site_at source.sites c).written ≡ false

abbrev pub GuestsFollow : Source → Type 0
GuestsFollow source = (c : ℕ) → library_count source ≤ c → c < length source.sites →
    is_guest (site_at source.sites c).written ≡ true

-- only an enum has constants (JLS 8.9)
abbrev pub EnumsHaveConstants : Source → Type 0
EnumsHaveConstants source = (c : ℕ) → is_enum_sort (site_at source.sites c).sort ≡ false →
    constants_in (site_at source.sites c).written ≡ []

-- an enum has constants alone (JLS 8.9)
pub record IsEnumDeclaration (w : Written) : Type 0 where
  pub modifiers : List Modifier
  pub name : Identifier
  pub constants : List Identifier
  pub span : Span
  pub is : w ≡ declared (tree.enum_declaration modifiers name constants span)

abbrev pub EnumsAreDeclared : Source → Type 0
EnumsAreDeclared source = (c : ℕ) → is_enum_sort (site_at source.sites c).sort ≡ true →
    IsEnumDeclaration (site_at source.sites c).written

-- an interface is declared as one (JLS 9.1)
abbrev pub is_interface_written : Written → Bool
is_interface_written (declared (tree.interface_declaration modifiers name parameters interfaces body span)) = true
is_interface_written w = false

abbrev pub InterfacesAreDeclared : Source → Type 0
InterfacesAreDeclared source = (c : ℕ) →
    is_interface_sort (site_at source.sites c).sort ≡ is_interface_written (site_at source.sites c).written

-- a member class is one of the source (JLS 8.5)
abbrev pub MembersAreWithin : Source → Type 0
MembersAreWithin source = (x : NameId) (c d : ℕ) → member_class source (settled source) x c ≡ a_class d →
    d < length source.sites

-- the classes round a class are of the source, and stand before it (JLS 8.1.3)
abbrev pub RoundsComeBefore : Source → Type 0
RoundsComeBefore source = (c d : ℕ) → library_count source ≤ c → In (site_at source.sites c).spot.round d →
    (library_count source ≤ d) × (d < c)

-- a class stands in the body of the first class round it, and that one in the others (JLS 8.1.3)
abbrev pub RoundsNest : Source → Type 0
RoundsNest source = (c d : ℕ) (ds : List ℕ) → library_count source ≤ c →
    (site_at source.sites c).spot.round ≡ d ∷ ds → (site_at source.sites d).spot.round ≡ ds

-- local and anonymous classes stand in a body (JLS 14.3, 15.9.5)
abbrev pub LocalsStandWithin : Source → Type 0
LocalsStandWithin source = (c : ℕ) → is_local_sort (site_at source.sites c).sort ≡ true →
    ¬ ((site_at source.sites c).spot.round ≡ [])

-- ---- what the units of a program give

pub record HasSites (source : Source) : Type 0 where
  pub library : LibraryIsFirst source
  pub guests : GuestsFollow source
  pub constants : EnumsHaveConstants source
  pub enums : EnumsAreDeclared source
  pub interfaces : InterfacesAreDeclared source
  pub rounds : RoundsComeBefore source
  pub nested : RoundsNest source
  pub locals : LocalsStandWithin source
  pub members : MembersAreWithin source

-- ---- names

-- the word `new`, under which constructors stand, is the name of no method (JLS 3.9)
abbrev pub NoMethodIsNew : Source → Type 0
NoMethodIsNew source = (c : ℕ) (m : MethodSite) → In (methods_of source c) m → m.is_constructor ≡ false →
    same_name (number source (codes "new")) m.name.name ≡ false

-- and the library's words have numbers of their own
pub record HasWords (source : Source) : Type 0 where
  pub no_method : NoMethodIsNew source
  pub numbered : AreNumbered source.texts library_words

-- ---- of a class

-- it is declared, and no interface
pub record IsDeclaredClass (source : Source) (c : ℕ) : Type 0 where
  pub declaration : Declaration
  pub written : (site_at source.sites c).written ≡ declared declaration
  pub no_interface : is_interface_sort (site_at source.sites c).sort ≡ false
