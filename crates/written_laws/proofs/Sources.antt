-- What files are read as is written, and so are the headers and members of its classes.
use Rattle.std.proofs.Common.{◌≡◌, ℕ, List, [], ◌∷◌, Some, None, refl, subst, sym}
use Rattle.std.specs.Prelude.{All, Option, slice_get}
use Rattle.std.specs.List.{AllZip}
use Rattle.std.proofs.lemmas.List.Elements.{All-contains, All-cons, All-nil}
use Rattle.std.proofs.lemmas.Option.{get_or_from_slice_get, slice_get_within}
use Rattle.je_token.specs.declared.token.Token.{Token}
use Rattle.je_ast.specs.Trees.{CompilationUnit, Declaration, Members}
use Rattle.je_ast.specs.Trees as tree
use Rattle.je_ast.specs.Types.{TypeName, TypeParameter}
use Rattle.je_grammar.specs.Grammar.{SpellsDeclarations, SpellsUnit, is_unit, more_declarations, no_declarations}
use Rattle.je_grammar.specs.Grammar.{semicolon_between}
use Rattle.je_scopes.specs.Headers.{heads_in, members_in, or_nothing, parameters_in, site_at}
use Rattle.je_scopes.specs.Sites.{Site, Written, behind_new, declared, in_library, sites}
use Rattle.body_laws.specs.Written.{BoundIsMade, DeclarationIsWritten, HeaderIsWritten, IsMade, MembersAreWritten}
use Rattle.source_units.specs.Files.{FileTokens}
use Rattle.source_units.specs.Units.{IsUnitAmong}
use Rattle.written_laws.specs.Laws.{ClassesAreWritten, SourcesAreWritten, UnitIsWritten, UnitsAreWritten}
use Rattle.written_laws.proofs.Places.{AllStand, ClassIsWritten, SiteIsWritten, sites-written}
use Rattle.written_laws.proofs.Renumbered.{unit}
use Rattle.written_laws.proofs.Spelled.{declarations_are_written}

-- ---- units

module _ (names texts : List (List ℕ)) where
  spelled-declarations : {ds : List Declaration} {ts rest : List Token} → SpellsDeclarations names texts ds ts rest → All DeclarationIsWritten ds
  spelled-declarations no_declarations = All-nil DeclarationIsWritten
  spelled-declarations (semicolon_between _ ds) = spelled-declarations ds
  spelled-declarations (more_declarations d ds) = All-cons DeclarationIsWritten _ _ (declarations_are_written names texts _ _ _ d) (spelled-declarations ds)

  spelled-unit : {u : CompilationUnit} {ts : List Token} → SpellsUnit names texts u ts → UnitIsWritten u
  spelled-unit (is_unit _ ds _) = spelled-declarations ds

among : (names : List (List ℕ)) (f : FileTokens) (u : CompilationUnit) → IsUnitAmong names f u → UnitIsWritten u
among names f u h = subst UnitIsWritten (sym h.renumbered) (unit h.numbers h.own (spelled-unit f.names f.texts h.is_unit.spelled))

all-among : (names : List (List ℕ)) (fs : List FileTokens) (us : List CompilationUnit) → AllZip (IsUnitAmong names) fs us → All UnitIsWritten us
all-among names [] [] h = All-nil UnitIsWritten
all-among names [] (u ∷ us) h = absurd h
all-among names (f ∷ fs) [] h = absurd h
all-among names (f ∷ fs) (u ∷ us) h = All-cons UnitIsWritten u us (among names f u h.0) (all-among names fs us h.1)

pub units_are_written : UnitsAreWritten
units_are_written files before units names h = all-among names h.tokens units h.read.units_are

-- ---- classes

at : (ss : List Site) (c : ℕ) (o : Option Site) → slice_get ss c ≡ o → AllStand ss → SiteIsWritten (or_nothing o)
at ss c None e all = tt
at ss c (Some s) e all = subst SiteIsWritten (get_or_from_slice_get ss c s s e) (all c s (slice_get_within ss c s e))

class-written : (us : List CompilationUnit) → All UnitIsWritten us → (c : ℕ) → ClassIsWritten (site_at (sites us) c).written
class-written us h c = at (sites us) c (slice_get (sites us) c) refl (sites-written us h)

header : (d : Declaration) → DeclarationIsWritten d → HeaderIsWritten d
header (tree.class_declaration ms id ps above interfaces body span) h = h.0
header (tree.interface_declaration ms id ps interfaces body span) h = h.0
header (tree.enum_declaration ms id constants span) h = (All-nil IsMade, All-nil BoundIsMade)

heads : (w : Written) → ClassIsWritten w → All IsMade (heads_in w)
heads in_library h = All-nil IsMade
heads (declared d) h = (header d h).0
heads (behind_new word t body) h = All-cons IsMade t [] h.0 (All-nil IsMade)

bounds : (w : Written) → ClassIsWritten w → All BoundIsMade (parameters_in w)
bounds in_library h = All-nil BoundIsMade
bounds (declared d) h = (header d h).1
bounds (behind_new word t body) h = All-nil BoundIsMade

declared-members : (d : Declaration) → DeclarationIsWritten d → MembersAreWritten (members_in (declared d))
declared-members (tree.class_declaration ms id ps above interfaces body span) h = h.1
declared-members (tree.interface_declaration ms id ps interfaces body span) h = h.1
declared-members (tree.enum_declaration ms id constants span) h = tt

members : (w : Written) → ClassIsWritten w → MembersAreWritten (members_in w)
members in_library h = tt
members (declared d) h = declared-members d h
members (behind_new word t body) h = h.1

bound-made : (qs : List TypeParameter) (i : ℕ) (q : TypeParameter) (t : TypeName) → All BoundIsMade qs → slice_get qs i ≡ Some q → q.bound ≡ Some t → IsMade t
bound-made qs i q t all e b = rw b at (subst BoundIsMade (get_or_from_slice_get qs i q q e) (all i q (slice_get_within qs i q e)))

pub sources_are_written : SourcesAreWritten
sources_are_written files before units names h = let written = class-written units (units_are_written files before units names h) in record {
  heads = λ c t i. All-contains IsMade (heads_in (site_at (sites units) c).written) t (heads (site_at (sites units) c).written (written c)) i;
  bounds = λ c i q t e b. bound-made (parameters_in (site_at (sites units) c).written) i q t (bounds (site_at (sites units) c).written (written c)) e b;
}

pub classes_are_written : ClassesAreWritten
classes_are_written files before units names h c = members (site_at (sites units) c).written (class-written units (units_are_written files before units names h) c)
