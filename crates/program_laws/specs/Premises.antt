-- What the laws on programs ask of a source and of what it is elaborated to, where no law gives it yet.
use Rattle.std.specs.Prelude.{◌≡◌, ℕ, ◌<◌, ◌≤◌, Bool, true, false, ◌&&◌, List, Option, Some, option_map, None, []}
use Rattle.std.specs.List.{list_any}
use Rattle.je_base.specs.declared.span.NameId.{NameId}
use Rattle.je_ast.specs.declared.name.Identifier.{Identifier}
use Rattle.je_core.specs.declared.types.ClassId.{ClassId}
use Rattle.je_core.specs.Core.{Core, CoreClass, CoreField, CoreProgram}
use Rattle.je_classes.specs.Hierarchy.{class_at}
use Rattle.je_classes.specs.Members.{In}
use Rattle.je_fitting.specs.Classes.{Implements, InheritedFit}
use Rattle.je_fitting.specs.Expressions.{can_be_made}
use Rattle.je_fitting.specs.Members.{ConstantFits, results_agree}
use Rattle.je_scopes.specs.Headers.{members_in, site_at}
use Rattle.je_scopes.specs.Looks.{a_class}
use Rattle.je_scopes.specs.Sites.{Context}
use Rattle.je_scopes.specs.Source.{Source}
use Rattle.source_types.specs.Erasure.{class_numbered, erased}
use Rattle.header_typing.specs.Supers.{class_in}
use Rattle.overriding.specs.Methods.{Method, inherited, is_same, methods_above, overrides}
use Rattle.overriding.specs.Overrides.{implements}
use Rattle.name_typing.specs.Accesses.{superclass_of}
use Rattle.name_typing.specs.Program.{Frame, LocalVariable, Program}
use Rattle.name_typing.specs.Qualified.{class_named}
use Rattle.body_types.specs.BodyTypes.{look_at}
use Rattle.body_typing.specs.Expressions.{Known}
use Rattle.fitting_laws.specs.Represented.{IsThere, LocalIsSound, StandRound}
use Rattle.class_typing.specs.Bridges.{bridges}
use Rattle.class_typing.specs.Elaboration.{hidden_count}
use Rattle.class_typing.specs.Places.{member_frame, round_met}
use Rattle.class_typing.specs.Programs.{library_count}
use Rattle.body_laws.specs.Written.{MembersAreWritten}
use Rattle.class_fitting_laws.specs.Unwritten.{UnwrittenStands}
use Rattle.class_fitting_laws.specs.Written.{MembersStand}
use Rattle.elaborated_laws.specs.Elaborated.{IsElaborated, captured_by, program_of, world_of}
use Rattle.elaborated_laws.specs.Premises.{HasSites, HasWords}
use Rattle.elaborated_laws.specs.Sound.{MethodsAreSound, TypesAreSound}
use Rattle.judged_laws.specs.Names.{NamesAreGood}
use Rattle.judged_laws.specs.Written.{HeadersAreWritten, InterfacesAreStatic, NoneIsBelowVariables}

-- the class that a header names first (JLS 8.1.4)
abbrev pub named_first : Program → ℕ → Option ClassId
named_first p c = option_map class_numbered (class_in (superclass_of p.heads c))

module _ (source : Source) (program : CoreProgram) (e : IsElaborated source program) where
  abbrev pub declared : Program
  declared = program_of source e.first

  abbrev pub known : Known
  known = (world_of source e.first).known

  -- the bodies round a class
  abbrev pub round : ℕ → List Frame
  round c = round_met source.sites e.first.met c

  -- ---- of the whole source

  -- sites, words, names, headers, members and types
  pub record SourceIsSound : Type 0 where
    pub sites : HasSites source
    pub words : HasWords source
    pub names : NamesAreGood source
    pub written : HeadersAreWritten source
    pub members : (c : ℕ) → MembersAreWritten (members_in (site_at source.sites c).written)
    pub anonymous : NoneIsBelowVariables source
    pub interfaces : InterfacesAreStatic source
    pub types : TypesAreSound declared program
    pub methods : MethodsAreSound declared program

  -- ---- of a class of the source

  -- The bodies round it are there, and what names and types mean in its members (JLS 6.3, 6.5, 8.1.3).
  pub record ScopeStands (c : ℕ) : Type 0 where
    pub around : StandRound declared program c (round c)
    pub sound : (f : Frame) (v : LocalVariable) → In (round c) f → In f.locals v → LocalIsSound declared program v
    pub named : (context : Context) (x : NameId) (d : ℕ) →
        class_named declared (member_frame c context None []) x ≡ a_class d → IsThere program d
    pub written : (context : Context) (parts : List Identifier) (d : ℕ) →
        look_at declared (member_frame c context None []) parts ≡ a_class d → IsThere program d

  -- what is met in its bodies is there
  pub record BodiesStand (c : ℕ) : Type 0 where
    pub scope : ScopeStands c
    pub written : MembersStand declared known program c (round c) (named_first declared c)
        (hidden_count source (captured_by source e.first) c) 0 (members_in (site_at declared.source.sites c).written)
    pub unwritten : UnwrittenStands declared known program c (named_first declared c) e.first.met
        (site_at declared.source.sites c).written

-- what a class inherits (JLS 8.4.8)
pub record InheritanceFits (program : CoreProgram) (class : ClassId) (c : CoreClass) : Type 0 where
  pub inherited : InheritedFit program class
  pub implements : can_be_made c ≡ true → Implements program class

-- what is asked of the parts of a class of the source: constants are those of final static fields (JLS 8.3, 15.28)
pub record PartsStand (program : CoreProgram) (class : ClassId) (c : CoreClass) : Type 0 where
  pub inheritance : InheritanceFits program class c
  pub constants : (f : CoreField) (e : Core) → In c.fields f → f.constant ≡ Some e → ConstantFits program class f e

module _ (source : Source) (program : CoreProgram) (e : IsElaborated source program) where
  -- a bridge of a class from a method above it to one that it inherits
  pub record IsInheritedBridge (c : ℕ) (n m : Method) : Type 0 where
    pub above : In (methods_above (declared source program e).heads (declared source program e).classes c) n
    pub inherits : In (inherited (declared source program e).heads (declared source program e).classes c) m
    pub bridge : In (bridges (declared source program e).heads (declared source program e).classes c)
        (record { method = (class_numbered n.holder, n.place); by = (class_numbered m.holder, m.place) })

  -- the result of one method, as it is declared, stands for that of another one
  abbrev pub ResultAgrees : Method → Method → Type 0
  ResultAgrees m n = results_agree program (erased (declared source program e).heads m.declared.result)
      (erased (declared source program e).heads n.declared.result) ≡ true

  -- by the class that declares it
  abbrev pub is_overriding : Method → Method → Bool
  is_overriding m n = overrides (declared source program e).heads (declared source program e).classes m n

  -- the class inherits it, and the other one implements it by its parameter types (JLS 8.4.8.4)
  abbrev pub is_implementing : ℕ → Method → Method → Bool
  is_implementing c m n = list_any (λ k. is_same k n && implements m k)
      (inherited (declared source program e).heads (declared source program e).classes c)

  -- Results agree in a class's bridges to methods of the library that override others, and to those that run for an
  -- abstract method which they don't override and the class doesn't inherit.
  pub record ImplementationsAgree (c : ℕ) : Type 0 where
    pub library : (n m : Method) → IsInheritedBridge c n m → is_overriding m n ≡ true →
        m.holder < library_count source → ResultAgrees m n
    pub others : (n m : Method) → IsInheritedBridge c n m → is_overriding m n ≡ false →
        is_implementing c m n ≡ false → ResultAgrees m n

  -- Each class of the source stands, by what was met in its bodies and by its parts.
  pub record ClassesStand : Type 0 where
    pub bodies : (c : ℕ) (class : CoreClass) → library_count source ≤ c →
        class_at program (class_numbered c) ≡ Some class → BodiesStand source program e c
    pub parts : (c : ℕ) (class : CoreClass) → library_count source ≤ c →
        class_at program (class_numbered c) ≡ Some class → PartsStand program (class_numbered c) class
    pub implementations : (c : ℕ) (class : CoreClass) → library_count source ≤ c →
        class_at program (class_numbered c) ≡ Some class → ImplementationsAgree c
