-- The members of a class (JLS 8.3, 8.4, 8.6, 8.7, 8.8), with the code of their bodies, or the first fault. Members
-- come in the order in which they are written, and behind them what no source writes: a default constructor, and
-- those of anonymous classes and enums.
use Rattle.std.specs.Prelude.{ℕ, suc, ◌+◌, Bool, true, false, not, ◌&&◌, List, [], ◌∷◌, ◌++◌, length, map, Option, Some, None, is_some, slice_get, codes, if◌then◌else◌}
use Rattle.std.specs.List.{find}
use Rattle.je_base.specs.declared.span.NameId.{NameId}
use Rattle.je_base.specs.declared.span.Span.{Span}
use Rattle.je_core.specs.declared.program.Local.{Local as LocalOf}
use Rattle.je_core.specs.declared.types.Base.{Base}
use Rattle.je_core.specs.declared.types.Base.TheVariants as base
use Rattle.je_core.specs.declared.types.ClassId.{ClassId}
use Rattle.je_core.specs.Core.{Core, CoreInitializer, CoreMethod, CoreStmt, Assign, Field, Static, no_core, node}
use Rattle.je_ast.specs.declared.name.Identifier.{Identifier}
use Rattle.je_ast.specs.Spans as written
use Rattle.je_ast.specs.Trees.{ConstructorInvocation, Expression, MaybeBlock, MaybeExpression, Member, Members, Statements, Variables}
use Rattle.je_ast.specs.Trees as tree
use Rattle.je_ast.specs.Types.{FormalParameter}
use Rattle.je_fitting.specs.Statements.{no_targets}
use Rattle.je_scopes.specs.Headers.{constants_in, is_interface_sort, members_in, site_at, span_in}
use Rattle.je_scopes.specs.Sites.{Context, Site, Written, behind_new, context_of, declared, in_library, initializer_context, instance}
use Rattle.je_scopes.specs.SourceTypes.{SourceType}
use Rattle.source_types.specs.Erasure.{class_numbered, erased}
use Rattle.declarations.specs.Declarations.{DeclaredField, DeclaredMethod, is_enum_sort}
use Rattle.overriding.specs.Methods.{methods_in}
use Rattle.je_typing.specs.Constants.{uses_of}
use Rattle.je_typing.specs.Conversions.{assigned}
use Rattle.je_typing.specs.declared.fault.TypeRule.TheVariants.{BadStatic}
use Rattle.je_typing.specs.Judged.{Judged, gives, ◌>>=◌, ◌>>◌, check}
use Rattle.header_typing.specs.Statics.{is_inner}
use Rattle.je_typing.specs.Typed.{TypedNode, is_void}
use Rattle.library_classes.specs.Numbers.{number_in}
use Rattle.name_typing.specs.Fields.{field_at, member}
use Rattle.name_typing.specs.Instances.{this_node}
use Rattle.name_typing.specs.Program.{Constant, Frame, Initializer, Program}
use Rattle.name_typing.specs.Variables.{constant_form}
use Rattle.body_typing.specs.Calls.{Candidate, access_in, constructors_of, default_flags, implicit_constructor_call}
use Rattle.statement_steps.specs.Returns.{Returning, a_value, never, no_value}
use Rattle.body_typing.specs.ConstantVariables.{variable_constant}
use Rattle.body_typing.specs.Expressions.{Known, expression, initial, value}
use Rattle.body_typing.specs.FinalVariables.{Scope}
use Rattle.body_typing.specs.Bodies.{Done, Met, Progress, block_of, local_of, met_in_expression, performed, stands_behind_new, with_local, with_met, with_number}
use Rattle.body_typing.specs.LocalVariables.{new_name}
use Rattle.body_typing.specs.Statements.{statements}
use Rattle.class_typing.specs.Constructors.{OwnCall, chosen_for, declared_parameters, handed_on, head_call, head_code, met_in_head, no_cycle, own_calls, unwritten_constructor, word_of}
use Rattle.class_typing.specs.Enums.{constants_made, enum_code}
use Rattle.class_typing.specs.Places.{member_frame, stands_at}

-- What members come to, in order: of each variable of a field the constant that it is, if it is one; code; calls
-- between constructors; and what was met in their bodies.
pub record MembersDone : Type 0 where
  pub constants : List (Option Core)
  pub initializers : List CoreInitializer
  pub methods : List CoreMethod
  pub calls : List OwnCall
  pub met : List Met

abbrev pub nothing : MembersDone
nothing = record { constants = []; initializers = []; methods = []; calls = []; met = [] }

abbrev pub followed_by : MembersDone → MembersDone → MembersDone
followed_by d rest = record {
  constants = d.constants ++ rest.constants;
  initializers = d.initializers ++ rest.initializers;
  methods = d.methods ++ rest.methods;
  calls = d.calls ++ rest.calls;
  met = d.met ++ rest.met;
}

abbrev pub nothing_met : Progress
nothing_met = record { locals = []; met = [] }

-- the scope and the locals behind parameters
pub record Begun : Type 0 where
  pub scope : Scope
  pub progress : Progress

-- a body, if there is one, and what was met
pub record BodyDone : Type 0 where
  pub body : Option CoreStmt
  pub progress : Progress

abbrev pub returning_of : SourceType → Returning
returning_of t = if is_void t then no_value else a_value t

abbrev pub class_of_base : Base → List ClassId
class_of_base (base.Class c) = c ∷ []
class_of_base b = []

-- places of fields and methods behind a member
abbrev pub variable_count : Variables → ℕ
variable_count tree.no_variables = 0
variable_count (tree.more_variables id dims e vs) = suc (variable_count vs)

abbrev pub fields_behind : ℕ → Member → ℕ
fields_behind at (tree.field ms t vs span) = at + variable_count vs
fields_behind at m = at

abbrev pub methods_behind : ℕ → Member → ℕ
methods_behind at (tree.method ms t id fs ts block span) = suc at
methods_behind at (tree.constructor ms id fs ts call opening b closing span) = suc at
methods_behind at m = at

-- a class, and the bodies round it
module _ (p : Program) (k : Known) (c : ℕ) (round : List Frame) where
  abbrev pub site : Site
  site = site_at p.source.sites c

  abbrev pub class_span : Span
  class_span = span_in site.written

  abbrev pub number : List ℕ → NameId
  number word = number_in p.source.texts word

  abbrev pub scope_in : Context → Option Initializer → Bool → Scope
  scope_in context initializer is_constructor = record {
    place = record { here = member_frame c context initializer []; round = round };
    is_constructor = is_constructor;
    given = [];
  }

  -- ---- fields (JLS 8.3.2, 8.3.2.3): one that is static, final and a constant runs nothing

  -- in the initializer of one, before which so many stand
  abbrev pub field_scope : Bool → ℕ → Scope
  field_scope is_static at =
      scope_in (context_of is_static) (Some (record { is_static = is_static; declared = at })) false

  abbrev pub field_node : DeclaredField → ℕ → Span → Core
  field_node f at span =
      if f.is_static then node (Static no_core (class_numbered c) at) (erased p.heads f.ty) span span
      else node (Field (this_node (field_scope false at).place span) (class_numbered c) at)
      (erased p.heads f.ty) span span

  abbrev pub field_initializer : DeclaredField → ℕ → Span → Core → CoreInitializer
  field_initializer f at span n = record {
    is_static = f.is_static;
    span = span;
    locals = [];
    body = performed span (node (Assign (field_node f at span) n) (erased p.heads f.ty) span span);
  }

  abbrev pub constant_node : DeclaredField → Span → Core → Constant → Core
  constant_node f span from constant = node (constant_form (uses_of from) constant) (erased p.heads f.ty) span span

  abbrev pub field_code : DeclaredField → ℕ → Identifier → Expression → TypedNode → Core → Bool → Option Constant →
      MembersDone
  field_code f at id e from n true (Some constant) =
      record nothing {
        constants = Some (constant_node f (written.span_of e) from.node constant) ∷ [];
        met = met_in_expression p (field_scope f.is_static at) e;
      }
  field_code f at id e from n is_static constant =
      record nothing {
        constants = None ∷ [];
        initializers = field_initializer f at id.span n ∷ [];
        met = met_in_expression p (field_scope f.is_static at) e;
      }

  -- a static field of an inner class is a constant, with the locals round the class too (JLS 8.1.3)
  unfoldable pub inner_static : DeclaredField → Identifier → Option Constant → Judged (Unit {0})
  inner_static f id constant =
      check BadStatic id.span (not (f.is_static && not (is_some constant) && is_inner p.source.sites p.heads c))

  abbrev pub initialized : ℕ → Identifier → Expression → Option DeclaredField → Judged MembersDone
  initialized at id e None = gives nothing
  initialized at id e (Some f) = do
    from ← value (expression p k (field_scope f.is_static at) (initial f.ty) e)
    n ← assigned p.heads f.ty (written.span_of e) from
    inner_static f id (variable_constant f.is_final f.ty from.node)
    gives (field_code f at id e from n f.is_static (variable_constant f.is_final f.ty from.node))

  abbrev pub variable : ℕ → Identifier → MaybeExpression → Judged MembersDone
  variable at id tree.no_expression = gives (record nothing { constants = None ∷ [] })
  variable at id (tree.an_expression e) = initialized at id e (field_at p.classes (member c at))

  abbrev pub variables : ℕ → Variables → Judged MembersDone
  variables at tree.no_variables = gives nothing
  variables at (tree.more_variables id dims e vs) = do
    d ← variable at id e
    rest ← variables (suc at) vs
    gives (followed_by d rest)

  -- ---- methods and constructors (JLS 8.4, 8.8)

  -- parameters are the first locals (JLS 8.4.1)
  abbrev pub parameters : Scope → Progress → List FormalParameter → List SourceType → Judged Begun
  parameters s pr (f ∷ fs) (t ∷ ts) = do
    new_name s f.name
    parameters (with_local f.is_final (local_of f.name.name t f.is_final (length pr.locals) None) s)
        (with_number p.heads f.name.name t f.is_final f.name.span pr) fs ts
  parameters s pr fs ts = gives (record { scope = s; progress = pr })

  abbrev pub body_if : Returning → Begun → MaybeBlock → Judged BodyDone
  body_if returning b tree.no_block = gives (record { body = None; progress = b.progress })
  body_if returning b (tree.a_block opening ss closing) = do
    d ← statements p k returning no_targets b.scope b.progress ss
    gives (record { body = Some (block_of opening closing d); progress = d.progress })

  abbrev pub thrown_class : SourceType → List ClassId
  thrown_class t = class_of_base (erased p.heads t).base

  abbrev pub thrown_classes : List SourceType → List ClassId
  thrown_classes [] = []
  thrown_classes (t ∷ ts) = thrown_class t ++ thrown_classes ts

  abbrev pub code_of : NameId → Span → DeclaredMethod → List LocalOf → Option CoreStmt → CoreMethod
  code_of name span m locals body = record {
    name = name;
    span = span;
    params = map (erased p.heads) m.parameters;
    returns = erased p.heads m.result;
    flags = m.flags;
    throws = thrown_classes m.throws;
    locals = locals;
    body = body;
  }

  abbrev pub method_code : Identifier → DeclaredMethod → BodyDone → MembersDone
  method_code id m b =
      record nothing { methods = code_of id.name id.span m b.progress.locals b.body ∷ []; met = b.progress.met }

  abbrev pub method : Identifier → List FormalParameter → MaybeBlock → Option DeclaredMethod → Judged MembersDone
  method id fs block None = gives nothing
  method id fs block (Some m) = do
    begun ← parameters (scope_in (context_of m.flags.is_static) None false) nothing_met fs m.parameters
    b ← body_if (returning_of m.result) begun block
    gives (method_code id m b)

  abbrev pub with_head : Span → ConstructorInvocation → List TypedNode → Done → Done
  with_head opening call calls d = record d { code = head_code (word_of call opening) calls ++ d.code }

  abbrev pub constructor_code : ℕ → Identifier → DeclaredMethod → ConstructorInvocation → List TypedNode → Span →
      Span → Done → MembersDone
  constructor_code at id m call calls opening closing d = record nothing {
    methods =
        code_of (number (codes "new")) id.span m d.progress.locals
        (Some (block_of opening closing (with_head opening call calls d))) ∷ [];
    calls = own_calls at call calls;
    met = d.progress.met;
  }

  abbrev pub constructor : ℕ → Identifier → List FormalParameter → ConstructorInvocation → Span → Statements → Span →
      Option DeclaredMethod → Judged MembersDone
  constructor at id fs call opening ss closing None = gives nothing
  constructor at id fs call opening ss closing (Some m) = do
    b ← parameters (scope_in instance None true) nothing_met fs m.parameters
    calls ← head_call p k b.scope class_span call
    d ← statements p k no_value no_targets b.scope (with_met (met_in_head p b.scope call) b.progress) ss
    gives (constructor_code at id m call calls opening closing d)

  -- ---- initializers (JLS 8.6, 8.7)

  abbrev pub is_static_word : Option Span → Bool
  is_static_word None = false
  is_static_word (Some word) = true

  abbrev pub initializer_scope : Option Span → ℕ → Scope
  initializer_scope word fields =
      scope_in (initializer_context word) (Some (record { is_static = is_static_word word; declared = fields })) false

  abbrev pub initializer_code : Bool → Span → Span → Done → MembersDone
  initializer_code is_static opening closing d = record nothing {
    initializers =
        record {
          is_static = is_static;
          span = opening;
          locals = d.progress.locals;
          body = block_of opening closing d;
        }
        ∷ [];
    met = d.progress.met;
  }

  -- ---- one member, before which so many fields and methods stand; a member class comes at its own turn

  abbrev pub one_member : ℕ → ℕ → Member → Judged MembersDone
  one_member fields methods (tree.member_type d) = gives nothing
  one_member fields methods (tree.field ms t vs span) = variables fields vs
  one_member fields methods (tree.method ms t id fs ts block span) =
      method id fs block (slice_get (methods_in (slice_get p.classes c)) methods)
  one_member fields methods (tree.constructor ms id fs ts call opening ss closing span) =
      constructor methods id fs call opening ss closing (slice_get (methods_in (slice_get p.classes c)) methods)
  one_member fields methods (tree.initializer word opening ss closing span) = do
    d ← statements p k never no_targets (initializer_scope word fields) nothing_met ss
    gives (initializer_code (is_static_word word) opening closing d)

  abbrev pub members_from : ℕ → ℕ → Members → Judged MembersDone
  members_from fields methods tree.no_members = gives nothing
  members_from fields methods (tree.more_members m ms) = do
    d ← one_member fields methods m
    rest ← members_from (fields_behind fields m) (methods_behind methods m) ms
    gives (followed_by d rest)

  -- ---- what no source writes

  -- the default constructor, of the access of its class (JLS 8.8.9)
  abbrev pub default_code : MembersDone
  default_code = record nothing {
    methods =
        unwritten_constructor (number (codes "new")) (number []) class_span
        (default_flags (access_in (slice_get p.classes c))) [] [] ∷ [];
  }

  abbrev pub default_constructor : Judged MembersDone
  default_constructor = do
    implicit_constructor_call p (scope_in instance None true).place class_span
    gives default_code

  -- that of an anonymous class (JLS 15.9.5.1)
  abbrev pub anonymous_code : Candidate → MembersDone
  anonymous_code m = record nothing {
    methods =
        unwritten_constructor (number (codes "new")) (number []) class_span
        (default_flags (access_in (slice_get p.classes c))) (declared_parameters p m)
        (handed_on p (scope_in instance None true).place class_span m ∷ [])
        ∷ [];
  }

  abbrev pub anonymous_constructor : Option Met → Judged MembersDone
  anonymous_constructor (Some (stands_behind_new d s word t es)) = do
    chosen ← chosen_for p k s word t es
    gives (anonymous_code chosen)
  anonymous_constructor m = gives nothing

  abbrev pub no_constant : Identifier → Option Core
  no_constant id = None

  abbrev pub enum_members : List Identifier → MembersDone
  enum_members ids = record nothing {
    constants = map no_constant ids;
    initializers = constants_made number p.source.texts c class_span ids 0 ids;
    methods = enum_code number p.source.texts c class_span ids;
  }

  abbrev pub is_without_constructor : Bool
  is_without_constructor = none_of (constructors_of p.classes c)
    where
      none_of : {A : Type 0} → List A → Bool
      none_of [] = true
      none_of (m ∷ ms) = false

  -- `met` is what was met in the bodies round the class
  abbrev pub unwritten : List Met → Written → Judged MembersDone
  unwritten met in_library = gives nothing
  unwritten met (declared d) =
      if is_enum_sort site.sort then gives (enum_members (constants_in site.written))
      else if not (is_interface_sort site.sort) && is_without_constructor then default_constructor else gives nothing
  unwritten met (behind_new word t ms) = anonymous_constructor (find (stands_at c) met)

  -- ---- the class, with so many hidden fields

  unfoldable pub class_members : List Met → ℕ → Judged MembersDone
  class_members met hidden = do
    d ← members_from hidden 0 (members_in site.written)
    further ← unwritten met site.written
    no_cycle d.calls
    gives (followed_by d further)
