-- What the walk over a body knows at a place of it, and what it leaves behind: the scope of locals and local classes
-- there (JLS 6.3, 14.2 to 14.4), all locals of the body so far, and what its expressions mention.
use Rattle.std.specs.Prelude.{ℕ, suc, Bool, List, [], ◌∷◌, ◌++◌, length, flat_map, Option, Some, None, is_none, if◌then◌else◌}
use Rattle.std.specs.List.{list_any}
use Rattle.je_base.specs.declared.span.NameId.{NameId}
use Rattle.je_base.specs.declared.span.Span.{Span}
use Rattle.je_core.specs.declared.program.Local.{Local as LocalOf}
use Rattle.je_core.specs.Core.{Core, CoreStmt, Block, Do, Empty, core_stmts, stmt}
use Rattle.je_ast.specs.Trees.{Expression, Expressions}
use Rattle.je_ast.specs.Types.{TypeName}
use Rattle.je_scopes.specs.Headers.{no_span, same_name}
use Rattle.je_scopes.specs.Settled.{parts_of}
use Rattle.je_scopes.specs.SourceTypes.{SourceType}
use Rattle.source_types.specs.Erasure.{erased}
use Rattle.source_types.specs.Heads.{ClassHead}
use Rattle.library_classes.specs.Numbers.{number_in}
use Rattle.name_typing.specs.Program.{Constant, Frame, LocalVariable, Program, frames}
use Rattle.name_typing.specs.Variables.{Variable, a_local, class_of_frame, variable_named}
use Rattle.body_types.specs.BodyTypes.{look_at}
use Rattle.body_typing.specs.Expressions.{anonymous_at, class_of_look}
use Rattle.body_typing.specs.FinalVariables.{Scope}
use Rattle.body_typing.specs.Mentions.{Mention, made, made_with_body, mentions, named}

-- ---- what is met in a body: that by which it is told what classes capture (JLS 8.1.3), and where classes stand

pub data Met : Type 0 where
  -- in a class a name means a local of a body of another class, by that class and the local's number; it is no constant
  captures : ℕ → ℕ → ℕ → Met
  -- in a class objects of another one are made
  makes : ℕ → ℕ → Met
  -- a local class stands in a scope, which has the class itself (JLS 6.3)
  stands : ℕ → Scope → Met
  -- a class whose body is behind `new` stands in a scope, with that word, the type, and the arguments
  stands_behind_new : ℕ → Scope → Span → TypeName → Expressions → Met

-- what a mention in a scope says
module _ (p : Program) (s : Scope) where
  abbrev pub local_met : Variable → List Met
  local_met (a_local (suc n) v) =
      if is_none v.constant
      then captures s.place.here.class (class_of_frame (frames s.place) (suc n)) v.number ∷ [] else []
  local_met v = []

  abbrev pub class_met : Option ℕ → List Met
  class_met None = []
  class_met (Some c) = makes s.place.here.class c ∷ []

  abbrev pub met_by : Mention → List Met
  met_by (named id) = local_met (variable_named p s.place id.name)
  met_by (made t) = class_met (class_of_look (look_at p s.place.here (parts_of t)))
  met_by (made_with_body word t es) = stands_behind_new (anonymous_at p word) s word t es ∷ []

-- all locals of the body so far, whose numbers are their places, and all that was met
pub record Progress : Type 0 where
  pub locals : List LocalOf
  pub met : List Met

abbrev pub with_met : List Met → Progress → Progress
with_met met pr = record pr { met = pr.met ++ met }

abbrev pub met_in_expression : Program → Scope → Expression → List Met
met_in_expression p s e = flat_map (met_by p s) (mentions e)

-- behind an expression
abbrev pub behind : Program → Scope → Expression → Progress → Progress
behind p s e pr = with_met (met_in_expression p s e) pr

-- ---- scopes

abbrev pub in_frame : Frame → Scope → Scope
in_frame here s = record s { place = record (s.place) { here = here } }

-- one local more; `is_given` says that it is final and has its value from here on
abbrev pub given_if : Bool → ℕ → List ℕ → List ℕ
given_if is_given n ns = if is_given then n ∷ ns else ns

abbrev pub with_local : Bool → LocalVariable → Scope → Scope
with_local is_given v s = record (in_frame (record (s.place.here) { locals = v ∷ s.place.here.locals }) s) {
  given = given_if is_given v.number s.given;
}

abbrev pub with_local_class : ℕ → Scope → Scope
with_local_class c s = in_frame (record (s.place.here) { local_classes = c ∷ s.place.here.local_classes }) s

-- the locals of one place, and the local classes of another (JLS 6.3: a group of a `switch`)
abbrev pub with_classes_of : Scope → Scope → Scope
with_classes_of other s = in_frame (record (s.place.here) { local_classes = other.place.here.local_classes }) s

-- a local of this name is in scope in the body itself (JLS 14.4.2)
abbrev pub has_local : Scope → NameId → Bool
has_local s x = list_any (λ (v : LocalVariable). same_name v.name x) s.place.here.locals

-- ---- locals

abbrev pub local_of : NameId → SourceType → Bool → ℕ → Option Constant → LocalVariable
local_of x t is_final n constant = record { name = x; type = t; is_final = is_final; number = n; constant = constant }

-- the name of a local that no source names
abbrev pub no_name : Program → NameId
no_name p = number_in p.source.texts []

-- one more of the body
abbrev pub with_number : List ClassHead → NameId → SourceType → Bool → Span → Progress → Progress
with_number heads x t is_final span pr =
    record pr { locals = pr.locals ++ record { name = x; ty = erased heads t; is_final = is_final; span = span } ∷ [] }

abbrev pub next_number : Progress → ℕ
next_number pr = length pr.locals

-- ---- what a statement comes to

-- Its code; a declaration of locals is a statement for each initializer, and that of a class none. The numbers of the
-- locals that it declares in its block, the scope behind it in the block, and what was met so far.
pub record Done : Type 0 where
  pub code : List CoreStmt
  pub numbers : List ℕ
  pub scope : Scope
  pub progress : Progress

-- one statement, behind which the scope is as before it
abbrev pub one : CoreStmt → Scope → Progress → Done
one code s pr = record { code = code ∷ []; numbers = []; scope = s; progress = pr }

abbrev pub nothing_done : Scope → Progress → Done
nothing_done s pr = record { code = []; numbers = []; scope = s; progress = pr }

-- one thing, and the rest of its block
abbrev pub followed : Done → Done → Done
followed d rest = record {
  code = d.code ++ rest.code;
  numbers = d.numbers ++ rest.numbers;
  scope = rest.scope;
  progress = rest.progress;
}

abbrev pub first_of : List CoreStmt → CoreStmt
first_of [] = stmt Empty no_span no_span
first_of (c ∷ cs) = c

-- of a statement that stands alone and is no declaration
abbrev pub alone : Done → CoreStmt
alone d = first_of d.code

-- of the statements of a block, by its brackets
abbrev pub block_of : Span → Span → Done → CoreStmt
block_of opening closing d = stmt (Block d.numbers (core_stmts d.code)) opening closing

-- an expression as a statement, which begins at the span (JLS 14.8)
abbrev pub performed : Span → Core → CoreStmt
performed start e = stmt (Do e) start start
