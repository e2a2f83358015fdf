-- Constructors (JLS 8.8): the call of another one at the head, the default one, that of an anonymous class, and those
-- that lead back to themselves.
use Rattle.std.specs.Prelude.{ℕ, zero, suc, Bool, true, false, ◌||◌, List, [], ◌∷◌, length, map, flat_map, Option, Some, None, slice_get, nat_eq}
use Rattle.std.specs.List.{find}
use Rattle.je_base.specs.declared.span.NameId.{NameId}
use Rattle.je_base.specs.declared.span.Span.{Span}
use Rattle.je_core.specs.declared.program.Flags.{Flags}
use Rattle.je_core.specs.declared.program.Local.{Local as LocalOf}
use Rattle.je_core.specs.declared.types.Ty.{Ty}
use Rattle.je_core.specs.Core.{Core, CoreForm, CoreMethod, CoreStmt, Block, CallExact, Local, a_core, core_stmts, cores, form_of, node, stmt}
use Rattle.je_ast.specs.Trees.{ConstructorInvocation, Expressions, Member, Members}
use Rattle.je_ast.specs.Trees as tree
use Rattle.je_ast.specs.Types.{TypeName}
use Rattle.je_fitting.specs.Types.{void}
use Rattle.je_scopes.specs.Sites.{constructor_arguments}
use Rattle.source_types.specs.Erasure.{class_numbered, erased}
use Rattle.declarations.specs.Declarations.{DeclaredMethod}
use Rattle.je_typing.specs.declared.fault.TypeRule.TheVariants.{CtorCycle}
use Rattle.je_typing.specs.Judged.{Judged, gives, ◌>>=◌, ◌>>◌, breaks}
use Rattle.je_typing.specs.Typed.{TypedNode}
use Rattle.overriding.specs.Methods.{methods_in}
use Rattle.name_typing.specs.Instances.{this_node}
use Rattle.name_typing.specs.Program.{Place, Program}
use Rattle.body_typing.specs.Calls.{Candidate, constructor_for, implicit_constructor_call, made_of, own_constructor_call, superclass_constructor_call}
use Rattle.body_typing.specs.Expressions.{Known, anonymous_type, values}
use Rattle.body_typing.specs.FinalVariables.{Scope}
use Rattle.body_typing.specs.Mentions.{all_mentions}
use Rattle.body_typing.specs.Bodies.{Met, in_frame, met_by, performed}

-- ---- the call at the head of a constructor (JLS 8.8.7.1), in whose arguments there is no object yet

abbrev pub in_arguments : Scope → Scope
in_arguments s = in_frame (record (s.place.here) { context = constructor_arguments }) s

-- what is met in its arguments
abbrev pub met_in_head : Program → Scope → ConstructorInvocation → List Met
met_in_head p s tree.implicit = []
met_in_head p s (tree.explicit is_super word es) = flat_map (met_by p (in_arguments s)) (all_mentions es)

abbrev pub constructor_call : Program → Bool → Place → Span → List TypedNode → Judged TypedNode
constructor_call p true place word args = superclass_constructor_call p place word word args
constructor_call p false place word args = own_constructor_call p place word word args

-- the place of the constructor that is called
abbrev pub place_called : CoreForm → ℕ
place_called (CallExact o c at args) = at
place_called form = 0

-- the calls that stand at a head, as statements at its word
abbrev pub word_of : ConstructorInvocation → Span → Span
word_of tree.implicit otherwise = otherwise
word_of (tree.explicit is_super word es) otherwise = word

abbrev pub head_code : Span → List TypedNode → List CoreStmt
head_code word calls = map (λ (t : TypedNode). performed word t.node) calls

module _ (p : Program) (k : Known) where
  -- the call of the superclass's constructor that no word says is judged all the same, and no statement
  abbrev pub head_call : Scope → Span → ConstructorInvocation → Judged (List TypedNode)
  head_call s class_span tree.implicit = do
    implicit_constructor_call p s.place class_span
    gives []
  head_call s class_span (tree.explicit is_super word es) = do
    args ← values p k (in_arguments s) es
    call ← constructor_call p is_super s.place word args
    gives (call ∷ [])

  -- ---- the constructor of an anonymous class (JLS 15.9.5.1): its parameters are those of the superclass's
  -- constructor that was chosen behind `new`, to which it hands them on

  abbrev pub chosen_for : Scope → Span → TypeName → Expressions → Judged Candidate
  chosen_for s word t es = do
    args ← values p k s es
    constructor_for p s.place.here.class (made_of p (anonymous_type p word t)) word args

-- the erased types of a constructor's parameters, as its class declares them
abbrev pub parameters_in : Program → Option DeclaredMethod → List Ty
parameters_in p None = []
parameters_in p (Some m) = map (erased p.heads) m.parameters

abbrev pub declared_parameters : Program → Candidate → List Ty
declared_parameters p m = parameters_in p (slice_get (methods_in (slice_get p.classes m.class)) m.place)

-- the first locals, as arguments
abbrev pub locals_from : Span → ℕ → List Ty → List Core
locals_from span n [] = []
locals_from span n (t ∷ ts) = node (Local n) t span span ∷ locals_from span (suc n) ts

abbrev pub handed_on : Program → Place → Span → Candidate → CoreStmt
handed_on p place span m =
    performed span (node (CallExact (a_core (this_node place span)) (class_numbered m.class) m.place
    (cores (locals_from span 0 (declared_parameters p m)))) void span span)

-- ---- a constructor that no source writes (JLS 8.8.9, 15.9.5.1)

abbrev pub unnamed_local : NameId → Span → Ty → LocalOf
unnamed_local no_name span t = record { name = no_name; ty = t; is_final = false; span = span }

abbrev pub unwritten_constructor : NameId → NameId → Span → Flags → List Ty → List CoreStmt → CoreMethod
unwritten_constructor word no_name span flags params parts = record {
  name = word;
  span = span;
  params = params;
  returns = void;
  flags = flags;
  throws = [];
  locals = map (unnamed_local no_name span) params;
  body = Some (stmt (Block [] (core_stmts parts)) span span);
}

-- ---- constructors that call each other (JLS 8.8.7): the fault stands at the first word `this` on such a way

-- a constructor, by its place in its class, that calls another one of the class by a word `this`
pub record OwnCall : Type 0 where
  pub place : ℕ
  pub word : Span
  pub to : ℕ

abbrev pub call_at : List OwnCall → ℕ → Option OwnCall
call_at calls n = find (λ (c : OwnCall). nat_eq c.place n) calls

abbrev pub leads_on : (ℕ → Bool) → Option OwnCall → Bool
leads_on further None = false
leads_on further (Some c) = further c.to

-- whether calls lead from one to another, so many at most
abbrev pub leads_within : List OwnCall → ℕ → ℕ → ℕ → Bool
leads_within calls zero to from = false
leads_within calls (suc n) to from = leads_on (λ at. nat_eq at to || leads_within calls n to at) (call_at calls from)

abbrev pub leads_back : List OwnCall → OwnCall → Bool
leads_back calls c = leads_within calls (length calls) c.place c.place

abbrev pub no_call : Option OwnCall → Judged (Unit {0})
no_call None = gives tt
no_call (Some c) = breaks CtorCycle c.word

-- of a constructor at a place, whose head came to these calls
abbrev pub own_calls : ℕ → ConstructorInvocation → List TypedNode → List OwnCall
own_calls at (tree.explicit false word es) calls =
    map (λ (t : TypedNode). record { place = at; word = word; to = place_called (form_of t.node) }) calls
own_calls at call calls = []

unfoldable pub no_cycle : List OwnCall → Judged (Unit {0})
no_cycle calls = no_call (find (leads_back calls) calls)
