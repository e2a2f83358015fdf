-- Worked examples: what statements throw, which catches take nothing, and what a program leaves unreported.
use Rattle.std.proofs.Common.{◌≡◌, ℕ, ◌+◌, List, [], ◌∷◌, Option, Some, None, refl}
use Rattle.std.specs.Prelude.{false}
use Rattle.je_base.specs.declared.span.Span.{Span}
use Rattle.je_core.specs.declared.program.Access.TheVariants.{Public}
use Rattle.je_core.specs.declared.program.Sort.{Sort}
use Rattle.je_core.specs.declared.program.Sort.TheVariants as sort
use Rattle.je_core.specs.declared.types.Base.TheVariants as base
use Rattle.je_core.specs.declared.types.ClassId.{ClassId}
use Rattle.je_core.specs.declared.types.Ty.{Ty}
use Rattle.je_core.specs.Core.{Core, CoreStmt, CoreStmtForm, CoreCatch, CoreInitializer, CoreMethod, CoreClass, CoreProgram, MaybeStmt, node, none as no_cores, stmt, catch, core_stmts, core_catches, no_stmt, a_stmt}
use Rattle.je_core.specs.Core as core
use Rattle.je_classes.specs.Hierarchy.{is_below, library_class, object_class}
use Rattle.je_classes.specs.Members.{constructor_place}
use Rattle.flow_base.specs.declared.faults.FaultKind.{FaultKind}
use Rattle.flow_base.specs.declared.faults.FaultKind.TheVariants as kind
use Rattle.flow_base.specs.declared.faults.FlowFault.{FlowFault}
use Rattle.flow_base.specs.FaultSets.{Faults}
use Rattle.flow_base.specs.way.Kept.{first_of}
use Rattle.reachability.specs.Jumps.{no_jumps, joined}
use Rattle.reported_exceptions.specs.declared.throws.Throw.{Throw}
use Rattle.reported_exceptions.specs.Throws.{runtime_exception, error, out_of}
use Rattle.reported_exceptions.specs.Handled.{throwable, exception, unreported}
use Rattle.reported_exceptions.specs.Statements.{statement_throws, statement_faults}
use Rattle.reported_exceptions.specs.Programs.{making, class_faults, program_faults}

abbrev c : ℕ → ClassId
c n = record { 0 = n }

abbrev at : ℕ → Span
at n = record { file = 0; start = n; end = n + 1 }

abbrev object : ClassId → Ty
object c = record { base = base.Class c; dims = 0 }

abbrev void : Ty
void = record { base = base.Void; dims = 0 }

abbrev s : ℕ → CoreStmtForm → CoreStmt
s n form = stmt form (at n) (at n)

abbrev block : List CoreStmt → CoreStmt
block ss = s 1 (core.Block [] (core_stmts ss))

abbrev throw : ClassId → ℕ → CoreStmt
throw c n = s n (core.Throw (node (core.Local 0) (object c) (at n) (at n)))

abbrev takes : ClassId → ℕ → CoreCatch
takes c n = catch 0 c (at n) (block [])

abbrev try : List CoreStmt → List CoreCatch → MaybeStmt → CoreStmt
try ss cs last = s 2 (core.Try (block ss) (core_catches cs) last)

-- ---- class E extends Exception; class F extends E; class A { void m() { new Object() { { throw e; } }; } }

abbrev class : Sort → Option ClassId → List CoreInitializer → List CoreMethod → CoreClass
class s super initializers methods = record {
  name = record { 0 = 0 };
  span = at 0;
  kind = record { sort = s; is_abstract = false; is_final = false; is_static = false };
  superclass = super;
  interfaces = [];
  heads = [];
  fields = [];
  initializers = initializers;
  methods = methods;
  enclosing = None;
  captured = 0;
  within = None;
  nth = 0;
  top = c 0;
  bridges = [];
}

-- names: 1 new, 2 m
abbrev method : ℕ → List ClassId → List CoreStmt → CoreMethod
method n throws body = record {
  name = record { 0 = n };
  span = at 0;
  params = [];
  returns = void;
  flags = record { is_static = false; is_final = false; is_abstract = false; is_native = false; is_finalizer = false; access = Public };
  throws = throws;
  locals = [];
  body = Some (block body);
}

abbrev e : ClassId
e = c 1

abbrev f : ClassId
f = c 2

abbrev new : CoreStmt
new = s 20 (core.Do (node (core.New (c 4) 0 no_cores [] (at 20)) (object (c 4)) (at 21) (at 21)))

abbrev initializer : CoreInitializer
initializer = record { is_static = false; span = at 22; locals = []; body = block (throw e 23 ∷ []) }

program : List ClassId → CoreProgram
program declared = record {
  classes =
      class sort.Class None [] (method 3 [] [] ∷ method 4 [] [] ∷ method 1 [] [] ∷ []) ∷
      class sort.Class (Some (c 24)) [] [] ∷
      class sort.Class (Some e) [] [] ∷
      class sort.Class (Some (c 0)) [] (method 1 [] [] ∷ method 2 declared (new ∷ []) ∷ []) ∷
      class sort.Anonymous (Some (c 0)) (initializer ∷ []) (method 1 [] [] ∷ []) ∷ [];
  texts = [];
}

abbrev p : CoreProgram
p = program []

abbrev out : CoreStmt → List Throw
out s = out_of p (statement_throws p [] s)

abbrev thrown : ClassId → ℕ → List Throw
thrown c n = record { class = c; at = at n } ∷ []

abbrev fault : FaultKind → ℕ → Option FlowFault
fault kind n = Some (record { kind = kind; span = at n })

abbrev first : Faults → Option FlowFault
first faults = first_of None faults

-- ---- what is thrown

a_throw : out (throw e 5) ≡ thrown e 5
unfolding is_below program runtime_exception error library_class
a_throw = refl

unchecked : out (throw (c 26) 5) ≡ []
unfolding is_below program runtime_exception error library_class
unchecked = refl

-- `try { throw f; } catch (E e) { }`, and of `throw e;` with `catch (F f)`
taken : out (try (throw f 5 ∷ []) (takes e 6 ∷ []) no_stmt) ≡ []
unfolding is_below program runtime_exception error library_class
taken = refl

untaken : out (try (throw e 5 ∷ []) (takes f 6 ∷ []) no_stmt) ≡ thrown e 5
unfolding is_below program runtime_exception error library_class
untaken = refl

-- `try { throw e; } finally { return; }`, and with `finally { }`
lost : out (try (throw e 5 ∷ []) [] (a_stmt (block (s 6 (core.Return None) ∷ [])))) ≡ []
unfolding is_below program runtime_exception error library_class no_jumps joined
lost = refl

passing : out (try (throw e 5 ∷ []) [] (a_stmt (block []))) ≡ thrown e 5
unfolding is_below program runtime_exception error library_class no_jumps
passing = refl

-- ---- catches

-- `try { } catch (E e) { }`, and with `catch (Exception e)`
never : first (statement_faults p [] (try [] (takes e 6 ∷ []) no_stmt)) ≡ fault kind.Unreachable 6
unfolding is_below program runtime_exception error throwable exception library_class
never = refl

any : first (statement_faults p [] (try [] (takes (c 24) 6 ∷ []) no_stmt)) ≡ None
unfolding is_below program runtime_exception error throwable exception library_class
any = refl

-- `throw e;` with `catch (F f) { } catch (E e) { }`, and the other way round
rising : first (statement_faults p [] (try (throw e 5 ∷ []) (takes f 6 ∷ takes e 7 ∷ []) no_stmt)) ≡ None
unfolding is_below program runtime_exception error throwable exception library_class
rising = refl

falling : first (statement_faults p [] (try (throw e 5 ∷ []) (takes e 6 ∷ takes f 7 ∷ []) no_stmt)) ≡ fault kind.Unreachable 7
unfolding is_below program runtime_exception error throwable exception library_class
falling = refl

-- ---- declared

below_declared : first (unreported p (e ∷ []) (record { class = f; at = at 5 })) ≡ None
unfolding is_below program
below_declared = refl

above_declared : first (unreported p (f ∷ []) (record { class = e; at = at 5 })) ≡ fault kind.Unreported 5
unfolding is_below program
above_declared = refl

-- The `new` throws what the anonymous class does.
by_new : first (program_faults p) ≡ fault kind.Unreported 20
unfolding is_below program program_faults class_faults making runtime_exception error throwable exception library_class object_class constructor_place
by_new = refl

new_declared : first (program_faults (program (e ∷ []))) ≡ None
unfolding is_below program program_faults class_faults making runtime_exception error throwable exception library_class object_class constructor_place
new_declared = refl
