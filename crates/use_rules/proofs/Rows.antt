-- Worked examples of the rules on what a program uses, each beside its nearest neighbour. A break is told by the number of its rule and
-- the first byte of its place.
use Rattle.std.proofs.Common.{◌≡◌, ℕ, zero, suc, ◌+◌, List, [], ◌∷◌, ◌++◌, map, Option, Some, None, refl}
use Rattle.std.specs.Prelude.{Bool, true, false, pos}
use Rattle.je_base.specs.declared.span.Span.{Span}
use Rattle.je_core.specs.declared.expr.UnOp.TheVariants as op
use Rattle.je_core.specs.declared.program.Access.TheVariants.{Public}
use Rattle.je_core.specs.declared.program.Head.{Head}
use Rattle.je_core.specs.declared.program.Sort.TheVariants as sort
use Rattle.je_core.specs.declared.types.Base.TheVariants as base
use Rattle.je_core.specs.declared.types.ClassId.{ClassId}
use Rattle.je_core.specs.declared.types.Ty.{Ty}
use Rattle.je_core.specs.declared.value.Value.TheVariants as value
use Rattle.je_core.specs.Core.{Core, CoreStmt, CoreCatch, CoreField, CoreInitializer, CoreMethod, CoreClass, CoreProgram, MaybeStmt, node, cores, no_core, stmt, catch, group, core_stmts, core_catches, core_groups, no_stmt, a_stmt}
use Rattle.je_core.specs.Core as core
use Rattle.je_classes.specs.Hierarchy.{is_below, library_class, object_class}
use Rattle.je_classes.specs.Members.{constructor_place}
use Rattle.library_places.specs.Places.{library_place}
use Rattle.taming_db.specs.Rows.{member_place}
use Rattle.rule_breaks.specs.declared.breaks.Break.{Break}
use Rattle.rule_breaks.specs.Breaks.{Breaks, number_of}
use Rattle.rule_breaks.specs.way.Found.{followed_by}
use Rattle.use_rules.specs.Exceptions.{throwable, error}
use Rattle.use_rules.specs.Statements.{statement_breaks}
use Rattle.use_rules.specs.Programs.{program_breaks}

abbrev c : ℕ → ClassId
c n = record { 0 = n }

abbrev at : ℕ → Span
at n = record { file = 0; start = n; end = n + 1 }

abbrev int : Ty
int = record { base = base.Int; dims = 0 }

abbrev told : Breaks → List (ℕ × ℕ)
told breaks = map (λ (b : Break). (number_of b.rule, b.span.start)) (followed_by [] breaks)

abbrev s : core.CoreStmtForm → CoreStmt
s form = stmt form (at 0) (at 9)

abbrev block : List CoreStmt → CoreStmt
block ss = s (core.Block [] (core_stmts ss))

-- `System.identityHashCode(..)`, with its name there
abbrev hash : ℕ → Core
hash n = node (core.CallExact no_core (c 6) 0 (cores [])) int (at 0) (at n)

abbrev does : Core → CoreStmt
does e = s (core.Do e)

-- ---- the library's classes by their numbers alone, Error at its place, and class F below Error, class A

abbrev class : Option ClassId → List Head → List CoreField → List CoreInitializer → List CoreMethod → CoreClass
class super heads fields initializers methods = record {
  name = record { 0 = 0 };
  span = at 1;
  kind = record { sort = sort.Class; is_abstract = false; is_final = false; is_static = false };
  superclass = super;
  interfaces = [];
  heads = heads;
  fields = fields;
  initializers = initializers;
  methods = methods;
  enclosing = None;
  captured = 0;
  within = None;
  nth = 0;
  top = c 0;
  bridges = [];
}

abbrev method : ℕ → List CoreStmt → CoreMethod
method n ss = record {
  name = record { 0 = n };
  span = at 0;
  params = [];
  returns = int;
  flags = record { is_static = false; is_final = false; is_abstract = false; is_native = false; is_finalizer = false; access = Public };
  throws = [];
  locals = [];
  body = Some (block ss);
}

abbrev fill : ℕ → List CoreClass
fill zero = []
fill (suc n) = class (Some (c 0)) [] [] [] (method 1 [] ∷ []) ∷ fill n

program : CoreClass → CoreProgram
program a = record {
  classes = class None [] [] [] (method 5 [] ∷ method 6 [] ∷ method 1 [] ∷ method 7 [] ∷ []) ∷ fill 38 ++ class (Some (c 25)) [] [] [] [] ∷ a ∷ [];
  texts = [];
}

abbrev plain : CoreClass
plain = class (Some (c 0)) [] [] [] []

abbrev of : CoreStmt → List (ℕ × ℕ)
of x = told (statement_breaks (program plain) [] x)

-- ---- statements

abbrev try : ClassId → MaybeStmt → CoreStmt
try caught last = s (core.Try (block []) (core_catches (catch 0 caught (at 4) (block []) ∷ [])) last)

-- catches of Throwable, Error, a class below Error, Exception, and a class of the program's own below none of these
catches : (of (try (c 9) no_stmt) ≡ (13, 4) ∷ []) × (of (try (c 25) no_stmt) ≡ (13, 4) ∷ []) × (of (try (c 39) no_stmt) ≡ (13, 4) ∷ [])
    × (of (try (c 24) no_stmt) ≡ []) × (of (try (c 40) no_stmt) ≡ [])
unfolding program throwable error library_class is_below
catches = (refl, refl, refl, refl, refl)

-- with a `finally`, the same with what stands in it, and both rules in one statement
finally_too : (of (try (c 24) (a_stmt (block []))) ≡ (14, 9) ∷ []) × (of (try (c 24) (a_stmt (block (does (hash 7) ∷ [])))) ≡ (14, 9) ∷ (15, 7) ∷ [])
    × (of (try (c 9) (a_stmt (block []))) ≡ (13, 4) ∷ (14, 9) ∷ [])
unfolding program throwable error library_class is_below library_place member_place
finally_too = (refl, refl, refl)

-- within an expression, as a call's argument, and in a condition
within : (of (does (node (core.Unary op.Minus (hash 5)) int (at 0) (at 4))) ≡ (15, 5) ∷ []) × (of (s (core.If (hash 5) (block []) no_stmt)) ≡ (15, 5) ∷ [])
unfolding program library_place member_place
within = (refl, refl)

-- the label of a switch that names `Integer.MAX_VALUE`
labelled : of (s (core.Switch [] (node (core.Local 0) int (at 0) (at 0)) (core_groups (group (record { value = Some (pos 1); uses = record { class = c 3; field = 0; span = at 6 } ∷ []; span = at 5 } ∷ []) (core_stmts []) ∷ [])))) ≡ (15, 6) ∷ []
unfolding program library_place member_place
labelled = refl

-- ---- programs

abbrev of_program : CoreClass → List (ℕ × ℕ)
of_program a = told (program_breaks (program a) [])

abbrev constant : CoreField
constant = record { name = record { 0 = 0 }; span = at 2; ty = int; is_static = true; is_final = true; access = Public; constant = Some (node (core.Const (value.Int (pos 1)) (record { class = c 4; field = 0; span = at 3 } ∷ [])) int (at 3) (at 3)) }

-- a class that extends Object; one that extends Token, which isn't open, nor its constructor enabled
extending : (of_program (class (Some (c 0)) (record { class = c 0; span = at 2 } ∷ []) [] [] (method 1 [] ∷ [])) ≡ [])
    × (of_program (class (Some (c 14)) (record { class = c 14; span = at 2 } ∷ []) [] [] (method 1 [] ∷ [])) ≡ (16, 2) ∷ (15, 1) ∷ [])
unfolding program program_breaks library_place member_place library_class object_class constructor_place is_below
extending = (refl, refl)

-- in a constant, a static initializer, and a method
bodies : of_program (class (Some (c 0)) [] (constant ∷ []) (record { is_static = true; span = at 0; locals = []; body = block (does (hash 5) ∷ []) } ∷ []) (method 2 (does (hash 7) ∷ []) ∷ [])) ≡ (15, 3) ∷ (15, 5) ∷ (15, 7) ∷ []
unfolding program program_breaks library_place member_place library_class object_class constructor_place is_below
bodies = refl
