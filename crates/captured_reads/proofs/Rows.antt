-- Worked rows: each beside its nearest neighbour.
use Rattle.std.proofs.Common.{◌≡◌, ℕ, List, [], ◌∷◌, Option, Some, None, refl}
use Rattle.std.specs.Prelude.{◌+◌, false, true, length, map, option_map}
use Rattle.je_base.specs.declared.span.NameId.{NameId}
use Rattle.je_base.specs.declared.span.Span.{Span}
use Rattle.je_core.specs.declared.program.Access.TheVariants as access
use Rattle.je_core.specs.declared.program.Local.{Local as LocalOf}
use Rattle.je_core.specs.declared.program.Sort.{Sort}
use Rattle.je_core.specs.declared.program.Sort.TheVariants as sort
use Rattle.je_core.specs.declared.types.Base.TheVariants as base
use Rattle.je_core.specs.declared.types.ClassId.{ClassId}
use Rattle.je_core.specs.declared.types.Ty.{Ty}
use Rattle.je_core.specs.Core.{Core, CoreForm, Cores, CoreStmt, CoreStmtForm, CoreLabel, CoreField, CoreMethod, CoreClass, CoreProgram}
use Rattle.je_core.specs.Core.{This, Field, New, Local, node, none, more, core_stmts, stmt, Block, Do, Empty, Return, Switch, group, no_groups, more_groups}
use Rattle.captured_reads.specs.declared.reads.CapturedRead.{CapturedRead}
use Rattle.captured_reads.specs.Nesting.{classes_inside}
use Rattle.captured_reads.specs.Walks.{met_in}
use Rattle.captured_reads.specs.Standing.{Standing, reads_of, standing_in}

-- ---- words for small programs

-- a token
at : ℕ → Span
at n = record { file = 0; start = n; end = n + 1 }

numbered : ℕ → ClassId
numbered n = record { 0 = n }

named : ℕ → NameId
named n = record { 0 = n }

int : Ty
int = record { base = base.Int; dims = 0 }

local : ℕ → ℕ → LocalOf
local name place = record { name = named name; ty = int; is_final = true; span = at place }

captured : ℕ → CoreField
captured name = record {
  name = named name;
  span = at 0;
  ty = int;
  is_static = false;
  is_final = true;
  access = access.Hidden;
  constant = None;
}

method : List LocalOf → CoreStmt → CoreMethod
method locals body = record {
  name = named 0;
  span = at 0;
  params = [];
  returns = int;
  flags = record {
    is_static = true;
    is_final = false;
    is_abstract = false;
    is_native = false;
    is_finalizer = false;
    access = access.Public;
  };
  throws = [];
  locals = locals;
  body = Some body;
}

-- a class in a static context, which captures locals of these names
class : Sort → ℕ → Option ClassId → List ℕ → List CoreMethod → CoreClass
class sort place within names methods = record {
  name = named 0;
  span = at place;
  kind = record { sort = sort; is_abstract = false; is_final = false; is_static = false };
  superclass = None;
  interfaces = [];
  heads = [];
  fields = map captured names;
  initializers = [];
  methods = methods;
  enclosing = None;
  captured = length names;
  within = within;
  nth = 0;
  top = numbered 0;
  bridges = [];
}

outer : CoreClass
outer = class sort.Class 0 None [] []

program : List CoreClass → CoreProgram
program classes = record { classes = outer ∷ classes; texts = [] }

part : ℕ → CoreStmtForm → CoreStmt
part place form = stmt form (at place) (at place)

block : ℕ → ℕ → List ℕ → List CoreStmt → CoreStmt
block opening closing locals parts = stmt (Block locals (core_stmts parts)) (at opening) (at closing)

expression : ℕ → CoreForm → Core
expression place form = node form int (at place) (at place)

-- `{ return x; }` in a class of that number, where x is its first captured local
reads_first : ℕ → ℕ → CoreStmt
reads_first number place = block 0 99 [] (part place (Return (Some (expression place (Field (expression place This) (numbered number) 0)))) ∷ [])

stands : ℕ → ℕ → Option ℕ → List CapturedRead → Standing
stands number place home reads = record { class = numbered number; span = at place; home = option_map at home; reads = reads }

read : ℕ → ℕ → CapturedRead
read number place = record { local = number; span = at place }

-- ---- a local class in a body that begins with the declaration of x, the name 1

x : List LocalOf
x = local 1 11 ∷ []

reader : CoreClass
reader = class sort.Local 20 (Some (numbered 0)) (1 ∷ []) (method [] (reads_first 1 22) ∷ [])

-- `{ int x; class L { .. x .. } }`, and `{ class L { .. y .. } int x; }`
reads_x : standing_in (program (reader ∷ [])) (numbered 0) x 0 (block 10 40 (0 ∷ []) (part 30 Empty ∷ [])) ≡ stands 1 20 (Some 10) (read 0 22 ∷ []) ∷ []
unfolding standing_in reads_of met_in classes_inside program outer reader class captured method reads_first expression part block local x stands read at numbered named int
reads_x = refl

before_x : standing_in (program (reader ∷ [])) (numbered 0) (local 1 31 ∷ []) 0 (block 10 40 (0 ∷ []) (part 30 Empty ∷ [])) ≡ stands 1 20 (Some 10) [] ∷ []
unfolding standing_in reads_of met_in classes_inside program outer reader class captured method reads_first expression part block local x stands read at numbered named int
before_x = refl

-- `{ int x; { ; } class L { .. x .. } ; }`, and `{ int x; { class L { .. x .. } ; } ; }`
behind_block : standing_in (program (reader ∷ [])) (numbered 0) x 0 (block 10 40 (0 ∷ []) (block 14 18 [] (part 15 Empty ∷ []) ∷ part 30 Empty ∷ [])) ≡ stands 1 20 (Some 10) (read 0 22 ∷ []) ∷ []
unfolding standing_in reads_of met_in classes_inside program outer reader class captured method reads_first expression part block local x stands read at numbered named int
behind_block = refl

in_block : standing_in (program (reader ∷ [])) (numbered 0) x 0 (block 10 40 (0 ∷ []) (block 14 28 [] (part 25 Empty ∷ []) ∷ part 30 Empty ∷ [])) ≡ stands 1 20 (Some 14) (read 0 22 ∷ []) ∷ []
unfolding standing_in reads_of met_in classes_inside program outer reader class captured method reads_first expression part block local x stands read at numbered named int
in_block = refl

-- `{ int x; switch (x) { case 0: ; class L { .. x .. } case 1: ; } }`, and with the class behind `case 1`
in_switch : ℕ → CoreStmt
in_switch second =
    block 10 40 (0 ∷ [])
    (stmt (Switch [] (expression 13 (Local 0)) (more_groups (group (label 15 ∷ []) (core_stmts (part 16 Empty ∷ [])))
    (more_groups (group (label second ∷ []) (core_stmts (part 30 Empty ∷ []))) no_groups))) (at 12) (at 35) ∷ [])
  where
    label : ℕ → CoreLabel
    label place = record { value = None; uses = []; span = at place }

in_first_group : standing_in (program (reader ∷ [])) (numbered 0) x 0 (in_switch 25) ≡ stands 1 20 (Some 15) (read 0 22 ∷ []) ∷ []
unfolding standing_in reads_of met_in classes_inside program outer reader class captured method reads_first expression part block local x stands read at numbered named int in_switch
in_first_group = refl

in_second_group : standing_in (program (reader ∷ [])) (numbered 0) x 0 (in_switch 18) ≡ stands 1 20 (Some 18) (read 0 22 ∷ []) ∷ []
unfolding standing_in reads_of met_in classes_inside program outer reader class captured method reads_first expression part block local x stands read at numbered named int in_switch
in_second_group = refl

-- `{ int x; new A(new B() { .. x .. }); }`
anonymous : CoreClass
anonymous = class sort.Anonymous 20 (Some (numbered 0)) (1 ∷ []) (method [] (reads_first 1 22) ∷ [])

creation : ℕ → ℕ → Cores → Core
creation place number args = expression place (New (numbered number) 0 args [] (at place))

in_argument : standing_in (program (anonymous ∷ [])) (numbered 0) x 0 (block 10 40 (0 ∷ []) (part 15 (Do (creation 15 0 (more (creation 19 1 none) none))) ∷ []))
    ≡ stands 1 20 None (read 0 22 ∷ []) ∷ []
unfolding standing_in reads_of met_in classes_inside program outer anonymous class captured method reads_first expression part block local x stands read at numbered named int creation
in_argument = refl

-- ---- a class in a body of a class: it reads x, or the local of its own body that has the name too

-- `{ int x; class L { void m() { int y; class M { .. x .. } } } }`, where y is the name given
middle : ℕ → CoreClass
middle y = class sort.Local 20 (Some (numbered 0)) (1 ∷ []) (method (local y 22 ∷ []) (block 21 29 (0 ∷ []) (part 28 Empty ∷ [])) ∷ [])

inner : CoreClass
inner = class sort.Local 24 (Some (numbered 1)) (1 ∷ []) (method [] (reads_first 2 26) ∷ [])

reads_further_in : standing_in (program (middle 2 ∷ inner ∷ [])) (numbered 0) x 0 (block 10 40 (0 ∷ []) (part 30 Empty ∷ [])) ≡ stands 1 20 (Some 10) (read 0 26 ∷ []) ∷ []
unfolding standing_in reads_of met_in classes_inside program outer middle inner class captured method reads_first expression part block local x stands read at numbered named int
reads_further_in = refl

shadowed : standing_in (program (middle 1 ∷ inner ∷ [])) (numbered 0) x 0 (block 10 40 (0 ∷ []) (part 30 Empty ∷ [])) ≡ stands 1 20 (Some 10) [] ∷ []
unfolding standing_in reads_of met_in classes_inside program outer middle inner class captured method reads_first expression part block local x stands read at numbered named int
shadowed = refl

-- `{ int x; class L { class M { .. x .. } } }`, a member class
member : CoreClass
member = class sort.Class 24 (Some (numbered 1)) (1 ∷ []) (method [] (reads_first 2 26) ∷ [])

in_member : standing_in (program (class sort.Local 20 (Some (numbered 0)) (1 ∷ []) [] ∷ member ∷ [])) (numbered 0) x 0 (block 10 40 (0 ∷ []) (part 30 Empty ∷ []))
    ≡ stands 1 20 (Some 10) (read 0 26 ∷ []) ∷ []
unfolding standing_in reads_of met_in classes_inside program outer member class captured method reads_first expression part block local x stands read at numbered named int
in_member = refl
