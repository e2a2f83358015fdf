-- The faults of definite assignment and unassignment of bodies, classes and whole programs (JLS 16, 16.8, 16.9). What is said of
-- 'assigned' is said of 'not unassigned' too.
use Rattle.std.specs.Prelude.{ℕ, zero, suc, Bool, true, false, not, ◌&&◌, Option, Some, None, is_some, List, [], ◌∷◌, length, if◌then◌else◌}
use Rattle.je_core.specs.declared.types.ClassId.{ClassId}
use Rattle.je_core.specs.Core.{Core, CoreForm, CoreStmt, CoreStmtForm, CoreStmts, MaybeCore, CoreField, CoreInitializer, CoreMethod, CoreClass, CoreProgram, node, no_core, a_core, no_stmts, more_stmts, form_of, stmt_form_of}
use Rattle.je_core.specs.Core as core
use Rattle.je_classes.specs.Members.{is_hidden_access, method_of, names_constructors}
use Rattle.flow_base.specs.declared.faults.FaultKind.TheVariants as kind
use Rattle.flow_base.specs.declared.jumps.Way.TheVariants.{Returns}
use Rattle.flow_base.specs.FaultSets.{Faults, none, ◌∪◌, fault_where}
use Rattle.variable_sets.specs.Numbers.{local_number, field_number}
use Rattle.variable_sets.specs.Sets.{Set, nothing, both, removing}
use Rattle.captured_reads.specs.Standing.{Standing, standing_in}
use Rattle.definite_assignment.specs.declared.programs.Owner.{Owner}
use Rattle.je_core.specs.declared.program.Local.{Local}
use Rattle.assignment_rules.specs.declared.rules.Rule.{Rule}
use Rattle.assignment_rules.specs.declared.rules.Rule.TheVariants.{Assigned, Unassigned}
use Rattle.assignment_rules.specs.Rules.{Follow, marking, none_marked, all_marked}
use Rattle.assigned_expressions.specs.Places.{is_home, variable_of}
use Rattle.assigned_expressions.specs.Expressions.{assigning}
use Rattle.assignment_rules.specs.Ends.{Ends}
use Rattle.assigned_statements.specs.Statements.{statement_ends, statement_faults}

abbrev pub is_of_kind : Bool → Bool → Bool
is_of_kind true is_static = is_static
is_of_kind false is_static = not is_static

-- ---- blank final fields

-- A final field that is declared, static or not, and has no constant. It is blank (JLS 4.12.4) where it has no initializer either.
abbrev pub may_be_blank : Bool → CoreField → Bool
may_be_blank static f = f.is_final && is_of_kind static f.is_static && not (is_some f.constant) && not (is_hidden_access f.access)

-- all other fields of the class count as assigned
abbrev pub other_fields : Rule → Bool → List CoreField → ℕ → Set → Set
other_fields rule static [] at a = a
other_fields rule static (f ∷ fs) at a =
    other_fields rule static fs (suc at) (if may_be_blank static f then a else marking rule (field_number at) a)

abbrev pub assigned_in : ClassId → CoreForm → Option ℕ
assigned_in class (core.Assign place value) = variable_of (Some class) place
assigned_in class _ = None

-- the field whose initializer a body is: that is an assignment, and an initializer block's body is a block
abbrev pub assigned_by : ClassId → CoreStmtForm → Option ℕ
assigned_by class (core.Do e) = assigned_in class (form_of e)
assigned_by class _ = None

abbrev pub with_initialized : Rule → ClassId → List CoreInitializer → Set → Set
with_initialized rule class [] a = a
with_initialized rule class (i ∷ is) a = with_initialized rule class is (assigning rule (assigned_by class (stmt_form_of i.body)) a)

-- what counts as assigned before the first initializer: all fields that aren't blank
abbrev pub at_start : Rule → ClassId → Bool → CoreClass → Set
at_start rule class static c = with_initialized rule class c.initializers (other_fields rule static c.fields 0 (none_marked rule))

-- a fault for each field that isn't assigned at the end: its name
abbrev pub left_faults : Bool → Set → ℕ → List CoreField → Faults
left_faults static a at [] = none
left_faults static a at (f ∷ fs) =
    fault_where (may_be_blank static f && not (a.has (field_number at))) kind.NotAssigned f.span ∪ left_faults static a (suc at) fs

-- A field needn't be unassigned at the end.
abbrev pub end_faults : Rule → Bool → Set → List CoreField → Faults
end_faults Assigned static a fs = left_faults static a 0 fs
end_faults Unassigned static a fs = none

-- ---- what is followed in a body

-- the set but for the locals that aren't final
abbrev pub final_locals : List Local → ℕ → Set → Set
final_locals [] at a = a
final_locals (l ∷ ls) at a = final_locals ls (suc at) (if l.is_final then a else removing (local_number at) a)

-- A blank final field is one that is unassigned when the initializers begin: `start`.
abbrev pub once_assigned : Rule → List Local → Set → Set
once_assigned Assigned locals start = nothing
once_assigned Unassigned locals start = final_locals locals 0 start

-- the class whose fields are followed in a body
abbrev pub home_of : Owner → Option ClassId
home_of o = if o.is_home then Some o.class else None

-- The classes that stand in a body, where reads are judged.
abbrev pub judged_classes : Rule → CoreProgram → Owner → List Local → CoreStmt → List Standing
judged_classes Assigned p o locals body = standing_in p o.class locals o.params body
judged_classes Unassigned p o locals body = []

unfoldable pub following : Rule → CoreProgram → Owner → List Local → Set → CoreStmt → Follow
following rule p o locals start body = record {
  rule = rule;
  home = home_of o;
  finals = once_assigned rule locals start;
  standing = judged_classes rule p o locals body;
}

-- of a body, which has no label before it
unfoldable pub ends_of : Follow → Set → CoreStmt → Ends
ends_of f b body = statement_ends f None b body

unfoldable pub faults_of : Follow → Set → CoreStmt → Faults
faults_of f b body = statement_faults f None b body

-- ---- initializers, in the order of the text (16.8, 16.9)

abbrev pub of_initializer : Rule → CoreProgram → ClassId → Set → CoreInitializer → Follow
of_initializer rule p class start i = following rule p (record { class = class; is_home = true; params = 0 }) i.locals start i.body

abbrev pub initializer_past : Rule → CoreProgram → ClassId → Bool → Set → Set → CoreInitializer → Set
initializer_past rule p class static start b i =
    if is_of_kind static i.is_static then (ends_of (of_initializer rule p class start i) b i.body).after else b

abbrev pub initializer_faults : Rule → CoreProgram → ClassId → Bool → Set → Set → CoreInitializer → Faults
initializer_faults rule p class static start b i =
    if is_of_kind static i.is_static then faults_of (of_initializer rule p class start i) b i.body else none

abbrev pub initializers_past : Rule → CoreProgram → ClassId → Bool → Set → Set → List CoreInitializer → Set
initializers_past rule p class static start b [] = b
initializers_past rule p class static start b (i ∷ is) =
    initializers_past rule p class static start (initializer_past rule p class static start b i) is

abbrev pub initializers_faults : Rule → CoreProgram → ClassId → Bool → Set → Set → List CoreInitializer → Faults
initializers_faults rule p class static start b [] = none
initializers_faults rule p class static start b (i ∷ is) =
    initializer_faults rule p class static start b i
    ∪ initializers_faults rule p class static start (initializer_past rule p class static start b i) is

-- ---- methods and constructors

-- parameters are assigned from the start
abbrev pub with_parameters : Rule → ℕ → Set → Set
with_parameters rule zero a = a
with_parameters rule (suc n) a = marking rule (local_number n) (with_parameters rule n a)

abbrev pub is_this_form : CoreForm → Bool
is_this_form core.This = true
is_this_form _ = false

abbrev pub is_this : Core → Bool
is_this (node form ty span at) = is_this_form form

abbrev pub is_this_there : MaybeCore → Bool
is_this_there no_core = false
is_this_there (a_core e) = is_this e

abbrev pub is_constructor_there : CoreProgram → Option CoreMethod → Bool
is_constructor_there p None = false
is_constructor_there p (Some m) = names_constructors p m.name

abbrev pub builds_own : CoreProgram → ClassId → ClassId → ℕ → Bool
builds_own p class c method = is_home (Some class) c && is_constructor_there p (method_of p (record { class = c; at = method }))

abbrev pub is_own_call : CoreProgram → ClassId → CoreForm → Bool
is_own_call p class (core.CallExact receiver c method args) = is_this_there receiver && builds_own p class c method
is_own_call p class _ = false

abbrev pub is_own : CoreProgram → ClassId → CoreStmtForm → Bool
is_own p class (core.Do e) = is_own_call p class (form_of e)
is_own p class _ = false

abbrev pub first_is_own : CoreProgram → ClassId → CoreStmts → Bool
first_is_own p class no_stmts = false
first_is_own p class (more_stmts s ss) = is_own p class (stmt_form_of s)

-- whether a body begins with `this(..)`
abbrev pub calls_own : CoreProgram → ClassId → CoreStmtForm → Bool
calls_own p class (core.Block locals parts) = first_is_own p class parts
calls_own p class _ = false

-- Behind `this(..)` all is assigned (16.9), behind `super(..)` what the initializers leave so.
abbrev pub constructor_start : Rule → CoreProgram → ClassId → Set → CoreStmt → Set
constructor_start rule p class b body = if calls_own p class (stmt_form_of body) then all_marked rule else b

abbrev pub constructor_faults : Rule → CoreProgram → ClassId → CoreClass → Set → Set → CoreMethod → CoreStmt → Faults
constructor_faults rule p class c start b m body =
    let f = following rule p (record { class = class; is_home = true; params = length m.params }) m.locals start body in
    let before = with_parameters rule (length m.params) (constructor_start rule p class b body) in
    let ends = ends_of f before body in
    faults_of f before body ∪ end_faults rule false (both ends.after (ends.exits.by Returns)) c.fields

abbrev pub plain_faults : Rule → CoreProgram → ClassId → CoreMethod → CoreStmt → Faults
plain_faults rule p class m body =
    let f = following rule p (record { class = class; is_home = false; params = length m.params }) m.locals (none_marked rule) body in
    faults_of f (with_parameters rule (length m.params) (none_marked rule)) body

abbrev pub body_faults : Rule → CoreProgram → ClassId → CoreClass → Set → Set → Bool → CoreMethod → CoreStmt → Faults
body_faults rule p class c start b true m body = constructor_faults rule p class c start b m body
body_faults rule p class c start b false m body = plain_faults rule p class m body

abbrev pub method_faults : Rule → CoreProgram → ClassId → CoreClass → Set → Set → CoreMethod → Faults
method_faults rule p class c start b m = of_body m.body where
  of_body : Option CoreStmt → Faults
  of_body None = none
  of_body (Some body) = body_faults rule p class c start b (names_constructors p m.name) m body

abbrev pub methods_faults : Rule → CoreProgram → ClassId → CoreClass → Set → Set → List CoreMethod → Faults
methods_faults rule p class c start b [] = none
methods_faults rule p class c start b (m ∷ ms) = method_faults rule p class c start b m ∪ methods_faults rule p class c start b ms

-- ---- classes

abbrev pub static_faults : Rule → CoreProgram → ClassId → CoreClass → Faults
static_faults rule p class c =
    let start = at_start rule class true c in
    initializers_faults rule p class true start start c.initializers
    ∪ end_faults rule true (initializers_past rule p class true start start c.initializers) c.fields

abbrev pub instance_faults : Rule → CoreProgram → ClassId → CoreClass → Faults
instance_faults rule p class c =
    let start = at_start rule class false c in
    initializers_faults rule p class false start start c.initializers
    ∪ methods_faults rule p class c start (initializers_past rule p class false start start c.initializers) c.methods

abbrev pub class_faults : Rule → CoreProgram → ClassId → CoreClass → Faults
class_faults rule p class c = static_faults rule p class c ∪ instance_faults rule p class c

abbrev pub classes_faults : Rule → CoreProgram → ℕ → List CoreClass → Faults
classes_faults rule p at [] = none
classes_faults rule p at (c ∷ cs) = class_faults rule p (record { 0 = at }) c ∪ classes_faults rule p (suc at) cs

-- By the first rule each variable that is read, or left so at the end, before it is definitely assigned; by the second each final
-- one that is assigned where it isn't definitely unassigned.
unfoldable pub program_faults : Rule → CoreProgram → Faults
program_faults rule p = classes_faults rule p 0 p.classes
