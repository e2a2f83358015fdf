-- Which core program files come to, and else which finding is their first. Each phase is over all files: tokens (JLS 3),
-- the grammar (JLS 18), names (JLS 6), types (JLS 4, 5, 8, 9, 14, 15), flow (JLS 11.2, 14.21, 16).
use Rattle.std.specs.Prelude.{⊤, ◌≡◌, ℕ, List, [], None, Some}
use Rattle.je_base.specs.declared.span.NameId.{NameId}
use Rattle.class_names.specs.Words.{all_interned, library_words}
use Rattle.class_typing.specs.Elaboration.{elaborated}
use Rattle.flow_base.specs.FaultSets as faults
use Rattle.flow_base.specs.declared.faults.FlowFault.{FlowFault}
use Rattle.host_text.specs.declared.finding.Finding.{Finding}
use Rattle.host_text.specs.declared.rules.Rule.TheVariants as rule
use Rattle.je_ast.specs.Trees.{CompilationUnit}
use Rattle.je_core.specs.Core.{CoreProgram}
use Rattle.je_core.specs.declared.types.ClassId.{ClassId}
use Rattle.je_flow.specs.Flow.{Flows, flow_faults}
use Rattle.je_scopes.specs.Faults.{first_fault}
use Rattle.je_scopes.specs.Source.{Source, source}
use Rattle.je_typing.specs.Judged.{faulty, gives}
use Rattle.je_typing.specs.declared.fault.TypeFault.{TypeFault}
use Rattle.je_types.specs.Checked.{IsMisfit}
use Rattle.je_types.specs.declared.fault.CheckFault.{CheckFault}
use Rattle.je_types.specs.declared.fault.CheckFault.TheVariants as check_fault
use Rattle.je_typing.specs.declared.fault.Refusal.{Refusal as TypeRefusal}
use Rattle.je_typing.specs.declared.fault.Refusal.TheVariants as type_refusal
use Rattle.name_faults.specs.View.{fault_view}
use Rattle.name_faults.specs.declared.faults.NameFault.{NameFault}
use Rattle.source_units.specs.Faults.{IsFirstFault}
use Rattle.source_units.specs.Units.{AreUnitsOf}
use Rattle.source_units.specs.declared.refusal.Refusal.{Refusal}
use Rattle.source_units.specs.declared.refusal.Refusal.TheVariants as refusal
use Rattle.source_programs.specs.declared.fault.FrontFault.{FrontFault}
use Rattle.source_programs.specs.declared.fault.FrontFault.TheVariants as front_fault

-- ---- of one phase

abbrev pub of_name : NameFault → Finding
of_name f = record { rule = rule.Name f.kind; span = f.span }

abbrev pub of_type : TypeFault → Finding
of_type f = record { rule = rule.Typing f.rule; span = f.span }

abbrev pub of_flow : FlowFault → Finding
of_flow f = record { rule = rule.Flow f.kind; span = f.span }

pub record IsNameFinding (p : Source) (x : Finding) : Type 0 where
  pub fault : NameFault
  pub first : first_fault p ≡ Some (fault_view fault)
  pub is : x ≡ of_name fault

pub record IsTypeFinding (p : Source) (x : Finding) : Type 0 where
  pub fault : TypeFault
  pub first : elaborated p ≡ faulty fault
  pub is : x ≡ of_type fault

abbrev pub from_types : TypeRefusal → Refusal
from_types type_refusal.Memory = refusal.Memory
from_types (type_refusal.Fault f) = refusal.Fault (of_type f)

pub record IsFlowFinding (c : CoreProgram) (x : Finding) : Type 0 where
  pub fault : FlowFault
  pub first : faults.IsFirst (flow_faults c) fault
  pub is : x ≡ of_flow fault

-- ---- of units: a phase is reached where those before have no fault

pub data IsFirstFinding (p : Source) (x : Finding) : Type 0 where
  in_names : IsNameFinding p x → IsFirstFinding p x
  in_types : first_fault p ≡ None → IsTypeFinding p x → IsFirstFinding p x
  in_flow : {c : CoreProgram} → first_fault p ≡ None → elaborated p ≡ gives c → IsFlowFinding c x → IsFirstFinding p x

pub record IsProgramOf (p : Source) (c : CoreProgram) : Type 0 where
  pub named : first_fault p ≡ None
  pub typed : elaborated p ≡ gives c
  pub flows : Flows c

-- ---- of files

-- the names that are there before any file is read
abbrev pub words : List (List ℕ)
words = all_interned [] library_words

pub data IsFirst (files : List (List ℕ)) (x : Finding) : Type 0 where
  in_text : IsFirstFault files x → IsFirst files x
  in_units : {units : List CompilationUnit} {names : List (List ℕ)} → AreUnitsOf files words units names →
      IsFirstFinding (source names units) x → IsFirst files x

-- the files come to this core program, under these names
pub record ComesTo (files names : List (List ℕ)) (c : CoreProgram) : Type 0 where
  pub units : List CompilationUnit
  pub read : AreUnitsOf files words units names
  pub program : IsProgramOf (source names units) c

-- ---- of programs that are to fit

abbrev pub from_refusal : Refusal → FrontFault
from_refusal refusal.Memory = front_fault.Memory
from_refusal (refusal.Fault x) = front_fault.Found x

abbrev pub from_check : CheckFault → FrontFault
from_check check_fault.Memory = front_fault.Memory
from_check (check_fault.Misfit class name) = front_fault.Misfit class name

-- Their core program has this part as the first that doesn't fit.
pub record IsMisfitOf (files : List (List ℕ)) (class : ClassId) (name : NameId) : Type 0 where
  pub names : List (List ℕ)
  pub program : CoreProgram
  pub comes : ComesTo files names program
  pub misfit : IsMisfit program class name

-- Memory may be wanting at any time.
abbrev pub IsFrontFault : List (List ℕ) → FrontFault → Type 0
IsFrontFault files front_fault.Memory = ⊤
IsFrontFault files (front_fault.Found x) = IsFirst files x
IsFrontFault files (front_fault.Misfit class name) = IsMisfitOf files class name
