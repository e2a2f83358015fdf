-- The phases one after the other.
use Rattle.std.proofs.Common.{◌≡◌, ℕ, List, refl}
use Rattle.std.specs.Prelude.{None}
use Rattle.class_typing.specs.Elaboration.{elaborated}
use Rattle.je_ast.specs.Trees.{CompilationUnit}
use Rattle.je_core.specs.Core.{CoreProgram}
use Rattle.je_scopes.specs.Faults.{first_fault}
use Rattle.je_scopes.specs.Source.{Source, source}
use Rattle.je_typing.specs.Answers.{IsFault as IsTypeFault}
use Rattle.je_typing.specs.Judged.{gives}
use Rattle.je_typing.specs.declared.fault.Refusal.{Refusal as TypeRefusal}
use Rattle.source_units.specs.Faults.{IsFirstFault, IsRefusal}
use Rattle.source_units.specs.Units.{AreUnitsOf}
use Rattle.source_units.specs.declared.refusal.Refusal.{Refusal}
use Rattle.source_units.specs.declared.refusal.Refusal.TheVariants as refusal
use Rattle.je_types.specs.Checked.{IsFault}
use Rattle.je_types.specs.declared.fault.CheckFault.{CheckFault}
use Rattle.je_types.specs.declared.fault.CheckFault.TheVariants as check_fault
use Rattle.source_programs.specs.Findings.{ComesTo, IsFrontFault, from_check, from_refusal, from_types, IsFirst, IsFirstFinding, IsFlowFinding, IsNameFinding, IsTypeFinding, words}
use Rattle.source_programs.specs.Findings as findings

pub types_told : (p : Source) (r : TypeRefusal) → IsTypeFault (elaborated p) r → IsRefusal (IsTypeFinding p) (from_types r)
types_told p _ IsTypeFault.wants_memory = tt
types_told p _ (IsTypeFault.first_fault {fault = f} e) = record { fault = f; first = e; is = refl }

pub in_names : (p : Source) (r : Refusal) → IsRefusal (IsNameFinding p) r → IsRefusal (IsFirstFinding p) r
in_names p refusal.Memory h = tt
in_names p (refusal.Fault x) h = findings.in_names h

pub in_types : (p : Source) (r : Refusal) → first_fault p ≡ None → IsRefusal (IsTypeFinding p) r → IsRefusal (IsFirstFinding p) r
in_types p refusal.Memory e h = tt
in_types p (refusal.Fault x) e h = findings.in_types e h

pub in_flow : (p : Source) (c : CoreProgram) (r : Refusal) → first_fault p ≡ None → elaborated p ≡ gives c → IsRefusal (IsFlowFinding c) r →
    IsRefusal (IsFirstFinding p) r
in_flow p c refusal.Memory e g h = tt
in_flow p c (refusal.Fault x) e g h = findings.in_flow e g h

pub in_text : (files : List (List ℕ)) (r : Refusal) → IsRefusal (IsFirstFault files) r → IsRefusal (IsFirst files) r
in_text files refusal.Memory h = tt
in_text files (refusal.Fault x) h = findings.in_text h

pub in_units : (files : List (List ℕ)) (units : List CompilationUnit) (names : List (List ℕ)) (r : Refusal) → AreUnitsOf files words units names →
    IsRefusal (IsFirstFinding (source names units)) r → IsRefusal (IsFirst files) r
in_units files units names refusal.Memory u h = tt
in_units files units names (refusal.Fault x) u h = findings.in_units u h

pub refused : (files : List (List ℕ)) (r : Refusal) → IsRefusal (IsFirst files) r → IsFrontFault files (from_refusal r)
refused files refusal.Memory h = tt
refused files (refusal.Fault x) h = h

pub misfits : (files names : List (List ℕ)) (c : CoreProgram) (f : CheckFault) → ComesTo files names c → IsFault c f → IsFrontFault files (from_check f)
misfits files names c check_fault.Memory comes h = tt
misfits files names c (check_fault.Misfit class name) comes h = record { names = names; program = c; comes = comes; misfit = h }
