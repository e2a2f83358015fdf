-- Files come to one program at most, and have no finding where they come to one.
use Rattle.std.proofs.Common.{◌≡◌, ℕ, List, refl, sym, ap, subst, ◌∙◌}
use Rattle.std.specs.Prelude.{None, Some}
use Rattle.class_typing.specs.Elaboration.{elaborated}
use Rattle.host_text.specs.declared.finding.Finding.{Finding}
use Rattle.je_ast.specs.Trees.{CompilationUnit}
use Rattle.je_core.specs.Core.{CoreProgram}
use Rattle.je_flow.specs.Flow.{Flows}
use Rattle.je_scopes.specs.Faults.{first_fault}
use Rattle.je_scopes.specs.Source.{Source, source}
use Rattle.je_typing.specs.Judged.{faulty, gives}
use Rattle.name_faults.specs.View.{fault_view}
use Rattle.source_units.proofs.OneAnswer.{units_are_one, units_or_fault}
use Rattle.source_programs.specs.Findings.{ComesTo, IsFirst, IsFirstFinding, IsProgramOf, in_flow, in_names, in_text, in_types, in_units, words}
use Rattle.source_programs.specs.Laws.{OneProgram, ProgramOrFinding}

pub same_source : (us vs : List CompilationUnit) (names names1 : List (List ℕ)) → us ≡ vs → names ≡ names1 → source names us ≡ source names1 vs
same_source us vs names names1 u n = ap (λ ns. source ns us) n ∙ ap (source names1) u

pub given : (p : Source) (c d : CoreProgram) → elaborated p ≡ gives c → elaborated p ≡ gives d → c ≡ d
given p c d e g =
    let same : gives c ≡ gives d = sym e ∙ g in
    cc

pub one_program : OneProgram
one_program files names names1 c c1 h k =
    let same = units_are_one files words h.units k.units names names1 h.read k.read in
    let p = source names h.units in
    given p c c1 h.program.typed (subst (λ q. elaborated q ≡ gives c1) (sym (same_source h.units k.units names names1 same.0 same.1)) k.program.typed)

no_finding : (p : Source) (c : CoreProgram) (x : Finding) → IsProgramOf p c → ¬ IsFirstFinding p x
no_finding p c x is (in_names f) =
    let no : None ≡ Some (fault_view f.fault) = sym is.named ∙ f.first in
    absurd (cc)
no_finding p c x is (in_types named f) =
    let no : gives c ≡ faulty f.fault = sym is.typed ∙ f.first in
    absurd (cc)
no_finding p c x is (in_flow {c = d} named typed f) =
    let same = given p c d is.typed typed in
    let flows : Flows d = subst Flows same is.flows in
    flows f.fault f.first.among

pub program_or_finding : ProgramOrFinding
program_or_finding files names c x h (in_text fault) = units_or_fault files words h.units names x h.read fault
program_or_finding files names c x h (in_units {units = us} {names = names1} read finding) =
    let same = units_are_one files words h.units us names names1 h.read read in
    no_finding (source names h.units) c x h.program (subst (λ q. IsFirstFinding q x) (sym (same_source h.units us names names1 same.0 same.1)) finding)
