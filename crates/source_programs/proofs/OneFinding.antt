-- Files have one first finding.
use Rattle.std.proofs.Common.{◌≡◌, ℕ, List, refl, sym, ap, subst, ◌∙◌, arith}
use Rattle.std.specs.Prelude.{false, None, Some, nat_eq, if◌then◌else◌}
use Rattle.std.proofs.lemmas.Bool.Decides.{nat_tests}
use Rattle.class_typing.specs.Elaboration.{elaborated}
use Rattle.flow_base.specs.FaultSets as faults
use Rattle.flow_base.specs.FaultSets.{Faults, number_of, stands_before}
use Rattle.flow_base.specs.declared.faults.FaultKind.{FaultKind as FlowKind}
use Rattle.flow_base.specs.declared.faults.FaultKind.TheVariants as flow_kind
use Rattle.flow_base.specs.declared.faults.FlowFault.{FlowFault}
use Rattle.host_text.specs.declared.finding.Finding.{Finding}
use Rattle.je_ast.specs.Trees.{CompilationUnit}
use Rattle.je_base.specs.declared.span.Span.{Span}
use Rattle.je_core.specs.Core.{CoreProgram}
use Rattle.je_flow.specs.Flow.{flow_faults}
use Rattle.je_scopes.specs.Faults.{first_fault}
use Rattle.je_scopes.specs.Source.{Source, source}
use Rattle.je_typing.specs.Judged.{faulty, gives}
use Rattle.je_typing.specs.declared.fault.TypeFault.{TypeFault}
use Rattle.name_faults.specs.View.{fault_view, kind_number}
use Rattle.name_faults.specs.declared.faults.FaultKind.{FaultKind as NameKind}
use Rattle.name_faults.specs.declared.faults.FaultKind.TheVariants as name_kind
use Rattle.name_faults.specs.declared.faults.NameFault.{NameFault}
use Rattle.source_units.proofs.OneAnswer.{fault_is_one, units_are_one, units_or_fault}
use Rattle.source_programs.proofs.OneProgram.{given, same_source}
use Rattle.source_programs.specs.Findings.{IsFirst, IsFirstFinding, in_flow, in_names, in_text, in_types, in_units, of_flow, of_name, of_type, words}
use Rattle.source_programs.specs.Laws.{OneFinding}

-- ---- names: a fault is one by its number and its place

abbrev name_kind_of : ℕ → NameKind
name_kind_of n = if nat_eq n 1 then name_kind.Twice else if nat_eq n 2 then name_kind.Unknown else if nat_eq n 3 then name_kind.Cycle
    else if nat_eq n 4 then name_kind.NotAccessible else name_kind.OutOfProfile

name_kind_back : (k : NameKind) → name_kind_of (kind_number k) ≡ k
name_kind_back name_kind.Twice = refl
name_kind_back name_kind.Unknown = refl
name_kind_back name_kind.Cycle = refl
name_kind_back name_kind.NotAccessible = refl
name_kind_back name_kind.OutOfProfile = refl

abbrev name_fault_made : NameKind → Span → NameFault
name_fault_made k s = record { kind = k; span = s }

same_name_fault : (f g : NameFault) → kind_number f.kind ≡ kind_number g.kind → f.span ≡ g.span → f ≡ g
same_name_fault f g numbers spans =
    let kinds : f.kind ≡ g.kind = sym (name_kind_back f.kind) ∙ ap name_kind_of numbers ∙ name_kind_back g.kind in
    ap (λ k. name_fault_made k f.span) kinds ∙ ap (λ s. name_fault_made g.kind s) spans

name_fault_once : (p : Source) (f g : NameFault) → first_fault p ≡ Some (fault_view f) → first_fault p ≡ Some (fault_view g) → f ≡ g
name_fault_once p f g h k =
    let same : Some (fault_view f) ≡ Some (fault_view g) = sym h ∙ k in
    let views : fault_view f ≡ fault_view g = cc in
    same_name_fault f g (ap (λ v. v.number) views) (ap (λ v. v.span) views)

-- ---- types

type_fault_once : (p : Source) (f g : TypeFault) → elaborated p ≡ faulty f → elaborated p ≡ faulty g → f ≡ g
type_fault_once p f g h k =
    let same : faulty f ≡ faulty g = sym h ∙ k in
    cc

-- ---- flow: of two faults neither before the other is one

abbrev flow_kind_of : ℕ → FlowKind
flow_kind_of n = if nat_eq n 1 then flow_kind.NotAssigned else if nat_eq n 2 then flow_kind.AssignedTwice else if nat_eq n 3 then flow_kind.Unreachable
    else if nat_eq n 4 then flow_kind.MissingReturn else flow_kind.Unreported

flow_kind_back : (k : FlowKind) → flow_kind_of (number_of k) ≡ k
flow_kind_back flow_kind.NotAssigned = refl
flow_kind_back flow_kind.AssignedTwice = refl
flow_kind_back flow_kind.Unreachable = refl
flow_kind_back flow_kind.MissingReturn = refl
flow_kind_back flow_kind.Unreported = refl

module _ (f g : FlowFault) (before : stands_before f g ≡ false) (behind : stands_before g f ≡ false) where
  same_file : f.span.file ≡ g.span.file
  same_file = grind (arith, nat_tests)

  same_start : f.span.start ≡ g.span.start
  same_start = grind (arith, nat_tests)

  same_end : f.span.end ≡ g.span.end
  same_end = grind (arith, nat_tests)

  same_number : number_of f.kind ≡ number_of g.kind
  same_number = grind (arith, nat_tests)

  abbrev span_made : ℕ → ℕ → ℕ → Span
  span_made file start end = record { file = file; start = start; end = end }

  same_span : f.span ≡ g.span
  same_span = ap (λ n. span_made n f.span.start f.span.end) same_file ∙ ap (λ n. span_made g.span.file n f.span.end) same_start
      ∙ ap (λ n. span_made g.span.file g.span.start n) same_end

  abbrev flow_fault_made : FlowKind → Span → FlowFault
  flow_fault_made k s = record { kind = k; span = s }

  same_flow_fault : f ≡ g
  same_flow_fault =
      let kinds : f.kind ≡ g.kind = sym (flow_kind_back f.kind) ∙ ap flow_kind_of same_number ∙ flow_kind_back g.kind in
      ap (λ k. flow_fault_made k f.span) kinds ∙ ap (λ s. flow_fault_made g.kind s) same_span

flow_fault_once : (fs : Faults) (f g : FlowFault) → faults.IsFirst fs f → faults.IsFirst fs g → f ≡ g
flow_fault_once fs f g h k = same_flow_fault f g (k.first f h.among) (h.first g k.among)

-- ---- phases

found_once : (p : Source) (x y : Finding) → IsFirstFinding p x → IsFirstFinding p y → x ≡ y
found_once p x y (in_names f) (in_names g) = f.is ∙ ap of_name (name_fault_once p f.fault g.fault f.first g.first) ∙ sym g.is
found_once p x y (in_names f) (in_types named g) =
    let no : None ≡ Some (fault_view f.fault) = sym named ∙ f.first in
    absurd cc
found_once p x y (in_names f) (in_flow named typed g) =
    let no : None ≡ Some (fault_view f.fault) = sym named ∙ f.first in
    absurd cc
found_once p x y (in_types named f) (in_names g) =
    let no : None ≡ Some (fault_view g.fault) = sym named ∙ g.first in
    absurd cc
found_once p x y (in_flow named typed f) (in_names g) =
    let no : None ≡ Some (fault_view g.fault) = sym named ∙ g.first in
    absurd cc
found_once p x y (in_types named f) (in_types named1 g) = f.is ∙ ap of_type (type_fault_once p f.fault g.fault f.first g.first) ∙ sym g.is
found_once p x y (in_types named f) (in_flow {c = c} named1 typed g) =
    let no : gives c ≡ faulty f.fault = sym typed ∙ f.first in
    absurd cc
found_once p x y (in_flow {c = c} named typed f) (in_types named1 g) =
    let no : gives c ≡ faulty g.fault = sym typed ∙ g.first in
    absurd cc
found_once p x y (in_flow {c = c} named typed f) (in_flow {c = d} named1 typed1 g) =
    let same = given p c d typed typed1 in
    let there : faults.IsFirst (flow_faults d) f.fault = subst (λ q. faults.IsFirst (flow_faults q) f.fault) same f.first in
    f.is ∙ ap of_flow (flow_fault_once (flow_faults d) f.fault g.fault there g.first) ∙ sym g.is

pub one_finding : OneFinding
one_finding files x y (in_text h) (in_text k) = fault_is_one files x y h k
one_finding files x y (in_text h) (in_units {units = us} {names = names} read k) = absurd (units_or_fault files words us names x read h)
one_finding files x y (in_units {units = us} {names = names} read h) (in_text k) = absurd (units_or_fault files words us names y read k)
one_finding files x y (in_units {units = us} {names = names} read h) (in_units {units = vs} {names = names1} read1 k) =
    let same = units_are_one files words us vs names names1 read read1 in
    found_once (source names us) x y h (subst (λ q. IsFirstFinding q y) (sym (same_source us vs names names1 same.0 same.1)) k)
