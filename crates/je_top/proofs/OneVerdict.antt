-- The same files under the same rows have one verdict, and one list of breaks.
use Rattle.std.proofs.Common.{◌≡◌, ℕ, List, [], ◌∷◌, map, arith, refl, sym, ap, subst}
use Rattle.std.specs.List.{Contains}
use Rattle.je_base.specs.declared.span.NameId.{NameId}
use Rattle.je_core.specs.Core.{CoreProgram}
use Rattle.je_core.specs.declared.types.ClassId.{ClassId}
use Rattle.je_fitting.specs.Program.{FitsProgram}
use Rattle.host_text.specs.declared.finding.Finding.{Finding}
use Rattle.rule_breaks.specs.declared.breaks.Break.{Break}
use Rattle.rule_breaks.specs.Breaks.{IsListOf}
use Rattle.rule_breaks.proofs.Unique.{list-is-one}
use Rattle.taming_db.specs.Rows.{Row}
use Rattle.je_types.specs.Checked.{IsMisfit}
use Rattle.je_verify.specs.Broken.{broken, IsRefusal, IsUnbroken}
use Rattle.source_programs.proofs.OneFinding.{one_finding}
use Rattle.source_programs.proofs.OneProgram.{one_program, program_or_finding}
use Rattle.source_programs.specs.Findings.{ComesTo, IsMisfitOf, words}
use Rattle.source_units.proofs.OneAnswer.{units_are_one}
use Rattle.je_top.specs.Judgement.{AcceptedIsOne, BreaksAreOne, HasFindings, IsAccepted, Judged, Verdict, VerdictIsOne, accepted, accepts, before_rules, does_not_fit, misfit, of_break, of_rules, refused, refuses}

fits_or_not : (p : CoreProgram) (class : ClassId) (name : NameId) → FitsProgram p → ¬ IsMisfit p class name
fits_or_not p class name fits m = m.first.misfit ((fits class m.first.the_class m.first.there).parts m.part m.first.is_part)

-- a program that is one of the files fits, or it doesn't
fits_once : (files names : List (List ℕ)) (p : CoreProgram) (class : ClassId) (name : NameId) → ComesTo files names p → FitsProgram p → ¬ IsMisfitOf files class name
fits_once files names p class name comes fits m =
    fits_or_not m.program class name (subst FitsProgram (one_program files names m.names p m.program comes m.comes) fits) m.misfit

keeps_or_breaks : (p : CoreProgram) (rows : List Row) (breaks : List Break) → IsUnbroken p rows → ¬ IsRefusal p rows breaks
keeps_or_breaks p rows [] keeps r = absurd (omega (arith, r.some))
keeps_or_breaks p rows (b ∷ bs) keeps r = let there : Contains (b ∷ bs) b = (0, omega arith, refl) in keeps b ((r.all.members b).0 there)

keeps_once : (files names names1 : List (List ℕ)) (p q : CoreProgram) (rows : List Row) (breaks : List Break) → ComesTo files names p → IsUnbroken p rows →
    ComesTo files names1 q → ¬ IsRefusal q rows breaks
keeps_once files names names1 p q rows breaks comes keeps other =
    keeps_or_breaks q rows breaks (subst (λ c. IsUnbroken c rows) (one_program files names names1 p q comes other) keeps)

accepted_or_found : (files names : List (List ℕ)) (p : CoreProgram) (rows : List Row) (v : Verdict) → IsAccepted files names p rows → Judged files rows v →
    accepted ≡ v
accepted_or_found files names p rows _ a (accepts b) = refl
accepted_or_found files names p rows _ a (refuses (before_rules {x = x} first)) = absurd (program_or_finding files names p x a.comes first)
accepted_or_found files names p rows _ a (refuses (of_rules {names = ns} {program = q} {breaks = bs} comes fits breaks)) =
    absurd (keeps_once files names ns p q rows bs a.comes a.unbroken comes breaks)
accepted_or_found files names p rows _ a (does_not_fit {class = class} {name = name} m) = absurd (fits_once files names p class name a.comes a.fits m)

found_or_not : (files : List (List ℕ)) (rows : List Row) (class : ClassId) (name : NameId) (found : List Finding) → HasFindings files rows found → ¬ IsMisfitOf files class name
found_or_not files rows class name _ (before_rules {x = x} first) m = program_or_finding files m.names m.program x m.comes first
found_or_not files rows class name _ (of_rules {names = ns} {program = q} comes fits breaks) m = fits_once files ns q class name comes fits m

pub breaks_are_one : BreaksAreOne
breaks_are_one files names names1 p q rows bs cs comes other r s =
    list-is-one (broken p rows) bs cs r.all (subst (λ c. IsListOf (broken c rows) cs) (sym (one_program files names names1 p q comes other)) s.all)

findings_once : (files : List (List ℕ)) (rows : List Row) (found found1 : List Finding) → HasFindings files rows found → HasFindings files rows found1 → found ≡ found1
findings_once files rows _ _ (before_rules {x = x} h) (before_rules {x = y} k) = ap (λ z. z ∷ []) (one_finding files x y h k)
findings_once files rows _ _ (before_rules {x = x} h) (of_rules {names = ns} {program = p} comes fits breaks) = absurd (program_or_finding files ns p x comes h)
findings_once files rows _ _ (of_rules {names = ns} {program = p} comes fits breaks) (before_rules {x = y} k) = absurd (program_or_finding files ns p y comes k)
findings_once files rows _ _ (of_rules {names = ns} {program = p} {breaks = bs} comes fits breaks) (of_rules {names = ns1} {program = q} {breaks = cs} comes1 fits1 breaks1) =
    ap (map of_break) (breaks_are_one files ns ns1 p q rows bs cs comes comes1 breaks breaks1)

pub verdict_is_one : VerdictIsOne
verdict_is_one files rows _ w (accepts {names = names} {program = p} a) k = accepted_or_found files names p rows w a k
verdict_is_one files rows v _ h (accepts {names = names} {program = p} a) = sym (accepted_or_found files names p rows v a h)
verdict_is_one files rows _ _ (refuses {found = f} h) (refuses {found = g} k) = ap refused (findings_once files rows f g h k)
verdict_is_one files rows _ _ (refuses {found = found} f) (does_not_fit {class = class} {name = name} m) = absurd (found_or_not files rows class name found f m)
verdict_is_one files rows _ _ (does_not_fit {class = class} {name = name} m) (refuses {found = found} f) = absurd (found_or_not files rows class name found f m)
verdict_is_one files rows _ _ (does_not_fit m) (does_not_fit n) = refl

pub accepted_is_one : AcceptedIsOne
accepted_is_one files names names1 p q rows a b =
    ((units_are_one files words a.comes.units b.comes.units names names1 a.comes.read b.comes.read).1, one_program files names names1 p q a.comes b.comes)
