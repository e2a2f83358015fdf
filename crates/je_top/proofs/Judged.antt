-- What is found of files is their first finding, or their breaks.
use Rattle.std.proofs.Common.{◌≡◌, ℕ, List, [], ◌∷◌, map, sym, subst}
use Rattle.je_core.specs.Core.{CoreProgram}
use Rattle.je_fitting.specs.Program.{FitsProgram}
use Rattle.host_text.specs.declared.finding.Finding.{Finding}
use Rattle.rule_breaks.specs.declared.breaks.Break.{Break}
use Rattle.taming_db.specs.Rows.{Row}
use Rattle.je_verify.specs.Broken.{IsRefusal, IsUnbroken}
use Rattle.source_programs.specs.Findings.{ComesTo, IsFirst}
use Rattle.je_top.specs.Judgement.{HasFindings, IsAccepted, before_rules, of_break, of_rules}

pub by_first : (files : List (List ℕ)) (rows : List Row) (x : Finding) (found : List Finding) → IsFirst files x → found ≡ x ∷ [] → HasFindings files rows found
by_first files rows x found first is = subst (HasFindings files rows) (sym is) (before_rules first)

pub by_breaks : (files names : List (List ℕ)) (program : CoreProgram) (rows : List Row) (breaks : List Break) (found : List Finding) → ComesTo files names program →
    FitsProgram program → IsRefusal program rows breaks → found ≡ map of_break breaks → HasFindings files rows found
by_breaks files names program rows breaks found comes fits broken is = subst (HasFindings files rows) (sym is) (of_rules comes fits broken)

pub by_keeping : (files names : List (List ℕ)) (program : CoreProgram) (rows : List Row) → ComesTo files names program → FitsProgram program →
    IsUnbroken program rows → IsAccepted files names program rows
by_keeping files names program rows comes fits unbroken = record { comes = comes; fits = fits; unbroken = unbroken }

pub ruleset judgements = (by_first, by_breaks, by_keeping)
