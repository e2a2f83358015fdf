use Rattle.std.proofs.Common.{ℕ, List, ◌++◌, drop, map}
use Rattle.je_scopes.specs.Source.{Source}
use Rattle.je_scopes.specs.Members.{FieldSite, constant_site}
use Rattle.je_scopes.specs.Faults.{Fault}
use Rattle.name_faults.specs.declared.faults.Faults.{Faults}
use Rattle.member_faults.specs.Progress.{FieldsLeft}
use Rattle.member_faults.proofs.fields.judge_constants.Given as goal

abbrev pub invariant-loop-constant : goal.invariant-loop-constant
invariant-loop-constant l = (p : Source) (c : ℕ) (rest : List FieldSite) (start : Faults) (whole : List Fault)
    → FieldsLeft p c start l.initial.faults l.initial.met (map constant_site l.constants ++ rest) whole
    → FieldsLeft p c start l.faults l.met (map constant_site (drop l.constant-index l.constants) ++ rest) whole
