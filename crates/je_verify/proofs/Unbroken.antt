-- A program breaks no rule exactly where the list of its breaks is empty.
use Rattle.std.proofs.Common.{◌≡◌, ◌<◌, List, length, arith}
use Rattle.std.specs.List.{Contains}
use Rattle.je_core.specs.Core.{CoreProgram}
use Rattle.rule_breaks.specs.declared.breaks.Break.{Break}
use Rattle.rule_breaks.specs.Breaks.{IsListOf}
use Rattle.taming_db.specs.Rows.{Row}
use Rattle.je_verify.specs.Broken.{broken, IsUnbroken, IsRefusal}

pub none_broken : (p : CoreProgram) (rows : List Row) (list : List Break) → IsListOf (broken p rows) list → length list ≡ 0 → IsUnbroken p rows
none_broken p rows list l e = λ b h. let q : Contains list b = (l.members b).1 h in absurd (omega (arith, q.1))

pub some_broken : (p : CoreProgram) (rows : List Row) (list : List Break) → IsListOf (broken p rows) list → 0 < length list → IsRefusal p rows list
some_broken p rows list l n = record { all = l; some = n }

pub ruleset verdicts = (none_broken, some_broken)
