use Rattle.std.proofs.Common.{◌≡◌, drop, map}
use Rattle.je_core.specs.View.{class_view}
use Rattle.je_types.specs.Views.{program_of}
use Rattle.taming_db.specs.View.{rows}
use Rattle.rule_breaks.specs.way.Found.{followed_by}
use Rattle.overlay_types.specs.Guests.{guests_from}
use Rattle.selfless_rules.specs.SelflessRules.{class_breaks}
use Rattle.selfless_rules.proofs.programs.judge_classes.Given as goal

abbrev pub invariant-loop-number : goal.invariant-loop-number
invariant-loop-number l = followed_by l.found (guests_from (class_breaks (program_of l.typed) (rows l.taming)) l.number (map class_view (drop l.number l.classes)))
    ≡ followed_by l.fn.found (guests_from (class_breaks (program_of l.typed) (rows l.taming)) 0 (map class_view l.classes))
