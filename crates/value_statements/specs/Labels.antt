-- What contracts see of the labels of a `switch`.
use Rattle.std.specs.Prelude.{◌≡◌, ℤ, List, []}
use Rattle.std.specs.List.{list_any}
use Rattle.std.specs.Ordering.{int_eq}
use Rattle.std.specs.HashSet.{contains}
use Rattle.je_arith.specs.Comparison.{is_same}
use Rattle.je_core.specs.Core.{CoreLabel}
use Rattle.je_scopes.specs.SourceTypes.{SourceType}
use Rattle.source_types.specs.Heads.{ClassHead}
use Rattle.je_typing.specs.Answers.{IsFault}
use Rattle.je_typing.specs.Judged.{gives}
use Rattle.je_typing.specs.declared.fault.Refusal.{Refusal}
use Rattle.statement_steps.specs.Switches.{LabelsDone, Met, WrittenLabel, case, default, labels_from}
use Rattle.typed_nodes.specs.Seen.{seen}
use Rattle.value_statements.specs.declared.labels.WrittenLabel.{WrittenLabel as Written}
use Rattle.value_statements.specs.declared.labels.WrittenLabel.TheVariants as written
use Rattle.value_statements.specs.declared.met.LabelsMet.{LabelsMet}

abbrev pub label_seen : Written → WrittenLabel
label_seen (written.Case span value) = case span (seen value)
label_seen (written.Default span) = default span

-- what is met in memory is what a definition has met
pub record Knows (m : LabelsMet) (met : Met) : Type 0 where
  pub numbers : (n : ℤ) → contains int_eq m.numbers n ≡ list_any (is_same n) met.numbers
  pub default : m.has_default ≡ met.has_default

-- the labels of a group, of which none is made yet, behind those that are met
abbrev pub behind : Met → LabelsDone
behind met = record { labels = []; met = met }

-- These labels give those, and this is met then.
pub record GivesLabels (heads : List ClassHead) (selector : SourceType) (before : Met) (ls : List WrittenLabel) (made : List CoreLabel) (m : LabelsMet) : Type 0 where
  pub after : Met
  pub comes : labels_from heads selector (behind before) ls ≡ gives (record { labels = made; met = after })
  pub known : Knows m after

abbrev pub FailsAt : List ClassHead → SourceType → Met → List WrittenLabel → Refusal → Type 0
FailsAt heads selector before ls r = IsFault (labels_from heads selector (behind before) ls) r
