-- Whether a switch has the label `default` (JLS 14.11).
use Rattle.std.specs.Prelude.{Bool, false, not, ◌||◌, is_some, List}
use Rattle.std.specs.List.{list_any}
use Rattle.je_core.specs.Core.{CoreLabel, CoreGroup, CoreGroups, group, no_groups, more_groups}

abbrev pub is_default : CoreLabel → Bool
is_default l = not (is_some l.value)

abbrev pub labels_of : CoreGroup → List CoreLabel
labels_of (group labels parts) = labels

abbrev pub has_default : CoreGroups → Bool
has_default no_groups = false
has_default (more_groups g gs) = list_any is_default (labels_of g) || has_default gs
