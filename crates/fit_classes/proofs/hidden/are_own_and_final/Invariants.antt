use Rattle.std.proofs.Common.{◌≡◌, drop, map, filter}
use Rattle.std.specs.Prelude.{not, ◌&&◌}
use Rattle.std.specs.List.{list_all}
use Rattle.je_core.specs.Core.{CoreField}
use Rattle.je_core.specs.View.{field_view}
use Rattle.je_fitting.specs.Classes.{is_hidden}
use Rattle.fit_classes.proofs.hidden.are_own_and_final.Given as goal

abbrev pub invariant-loop-field : goal.invariant-loop-field
invariant-loop-field l = list_all (λ (f : CoreField). not f.is_static && f.is_final) (filter is_hidden (map field_view (drop l.field-index l.fields))) ≡ list_all (λ (f : CoreField). not f.is_static && f.is_final) (filter is_hidden (map field_view l.fields))
