use Rattle.std.proofs.Common.{◌≡◌, ◌++◌, drop, map}
use Rattle.std.specs.Prelude.{string_bytes}
use Rattle.std.specs.List.{flat_map}
use Rattle.host_text.specs.Report.{finding_line}
use Rattle.host_text.proofs.reporting.report.Given as goal

abbrev pub invariant-loop-finding : goal.invariant-loop-finding
invariant-loop-finding l =
    l.text.items ++ flat_map (finding_line (map string_bytes l.files)) (drop l.finding-index l.found) ≡ flat_map (finding_line (map string_bytes l.files)) l.found
