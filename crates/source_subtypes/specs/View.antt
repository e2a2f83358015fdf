-- What contracts see of the headers of all classes.
use Rattle.std.specs.Prelude.{List, map}
use Rattle.source_types.specs.Heads.{ClassHead}
use Rattle.source_subtypes.specs.declared.heads.ClassHeads.{ClassHeads}
use Rattle.source_subtypes.specs.HeadView.{head_shown}

unfoldable pub heads_of : ClassHeads → List ClassHead
heads_of hs = map head_shown hs.heads.items
