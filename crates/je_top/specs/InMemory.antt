-- Files in memory, as the bytes of each name.
use Rattle.std.specs.Prelude.{ℕ, List, String, Vec, option_map}
use Rattle.std.specs.declared.option.Option.{Option}
use Rattle.std.specs.declared.alloc.Global.{Global}
use Rattle.std.specs.BTreeMap.{get_by_text, BTreeMap}

abbrev pub files_of : BTreeMap (String Global) (Vec ℕ Global) → List ℕ → Option (List ℕ)
files_of map name = option_map (λ bytes. bytes.items) (get_by_text map name)
