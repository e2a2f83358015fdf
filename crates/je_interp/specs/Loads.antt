-- How a load ends, as a program in memory tells it.
use Rattle.std.specs.Prelude.{Option, Some, None, option_map}
use Rattle.je_core.specs.declared.types.ClassId.{ClassId}
use Rattle.je_java.specs.World.{World}
use Rattle.je_load.specs.Loading.{End, Loaded as WorldLoaded, ThrownIn as EndThrownIn, SpentIn as EndSpentIn}
use Rattle.machine_parts.specs.declared.frame.Next.{Next}
use Rattle.machine_parts.specs.declared.frame.Next.TheVariants.{Done, ThrownInStart, Spent}
use Rattle.je_interp.specs.declared.loading.LoadEnd.{LoadEnd}
use Rattle.je_interp.specs.declared.loading.LoadEnd.TheVariants.{Loaded, ThrownIn, SpentIn}

-- the end of a load that leaves that world
abbrev pub end_seen : World → LoadEnd → End
end_seen world Loaded = WorldLoaded world
end_seen world (ThrownIn class) = EndThrownIn class
end_seen world (SpentIn class) = EndSpentIn class

-- by what the machine answers, and the class whose initializers are the innermost
abbrev pub load_end : Next → Option ClassId → Option LoadEnd
load_end (Done None) class = Some Loaded
load_end (ThrownInStart class exception) innermost = Some (ThrownIn class)
load_end Spent class = option_map SpentIn class
load_end _ class = None
