-- What contracts see of the classes upwards.
use Rattle.core_making.specs.declared.ways.Above.{Above}
use Rattle.core_making.specs.way.Upwards as words

abbrev pub above_seen : Above → words.Above
above_seen a = record { class = a.class.0; way = a.way.items }
