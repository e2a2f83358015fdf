-- What contracts see of what stands before the point of a call.
use Rattle.typed_nodes.specs.Seen.{seen}
use Rattle.call_typing.specs.Calls as words
use Rattle.call_steps.specs.declared.calling.Receiver.{Receiver}
use Rattle.call_steps.specs.declared.calling.Receiver.TheVariants.{Value, Class}

abbrev pub receiver_seen : Receiver → words.Receiver
receiver_seen (Value t) = words.on_value (seen t)
receiver_seen (Class c) = words.on_class c.0
