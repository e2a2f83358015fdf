-- What contracts see of what is accepted: the program and the taming text, as they were handed in.
use Rattle.je_types.specs.declared.typed.Typed.{Typed}
use Rattle.taming_db.specs.declared.taming.Taming.{Taming}
use Rattle.je_verify.specs.declared.accepted.Accepted.{Accepted}

abbrev pub typed_of : Accepted → Typed
typed_of a = a.typed

abbrev pub taming_of : Accepted → Taming
taming_of a = a.taming
