-- The numbers with which the program ends.
use Rattle.std.specs.Prelude.{ℕ}
use Rattle.je_top.specs.declared.status.Status.{Status}
use Rattle.je_top.specs.declared.status.Status.TheVariants.{Ok, Refused, Usage, ReadFault, WriteFault, Memory, DeviceFailed, TamingRefused, ScriptRefused, InitFailed, NotThere, TooLong, NotBuilt}

abbrev pub number_of : Status → ℕ
number_of Ok = 0
number_of Refused = 1
number_of Usage = 2
number_of ReadFault = 3
number_of WriteFault = 4
number_of Memory = 5
number_of DeviceFailed = 6
number_of TamingRefused = 7
number_of ScriptRefused = 8
number_of InitFailed = 9
number_of NotThere = 10
number_of TooLong = 11
number_of NotBuilt = 12
