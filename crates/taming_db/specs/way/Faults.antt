-- The fault of a call beside what the tables of a text come to.
use Rattle.std.specs.Prelude.{◌≡◌, Err}
use Rattle.taming_db.specs.declared.fault.TamingFault.{TamingFault}
use Rattle.taming_db.specs.declared.fault.TamingFault.TheVariants.{Refused, Memory}
use Rattle.taming_db.specs.Rows.{Found}

-- the call's fault is the one that was found, or want of memory
abbrev pub IsAt : Found → TamingFault → Type 0
IsAt found (Refused table rule) = found ≡ Err (table, rule)
IsAt found Memory = Unit {0}
