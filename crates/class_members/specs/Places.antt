-- A member by its class and its place there.
use Rattle.std.specs.Prelude.{ℕ}
use Rattle.je_core.specs.declared.types.ClassId.{ClassId}
use Rattle.je_classes.specs.Members.{Member}

abbrev pub member_of : ClassId × ℕ → Member
member_of p = record { class = p.0; at = p.1 }
