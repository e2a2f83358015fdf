-- How large a program may be whose parts are to have numbers.
use Rattle.std.specs.Prelude.{ℕ, ◌+◌, ◌<◌, ◌^◌, length, sum, map}
use Rattle.std.specs.List.{All}
use Rattle.je_classes.specs.Statics.{static_count}
use Rattle.je_core.specs.Core.{CoreInitializer, CoreMethod, CoreClass, CoreProgram}

pub record ClassIsSmall (c : CoreClass) : Type 0 where
  pub heads : length c.heads < 2 ^ 31
  pub interfaces : length c.interfaces < 2 ^ 31
  pub fields : length c.fields < 2 ^ 31
  pub initializers : length c.initializers < 2 ^ 31
  pub methods : length c.methods < 2 ^ 31
  pub method_locals : All (λ (m : CoreMethod). length m.locals < 2 ^ 31) c.methods
  pub initializer_locals : All (λ (i : CoreInitializer). length i.locals < 2 ^ 31) c.initializers

-- Fewer than 2^31 classes, and of each kind of part in each class, and static fields and texts together.
pub record IsSmall (program : CoreProgram) : Type 0 where
  pub classes : length program.classes < 2 ^ 31
  pub each : All ClassIsSmall program.classes
  pub statics : sum (map static_count program.classes) + length program.texts < 2 ^ 31
