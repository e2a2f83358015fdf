-- What a body is of, as the definitions of what fits have it.
use Rattle.je_fitting.specs.Expressions.{Code, method, constructor, instance_initializer, static_initializer}
use Rattle.fit_parts.specs.declared.body.Code.{Code as TheCode}
use Rattle.fit_parts.specs.declared.body.Code.TheVariants.{Method, Constructor, InstanceInitializer, StaticInitializer}

abbrev pub code_seen : TheCode → Code
code_seen Method = method
code_seen Constructor = constructor
code_seen InstanceInitializer = instance_initializer
code_seen StaticInitializer = static_initializer
